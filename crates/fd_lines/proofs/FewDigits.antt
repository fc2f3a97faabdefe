-- Numbers of few digits at the head of a text.
use Rattle.std.proofs.Common.{◌≡◌, ℕ, zero, suc, ◌+◌, ◌-◌, ◌^◌, ◌<◌, ◌≤◌, true, false, ℤ, pos, List, [], ◌∷◌, ◌++◌, length, get_or, take, drop, Option, Some, None, refl, ap, sym, subst, ◌∙◌, arith}
use Rattle.std.specs.Prelude.{neg_ℤ, option_map}
use Rattle.std.specs.List.{slice_split}
use Rattle.std.specs.Str.Parse.{AllDigits, digits_value}
use Rattle.std.proofs.Math.Nat.{pow-le-pow_right}
use Rattle.std.proofs.lemmas.Int.Digits.{digits_value-lt}
use Rattle.std.proofs.lemmas.Bool.{eqb-true, ne_eqb}
use Rattle.std.proofs.lemmas.List.{append-nil, drop_more, length-take, take_all, take-append-drop}
use Rattle.fd_lines.specs.Cuts.{first_number}
use Rattle.fd_lines.specs.FewDigits.{IsHead, IsSizeBefore, IsShortBefore, EndsField}
use Rattle.fd_lines.specs.Lines.{is_blank}
use Rattle.fd_lines.specs.Numerals.{is_negative, leads_with_zero}
use Rattle.fd_lines.specs.Numbers.{numbers_of}
use Rattle.fd_lines.proofs.Fields.{first_some, parted_at, parted_none}
use Rattle.fd_lines.proofs.Inked.{above_digits, lacks_all}
use Rattle.fd_lines.proofs.Numerals.{minus_number, plain_number}

-- so many digits are worth less than the power
pub few_digits : (ds : List ℕ) (k n : ℕ) → AllDigits 10 (take k ds) → k ≤ n → digits_value 10 (take k ds) < 10 ^ n
few_digits ds k n a l =
    let short : length (take k ds) ≤ n = omega (arith, l, length-take k ds) in
    let more : 10 ^ length (take k ds) ≤ 10 ^ n = pow-le-pow_right (omega arith) short in
    omega (arith, more, digits_value-lt 10 (take k ds) a)

pub head_is : (text : List ℕ) (value place count : ℕ) → place ≡ count → count ≤ length text → count ≤ 18
    → AllDigits 10 (take place text) → value ≡ digits_value 10 (take place text) → IsHead text value count
head_is text value place count same within few digits worth = record {
  within = within;
  digits = subst (λ (k : ℕ). AllDigits 10 (take k text)) same digits;
  worth = worth ∙ ap (λ (k : ℕ). digits_value 10 (take k text)) same;
  small = omega (arith, worth, few_digits text place 18 digits (omega (arith, same, few)));
}

pub size_before : (text digits rest : List ℕ) (value count : ℕ) → IsHead text value count
    → digits ≡ take count text → rest ≡ drop count text → 0 < length digits → leads_with_zero digits ≡ false
    → IsSizeBefore text value rest
size_before text digits rest value count h e f some none = record {
  digits = take count text;
  whole = sym (take-append-drop count text) ∙ ap (λ (t : List ℕ). take count text ++ t) (sym f);
  size = record {
    numeral = (omega (arith, some, ap length e), h.digits);
    no_zero = ap leads_with_zero (sym e) ∙ none;
    small = omega (arith, h.small, h.worth);
  };
  worth = h.worth;
  small = h.small;
}

pub plain_before : (text : List ℕ) (value : ℕ) (rest : List ℕ) → IsSizeBefore text value rest → IsShortBefore text (pos value) rest
plain_before text value rest h = record {
  front = h.digits;
  whole = h.whole;
  lacks = lacks_all 32 h.digits (above_digits h.digits h.size.numeral.1);
  spells = plain_number h.digits h.size ∙ ap (λ (n : ℕ). Some (pos n)) (sym h.worth);
}

minus_front : (more : List ℕ) (value : ℕ) (rest : List ℕ) (z : ℤ) → IsSizeBefore more value rest → 0 < value
    → z ≡ neg_ℤ (pos value) → IsShortBefore (45 ∷ more) z rest
minus_front more zero rest z h some f = absurd (omega (arith, some))
minus_front more (suc n) rest z h some f = record {
  front = 45 ∷ h.digits;
  whole = ap (λ (t : List ℕ). 45 ∷ t) h.whole;
  lacks = lacks_all 32 (45 ∷ h.digits) (omega arith, above_digits h.digits h.size.numeral.1);
  spells = minus_number h.digits h.size n (sym h.worth) ∙ ap Some (sym f);
}

pub minus_before : (text more : List ℕ) (value : ℕ) (rest : List ℕ) (z : ℤ) → is_negative text ≡ true → more ≡ drop 1 text
    → IsSizeBefore more value rest → 0 < value → z ≡ neg_ℤ (pos value) → IsShortBefore text z rest
minus_before [] more value rest z m e h some f = absurd cc
minus_before (c ∷ cs) more value rest z m e h some f =
    subst (λ (d : ℕ). IsShortBefore (d ∷ cs) z rest) (sym (eqb-true c 45 m))
    (minus_front cs value rest z (subst (λ (t : List ℕ). IsSizeBefore t value rest) e h) some f)

pub ends_all : (rest : List ℕ) → length rest < 1 → EndsField rest []
ends_all [] l front h = ap (slice_split is_blank) (append-nil front) ∙ parted_none front h
ends_all (c ∷ cs) l front h = absurd (omega (arith, l))

pub ends_before : (rest more : List ℕ) → 0 < length rest → get_or rest 0 0 ≡ 32 → more ≡ take (length rest - 1) (drop 1 rest)
    → EndsField rest (slice_split is_blank more)
ends_before [] more l e f front h = absurd (omega (arith, l))
ends_before (c ∷ cs) more l e f front h =
    parted_at (front ++ c ∷ cs) front more h (ap (λ (d : ℕ). front ++ d ∷ cs) e
    ∙ ap (λ (t : List ℕ). front ++ 32 ∷ t) (sym (f ∙ take_all (length (c ∷ cs) - 1) cs (omega arith))))

pub short_field : (text : List ℕ) (z : ℤ) (rest : List ℕ) (fields : List (List ℕ)) → IsShortBefore text z rest
    → EndsField rest fields → Some (z, fields) ≡ first_number (slice_split is_blank text)
short_field text z rest fields h k =
    sym (ap first_number (ap (slice_split is_blank) h.whole ∙ k h.front h.lacks)
    ∙ ap (option_map (λ y. (y, fields))) h.spells)

-- ---- digits before a blank

leads_first : (c : ℕ) (ds : List ℕ) → (c ≡ 48 → ⊥) → leads_with_zero (c ∷ ds) ≡ false
leads_first c [] h = refl
leads_first c (d ∷ ds) h = ne_eqb c 48 h

leads_taken : (k : ℕ) (text : List ℕ) → (get_or text 0 0 ≡ 48 → ⊥) → leads_with_zero (take k text) ≡ false
leads_taken zero text h = refl
leads_taken (suc k) [] h = refl
leads_taken (suc k) (c ∷ cs) h = leads_first c (take k cs) h

pub natural_before : (text : List ℕ) (value count : ℕ) (rest : List ℕ) → IsHead text value count → 0 < count
    → count < length text → (get_or text 0 0 ≡ 48 → ⊥) → get_or text count 0 ≡ 32 → rest ≡ drop (count + 1) text
    → IsSizeBefore text value (32 ∷ rest)
natural_before text value count rest h some l none blank f = record {
  digits = take count text;
  whole = sym (take-append-drop count text)
      ∙ ap (λ (t : List ℕ). take count text ++ t)
      (drop_more text count 0 l ∙ ap (λ (c : ℕ). c ∷ drop (count + 1) text) blank ∙ ap (λ (t : List ℕ). 32 ∷ t) (sym f));
  size = record {
    numeral = (omega (arith, some, l, length-take count text), h.digits);
    no_zero = leads_taken count text none;
    small = omega (arith, h.small, h.worth);
  };
  worth = h.worth;
  small = h.small;
}

blank_field : (text more : List ℕ) (z : ℤ) → IsShortBefore text z (32 ∷ more)
    → numbers_of (slice_split is_blank text) ≡ option_map (λ zs. z ∷ zs) (numbers_of (slice_split is_blank more))
blank_field text more z h =
    first_some (slice_split is_blank text) z (slice_split is_blank more)
    (short_field text z (32 ∷ more) (slice_split is_blank more) h
    (λ front l. parted_at (front ++ 32 ∷ more) front more l refl))

pub pair_fields : (text : List ℕ) (place : ℕ) (more : List ℕ) (e : ℤ) (rest : List ℕ)
    → IsSizeBefore text place (32 ∷ more) → IsShortBefore more e (32 ∷ rest)
    → numbers_of (slice_split is_blank text)
    ≡ option_map (λ zs. pos place ∷ e ∷ zs) (numbers_of (slice_split is_blank rest))
pair_fields text place more e rest h k =
    blank_field text more (pos place) (plain_before text place (32 ∷ more) h)
    ∙ ap (option_map (λ zs. pos place ∷ zs)) (blank_field more rest e k) ∙ both (numbers_of (slice_split is_blank rest))
  where
    both : (o : Option (List ℤ))
        → option_map (λ zs. pos place ∷ zs) (option_map (λ zs. e ∷ zs) o) ≡ option_map (λ zs. pos place ∷ e ∷ zs) o
    both None = refl
    both (Some zs) = refl
