-- Digits without leading zeros are the decimal of what they are worth.
use Rattle.std.proofs.Common.{◌≡◌, ℕ, zero, suc, ◌+◌, ◌-◌, ◌*◌, ◌%◌, ◌^◌, ◌<◌, true, false, ℤ, pos, negsuc, List, [], ◌∷◌, ◌++◌, length, get_or, take, drop, ◌⊎◌, inl, inr, Option, Some, None, refl, ap, sym, subst, ◌∙◌, arith, add-one}
use Rattle.std.specs.Prelude.{SomeIff}
use Rattle.std.specs.Option.{option_map, option_and_then}
use Rattle.std.specs.Char.{digit_value}
use Rattle.std.specs.Fmt.{decimal, signed_decimal}
use Rattle.std.specs.Str.Parse.{AllDigits, digits_value}
use Rattle.std.proofs.lemmas.Bool.{ne_eqb, eqb-false, eqb-true, cases_lt}
use Rattle.std.proofs.lemmas.Fmt.{decimal_digit, decimal_step_wide, decimal_by_steps_wide, decimal_is_IsNumeral_wide}
use Rattle.std.proofs.lemmas.Int.Digits.{digits_value_more, digits_more}
use Rattle.std.proofs.lemmas.List.{take_more, take_all, get_or_append_left, length-append}
use Rattle.std.proofs.lemmas.Nat.{div-mul-add, mod-mul-add}
use Rattle.std.proofs.lemmas.Str.{digit_value_digit}
use Rattle.std.proofs.lemmas.Str.Parse.{digit_at, digits_value-take-le}
use Rattle.fd_lines.specs.Numbers.{number_of, IsNumber}
use Rattle.fd_lines.proofs.Numbers.{number_again, number_found}
use Rattle.fd_lines.specs.Numerals.{IsSize, leads_with_zero, below_zero, is_negative}

first_not_zero : (ds : List ℕ) → 1 < length ds → leads_with_zero ds ≡ false → 48 ≡ get_or ds 0 0 → ⊥
first_not_zero [] l h e = omega (arith, l)
first_not_zero (c ∷ []) l h e = omega (arith, l)
first_not_zero (c ∷ d ∷ ds) l h e = eqb-false c 48 h (sym e)

-- a front of the digits is the decimal of what it is worth
record IsFront (ds : List ℕ) (k : ℕ) : Type 0 where
  same : decimal (digits_value 10 (take k ds)) ≡ take k ds
  more : 1 < length ds → 0 < digits_value 10 (take k ds)

module _ (ds : List ℕ) (h : IsSize ds) where
  small : (k : ℕ) → digits_value 10 (take k ds) < 10 ^ 64
  small k = omega (arith, digits_value-take-le 10 ds k (omega arith), h.small)

  digit : (i : ℕ) → i < length ds
      → (digit_value (get_or ds i 0) + 48 ≡ get_or ds i 0) × (digit_value (get_or ds i 0) < 10)
  digit i l = let r = digit_at ds i h.numeral.1 l in let e = digit_value_digit (get_or ds i 0) r in (e, omega (arith, e, r.1))

  one_digit : IsFront ds 1
  one_digit =
      let l : 0 < length ds = h.numeral.0 in
      let d = digit 0 l in
      let front : take 1 ds ≡ get_or ds 0 0 ∷ [] = take_more ds 0 0 l in
      let worth : digits_value 10 (take 1 ds) ≡ digit_value (get_or ds 0 0) = omega (arith, digits_value_more 10 ds 0 l) in
      record {
        same = ap decimal worth ∙ decimal_digit (digit_value (get_or ds 0 0)) d.1
            ∙ ap (λ (c : ℕ). c ∷ []) (omega (arith, d.0)) ∙ sym front;
        more = λ m. elim (cases_lt 0 (digit_value (get_or ds 0 0))) [
          | inl above ↦ omega (arith, worth, above)
          | inr none ↦ absurd (first_not_zero ds m h.no_zero (omega (arith, none, d.0)))
        ];
      }

  next_digit : (k : ℕ) → 0 < k → k < length ds → IsFront ds k → IsFront ds (k + 1)
  next_digit k p l f =
      let d = digit k l in
      let v = digits_value 10 (take k ds) in
      let c = digit_value (get_or ds k 0) in
      let worth : digits_value 10 (take (k + 1) ds) ≡ v * 10 + c = digits_value_more 10 ds k l in
      let positive = f.more (omega (arith, p, l)) in
      let below : v * 10 + c < 10 ^ 64 = omega (arith, worth, small (k + 1)) in
      record {
        same = ap decimal worth ∙ decimal_step_wide (v * 10 + c) (omega (arith, positive)) below
            ∙ ap (λ (q : ℕ). decimal q ++ (48 + (v * 10 + c) % 10) ∷ []) (div-mul-add v 10 c d.1)
            ∙ ap (λ (r : ℕ). decimal v ++ (48 + r) ∷ []) (mod-mul-add v 10 c d.1)
            ∙ ap (λ (t : List ℕ). t ++ (48 + c) ∷ []) f.same
            ∙ ap (λ (b : ℕ). take k ds ++ b ∷ []) (omega (arith, d.0))
            ∙ sym (take_more ds k 0 l);
        more = λ m. omega (arith, worth, positive);
      }

  fronts : (k : ℕ) → k < length ds → IsFront ds (suc k)
  fronts zero l = one_digit
  fronts (suc k) l = subst (λ (n : ℕ). IsFront ds n) (add-one (suc k)) (next_digit (suc k) (omega arith) l (fronts k (omega (arith, l))))

  pub decimal_again : decimal (digits_value 10 ds) ≡ ds
  decimal_again =
      let l : 0 < length ds = h.numeral.0 in
      let f = fronts (length ds - 1) (omega (arith, l)) in
      let whole : take (suc (length ds - 1)) ds ≡ ds = take_all (suc (length ds - 1)) ds (omega (arith, l)) in
      subst (λ (t : List ℕ). decimal (digits_value 10 t) ≡ t) whole f.same

-- ---- the decimal of a number has no leading zero

abbrev Leads : ℕ → List ℕ → Type 0
Leads n ds = (0 < length ds) × (0 < n → 48 < get_or ds 0 0)

leads : (n : ℕ) → n < 10 ^ 64 → Leads n (decimal n)
leads = decimal_by_steps_wide Leads (λ n l. (omega arith, λ p. omega (arith, p)))
    (λ n ds l f. (omega (arith, length-append ds ((48 + n % 10) ∷ [])), λ p. rw (get_or_append_left ds ((48 + n % 10) ∷ []) 0 0 f.0) (f.1 (omega (arith, l)))))

no_lead : (ds : List ℕ) → 48 < get_or ds 0 0 → leads_with_zero ds ≡ false
no_lead [] h = refl
no_lead (c ∷ []) h = refl
no_lead (c ∷ d ∷ ds) h = ne_eqb c 48 (λ e. omega (arith, h, e))

decimal_leads : (n : ℕ) → n < 10 ^ 64 → leads_with_zero (decimal n) ≡ false
decimal_leads zero l = ap leads_with_zero (decimal_digit 0 (omega arith))
decimal_leads (suc n) l = no_lead (decimal (suc n)) ((leads (suc n) l).1 (omega arith))

pub size_of_decimal : (n : ℕ) → n < 2 ^ 127 → IsSize (decimal n)
size_of_decimal n l =
    let d = decimal_is_IsNumeral_wide n (omega arith) in
    record { numeral = d.0; no_zero = decimal_leads n (omega arith); small = omega (arith, d.1, l) }

-- ---- what a text spells

pub plain_number : (ds : List ℕ) → IsSize ds → number_of ds ≡ Some (pos (digits_value 10 ds))
plain_number ds h = ap number_of (sym (decimal_again ds h)) ∙ number_again (pos (digits_value 10 ds)) h.small

pub minus_number : (ds : List ℕ) → IsSize ds → (n : ℕ) → digits_value 10 ds ≡ suc n
    → number_of (45 ∷ ds) ≡ Some (negsuc n)
minus_number ds h n e =
    ap (λ (t : List ℕ). number_of (45 ∷ t)) (sym (decimal_again ds h) ∙ ap decimal e)
    ∙ number_again (negsuc n) (omega (arith, h.small, e))

none_from : (text : List ℕ) → ((z : ℤ) → text ≡ signed_decimal z → IsNumber z → ⊥) → number_of text ≡ None
none_from text h = go (number_of text) refl where
  go : (o : Option ℤ) → number_of text ≡ o → number_of text ≡ None
  go None e = e
  go (Some z) e = let f = number_found text z e in absurd (h z f.0 f.1)

abbrev pub IsNoMinus : List ℕ → Type 0
IsNoMinus [] = Unit {0}
IsNoMinus (c ∷ cs) = c ≡ 45 → ⊥

pub plain_none : (ds : List ℕ) → IsNoMinus ds → (IsSize ds → ⊥) → number_of ds ≡ None
plain_none ds m h = none_from ds (plain ds m h) where
  plain : (ds : List ℕ) → IsNoMinus ds → (IsSize ds → ⊥) → (z : ℤ) → ds ≡ signed_decimal z → IsNumber z → ⊥
  plain ds m h (pos n) e l = h (subst IsSize (sym e) (size_of_decimal n l))
  plain [] m h (negsuc n) e l = cc
  plain (c ∷ cs) m h (negsuc n) e l = m (let f : c ≡ 45 = cc in f)

tail_same : (c d : ℕ) (cs ds : List ℕ) → c ∷ cs ≡ d ∷ ds → cs ≡ ds
tail_same c d cs ds e = cc

decimal_minus : (n : ℕ) (ds : List ℕ) → n < 2 ^ 127 → 45 ∷ ds ≡ decimal n → ⊥
decimal_minus n ds l e =
    let d = decimal_is_IsNumeral_wide n (omega arith) in
    let r = digit_at (decimal n) 0 d.0.1 d.0.0 in
    omega (arith, r.0, ap (λ (t : List ℕ). get_or t 0 0) e)

pub minus_none : (ds : List ℕ) → (IsSize ds → ⊥) ⊎ (digits_value 10 ds ≡ 0) → number_of (45 ∷ ds) ≡ None
minus_none ds h = none_from (45 ∷ ds) (minus h) where
  minus : (IsSize ds → ⊥) ⊎ (digits_value 10 ds ≡ 0) → (z : ℤ) → 45 ∷ ds ≡ signed_decimal z → IsNumber z → ⊥
  minus h (pos n) e l = decimal_minus n ds l e
  minus (inl none) (negsuc n) e l = none (subst IsSize (sym (tail_same 45 45 ds (decimal (suc n)) e)) (size_of_decimal (suc n) l))
  minus (inr zero_worth) (negsuc n) e l =
      let d = decimal_is_IsNumeral_wide (suc n) (omega arith) in
      omega (arith, zero_worth, ap (digits_value 10) (tail_same 45 45 ds (decimal (suc n)) e), d.1)

pub above_number : (o : Option ℕ) (ds : List ℕ) → IsNoMinus ds → SomeIff o (IsSize ds) (digits_value 10 ds)
    → option_map pos o ≡ number_of ds
above_number None ds m h = sym (plain_none ds m h)
above_number (Some n) ds m h = ap (λ (k : ℕ). Some (pos k)) h.1 ∙ sym (plain_number ds h.0)

pub below_number : (o : Option ℕ) (ds : List ℕ) → SomeIff o (IsSize ds) (digits_value 10 ds)
    → option_and_then below_zero o ≡ number_of (45 ∷ ds)
below_number None ds h = sym (minus_none ds (inl h))
below_number (Some zero) ds h = sym (minus_none ds (inr (sym h.1)))
below_number (Some (suc n)) ds h = sym (minus_number ds h.0 n (sym h.1))

no_minus : (field : List ℕ) → is_negative field ≡ false → IsNoMinus field
no_minus [] e = tt
no_minus (c ∷ cs) e = eqb-false c 45 e

pub plain_field : (o : Option ℕ) (field : List ℕ) → is_negative field ≡ false
    → SomeIff o (IsSize field) (digits_value 10 field) → option_map pos o ≡ number_of field
plain_field o field e h = above_number o field (no_minus field e) h

pub minus_field : (o : Option ℕ) (field : List ℕ) → is_negative field ≡ true
    → SomeIff o (IsSize (drop 1 field)) (digits_value 10 (drop 1 field))
    → option_and_then below_zero o ≡ number_of field
minus_field o [] e h = absurd cc
minus_field o (c ∷ cs) e h = below_number o cs h ∙ ap (λ (d : ℕ). number_of (d ∷ cs)) (sym (eqb-true c 45 e))

-- ---- one digit more

pub digit_some : (ds : List ℕ) (i v next : ℕ) → i < length ds → AllDigits 10 (take i ds)
    → v ≡ digits_value 10 (take i ds)
    → SomeIff (Some next) ((digit_value (get_or ds i 0) < 10) × (v * 10 + digit_value (get_or ds i 0) < 2 ^ 128)) (v * 10 + digit_value (get_or ds i 0))
    → AllDigits 10 (take (i + 1) ds) × (next ≡ digits_value 10 (take (i + 1) ds))
digit_some ds i v next l a e h = (digits_more 10 ds i l a h.0.0, omega (arith, h.1, e, digits_value_more 10 ds i l))

pub digit_none : (ds : List ℕ) (i v : ℕ) → i < length ds → v ≡ digits_value 10 (take i ds)
    → ((digit_value (get_or ds i 0) < 10) × (v * 10 + digit_value (get_or ds i 0) < 2 ^ 128) → ⊥) → IsSize ds → ⊥
digit_none ds i v l e fails h =
    let d = digit ds h i l in
    fails (d.1, omega (arith, e, digits_value_more 10 ds i l, digits_value-take-le 10 ds (i + 1) (omega arith), h.small))
