-- Each number has one text.
use Rattle.std.proofs.Common.{◌≡◌, ℕ, suc, ◌^◌, false, ℤ, pos, negsuc, List, [], ◌∷◌, Some, None, refl, ap, subst, ◌∙◌, arith}
use Rattle.std.specs.Prelude.{nat_eq, nat_lt, ◌&&◌, neg_ℤ, unsigned_abs, map, option_map}
use Rattle.std.specs.List.{AllByRecursion}
use Rattle.std.specs.Fmt.{decimal, signed_decimal}
use Rattle.std.specs.Str.Parse.{digits_value, IsNumeral}
use Rattle.std.proofs.lemmas.Bool.{and_parts, and_from, cond-true, ltb-true, lt-ltb, ne_eqb}
use Rattle.std.proofs.lemmas.Fmt.{decimal_is_IsNumeral_wide}
use Rattle.std.proofs.lemmas.Str.Parse.{digit_from_value}
use Rattle.fd_lines.specs.Numbers.{text_eq, value_of, number_of, numbers_of, IsNumber}
use Rattle.fd_lines.specs.Laws.{NumberLaw}
use Rattle.fd_lines.proofs.SameTexts.{same_from, same_self, let_through, and_then_some, map_some}

-- digits have no minus before them
pub value_of_digits : (ds : List ℕ) → IsNumeral 10 ds → value_of ds ≡ pos (digits_value 10 ds)
value_of_digits [] h = absurd (omega (arith, h.0))
value_of_digits (c ∷ cs) h =
    let r = digit_from_value c h.1.0 in
    let no : nat_eq c 45 ≡ false = ne_eqb c 45 (λ e. omega (arith, r.0, e)) in
    rw no refl

pub value_of_decimal : (z : ℤ) → IsNumber z → value_of (signed_decimal z) ≡ z
value_of_decimal (pos n) h =
    let d = decimal_is_IsNumeral_wide n (omega arith) in
    value_of_digits (decimal n) d.0 ∙ ap pos d.1
value_of_decimal (negsuc n) h =
    let d = decimal_is_IsNumeral_wide (suc n) (omega arith) in
    ap (λ (k : ℕ). neg_ℤ (pos k)) d.1

pub number_again : (z : ℤ) → IsNumber z → number_of (signed_decimal z) ≡ Some z
unfolding number_of
number_again z h =
    rw (value_of_decimal z h) (cond-true (text_eq (signed_decimal z) (signed_decimal z) && nat_lt (unsigned_abs z) (2 ^ 127)) (Some z) None
    (and_from _ _ (same_self (signed_decimal z)) (lt-ltb (unsigned_abs z) (2 ^ 127) h)))

pub number_found : (text : List ℕ) (z : ℤ) → number_of text ≡ Some z → (text ≡ signed_decimal z) × IsNumber z
unfolding number_of
number_found text z e =
    let v = value_of text in
    let g = let_through (text_eq text (signed_decimal v) && nat_lt (unsigned_abs v) (2 ^ 127)) v z e in
    let p = and_parts (text_eq text (signed_decimal v)) (nat_lt (unsigned_abs v) (2 ^ 127)) g.0 in
    let P : ℤ → Type 0 = λ w. (text ≡ signed_decimal w) × IsNumber w in
    subst P g.1 (same_from text (signed_decimal v) p.0, ltb-true (unsigned_abs v) (2 ^ 127) p.1)

pub numbers_again : (zs : List ℤ) → AllByRecursion IsNumber zs → numbers_of (map signed_decimal zs) ≡ Some zs
numbers_again [] h = refl
numbers_again (z ∷ zs) h = rw (number_again z h.0, numbers_again zs h.1) refl

pub numbers_found : (texts : List (List ℕ)) (zs : List ℤ) → numbers_of texts ≡ Some zs
    → (texts ≡ map signed_decimal zs) × AllByRecursion IsNumber zs
numbers_found [] zs e = let nil : [] ≡ zs = cc in subst (λ (ys : List ℤ). ([] ≡ map signed_decimal ys) × AllByRecursion IsNumber ys) nil (refl, tt)
numbers_found (text ∷ texts) zs e =
    let first = and_then_some (λ z. option_map (λ ys. z ∷ ys) (numbers_of texts)) (number_of text) zs e in
    let rest = map_some (λ ys. first.0 ∷ ys) (numbers_of texts) zs first.2 in
    let a = number_found text first.0 first.1 in
    let b = numbers_found texts rest.0 rest.1 in
    subst (λ (xs : List ℤ). ((text ∷ texts) ≡ map signed_decimal xs) × AllByRecursion IsNumber xs) rest.2
    (ap (λ (t : List ℕ). t ∷ texts) a.0 ∙ ap (λ (ts : List (List ℕ)). signed_decimal first.0 ∷ ts) b.0, (a.1, b.1))

pub number_law : NumberLaw
number_law = record { again = number_again; found = number_found }
