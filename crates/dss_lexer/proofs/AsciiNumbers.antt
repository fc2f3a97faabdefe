-- A number has ASCII characters alone, so its characters are its bytes.
use Rattle.std.proofs.Common.{◌≡◌, ◌∙◌, ℕ, suc, ◌≤◌, ◌+◌, List, [], ◌∷◌, length, take, drop, Bool, true, false, not, ◌&&◌, ◌||◌, Option, Some, None, is_some, Err, refl, sym, ap, subst, arith, nat_lt, nat_le, cond, ◌⊎◌, inl, inr, ⊎_elim, if◌then◌else◌}
use Rattle.std.specs.Str.{chars, IsUtf8, IsAscii, IsNotAscii}
use Rattle.std.specs.List.{list_all, before_first, after_first, position_or_len, prefix_len}
use Rattle.std.specs.Char.{is_ascii_digit}
use Rattle.std.proofs.lemmas.Str.{chars-IsAscii, encodes-IsAscii, encodes-chars}
use Rattle.std.proofs.lemmas.Str.Ascii.{IsAscii-nil, IsAscii-cons}
use Rattle.std.proofs.lemmas.Bool.{ltb-true, ltb-false}
use Rattle.std.proofs.lemmas.Bool.Decides.{nat_tests}
use Rattle.std.proofs.lemmas.Grind.{common_steps}
use Rattle.dss_lexer.specs.declared.numbers.Shift.{Shift}
use Rattle.dss_lexer.specs.declared.fault.NumberFault.TheVariants.{BadNumber}
use Rattle.fd_exact.specs.Rounding.{with_sign}
use Rattle.dss_lexer.specs.Number.{number_of, number_from, are_digits, are_mantissa, unsigned, is_plus, is_minus, is_exponent_mark, is_point, shift_of, exponent_of, is_negative, value, units, within_limit}
use Rattle.dss_lexer.proofs.Values.{both}
use Rattle.dss_lexer.proofs.Each.{drop_over}

abbrev pub is_plain : ℕ → Bool
is_plain c = nat_lt c 128

abbrev pub are_plain : List ℕ → Bool
are_plain = list_all is_plain

pub number_ascii : (bs : List ℕ) → IsAscii bs → number_of bs ≡ number_of (chars bs)
number_ascii bs h = sym (ap number_of (chars-IsAscii bs h))

plain_cons : (c : ℕ) (cs : List ℕ) → is_plain c ≡ true → are_plain cs ≡ true → are_plain (c ∷ cs) ≡ true
plain_cons c cs h k = rw (h, k) refl

digit_plain : (c : ℕ) → is_ascii_digit c ≡ true → is_plain c ≡ true
digit_plain c h = grind (arith, common_steps, nat_tests, both)

digits_plain : (ds : List ℕ) → are_digits ds ≡ true → are_plain ds ≡ true
digits_plain [] h = refl
digits_plain (d ∷ ds) h = let parts = both (is_ascii_digit d) (are_digits ds) h in plain_cons d ds (digit_plain d parts.0) (digits_plain ds parts.1)

sign_plain : (c : ℕ) → (is_plus c || is_minus c) ≡ true → is_plain c ≡ true
sign_plain c h = grind (arith, common_steps, nat_tests)

unsigned_plain : (cs : List ℕ) → are_plain (unsigned cs) ≡ true → are_plain cs ≡ true
unsigned_plain [] h = refl
unsigned_plain (c ∷ cs) h = cases (is_plus c || is_minus c) refl
  where
    P : Bool → Type 0
    P b = are_plain (if b then cs else c ∷ cs) ≡ true

    cases : (b : Bool) → (is_plus c || is_minus c) ≡ b → are_plain (c ∷ cs) ≡ true
    cases true e = plain_cons c cs (sign_plain c e) (subst P e h)
    cases false e = subst P e h

-- the text before a mark, the mark and the text after it
parts_plain : (p : ℕ → Bool) → ((c : ℕ) → p c ≡ true → is_plain c ≡ true) → (cs : List ℕ)
    → are_plain (before_first p cs) ≡ true → are_plain (after_first p cs) ≡ true → are_plain cs ≡ true
parts_plain p mark [] h k = refl
parts_plain p mark (c ∷ cs) h k = cases (λ h k. parts_plain p mark cs h k) (p c) refl
  where
    n : ℕ
    n = prefix_len (λ x. not (p x)) cs

    P : Bool → Type 0
    P b = are_plain (take (cond (not b) (1 + n) 0) (c ∷ cs)) ≡ true

    Q : Bool → Type 0
    Q b = are_plain (drop (cond (not b) (1 + n) 0 + 1) (c ∷ cs)) ≡ true

    cases : (are_plain (before_first p cs) ≡ true → are_plain (after_first p cs) ≡ true → are_plain cs ≡ true)
        → (b : Bool) → p c ≡ b → are_plain (c ∷ cs) ≡ true
    cases rest true e = plain_cons c cs (mark c e) (subst Q e k)
    cases rest false e =
        let one : 1 + n ≡ suc n = omega arith in
        let two : 1 + n + 1 ≡ suc (n + 1) = omega arith in
        let first = both (is_plain c) (are_plain (take n cs)) (ap (λ m. are_plain (take m (c ∷ cs))) (sym one) ∙ subst P e h) in
        plain_cons c cs first.0 (rest first.1 (ap (λ m. are_plain (drop m (c ∷ cs))) (sym two) ∙ subst Q e k))

mark_plain : (c : ℕ) → is_exponent_mark c ≡ true → is_plain c ≡ true
mark_plain c h = grind (arith, common_steps, nat_tests)

point_plain : (c : ℕ) → is_point c ≡ true → is_plain c ≡ true
point_plain c h = grind (arith, common_steps, nat_tests)

exponent_plain : (cs : List ℕ) → is_some (exponent_of cs) ≡ true → are_plain cs ≡ true
exponent_plain cs h = cases (are_digits (unsigned cs) && (nat_lt 0 (length (unsigned cs)) && nat_le (length (unsigned cs)) 2)) refl
  where
    shift : Option Shift
    shift = if is_negative cs then Some (record { right = 0; left = value (unsigned cs) }) else Some (record { right = value (unsigned cs); left = 0 })

    cases : (b : Bool)
        → (are_digits (unsigned cs) && (nat_lt 0 (length (unsigned cs)) && nat_le (length (unsigned cs)) 2)) ≡ b
        → are_plain cs ≡ true
    cases true e =
        unsigned_plain cs (digits_plain (unsigned cs)
        (both (are_digits (unsigned cs)) (nat_lt 0 (length (unsigned cs)) && nat_le (length (unsigned cs)) 2) e).0)
    cases false e = let none : is_some (if false then shift else None) ≡ true = subst (λ b. is_some (if b then shift else None) ≡ true) e h in absurd (cc)

shift_plain : (u : List ℕ) → is_some (shift_of u) ≡ true → are_plain (after_first is_exponent_mark u) ≡ true
shift_plain u h = cases (nat_lt (position_or_len is_exponent_mark u) (length u)) refl
  where
    P : Bool → Type 0
    P b = is_some (if b then exponent_of (after_first is_exponent_mark u) else Some (record { right = 0; left = 0 })) ≡ true

    cases : (b : Bool) → nat_lt (position_or_len is_exponent_mark u) (length u) ≡ b
        → are_plain (after_first is_exponent_mark u) ≡ true
    cases true e = exponent_plain (after_first is_exponent_mark u) (subst P e h)
    cases false e =
        ap are_plain (drop_over u (position_or_len is_exponent_mark u + 1)
        (let h : length u ≤ position_or_len is_exponent_mark u = ltb-false _ _ e in omega arith))

-- what is read is a mantissa with an exponent
read_by : (negative : Bool) (whole decimals : List ℕ) (shift : Option Shift)
    → (number_from negative whole decimals shift ≡ Err BadNumber) ⊎ ((is_some shift ≡ true) × (are_mantissa whole decimals ≡ true))
read_by negative whole decimals None = inl refl
read_by negative whole decimals (Some shift) = cases (are_mantissa whole decimals) refl
  where
    cases : (b : Bool) → are_mantissa whole decimals ≡ b
        → (number_from negative whole decimals (Some shift) ≡ Err BadNumber) ⊎ ((true ≡ true) × (are_mantissa whole decimals ≡ true))
    cases true e = inr (refl, e)
    cases false e = inl (ap (λ b. if b then within_limit (with_sign negative (units whole decimals shift)) else Err BadNumber) e)

mantissa_plain : (cs : List ℕ) → is_some (shift_of (unsigned cs)) ≡ true
    → are_mantissa (before_first is_point (before_first is_exponent_mark (unsigned cs)))
    (after_first is_point (before_first is_exponent_mark (unsigned cs)))
    ≡ true
    → are_plain cs ≡ true
mantissa_plain cs h k =
    let mantissa : List ℕ = before_first is_exponent_mark (unsigned cs) in
    let whole : List ℕ = before_first is_point mantissa in
    let decimals : List ℕ = after_first is_point mantissa in
    let digits = both (are_digits whole) (are_digits decimals && nat_lt 0 (length whole + length decimals)) k in
    let more = both (are_digits decimals) (nat_lt 0 (length whole + length decimals)) digits.1 in
    unsigned_plain cs (parts_plain is_exponent_mark mark_plain (unsigned cs)
    (parts_plain is_point point_plain mantissa (digits_plain whole digits.0) (digits_plain decimals more.0))
    (shift_plain (unsigned cs) h))

pub number_foreign : (cs : List ℕ) → are_plain cs ≡ false → number_of cs ≡ Err BadNumber
unfolding number_of
number_foreign cs h =
    ⊎_elim (λ bad. bad) (λ read. let plain : are_plain cs ≡ true = mantissa_plain cs read.0 read.1 in absurd (cc))
    (read_by (is_negative cs) (before_first is_point (before_first is_exponent_mark (unsigned cs)))
    (after_first is_point (before_first is_exponent_mark (unsigned cs))) (shift_of (unsigned cs)))

plain_ascii : (cs : List ℕ) → are_plain cs ≡ true → IsAscii cs
plain_ascii [] h = IsAscii-nil
plain_ascii (c ∷ cs) h = let parts = both (is_plain c) (are_plain cs) h in IsAscii-cons c cs (ltb-true _ _ parts.0) (plain_ascii cs parts.1)

pub number_not_ascii : (bs : List ℕ) → IsUtf8 bs → IsNotAscii bs → number_of (chars bs) ≡ Err BadNumber
number_not_ascii bs u h = cases (are_plain (chars bs)) refl
  where
    cases : (b : Bool) → are_plain (chars bs) ≡ b → number_of (chars bs) ≡ Err BadNumber
    cases true e =
        let plain : IsAscii (chars bs) = plain_ascii (chars bs) e in
        let same : chars bs ≡ bs = sym (encodes-IsAscii (chars bs) plain) ∙ encodes-chars bs u in
        let ascii : IsAscii bs = subst IsAscii same plain in
        absurd (omega (arith, h.1, ascii h.0))
    cases false e = number_foreign (chars bs) e
