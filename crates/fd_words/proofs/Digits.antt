-- The value of a word of digits is the number that is read of it.
use Rattle.std.proofs.Common.{◌≡◌, ◌∙◌, ◌<◌, ◌^◌, ℕ, Bool, true, false, List, [], ◌∷◌, length, Option, Some, None, Result, Ok, Err, refl, sym, subst, ap, not, ◌==◌, if◌then◌else◌, nat_lt, nat_le, arith}
use Rattle.std.specs.Prelude.{◌&&◌}
use Rattle.std.specs.Char.{is_ascii_digit}
use Rattle.std.specs.Str.{all_ascii_digits}
use Rattle.std.specs.Str.Parse.{ParsesUnsigned, digits_value}
use Rattle.std.specs.Result.{OkIff, result_ok}
use Rattle.std.proofs.lemmas.Str.Parse.{IsNumeralModel, numerals_by_value, parse_digits, tells_all_ascii_digits}
use Rattle.std.proofs.lemmas.Bool.Decides.{nat_tests}
use Rattle.fd_words.specs.Numbers.{all_digits, are_digits, value_of}
use Rattle.fd_words.specs.Words.{names_file}

digits_by : (ds : List ℕ) → all_digits ds ≡ all_ascii_digits ds
digits_by [] = refl
digits_by (d ∷ ds) = ap (λ (b : Bool). is_ascii_digit d && b) (digits_by ds)

last_true : (a b c : Bool) → a && (b && c) ≡ true → (a ≡ true) × (c ≡ true)
last_true true true c h = (refl, h)
last_true true false c h = absurd (cc h)
last_true false b c h = absurd (cc h)

own : IsNumeralModel (λ ds. all_ascii_digits ds ≡ true) (digits_value 10)
own = numerals_by_value (λ ds. all_ascii_digits ds ≡ true) tells_all_ascii_digits

true_lt : (m n : ℕ) → nat_lt m n ≡ true → m < n
true_lt m n h = grind (arith, nat_tests)

-- digits are a number that is small enough, or none
value_by : (n : ℕ) (b c : Bool) → nat_lt n (2 ^ 64) ≡ c → n < 2 ^ 64 → b ≡ true
    → (if b && c then Some n else None) ≡ Some n
value_by n b true e h is = ap (λ (d : Bool). (let x : Option ℕ = if d && true then Some n else None in x)) is
value_by n b false e h is = let no : nat_lt n (2 ^ 64) ≡ true = grind (arith, nat_tests) in absurd (cc (sym e ∙ no))

none_by : (n : ℕ) (b c : Bool) → nat_lt n (2 ^ 64) ≡ c → (n < 2 ^ 64 → ⊥) → (if b && c then Some n else None) ≡ None
none_by n false c e h = refl
none_by n true true e h = absurd (h (true_lt n (2 ^ 64) e))
none_by n true false e h = refl

by_value : {E : Type 0} (most : ℕ) (word : List ℕ) → are_digits most word ≡ true → (s : Result ℕ E)
    → OkIff s ((0 < length word) × (digits_value 10 word < 2 ^ 64)) (digits_value 10 word) → 0 < length word
    → result_ok s ≡ value_of most word
unfolding value_of
by_value most word digits (Ok x) h some = ap Some h.1 ∙ sym (value_by (digits_value 10 word) (are_digits most word) _ refl h.0.1 digits)
by_value most word digits (Err e) h some = sym (none_by (digits_value 10 word) (are_digits most word) _ refl (λ small. h (some, small)))

pub read : {E : Type 0} (most : ℕ) (word : List ℕ) (r : Result ℕ E) → are_digits most word ≡ true
    → ParsesUnsigned 64 10 word r → result_ok r ≡ value_of most word
read most word r digits parses =
    let here = last_true (nat_lt 0 (length word)) (nat_le (length word) most) (all_digits word) digits in
    let some = true_lt 0 (length word) here.0 in
    by_value most word digits r (parse_digits own 64 word r parses (sym (digits_by word) ∙ here.1)) some

pub not_read : (most : ℕ) (word : List ℕ) → are_digits most word ≡ false → None ≡ value_of most word
unfolding value_of
not_read most word other =
    sym (ap (λ (b : Bool).
    (let x : Option ℕ = if b && nat_lt (digits_value 10 word) (2 ^ 64) then Some (digits_value 10 word) else None in
    x)) other)

digits_where : (a c : Bool) (x n : ℕ) → (if a && c then Some x else None) ≡ Some n → a ≡ true
digits_where true c x n h = refl
digits_where false c x n h = absurd (cc h)

no_dash : (b : ℕ) (bs : List ℕ) (t : Bool) → b == 45 ≡ t → all_digits (b ∷ bs) ≡ true → not t ≡ true
no_dash b bs false e h = refl
no_dash b bs true e h =
    let is : b ≡ 45 = grind (arith, nat_tests) in
    let no : false ≡ true = subst (λ (d : ℕ). all_digits (d ∷ bs) ≡ true) is h in
    absurd (cc no)

-- a word that is a number may name a file too
pub number_named : (most : ℕ) (word : List ℕ) (n : ℕ) → value_of most word ≡ Some n → names_file word ≡ true
unfolding value_of
number_named most [] n h = absurd (cc h)
number_named most (b ∷ bs) n h =
    let digits = digits_where (are_digits most (b ∷ bs)) _ _ n h in
    no_dash b bs (b == 45) refl (last_true (nat_lt 0 (length (b ∷ bs))) (nat_le (length (b ∷ bs)) most) (all_digits (b ∷ bs)) digits).1
