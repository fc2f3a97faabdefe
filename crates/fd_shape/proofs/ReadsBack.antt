-- The text of a number reads as this number.
use Rattle.std.proofs.Common.{◌≡◌, ◌∙◌, ℕ, zero, suc, ℤ, pos, negsuc, neg_ℤ, ◌+◌, ◌-◌, ◌*◌, ◌/◌, ◌%◌, ◌^◌, ◌<◌, ◌≤◌, ◌||◌, List, [], ◌∷◌, ◌++◌, length, take, drop, map, fold, All, Some, Bool, true, false, Ok, refl, sym, ap, subst, arith, unsigned_abs}
use Rattle.std.specs.Bool.{⊤}
use Rattle.std.specs.Char.{is_ascii_digit, digit_value}
use Rattle.std.specs.Fmt.{decimal}
use Rattle.std.specs.List.{position_or_len, before_first, after_first, flat_map}
use Rattle.std.specs.Str.Parse.{AllDigits, digits_value_after}
use Rattle.std.proofs.Math.Nat.{mod-lt, mul-le-mul_right, one-le-pow, pow-suc}
use Rattle.std.proofs.Math.Seq.{take-append_seam, take-length}
use Rattle.std.proofs.lemmas.Fmt.{decimal_is_IsNumeral_wide}
use Rattle.std.proofs.lemmas.Bool.{le-ltb, lt-ltb}
use Rattle.std.proofs.lemmas.Bool.Decides.{nat_tests}
use Rattle.std.proofs.lemmas.Grind.{common_steps}
use Rattle.std.proofs.lemmas.Int.{ints}
use Rattle.std.proofs.lemmas.List.{append-nil, length-append}
use Rattle.std.proofs.lemmas.List.Elements.{All-cons, All-head, All-nil, All-tail}
use Rattle.std.proofs.lemmas.List.Splits.{slice_split_at, slice_split_none}
use Rattle.std.proofs.lemmas.List.Sums.{fold-append}
use Rattle.std.proofs.lemmas.Nat.{div-add-mod', mod-mul-add}
use Rattle.std.proofs.lemmas.Str.{digit_value_digit}
use Rattle.std.proofs.lemmas.Str.Parse.{digit_from_value}
use Rattle.dss_lexer.specs.fd_exact.Rounding.{near_div, with_sign}
use Rattle.dss_lexer.specs.Answers.{◌>>=◌, each}
use Rattle.dss_lexer.specs.Arrays.{row_of, word_in, words_of}
use Rattle.dss_lexer.specs.Line.{is_separator}
use Rattle.dss_lexer.specs.Number.{number_of, number_from, are_digits, is_exponent_mark, is_minus, is_negative, is_plus, is_point, shift_of, units, unsigned, value, within_limit}
use Rattle.fd_decimal.specs.Decimals.{fixed_text, last_digits, nano_text, sign, signed_text}
use Rattle.fd_shape.specs.Text.{behind_blanks, values_text}
use Rattle.fd_shape.specs.TextLaws.{TextLaw}

-- ---- digits

abbrev AreDigits : List ℕ → Type 0
AreDigits [] = ⊤
AreDigits (c ∷ cs) = (48 ≤ c) × (c ≤ 57) × AreDigits cs

-- none of these passes a test
abbrev NonePass : (ℕ → Bool) → List ℕ → Type 0
NonePass p [] = ⊤
NonePass p (c ∷ cs) = (p c ≡ false) × NonePass p cs

none_pass : (p : ℕ → Bool) → ((c : ℕ) → 48 ≤ c → c ≤ 57 → p c ≡ false) → (ds : List ℕ) → AreDigits ds → NonePass p ds
none_pass p fails [] h = tt
none_pass p fails (d ∷ ds) h = (fails d h.0 h.1, none_pass p fails ds h.2)

none_append : (p : ℕ → Bool) (xs ys : List ℕ) → NonePass p xs → NonePass p ys → NonePass p (xs ++ ys)
none_append p [] ys h k = k
none_append p (x ∷ xs) ys h k = (h.0, none_append p xs ys h.1 k)

no_exponent : (c : ℕ) → 48 ≤ c → c ≤ 57 → is_exponent_mark c ≡ false
no_exponent c low high = grind (arith, common_steps, nat_tests)

no_point : (c : ℕ) → 48 ≤ c → c ≤ 57 → is_point c ≡ false
no_point c low high = grind (arith, common_steps, nat_tests)

no_separator : (c : ℕ) → 48 ≤ c → c ≤ 57 → is_separator c ≡ false
no_separator c low high = grind (arith, common_steps, nat_tests)

no_sign : (c : ℕ) → 48 ≤ c → c ≤ 57 → (is_plus c || is_minus c) ≡ false
no_sign c low high = grind (arith, common_steps, nat_tests)

no_minus : (c : ℕ) → 48 ≤ c → c ≤ 57 → is_minus c ≡ false
no_minus c low high = grind (arith, common_steps, nat_tests)

a_digit : (c : ℕ) → 48 ≤ c → c ≤ 57 → is_ascii_digit c ≡ true
a_digit c low high = grind (arith, common_steps, nat_tests)

are_digits_are : (ds : List ℕ) → AreDigits ds → are_digits ds ≡ true
are_digits_are [] h = refl
are_digits_are (d ∷ ds) h = rw (a_digit d h.0 h.1, are_digits_are ds h.2) refl

digits_from : (ds : List ℕ) → AllDigits 10 ds → AreDigits ds
digits_from [] h = tt
digits_from (d ∷ ds) h = let range = digit_from_value d h.0 in (omega (arith, range), omega (arith, range), digits_from ds h.1)

value_from : (ds : List ℕ) (n : ℕ) → AllDigits 10 ds → fold (λ m c. m * 10 + (c - 48)) n ds ≡ digits_value_after 10 n ds
value_from [] n h = refl
value_from (d ∷ ds) n h =
    let same : d - 48 ≡ digit_value d = omega (arith, digit_value_digit d (digit_from_value d h.0)) in
    ap (λ k. fold (λ m c. m * 10 + (c - 48)) (n * 10 + k) ds) same ∙ value_from ds (n * 10 + digit_value d) h.1

-- ---- the last digits of a number

last_are : (p n : ℕ) → AreDigits (last_digits p n)
last_are zero n = tt
last_are (suc p) n = (omega arith, omega arith, last_are p n)

mod_ten : (n b : ℕ) → 0 < b → n % (b * 10) ≡ n / b % 10 * b + n % b
mod_ten n b some =
    let q : ℕ = n / b in
    let high : q / 10 * 10 + q % 10 ≡ q = div-add-mod' q 10 in
    let small : n % b < b = mod-lt n some in
    let digit : q % 10 * b ≤ 9 * b = mul-le-mul_right b (let most : q % 10 ≤ 9 = omega arith in most) in
    let parts : n ≡ q / 10 * (b * 10) + (q % 10 * b + n % b) =
    sym (div-add-mod' n b) ∙ ap (λ k. k * b + n % b) (sym high) ∙ spread (q / 10) (q % 10) b (n % b) in
    ap (λ k. k % (b * 10)) parts ∙ mod-mul-add (q / 10) (b * 10) (q % 10 * b + n % b) (omega arith)
  where
    spread : (a d c s : ℕ) → (a * 10 + d) * c + s ≡ a * (c * 10) + (d * c + s)
    spread a d c s = omega arith

last_value : (p n a : ℕ) → fold (λ m c. m * 10 + (c - 48)) a (last_digits p n) ≡ a * 10 ^ p + n % 10 ^ p
last_value zero n a = omega arith
last_value (suc p) n a =
    let b : ℕ = 10 ^ p in
    let d : ℕ = n / b % 10 in
    let plain : 48 + d - 48 ≡ d = omega arith in
    last_value p n (a * 10 + (48 + d - 48)) ∙ ap (λ k. (a * 10 + k) * b + n % b) plain
    ∙ spread a d b (n % b) ∙ ap (λ k. a * (b * 10) + k) (sym (mod_ten n b (one-le-pow p 10 (omega arith)))) ∙ ap (λ k. a * k + n % k) (sym (pow-suc 10 p))
  where
    spread : (x d c s : ℕ) → (x * 10 + d) * c + s ≡ x * (c * 10) + (d * c + s)
    spread x d c s = omega arith

-- ---- the first mark in a text

no_mark : (p : ℕ → Bool) (xs : List ℕ) → NonePass p xs → position_or_len p xs ≡ length xs
no_mark p [] h = refl
no_mark p (x ∷ xs) h = rw h.0 (omega (arith, no_mark p xs h.1))

mark_at : (p : ℕ → Bool) (xs : List ℕ) (y : ℕ) (ys : List ℕ) → NonePass p xs → p y ≡ true
    → position_or_len p (xs ++ y ∷ ys) ≡ length xs
mark_at p [] y ys h e = rw e refl
mark_at p (x ∷ xs) y ys h e = rw h.0 (omega (arith, mark_at p xs y ys h.1 e))

drop_seam : (xs : List ℕ) (y : ℕ) (ys : List ℕ) → drop (length xs + 1) (xs ++ y ∷ ys) ≡ ys
drop_seam [] y ys = refl
drop_seam (x ∷ xs) y ys = let e : length (x ∷ xs) + 1 ≡ suc (length xs + 1) = omega arith in ap (λ n. drop n (x ∷ (xs ++ y ∷ ys))) e ∙ drop_seam xs y ys

before_mark : (p : ℕ → Bool) (xs : List ℕ) (y : ℕ) (ys : List ℕ) → NonePass p xs → p y ≡ true
    → before_first p (xs ++ y ∷ ys) ≡ xs
before_mark p xs y ys h e = ap (λ n. take n (xs ++ y ∷ ys)) (mark_at p xs y ys h e) ∙ take-append_seam xs (y ∷ ys)

after_mark : (p : ℕ → Bool) (xs : List ℕ) (y : ℕ) (ys : List ℕ) → NonePass p xs → p y ≡ true
    → after_first p (xs ++ y ∷ ys) ≡ ys
after_mark p xs y ys h e = ap (λ n. drop (n + 1) (xs ++ y ∷ ys)) (mark_at p xs y ys h e) ∙ drop_seam xs y ys

before_none : (p : ℕ → Bool) (xs : List ℕ) → NonePass p xs → before_first p xs ≡ xs
before_none p xs h = ap (λ n. take n xs) (no_mark p xs h) ∙ take-length xs

no_shift : (text : List ℕ) → NonePass is_exponent_mark text → shift_of text ≡ Some (record { right = 0; left = 0 })
no_shift text h = rw (no_mark is_exponent_mark text h, le-ltb (length text) (length text) (omega arith)) refl

-- ---- one number

whole_digits : (n : ℕ) → n < 1_000_000_000_000_000_000 → AreDigits (decimal (n / 1_000_000_000))
whole_digits n h = digits_from _ (decimal_is_IsNumeral_wide (n / 1_000_000_000) (omega arith)).0.1

value_is : (n : ℕ) → n < 1_000_000_000_000_000_000
    → value (decimal (n / 1_000_000_000) ++ last_digits 9 (n % 1_000_000_000)) ≡ n
value_is n h =
    let w : ℕ = n / 1_000_000_000 in
    let numeral = decimal_is_IsNumeral_wide w (omega arith) in
    let front : value (decimal w) ≡ w = value_from (decimal w) 0 numeral.0.1 ∙ numeral.1 in
    fold-append (λ m c. m * 10 + (c - 48)) 0 (decimal w) (last_digits 9 (n % 1_000_000_000))
    ∙ ap (λ k. fold (λ m c. m * 10 + (c - 48)) k (last_digits 9 (n % 1_000_000_000))) front
    ∙ last_value 9 (n % 1_000_000_000) w ∙ (let e : w * 1_000_000_000 + n % 1_000_000_000 % 1_000_000_000 ≡ n = omega arith in e)

near_whole : (n : ℕ) → near_div (pos (n * 1_000_000_000)) 1_000_000_000 ≡ pos n
near_whole n = ap pos (let e : (2 * (n * 1_000_000_000) + 1_000_000_000) / 2_000_000_000 ≡ n = omega arith in e)

is_within : (negative : Bool) (n : ℕ) → n < 1_000_000_000_000_000_000
    → within_limit (with_sign negative (pos n)) ≡ Ok (with_sign negative (pos n))
is_within true n h = let e : unsigned_abs (neg_ℤ (pos n)) ≡ n = omega (arith, ints) in rw (e, lt-ltb n 1_000_000_000_000_000_000 h) refl
is_within false n h = rw (lt-ltb n 1_000_000_000_000_000_000 h) refl

parts_read : (negative : Bool) (n : ℕ) → n < 1_000_000_000_000_000_000
    → number_from negative (decimal (n / 1_000_000_000)) (last_digits 9 (n % 1_000_000_000))
    (Some (record { right = 0; left = 0 }))
    ≡ Ok (with_sign negative (pos n))
parts_read negative n h =
    let whole = decimal (n / 1_000_000_000) in
    let rest = last_digits 9 (n % 1_000_000_000) in
    let units_are : units whole rest (record { right = 0; left = 0 }) ≡ pos n =
    ap (λ v. near_div (pos (v * 1_000_000_000)) 1_000_000_000) (value_is n h) ∙ near_whole n in
    rw (
      are_digits_are whole (whole_digits n h),
      are_digits_are rest (last_are 9 (n % 1_000_000_000)),
      lt-ltb 0 (length whole + length rest) (omega arith),
      units_are,
    ) (is_within negative n h)

-- a text of digits, a point and digits, behind its sign
body_reads : (negative : Bool) (n : ℕ) → n < 1_000_000_000_000_000_000 → (body : List ℕ)
    → body ≡ decimal (n / 1_000_000_000) ++ 46 ∷ last_digits 9 (n % 1_000_000_000)
    → number_from negative (before_first is_point (before_first is_exponent_mark body))
    (after_first is_point (before_first is_exponent_mark body)) (shift_of body)
    ≡ Ok (with_sign negative (pos n))
body_reads negative n h body is =
    let whole = decimal (n / 1_000_000_000) in
    let rest = last_digits 9 (n % 1_000_000_000) in
    let no_marks : NonePass is_exponent_mark body =
    subst (NonePass is_exponent_mark) (sym is)
    (none_append is_exponent_mark whole (46 ∷ rest) (none_pass is_exponent_mark no_exponent whole (whole_digits n h))
    (refl, none_pass is_exponent_mark no_exponent rest (last_are 9 (n % 1_000_000_000)))) in
    let no_points = none_pass is_point no_point whole (whole_digits n h) in
    ap (λ t. number_from negative (before_first is_point t) (after_first is_point t) (shift_of body)) (before_none is_exponent_mark body no_marks ∙ is)
    ∙ ap (λ t. number_from negative t (after_first is_point (whole ++ 46 ∷ rest)) (shift_of body)) (before_mark is_point whole 46 rest no_points refl)
    ∙ ap (λ t. number_from negative whole t (shift_of body)) (after_mark is_point whole 46 rest no_points refl)
    ∙ ap (number_from negative whole rest) (no_shift body no_marks)
    ∙ parts_read negative n h

-- a digit in front is no sign
front_plain : (ds rest : List ℕ) → 0 < length ds → AreDigits ds
    → (is_negative (ds ++ rest) ≡ false) × (unsigned (ds ++ rest) ≡ ds ++ rest)
front_plain [] rest some h = absurd (omega arith)
front_plain (d ∷ ds) rest some h = (no_minus d h.0 h.1, rw (no_sign d h.0 h.1) refl)

number_reads : (z : ℤ) → unsigned_abs z < 1_000_000_000_000_000_000 → number_of (nano_text z) ≡ Ok z
unfolding number_of signed_text fixed_text
number_reads (pos n) h =
    let whole = decimal (n / 1_000_000_000) in
    let body = whole ++ 46 ∷ last_digits 9 (n % 1_000_000_000) in
    let plain = front_plain whole (46 ∷ last_digits 9 (n % 1_000_000_000))
    (decimal_is_IsNumeral_wide (n / 1_000_000_000) (omega arith)).0.0 (whole_digits n h) in
    ap (λ b. number_from b (before_first is_point (before_first is_exponent_mark (unsigned body)))
    (after_first is_point (before_first is_exponent_mark (unsigned body))) (shift_of (unsigned body)))
    plain.0
    ∙ body_reads false n h (unsigned body) plain.1
number_reads (negsuc n) h = body_reads true (suc n) h (decimal (suc n / 1_000_000_000) ++ 46 ∷ last_digits 9 (suc n % 1_000_000_000)) refl

-- ---- numbers parted by blanks

abbrev Small : ℤ → Type 0
Small z = unsigned_abs z < 1_000_000_000_000_000_000

-- a text is not empty, and holds no separator
abbrev IsWord : List ℕ → Type 0
IsWord text = (0 < length text) × NonePass is_separator text

number_word : (z : ℤ) → unsigned_abs z < 1_000_000_000_000_000_000 → IsWord (nano_text z)
unfolding signed_text fixed_text
number_word z h =
    let n : ℕ = unsigned_abs z in
    let whole = decimal (n / 1_000_000_000) in
    let rest = last_digits 9 (n % 1_000_000_000) in
    let body =
    none_append is_separator whole (46 ∷ rest) (none_pass is_separator no_separator whole (whole_digits n h)) (
      refl,
      none_pass is_separator no_separator rest (last_are 9 (n % 1_000_000_000)),
    ) in (
      omega (arith, length-append (sign z) (whole ++ 46 ∷ rest), length-append whole (46 ∷ rest)),
      none_append is_separator (sign z) (whole ++ 46 ∷ rest) (signs z) body,
    )
  where
    signs : (z : ℤ) → NonePass is_separator (sign z)
    signs (pos n) = tt
    signs (negsuc n) = (refl, tt)

all_fail : (p : ℕ → Bool) (xs : List ℕ) → NonePass p xs → All (λ x. p x ≡ false) xs
all_fail p [] h = All-nil (λ x. p x ≡ false)
all_fail p (x ∷ xs) h = All-cons (λ x. p x ≡ false) x xs h.0 (all_fail p xs h.1)

one_word : (text : List ℕ) → 0 < length text → word_in text ≡ text ∷ []
one_word [] h = absurd (omega arith)
one_word (c ∷ cs) h = refl

words_are : (z : ℤ) (zs : List ℤ) → unsigned_abs z < 1_000_000_000_000_000_000 → All Small zs
    → words_of (nano_text z ++ behind_blanks zs) ≡ nano_text z ∷ map nano_text zs
words_are z [] h all =
    let word = number_word z h in
    ap words_of (append-nil (nano_text z))
    ∙ ap (λ parts. flat_map word_in parts)
    (slice_split_none is_separator (nano_text z) (all_fail is_separator (nano_text z) word.1))
    ∙ ap (λ w. w ++ []) (one_word (nano_text z) word.0)
words_are z (y ∷ ys) h all =
    let word = number_word z h in
    ap (λ parts. flat_map word_in parts) (slice_split_at is_separator (nano_text z) 32
    (nano_text y ++ behind_blanks ys) (all_fail is_separator (nano_text z) word.1) refl)
    ∙ ap (λ w. w ++ words_of (nano_text y ++ behind_blanks ys)) (one_word (nano_text z) word.0)
    ∙ ap (λ ws. nano_text z ∷ ws) (words_are y ys (All-head Small y ys all) (All-tail Small y ys all))

each_reads : (zs : List ℤ) → All Small zs → each number_of (map nano_text zs) ≡ Ok zs
each_reads [] all = refl
each_reads (z ∷ zs) all =
    ap (λ r. r >>= λ y. each number_of (map nano_text zs) >>= λ ys. Ok (y ∷ ys)) (number_reads z (All-head Small z zs all))
    ∙ ap (λ r. r >>= λ ys. Ok (z ∷ ys)) (each_reads zs (All-tail Small z zs all))

numbers_read : (zs : List ℤ) → All Small zs → row_of (values_text zs) ≡ Ok zs
numbers_read [] all = refl
numbers_read (z ∷ zs) all = ap (each number_of) (words_are z zs (All-head Small z zs all) (All-tail Small z zs all)) ∙ each_reads (z ∷ zs) all

pub text_reads : TextLaw
text_reads = record { number = number_reads; numbers = numbers_read }
