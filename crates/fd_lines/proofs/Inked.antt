-- Texts without blanks and line feeds.
use Rattle.std.proofs.Common.{◌≡◌, ℕ, suc, ◌<◌, ◌≤◌, true, false, ℤ, pos, negsuc, List, [], ◌∷◌, ◌++◌, All, refl, ap, ◌∙◌, arith, ◌+◌, length, inl, inr, take, drop, get_or, sym}
use Rattle.std.specs.Prelude.{nat_eq, nat_lt, map}
use Rattle.std.specs.List.{AllByRecursion, list_all, slice_split, join_with_byte}
use Rattle.std.specs.Fmt.{decimal, signed_decimal}
use Rattle.std.specs.Str.Parse.{AllDigits}
use Rattle.std.proofs.lemmas.Bool.{and_parts, ltb-true, ne_eqb, cases_Bool}
use Rattle.std.proofs.lemmas.Fmt.{decimal_is_IsNumeral_wide}
use Rattle.std.proofs.lemmas.List.Elements.{All-from_recursion}
use Rattle.std.proofs.lemmas.List.Splits.{slice_split_none, slice_split_at}
use Rattle.std.proofs.lemmas.Str.Parse.{digit_from_value}
use Rattle.fd_lines.specs.Numbers.{IsNumber}
use Rattle.fd_lines.specs.Lines.{is_blank, text_by}
use Rattle.std.proofs.lemmas.List.{drop_more, take-append-drop, length-take, get_or-take, get_or_default}
use Rattle.memchr.specs.Find.{Nowhere, Passes, is_byte}
use Rattle.fd_lines.specs.Cuts.{Lacks}

-- each byte is above this one
abbrev pub Above : ℕ → List ℕ → Type 0
Above c text = AllByRecursion (λ d. c < d) text

pub above_tested : (c : ℕ) (text : List ℕ) → list_all (λ d. nat_lt c d) text ≡ true → Above c text
above_tested c [] h = tt
above_tested c (d ∷ text) h = let p = and_parts (nat_lt c d) (list_all (λ d. nat_lt c d) text) h in (ltb-true c d p.0, above_tested c text p.1)

pub above_digits : (ds : List ℕ) → AllDigits 10 ds → Above 32 ds
above_digits [] h = tt
above_digits (c ∷ cs) h = let r = digit_from_value c h.0 in (omega (arith, r.0), above_digits cs h.1)

above_decimal : (z : ℤ) → IsNumber z → Above 32 (signed_decimal z)
above_decimal (pos n) h = above_digits (decimal n) (decimal_is_IsNumeral_wide n (omega arith)).0.1
above_decimal (negsuc n) h = (omega arith, above_digits (decimal (suc n)) (decimal_is_IsNumeral_wide (suc n) (omega arith)).0.1)

above_decimals : (zs : List ℤ) → AllByRecursion IsNumber zs → AllByRecursion (Above 32) (map signed_decimal zs)
above_decimals [] h = tt
above_decimals (z ∷ zs) h = (above_decimal z h.0, above_decimals zs h.1)

above_less : (b c : ℕ) (text : List ℕ) → b ≤ c → Above c text → Above b text
above_less b c [] l h = tt
above_less b c (d ∷ text) l h = (omega (arith, h.0), above_less b c text l h.1)

above_append : (c : ℕ) (xs ys : List ℕ) → Above c xs → Above c ys → Above c (xs ++ ys)
above_append c [] ys h k = k
above_append c (x ∷ xs) ys h k = (h.0, above_append c xs ys h.1 k)

lacks : (c : ℕ) (text : List ℕ) → Above c text → AllByRecursion (λ d. nat_eq d c ≡ false) text
lacks c [] h = tt
lacks c (d ∷ text) h = (ne_eqb d c (λ e. omega (arith, h.0, e)), lacks c text h.1)

pub lacks_all : (c : ℕ) (text : List ℕ) → Above c text → All (λ d. nat_eq d c ≡ false) text
lacks_all c text h = All-from_recursion (λ d. nat_eq d c ≡ false) text (lacks c text h)

-- fields that are joined by blanks are cut at them
split_join : (field : List ℕ) (fields : List (List ℕ)) → Above 32 field → AllByRecursion (Above 32) fields
    → slice_split is_blank (join_with_byte 32 (field ∷ fields)) ≡ field ∷ fields
split_join field [] h k = slice_split_none is_blank field (lacks_all 32 field h)
split_join field (next ∷ fields) h k =
    slice_split_at is_blank field 32 (join_with_byte 32 (next ∷ fields)) (lacks_all 32 field h) refl
    ∙ ap (λ (fs : List (List ℕ)). field ∷ fs) (split_join next fields k.0 k.1)

above_join : (field : List ℕ) (fields : List (List ℕ)) → Above 32 field → AllByRecursion (Above 32) fields
    → Above 10 (join_with_byte 32 (field ∷ fields))
above_join field [] h k = above_less 10 32 field (omega arith) h
above_join field (next ∷ fields) h k =
    above_append 10 field (32 ∷ join_with_byte 32 (next ∷ fields)) (above_less 10 32 field (omega arith) h) (omega arith, above_join next fields k.0 k.1)

module _ (word : List ℕ) (h : Above 32 word) (numbers : List ℤ) (k : AllByRecursion IsNumber numbers) where
  pub split_by : slice_split is_blank (text_by word numbers) ≡ word ∷ map signed_decimal numbers
  split_by = split_join word (map signed_decimal numbers) h (above_decimals numbers k)

  pub above_by : Above 10 (text_by word numbers)
  above_by = above_join word (map signed_decimal numbers) h (above_decimals numbers k)

-- ---- bytes that are cut at one of them

-- no place has that byte
pub lacks_nowhere : (bytes : List ℕ) (c : ℕ) → Nowhere (Passes (is_byte c) bytes) 0 (length bytes) → Lacks c bytes
lacks_nowhere bytes c h k d l = elim (cases_Bool (nat_eq (get_or bytes k d) c)) [
  | inl is ↦ absurd (h k (omega arith) l (ap (λ (x : ℕ). nat_eq x c) (get_or_default bytes k 0 d l) ∙ is))
  | inr isnt ↦ isnt
]

-- no place before i has it
pub lacks_before : (bytes : List ℕ) (i c : ℕ) → Nowhere (Passes (is_byte c) bytes) 0 i → Lacks c (take i bytes)
lacks_before bytes i c h k d l =
    let m : k < length (take i bytes) = l in
    let below : k < i = omega (arith, m, length-take i bytes) in
    let within : k < length bytes = omega (arith, m, length-take i bytes) in
    elim (cases_Bool (nat_eq (get_or (take i bytes) k d) c)) [
      | inl is ↦ absurd (h k (omega arith) below (ap (λ (x : ℕ). nat_eq x c) (get_or_default bytes k 0 d within ∙ sym (get_or-take i bytes k d below)) ∙ is))
      | inr isnt ↦ isnt
    ]

-- the bytes up to the byte at i, and those behind it
pub cut_at : (bytes : List ℕ) (i : ℕ) (c : ℕ) → i < length bytes → get_or bytes i 0 ≡ c
    → bytes ≡ take i bytes ++ c ∷ drop (i + 1) bytes
cut_at bytes i c l e = sym (take-append-drop i bytes)
    ∙ ap (λ (t : List ℕ). take i bytes ++ t) (drop_more bytes i 0 l ∙ ap (λ (d : ℕ). d ∷ drop (i + 1) bytes) e)
