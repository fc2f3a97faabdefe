-- Numbers behind one blank each.
use Rattle.std.proofs.Common.{◌≡◌, ℕ, ◌<◌, ℤ, List, [], ◌∷◌, ◌++◌, length, ◌⊎◌, inl, inr, false, Option, Some, None, is_some, refl, ap, sym, ◌∙◌, arith}
use Rattle.std.specs.Prelude.{option_map}
use Rattle.std.specs.Option.{option_and_then}
use Rattle.std.specs.List.{slice_split}
use Rattle.std.specs.Fmt.{signed_decimal}
use Rattle.std.proofs.lemmas.List.{append_assoc, append-nil}
use Rattle.std.proofs.lemmas.List.Splits.{length-slice_split, slice_split_at, slice_split_none}
use Rattle.fd_lines.specs.Numbers.{number_of, numbers_of}
use Rattle.fd_lines.specs.Lines.{is_blank, text_by}
use Rattle.fd_lines.specs.Texts.{field_text, fields_text}
use Rattle.fd_lines.specs.Cuts.{Lacks, first_number, one_of}

pub fields_append : (xs ys : List ℤ) → fields_text (xs ++ ys) ≡ fields_text xs ++ fields_text ys
fields_append [] ys = refl
fields_append (x ∷ xs) ys = ap (λ (t : List ℕ). field_text x ++ t) (fields_append xs ys)
    ∙ sym (append_assoc (field_text x) (fields_text xs) (fields_text ys))

pub text_by_fields : (word : List ℕ) (numbers : List ℤ) → word ++ fields_text numbers ≡ text_by word numbers
text_by_fields word [] = append-nil word
text_by_fields word (z ∷ zs) = ap (λ (t : List ℕ). word ++ 32 ∷ t) (text_by_fields (signed_decimal z) zs)

pub line_fields : (word : List ℕ) (xs ys : List ℤ)
    → ((word ++ fields_text xs) ++ fields_text ys) ++ 10 ∷ [] ≡ text_by word (xs ++ ys) ++ 10 ∷ []
line_fields word xs ys = ap (λ (t : List ℕ). t ++ 10 ∷ [])
    (append_assoc word (fields_text xs) (fields_text ys) ∙ ap (λ (t : List ℕ). word ++ t) (sym (fields_append xs ys)) ∙ text_by_fields word (xs ++ ys))

-- ---- what a text's fields are

pub parted_at : (text field more : List ℕ) → Lacks 32 field → text ≡ field ++ 32 ∷ more
    → slice_split is_blank text ≡ field ∷ slice_split is_blank more
parted_at text field more h e = ap (slice_split is_blank) e ∙ slice_split_at is_blank field 32 more h refl

pub parted_none : (text : List ℕ) → Lacks 32 text → slice_split is_blank text ≡ text ∷ []
parted_none text h = slice_split_none is_blank text h

-- ---- so many numbers

pub first_none : (fs : List (List ℕ)) → None ≡ first_number fs → (numbers_of fs ≡ None) ⊎ (numbers_of fs ≡ Some [])
first_none [] e = inr refl
first_none (t ∷ ts) e = inl (at (number_of t) e)
  where
    at : (o : Option ℤ) → ◌≡◌ {A = Option (ℤ × List (List ℕ))} None (option_map (λ z. (z, ts)) o) → option_and_then
        (λ z. option_map (λ zs. z ∷ zs) (numbers_of ts)) o ≡ None
    at None e = refl
    at (Some z) e = absurd cc

pub first_some : (fs : List (List ℕ)) (z : ℤ) (ts : List (List ℕ)) → Some (z, ts) ≡ first_number fs
    → numbers_of fs ≡ option_map (λ zs. z ∷ zs) (numbers_of ts)
first_some [] z ts e = absurd cc
first_some (t ∷ us) z ts e = at (number_of t) e
  where
    at : (o : Option ℤ) → ◌≡◌ {A = Option (ℤ × List (List ℕ))} (Some (z, ts)) (option_map (λ y. (y, us)) o) →
        option_and_then (λ y. option_map (λ zs. y ∷ zs) (numbers_of us)) o ≡ option_map (λ zs. z ∷ zs) (numbers_of ts)
    at None e = absurd cc
    at (Some y) e =
        let same : (z, ts) ≡ (y, us) = cc in
        ap (λ (p : ℤ × List (List ℕ)). option_map (λ zs. p.0 ∷ zs) (numbers_of p.1)) (sym same)

-- a text has some field, so its fields spell no empty list
pub some_field : {X : Type 0} (f : Option (List ℤ) → X) (x : X) → f None ≡ x
    → ((z : ℤ) (zs : List ℤ) → f (Some (z ∷ zs)) ≡ x) → (text : List ℕ) → f (numbers_of (slice_split is_blank text)) ≡ x
some_field f x none some text = longer (slice_split is_blank text) (omega (arith, length-slice_split is_blank text))
  where
    at : (o : Option ℤ) (p : Option (List ℤ)) → f (option_and_then (λ y. option_map (λ zs. y ∷ zs) p) o) ≡ x
    at None p = none
    at (Some y) None = none
    at (Some y) (Some zs) = some y zs

    longer : (ts : List (List ℕ)) → 0 < length ts → f (numbers_of ts) ≡ x
    longer [] h = absurd (omega (arith, h))
    longer (t ∷ ts) h = at (number_of t) (numbers_of ts)

pub one_more : (fs : List (List ℕ)) (z : ℤ) (text : List ℕ) → Some (z, slice_split is_blank text) ≡ first_number fs
    → None ≡ one_of (numbers_of fs)
one_more fs z text e =
    sym (ap one_of (first_some fs z (slice_split is_blank text) e) ∙ some_field (λ o. one_of (option_map (λ zs. z ∷ zs) o)) None refl (λ y zs. refl) text)

-- ---- whether all fields spell numbers

pub first_all : (fs : List (List ℕ)) (z : ℤ) (ts : List (List ℕ)) → Some (z, ts) ≡ first_number fs
    → is_some (numbers_of fs) ≡ is_some (numbers_of ts)
first_all fs z ts e = ap is_some (first_some fs z ts e) ∙ mapped (numbers_of ts)
  where
    mapped : (o : Option (List ℤ)) → is_some (option_map (λ zs. z ∷ zs) o) ≡ is_some o
    mapped None = refl
    mapped (Some zs) = refl

pub first_fails : (text : List ℕ) → None ≡ first_number (slice_split is_blank text)
    → is_some (numbers_of (slice_split is_blank text)) ≡ false
first_fails text e = at (slice_split is_blank text) (omega (arith, length-slice_split is_blank text)) e
  where
    at : (fs : List (List ℕ)) → 0 < length fs → None ≡ first_number fs → is_some (numbers_of fs) ≡ false
    at [] l e = absurd (omega (arith, l))
    at (t ∷ ts) l e = elim (first_none (t ∷ ts) e) [ inl none ↦ ap is_some none | inr nil ↦ absurd (no_nil (number_of t) (numbers_of ts) nil) ]
      where
        no_nil : (o : Option ℤ) (p : Option (List ℤ)) → option_and_then (λ z. option_map (λ zs. z ∷ zs) p) o ≡ Some [] → ⊥
        no_nil None p f = cc
        no_nil (Some z) None f = cc
        no_nil (Some z) (Some zs) f = cc

pub first_shorter : (fs : List (List ℕ)) (z : ℤ) (ts : List (List ℕ)) → Some (z, ts) ≡ first_number fs
    → length ts < length fs
first_shorter [] z ts e = absurd cc
first_shorter (t ∷ us) z ts e = at (number_of t) e
  where
    at : (o : Option ℤ) → ◌≡◌ {A = Option (ℤ × List (List ℕ))} (Some (z, ts)) (option_map (λ y. (y, us)) o) → length ts < length (t ∷ us)
    at None e = absurd cc
    at (Some y) e =
        let same : (z, ts) ≡ (y, us) = cc in
        let long : length ts ≡ length us = ap (λ (p : ℤ × List (List ℕ)). length p.1) same in
        omega (arith, long)
