-- The entries of a row, field by field.
use Rattle.std.proofs.Common.{◌≡◌, ◌≢◌, ℕ, ◌+◌, ◌<◌, Bool, true, false, ℤ, List, [], ◌∷◌, ◌++◌, length, inl, inr, Option, Some, None, refl, ap, sym, ◌∙◌, arith}
use Rattle.std.specs.Prelude.{nat_eq, option_map}
use Rattle.std.specs.Option.{option_and_then}
use Rattle.std.specs.List.{slice_split}
use Rattle.std.proofs.lemmas.Bool.{cond-true, cond-false, eq-eqb, ne_eqb}
use Rattle.std.proofs.lemmas.List.{append_assoc, append-nil, length-append}
use Rattle.fd_lines.specs.Numbers.{numbers_of}
use Rattle.fd_certfile.specs.Lines.{is_blank}
use Rattle.fd_certfile.specs.Blocks.{Whole, row_of}
use Rattle.fd_lines.specs.Cuts.{first_number}
use Rattle.fd_certfile.specs.Readings.{RowIs, kept}
use Rattle.fd_lines.proofs.CallerLemmas.{first_none, first_some, some_field}

-- the fields of which so many numbers were taken, and those that are left
pub record IsTaken (keep : Bool) (old new : List ℤ) (all : List (List ℕ)) (i : ℕ) (rest : List (List ℕ)) : Type 0 where
  pub taken : List ℤ
  pub many : length taken ≡ i
  pub same : numbers_of all ≡ option_map (λ zs. taken ++ zs) (numbers_of rest)
  pub added : new ≡ old ++ kept keep taken

nothing : (o : Option (List ℤ)) → o ≡ option_map (λ zs. [] ++ zs) o
nothing None = refl
nothing (Some zs) = refl

kept_none : (keep : Bool) (xs : List ℤ) → xs ≡ xs ++ kept keep []
kept_none true xs = sym (append-nil xs)
kept_none false xs = sym (append-nil xs)

pub taken_start : (keep : Bool) (old : List ℤ) (all : List (List ℕ)) → IsTaken keep old old all 0 all
taken_start keep old all = record { taken = []; many = refl; same = nothing (numbers_of all); added = kept_none keep old }

pub kept_append : {X : Type 0} (keep : Bool) (xs ys : List X) → kept keep (xs ++ ys) ≡ kept keep xs ++ kept keep ys
kept_append true xs ys = refl
kept_append false xs ys = refl

module _ (keep : Bool) (old new : List ℤ) (all : List (List ℕ)) (i : ℕ) (rest : List (List ℕ))
    (t : IsTaken keep old new all i rest) where
  joined : (z : ℤ) (o : Option (List ℤ))
      → option_map (λ zs. t.taken ++ zs) (option_map (λ zs. z ∷ zs) o) ≡ option_map (λ zs. (t.taken ++ z ∷ []) ++ zs) o
  joined z None = refl
  joined z (Some zs) = ap Some (sym (append_assoc t.taken (z ∷ []) zs))

  pub taken_more : (z : ℤ) (more : List (List ℕ)) (next : List ℤ) → Some (z, more) ≡ first_number rest
      → next ≡ new ++ kept keep (z ∷ []) → IsTaken keep old next all (i + 1) more
  taken_more z more next e f = record {
    taken = t.taken ++ z ∷ [];
    many = omega (arith, t.many, length-append t.taken (z ∷ []));
    same = t.same ∙ ap (option_map (λ zs. t.taken ++ zs)) (first_some rest z more e) ∙ joined z (numbers_of more);
    added = f ∙ ap (λ (l : List ℤ). l ++ kept keep (z ∷ [])) t.added
        ∙ append_assoc old (kept keep t.taken) (kept keep (z ∷ []))
        ∙ ap (λ (l : List ℤ). old ++ l) (sym (kept_append keep t.taken (z ∷ [])));
  }

  of_length : (n : ℕ) (zs : List ℤ) → length (t.taken ++ zs) ≢ n → row_of Whole n (t.taken ++ zs) ≡ None
  of_length n zs h = cond-false (nat_eq (length (t.taken ++ zs)) n) _ _ (ne_eqb (length (t.taken ++ zs)) n h)

  read_is : (n : ℕ) (o : Option (List ℤ)) → numbers_of rest ≡ o
      → option_and_then (row_of Whole n) (numbers_of all) ≡ option_and_then (row_of Whole n) (option_map (λ zs. t.taken ++ zs) o)
  read_is n o e = ap (option_and_then (row_of Whole n)) (t.same ∙ ap (option_map (λ zs. t.taken ++ zs)) e)

  few : (n : ℕ) → i < n → length (t.taken ++ []) ≡ n → ⊥
  few n l e = omega (arith, l, e, t.many, length-append t.taken [])

  -- too few fields, or one that spells no number
  pub taken_none : (n : ℕ) → i < n → None ≡ first_number rest → option_and_then (row_of Whole n) (numbers_of all) ≡ None
  taken_none n l e = elim (first_none rest e) [
    | inl none ↦ read_is n None none
    | inr nil ↦ read_is n (Some []) nil ∙ of_length n [] (few n l)
  ]

  -- as many fields as are due
  pub taken_all : rest ≡ [] → (n : ℕ) → i ≡ n → RowIs keep old new (option_and_then (row_of Whole n) (numbers_of all))
  taken_all e n f = record {
    entries = t.taken;
    same = read_is n (Some []) (ap numbers_of e) ∙ ap (row_of Whole n) (append-nil t.taken)
        ∙ cond-true (nat_eq (length t.taken) n) _ _ (eq-eqb (length t.taken) n (t.many ∙ f));
    added = t.added;
  }

  long : (n : ℕ) (z : ℤ) (zs : List ℤ) → i ≡ n → length (t.taken ++ z ∷ zs) ≡ n → ⊥
  long n z zs f e = omega (arith, f, e, t.many, length-append t.taken (z ∷ zs))

  -- more fields than are due
  pub taken_past : (text : List ℕ) → rest ≡ slice_split is_blank text → (n : ℕ) → i ≡ n
      → option_and_then (row_of Whole n) (numbers_of all) ≡ None
  taken_past text e n f =
      read_is n (numbers_of (slice_split is_blank text)) (ap numbers_of e)
      ∙ some_field (λ o. option_and_then (row_of Whole n) (option_map (λ zs. t.taken ++ zs) o)) None refl (λ z zs. of_length n (z ∷ zs) (long n z zs f)) text
