-- The entries of a row of either version, step by step.
use Rattle.std.proofs.Common.{◌≡◌, ℕ, ◌+◌, ◌-◌, ◌<◌, ◌≤◌, Bool, true, false, ℤ, pos, List, [], ◌∷◌, ◌++◌, length, inl, inr, Option, Some, None, refl, ap, sym, subst, ◌∙◌, arith}
use Rattle.std.specs.Prelude.{count_by, option_map}
use Rattle.std.specs.List.{slice_split}
use Rattle.std.specs.Option.{option_and_then}
use Rattle.std.proofs.lemmas.Bool.{cases_Bool, cond-false}
use Rattle.std.proofs.lemmas.List.{append-nil}
use Rattle.std.proofs.lemmas.List.Sums.{count_by-le-length}
use Rattle.fd_lines.specs.Numbers.{numbers_of}
use Rattle.fd_certfile.specs.Lines.{is_blank}
use Rattle.fd_certfile.specs.Blocks.{Version, Whole, Sparse, entries_at, is_entry, is_place, row_of, with_count}
use Rattle.fd_lines.specs.Cuts.{first_number}
use Rattle.fd_certfile.specs.Readings.{AreSteps, HasNext, IsNext, IsNoNext, RowIs, entries_by, kept, row_in, zeros}
use Rattle.fd_lines.proofs.CallerLemmas.{first_some}
use Rattle.fd_certfile.proofs.RowForms.{entries_found, place_is}
use Rattle.fd_certfile.proofs.PairReading.{ArePaired, paired_all, paired_few, paired_more, paired_past, paired_start, paired_wrong}
use Rattle.fd_certfile.proofs.RowReading.{IsTaken, taken_all, taken_more, taken_none, taken_past, taken_start}

-- so many steps were read, up to the place that comes next, and these fields are left
abbrev pub AreRead : Version → Bool → List ℤ → List ℤ → ℕ → List (List ℕ) → ℕ → ℕ → List (List ℕ) → Type 0
AreRead Whole keep old new n all k next rest = IsTaken keep old new all k rest × (next ≡ k)
AreRead Sparse keep old new n all k next rest = ArePaired keep old new n all k next rest

pub read_start : (v : Version) (keep : Bool) (old : List ℤ) (n : ℕ) (all : List (List ℕ)) → AreRead v keep old old n all 0 0 all
read_start Whole keep old n all = (taken_start keep old all, refl)
read_start Sparse keep old n all = paired_start keep old n all

no_zeros : (keep : Bool) (m : ℕ) (new now : List ℤ) → m ≡ 0 → now ≡ new ++ kept keep (zeros m) → new ≡ now
no_zeros keep m new now z e = sym (append-nil new) ∙ ap (λ (l : List ℤ). new ++ l) (sym (none keep)) ∙ sym (e ∙ ap (λ (k : ℕ). new ++ kept keep (zeros k)) z)
  where
    none : (keep : Bool) → kept keep (zeros 0) ≡ []
    none true = refl
    none false = refl

module _ (keep : Bool) (old new : List ℤ) (n : ℕ) (all : List (List ℕ)) (k next : ℕ) (rest : List (List ℕ)) where
  pub read_next : (v : Version) (steps : ℕ) → AreSteps v n steps → k < steps → AreRead v keep old new n all k next rest → HasNext v n next
  read_next Whole steps s l t = omega (arith, s, l, t.1)
  read_next Sparse steps s l t = tt

  pub read_within : (v : Version) (steps : ℕ) → AreSteps v n steps → k ≤ steps → AreRead v keep old new n all k next rest → next ≤ n
  read_within Whole steps s l t = omega (arith, s, l, t.1)
  read_within Sparse steps s l t = t.within

  pub read_more : (v : Version) (now : List ℤ) (behind : ℕ) (more : List (List ℕ)) → AreRead v keep old new n all k next rest
      → IsNext v keep n next new now rest behind more → AreRead v keep old now n all (k + 1) behind more
  read_more Whole now behind more t h =
      (taken_more keep old new all k rest t.0 h.entry more now h.first h.added, omega (arith, t.1, h.behind_is))
  read_more Sparse now behind more t h = paired_more keep old new n all k next rest t h.place h.entry more behind now h.first h.put

  pub read_none : (v : Version) (steps : ℕ) → AreSteps v n steps → k < steps → AreRead v keep old new n all k next rest
      → IsNoNext v n next rest → entries_by v n steps (numbers_of all) ≡ None
  read_none Whole steps s l t h = taken_none keep old new all k rest t.0 n (omega (arith, s, l)) h
  read_none Sparse steps s l t (inl few) = paired_few keep old new n all k next rest t steps l few
  read_none Sparse steps s l t (inr h) = paired_wrong keep old new n all k next rest t steps h.place h.entry h.more h.first h.unput

  pub read_past : (v : Version) (steps : ℕ) → AreSteps v n steps → k ≡ steps → AreRead v keep old new n all k next rest
      → (text : List ℕ) → rest ≡ slice_split is_blank text → entries_by v n steps (numbers_of all) ≡ None
  read_past Whole steps s e t text r = taken_past keep old new all k rest t.0 text r n (e ∙ s)
  read_past Sparse steps s e t text r = paired_past keep old new n all k next rest t text r steps e

  pub read_all : (v : Version) (steps : ℕ) → AreSteps v n steps → k ≡ steps → AreRead v keep old new n all k next rest
      → rest ≡ [] → (now : List ℤ) → now ≡ new ++ kept keep (zeros (n - next))
      → RowIs keep old now (entries_by v n steps (numbers_of all))
  read_all Whole steps s e t r now f =
      subst (λ (l : List ℤ). RowIs keep old l (entries_by Whole n steps (numbers_of all))) (no_zeros keep (n - next) new now (omega (arith, s, e, t.1)) f)
      (taken_all keep old new all k rest t.0 r n (e ∙ s))
  read_all Sparse steps s e t r now f = paired_all keep old new n all k next rest t r steps e now f

-- a number of pairs that no row of n has
module _ (n : ℕ) (count : ℤ) (past : (k : ℕ) → count ≡ pos k → k ≤ n → ⊥) where
  past_entries : (o : Option (List ℤ)) → ((r : List ℤ) → o ≡ Some r → length r ≡ n)
      → option_and_then (with_count count) o ≡ None
  past_entries None h = refl
  past_entries (Some r) h = elim (cases_Bool (is_place (count_by is_entry r) count)) [
    | inl is ↦
        absurd (past (count_by is_entry r) (place_is (count_by is_entry r) count is)
        (omega (arith, h r refl, count_by-le-length is_entry r)))
    | inr isnt ↦ cond-false (is_place (count_by is_entry r) count) _ _ isnt
  ]

  pub past_row : (fields more : List (List ℕ)) → Some (count, more) ≡ first_number fields
      → row_in Sparse n (numbers_of fields) ≡ None
  past_row fields more e = ap (row_in Sparse n) (first_some fields count more e) ∙ at (numbers_of more)
    where
      at : (o : Option (List ℤ)) → option_and_then (row_of Sparse n) (option_map (λ zs. count ∷ zs) o) ≡ None
      at None = refl
      at (Some zs) = past_entries (entries_at n 0 zs) (λ r f. (entries_found n 0 zs r f).0)

-- where no field is left there is no pair
pub no_fields : (n next : ℕ) (fields : List (List ℕ)) → fields ≡ [] → IsNoNext Sparse n next fields
no_fields n next fields e = inl (λ zs f. few zs (sym (ap numbers_of e) ∙ f))
  where
    few : (zs : List ℤ) → Some [] ≡ Some zs → length zs < 2
    few [] f = omega arith
    few (z ∷ zs) f = absurd cc
