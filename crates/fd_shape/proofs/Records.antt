-- The records of bytes, one after another.
use Rattle.std.proofs.Common.{◌≡◌, ◌≤◌, ◌<◌, ◌+◌, ◌==◌, ◌||◌, if◌then◌else◌, ℕ, zero, suc, List, [], ◌∷◌, length, Option, Some, None, Bool, true, false, refl, ap, subst, add-one, arith, inl, inr}
use Rattle.std.specs.Prelude.{⊤}
use Rattle.std.proofs.lemmas.Bool.{cases_Bool}
use Rattle.csv.specs.Machine.{Read, next_record, ends_at_end, step, in_field, start_field, start_record, is_end}
use Rattle.csv.specs.Reading.{default_config, records_from, records_next}
use Rattle.csv.specs.declared.parser.Action.{Action}
use Rattle.csv.specs.declared.parser.Action.TheVariants as act
use Rattle.csv.specs.declared.parser.State.{State}
use Rattle.csv.specs.declared.parser.State.TheVariants as st
use Rattle.fd_shape.specs.Left.{records_after}

-- an action that ends a record leaves a state between two records
abbrev Between : State × Action → Type 0
Between p = is_end p.1 ≡ true → ends_at_end p.0 ≡ false

either : (b : Bool) (p q : State × Action) → Between p → Between q → Between (if b then p else q)
either true p q h k = h
either false p q h k = k

ended : (b : Bool) → Between (if b then st.AfterCr else st.StartRecord, act.EndRecord)
ended true e = refl
ended false e = refl

in_field_between : (c : ℕ) → Between (in_field default_config c)
in_field_between c = either (c == 44) _ _ (λ e. cc e) (either ((c == 13) || (c == 10)) _ _ (ended (c == 13)) (λ e. cc e))

start_field_between : (c : ℕ) → Between (start_field default_config c)
start_field_between c = either (c == 34) _ _ (λ e. cc e) (in_field_between c)

start_record_between : (c : ℕ) → Between (start_record default_config c)
start_record_between c = either ((c == 13) || (c == 10)) _ _ (λ e. refl) (start_field_between c)

step_between : (s : State) (c : ℕ) → Between (step default_config s c)
step_between st.StartRecord c = start_record_between c
step_between st.StartField c = start_field_between c
step_between st.InField c = in_field_between c
step_between st.InQuoted c = either (c == 34) _ _ (λ e. cc e) (λ e. cc e)
step_between st.InEscape c = λ e. cc e
step_between st.AfterQuote c = either (c == 34) _ _ (λ e. cc e) (in_field_between c)
step_between st.InComment c = either (c == 10) _ _ (λ e. refl) (λ e. cc e)
step_between st.AfterCr c = either (c == 10) _ _ (λ e. refl) (start_record_between c)

-- behind a record fewer than so many bytes are left, in a state between two records
abbrev Behind : ℕ → Option Read → Type 0
Behind n None = ⊤
Behind n (Some p) = (length p.2 < n) × (ends_at_end p.1 ≡ false)

behind_more : (n m : ℕ) (o : Option Read) → n ≤ m → Behind n o → Behind m o
behind_more n m None h b = tt
behind_more n m (Some p) h b = ((let left = b.0 in omega arith), b.1)

behind : (s : State) (fields : List (List ℕ)) (field xs : List ℕ)
    → Behind (suc (length xs)) (next_record default_config s fields field xs)
unfolding next_record
behind s fields field [] = elim (cases_Bool (ends_at_end s)) [
  | inl ends ↦ rw ends (omega arith, refl)
  | inr goes ↦ rw goes tt
]
behind s fields field (c ∷ rest) = elim (cases_Bool (is_end (step default_config s c).1)) [
  | inl ends ↦ rw ends (omega arith, step_between s c ends)
  | inr goes ↦ rw goes (behind_more (suc (length rest)) (suc (suc (length rest))) _ (omega arith) (behind (step default_config s c).0 _ _ rest))
]

-- a record takes one byte at least
behind_record : (s : State) (xs : List ℕ) → ends_at_end s ≡ false
    → Behind (length xs) (next_record default_config s [] [] xs)
unfolding next_record
behind_record s [] between = rw between tt
behind_record s (c ∷ rest) between = elim (cases_Bool (is_end (step default_config s c).1)) [
  | inl ends ↦ rw ends (omega arith, step_between s c ends)
  | inr goes ↦ rw goes (behind (step default_config s c).0 _ _ rest)
]

-- enough records are all records
enough : (n m : ℕ) (s : State) (xs : List ℕ) → ends_at_end s ≡ false → length xs < n → length xs < m
    → records_from default_config n s xs ≡ records_from default_config m s xs
unfolding records_from
enough zero m s xs between h k = absurd (omega arith)
enough (suc n) zero s xs between h k = absurd (omega arith)
enough (suc n) (suc m) s xs between h k =
    cases (λ p fewer at. enough n m p.1 p.2 at (omega arith) (omega arith)) (next_record default_config s [] [] xs) (behind_record s xs between)
  where
    cases : ((p : Read) → length p.2 < length xs → ends_at_end p.1 ≡ false → records_from default_config n p.1 p.2 ≡ records_from default_config m p.1 p.2)
        → (o : Option Read) → Behind (length xs) o
        → records_next (records_from default_config n) o ≡ records_next (records_from default_config m) o
    cases more None b = refl
    cases more (Some p) b = ap (λ rows. p.0 ∷ rows) (more p b.0 b.1)

pub records_none : (s : State) (xs : List ℕ) → next_record default_config s [] [] xs ≡ None → records_after s xs ≡ []
unfolding records_after records_from
records_none s xs e = rw (add-one (length xs), e) refl

pub records_one : (s : State) (xs : List ℕ) (p : Read) → ends_at_end s ≡ false
    → next_record default_config s [] [] xs ≡ Some p
    → (ends_at_end p.1 ≡ false) × (records_after s xs ≡ p.0 ∷ records_after p.1 p.2)
unfolding records_after records_from
records_one s xs p between e =
    let left = subst (Behind (length xs)) e (behind_record s xs between) in
    (left.1, rw (add-one (length xs), e) (ap (λ rows. p.0 ∷ rows) (enough (length xs) (length p.2 + 1) p.1 p.2 left.1 left.0 (omega arith))))
