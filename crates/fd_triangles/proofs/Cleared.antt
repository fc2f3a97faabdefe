-- A derived row that is cleared, from its entry that is taken out and what it loses then.
use Rattle.std.proofs.Common.{◌≡◌, ◌≢◌, inl, inr, ℕ, ◌<◌, ◌≤◌, ◌^◌, ℤ, pos, nat_abs, List, [], ◌∷◌, ◌++◌, ap, sym, ◌∙◌, subst, Result, Ok, Err, MatchResult, IfOk}
use Rattle.fd_derived.specs.declared.entries.Entry.{Entry}
use Rattle.fd_triangles.specs.Columns.{HasNoted}
use Rattle.fd_triangles.specs.Elimination.{less}
use Rattle.fd_triangles.specs.Rows.{WithNumber, number}
use Rattle.fd_triangles.specs.Steps.{IfRange, IsCleared, IsClearedPast, IsLostPast, IsWithMultiple, Parts, factor_of, left_by}
use Rattle.fd_triangles.specs.declared.columns.Column.{Column}
use Rattle.fd_triangles.specs.declared.fault.Stop.{Stop}
use Rattle.fd_triangles.specs.declared.fault.Stop.TheVariants.{Range, NoMemory}
use Rattle.fd_triangles.proofs.Entries.{choose_other, choose_same, near_or}
use Rattle.fd_triangles.proofs.Losing.{less_none}
use Rattle.fd_triangles.proofs.Noted.{none_noted, noted_on}
use Rattle.fd_triangles.proofs.Showing.{left_here, left_there}

module _ (old left : List Entry) (pivot : Entry) (others : List Entry) (f : ℤ) (w : WithNumber old left pivot.place (pos 0))
    (apart : number others pivot.place ≡ pos 0) (f_is : f ≡ factor_of old pivot) where
  taken_here : (c : ℕ) → pivot.place ≡ c → number left c ≡ pos 0
  taken_here c same = w c ∙ choose_same pivot.place c (pos 0) (number old c) same

  taken_there : (c : ℕ) → pivot.place ≢ c → number left c ≡ number old c
  taken_there c off = w c ∙ choose_other pivot.place c (pos 0) (number old c) off

  none_here : (c : ℕ) → pivot.place ≡ c → less (number left c) f (number others c) ≡ pos 0
  none_here c same =
      ap (λ x. less x f (number others c)) (taken_here c same)
      ∙ ap (less (pos 0) f) (ap (number others) (sym same) ∙ apart)
      ∙ less_none (pos 0) f

  pub left_is_lost : (c : ℕ) → less (number left c) f (number others c) ≡ left_by old pivot others c
  left_is_lost c = elim (near_or pivot.place c) [
    | inl same ↦ none_here c same ∙ sym (left_here old pivot others c (sym same))
    | inr off ↦ ap (λ x. less x f (number others c)) (taken_there c off)
        ∙ ap (λ g. less (number old c) g (number others c)) f_is
        ∙ sym (left_there old pivot others c (λ e. off (sym e)))
  ]

  pub cleared_from_lost : (n t : ℕ) (before after new : Parts) → before.left ≡ old → before.equations ≡ after.equations
      → before.others ≡ after.others → after.left ≡ left → nat_abs f ≤ 2 ^ 62
      → IsWithMultiple n after new f others t → IsCleared n before new pivot others t
  cleared_from_lost n t before after new old_is equations others_is left_is small is =
      let f_as : f ≡ factor_of before.left pivot = f_is ∙ ap (λ l. factor_of l pivot) (sym old_is) in
      record {
        equations = is.equations ∙ sym equations;
        small = subst (λ g. nat_abs g ≤ 2 ^ 62) f_as small;
        never = λ z. is.never (f_as ∙ z) ∙ sym others_is;
        once = λ ne. subst (λ g. new.others ≡ before.others ++ record { place = t; units = g } ∷ []) f_as
            (is.once (λ z. ne (sym f_as ∙ z)) ∙ ap (λ l. l ++ record { place = t; units = f } ∷ []) (sym others_is));
        left = is.left;
        numbers = λ c. is.numbers c ∙ ap (λ l. less (number l c) f (number others c)) left_is ∙ left_is_lost c
            ∙ ap (λ l. left_by l pivot others c) (sym old_is);
      }

  pub past_from_lost : IsLostPast left f others → IsClearedPast old pivot others
  past_from_lost past = inr (past.0, subst (λ z. 2 ^ 62 < nat_abs z) (left_is_lost past.0) past.1)

-- an entry taken out notes nothing
pub noted_taken : (columns new : List Column) (old left now : List Entry) (place index : ℕ) → WithNumber old left place (pos 0)
    → HasNoted columns new left now index → HasNoted columns new old now index
noted_taken columns new old left now place index w noted =
    noted_on columns columns new old left now index
    (none_noted columns old left index (λ c ne. elim (near_or place c) [
      | inl same ↦ absurd (ne (w c ∙ choose_same place c (pos 0) (number old c) same))
      | inr off ↦ λ z. ne (w c ∙ choose_other place c (pos 0) (number old c) off ∙ z)
    ]))
    noted

-- ---- results

pub match_on : (r : Result (Unit {0}) Stop) (A B P Q : Type 0) → (A → B) → (P → Q)
    → MatchResult r (λ _. A) (λ stop. IfRange stop P) → MatchResult r (λ _. B) (λ stop. IfRange stop Q)
match_on (Ok u) A B P Q f g h = f h
match_on (Err Range) A B P Q f g h = g h
match_on (Err NoMemory) A B P Q f g h = tt

pub ok_on : (r : Result (Unit {0}) Stop) (A B : Type 0) → (A → B) → IfOk r (λ _. A) → IfOk r (λ _. B)
ok_on (Ok u) A B f h = f h
ok_on (Err stop) A B f h = tt

pub if_on : (stop : Stop) (P Q : Type 0) → (P → Q) → IfRange stop P → IfRange stop Q
if_on Range P Q g h = g h
if_on NoMemory P Q g h = tt
