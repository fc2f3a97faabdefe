-- Rows that are noted in columns.
use Rattle.std.proofs.Common.{◌≡◌, ◌≢◌, ◌⊎◌, inl, inr, ℕ, ◌<◌, ℤ, pos, List, [], ◌∷◌, ◌++◌, length, set, arith, refl, ap, sym, ◌∙◌, subst}
use Rattle.std.specs.List.{Contains}
use Rattle.std.proofs.lemmas.Bool.{cases_lt}
use Rattle.std.proofs.lemmas.List.{length-set}
use Rattle.std.proofs.lemmas.List.Elements.{Contains-append_left, Contains-push, Contains-push_cases}
use Rattle.fd_derived.specs.declared.entries.Entry.{Entry}
use Rattle.fd_triangles.specs.declared.columns.Column.{Column}
use Rattle.fd_triangles.specs.Columns.{HasNoted, Holds, IsNoted, rows_in, rows_of}
use Rattle.fd_triangles.specs.Rows.{WithNumber, number}
use Rattle.fd_triangles.proofs.Entries.{choose_other, near_or}
use Rattle.fd_triangles.proofs.Lists.{at_other, at_same, pushed_new, pushed_old, pushed_past}

module _ (columns : List Column) (place index : ℕ) (x : Column) (place_in : place < length columns)
    (more : rows_of x ≡ rows_in columns place ++ index ∷ []) where
  new : List Column
  new = set columns place x

  here : rows_in new place ≡ rows_in columns place ++ index ∷ []
  unfolding new
  here = at_same rows_of [] columns place x place_in ∙ more

  there : (c : ℕ) → place ≢ c → rows_in new c ≡ rows_in columns c
  unfolding new
  there c apart = at_other rows_of [] columns place c x apart

  kept : (c i : ℕ) → Holds columns c i → Holds new c i
  unfolding Holds
  kept c i h = elim (near_or place c) [
    | inl same ↦ subst (λ k. Contains (rows_in new k) i) same (subst (λ l. Contains l i) (sym here)
        (Contains-append_left (rows_in columns place) (index ∷ []) i (subst (λ k. Contains (rows_in columns k) i) (sym same) h)))
    | inr apart ↦ subst (λ l. Contains l i) (sym (there c apart)) h
  ]

  noted : Holds new place index
  unfolding Holds
  noted = subst (λ l. Contains l index) (sym here) (Contains-push (rows_in columns place) index)

  from : (c i : ℕ) → Holds new c i → Holds columns c i ⊎ (i ≡ index)
  unfolding Holds
  from c i h = elim (near_or place c) [
    | inl same ↦ elim (Contains-push_cases (rows_in columns place) index i
        (subst (λ l. Contains l i) here (subst (λ k. Contains (rows_in new k) i) (sym same) h))) [
          | inl old ↦ inl (subst (λ k. Contains (rows_in columns k) i) same old)
          | inr e ↦ inr (sym e)
        ]
    | inr apart ↦ inl (subst (λ l. Contains l i) (there c apart) h)
  ]

  pub one_noted : IsNoted columns (set columns place x) place index
  unfolding new
  one_noted = record { long = length-set columns place x; kept = kept; noted = noted; from = from }

-- nothing is noted where no number comes up
pub none_noted : (columns : List Column) (before now : List Entry) (index : ℕ)
    → ((c : ℕ) → number now c ≢ pos 0 → number before c ≢ pos 0) → HasNoted columns columns before now index
none_noted columns before now index h = record {
  long = refl;
  kept = λ c i holds. holds;
  noted = λ c ne. inl (h c ne);
  from = λ c i holds. inl holds;
}

-- a number comes up at one place
pub place_noted : (columns new : List Column) (before now : List Entry) (place index : ℕ) (units : ℤ)
    → WithNumber before now place units → IsNoted columns new place index → HasNoted columns new before now index
place_noted columns new before now place index units w is = record {
  long = is.long;
  kept = is.kept;
  noted = λ c ne. elim (near_or place c) [
    | inl same ↦ inr (subst (λ k. Holds new k index) same is.noted)
    | inr apart ↦ inl (λ z. ne (w c ∙ choose_other place c units (number before c) apart ∙ z))
  ];
  from = is.from;
}

-- a number at one place is written, which wasn't 0, or is now
pub value_noted : (columns : List Column) (before now : List Entry) (place index : ℕ) (units : ℤ)
    → WithNumber before now place units → (number now place ≢ pos 0 → number before place ≢ pos 0)
    → HasNoted columns columns before now index
value_noted columns before now place index units w h = none_noted columns before now index (λ c ne. elim (near_or place c) [
  | inl same ↦ subst (λ k. number before k ≢ pos 0) same (h (subst (λ k. number now k ≢ pos 0) (sym same) ne))
  | inr apart ↦ λ z. ne (w c ∙ choose_other place c units (number before c) apart ∙ z)
])

-- one step after another
pub noted_on : (a b c : List Column) (x y z : List Entry) (index : ℕ) → HasNoted a b x y index → HasNoted b c y z index
    → HasNoted a c x z index
noted_on a b c x y z index f g = record {
  long = g.long ∙ f.long;
  kept = λ k i h. g.kept k i (f.kept k i h);
  noted = λ k ne. elim (g.noted k ne) [
    | inl was ↦ elim (f.noted k was) [ inl old ↦ inl old | inr h ↦ inr (g.kept k index h) ]
    | inr h ↦ inr h
  ];
  from = λ k i h. elim (g.from k i h) [ inl was ↦ f.from k i was | inr e ↦ inr e ];
}

-- ---- columns in which no row is noted

nothing : (l : List ℕ) (i : ℕ) → l ≡ [] → Contains l i → ⊥
nothing l i e h = omega (arith, h.1, ap length e)

pub none_held : (columns : List Column) → columns ≡ [] → (c i : ℕ) → Holds columns c i → ⊥
unfolding Holds
none_held columns e c i h = nothing (rows_in columns c) i (ap (λ l. rows_in l c) e) h

pub none_more : (columns : List Column) (x : Column) → rows_of x ≡ [] → ((c i : ℕ) → Holds columns c i → ⊥)
    → (c i : ℕ) → Holds (columns ++ x ∷ []) c i → ⊥
unfolding Holds
none_more columns x x_is none c i h = elim (cases_lt c (length columns)) [
  | inl low ↦ none c i (subst (λ l. Contains l i) (pushed_old rows_of [] columns c x low) h)
  | inr high ↦ elim (near_or c (length columns)) [
    | inl same ↦ nothing (rows_in (columns ++ x ∷ []) c) i (pushed_new rows_of [] columns c x same ∙ x_is) h
    | inr apart ↦ nothing (rows_in (columns ++ x ∷ []) c) i (pushed_past rows_of [] columns c x (grind (arith, high, apart))) h
  ]
]
