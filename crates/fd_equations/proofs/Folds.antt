-- Sums over a list so far: of constants in whole numbers, and of constants and contributions in intervals.
use Rattle.std.proofs.Common.{◌≡◌, ◌∙◌, ℕ, ◌+◌, ◌*◌, ◌<◌, ◌≤◌, ◌^◌, ℤ, pos, neg_ℤ, ◌+ℤ◌, ◌≤ℤ◌, nat_abs, Bool, true, false, cond, eqb, List, [], ◌∷◌, length, take, get_or, None, arith, ap, sym, refl, subst, inl, inr}
use Rattle.std.specs.List.{fold, All}
use Rattle.std.proofs.lemmas.Int.{ints}
use Rattle.std.proofs.lemmas.Bool.{cases_eq, eq-eqb, ne_eqb}
use Rattle.std.proofs.lemmas.List.{take_more, get_or-set_same, get_or-set_other, length-set, take_all}
use Rattle.std.proofs.lemmas.List.Elements.{All-get_or}
use Rattle.std.proofs.lemmas.List.Sums.{fold-append}
use Rattle.fd_mat.specs.fd_exact.States.{part}
use Rattle.fd_pattern.specs.fd_arith.Interval.{capped}
use Rattle.fd_pattern.specs.fd_arith.declared.terms.Term.{Term}
use Rattle.fd_pattern.specs.fd_system.declared.constants.Constant.{Constant}
use Rattle.fd_pattern.specs.fd_system.Residual.{constant_added as interval_added, term_added, linear_interval, with_constant, with_term}
use Rattle.fd_pattern.proofs.CallerLemmas.fd_system.{length-constants, length-terms, row-constants, row-terms}
use Rattle.fd_pattern.specs.Conditions.{IsKnown}
use Rattle.fd_equations.specs.Rounded.{list_of, constant_sum, constant_added}
use Rattle.fd_equations.proofs.Lists.{list_z_more, length-list_of, get_or-list_of, list_of-ext}

-- a fold over one element more
pub fold_more : {A B : Type 0} (f : B → A → B) (z : B) (xs : List A) (k : ℕ) (d : A) → k < length xs
    → fold f z (take (k + 1) xs) ≡ f (fold f z (take k xs)) (get_or xs k d)
fold_more f z xs k d h = ap (fold f z) (take_more xs k d h) ∙ fold-append f z (take k xs) (get_or xs k d ∷ [])

-- ---- constants in whole numbers

pub part_added : (rows : List ℤ) (c : Constant) (row : ℕ) → c.row < length rows
    → part (constant_added rows c) row ≡ (part rows row +ℤ cond (eqb c.row row) c.value (pos 0))
part_added rows c row h = elim (cases_eq c.row row) [
  | inl e ↦ subst (λ r. part (constant_added rows c) r ≡ (part rows r +ℤ cond (eqb c.row r) c.value (pos 0))) e
      (rw (eq-eqb c.row c.row refl) (get_or-set_same rows c.row (part rows c.row +ℤ c.value) (pos 0) h))
  | inr ne ↦ rw (ne_eqb c.row row ne) (get_or-set_other rows c.row row (part rows c.row +ℤ c.value) (pos 0) (λ q. ne (sym q)) ∙ plain (part rows row))
]
  where
    plain : (a : ℤ) → a ≡ (a +ℤ pos 0)
    plain a = omega (arith, ints)

added_size : (z v : ℤ) (b : Bool) (m : ℕ) → nat_abs z ≤ m → nat_abs v ≤ 2 ^ 60 → nat_abs (z +ℤ cond b v (pos 0)) ≤ m + 2 ^ 60
added_size z v true m h k = omega (arith, ints)
added_size z v false m h k = omega (arith, ints)

-- the sums so far
pub record SumsTo (rows : List ℤ) (cs : List Constant) (size k : ℕ) : Type 0 where
  pub long : length rows ≡ size
  pub small : (row : ℕ) → nat_abs (part rows row) ≤ k * 2 ^ 60
  pub sums : (row : ℕ) → row < size → part rows row ≡ constant_sum (take k cs) row

pub sums_start : (rows : List ℤ) (cs : List Constant) → ((row : ℕ) → part rows row ≡ pos 0) → SumsTo rows cs (length rows) 0
sums_start rows cs h = record { long = refl; small = λ row. rw (h row) (omega arith); sums = λ row l. h row }

pub sums_more : (rows : List ℤ) (cs : List Constant) (size k : ℕ) (d : Constant) → k < length cs
    → All (IsKnown size) cs → SumsTo rows cs size k → SumsTo (constant_added rows (get_or cs k d)) cs size (k + 1)
sums_more rows cs size k d l known h =
    let c = get_or cs k d in
    let is : IsKnown size c = All-get_or (IsKnown size) cs k d l known in
    let inside : c.row < length rows = subst (λ n. c.row < n) (sym h.long) is.row in
    record {
      long = length-set rows c.row (part rows c.row +ℤ c.value) ∙ h.long;
      small = λ row.
          subst (λ z. nat_abs z ≤ (k + 1) * 2 ^ 60) (sym (part_added rows c row inside))
          (subst (λ m. nat_abs (part rows row +ℤ cond (eqb c.row row) c.value (pos 0)) ≤ m) (next k)
          (added_size (part rows row) c.value (eqb c.row row) (k * 2 ^ 60) (h.small row)
          (value_size c.value is.least is.most)));
      sums = λ row m. part_added rows c row inside
          ∙ ap (λ z. z +ℤ cond (eqb c.row row) c.value (pos 0)) (h.sums row m)
          ∙ sym (list_z_more (λ c. cond (eqb c.row row) c.value (pos 0)) cs k d l);
    }
  where
    next : (k : ℕ) → k * 2 ^ 60 + 2 ^ 60 ≡ (k + 1) * 2 ^ 60
    next k = omega arith

    value_size : (v : ℤ) → neg_ℤ (pos (2 ^ 60)) ≤ℤ v → v ≤ℤ pos (2 ^ 60) → nat_abs v ≤ 2 ^ 60
    value_size v p q = omega (arith, ints)

pub sums_end : (rows : List ℤ) (cs : List Constant) (size k : ℕ) → length cs ≤ k → SumsTo rows cs size k → rows ≡ list_of size (constant_sum cs)
sums_end rows cs size k l h = list_of-ext rows size (constant_sum cs) (pos 0) h.long (λ i m. h.sums i m ∙ ap (λ ts. constant_sum ts i) (take_all k cs l))

-- ---- rows of intervals

pub linear_table : (size : ℕ) (cs : List Constant) (ts : List Term) (x : List ℤ)
    → fold (term_added x) (fold interval_added (list_of size (λ _. capped (pos 0) (pos 0))) cs) ts
    ≡ list_of size (linear_interval cs ts x)
linear_table size cs ts x =
    let zero = list_of size (λ _. capped (pos 0) (pos 0)) in
    let rows = fold interval_added zero cs in
    let long : length rows ≡ size = length-constants zero cs ∙ length-list_of size (λ _. capped (pos 0) (pos 0)) in
    list_of-ext (fold (term_added x) rows ts) size (linear_interval cs ts x) None (length-terms x rows ts ∙ long) (λ l m.
    row-terms x rows ts l (subst (λ n. l < n) (sym long) m)
    ∙ ap (λ a. fold (with_term x l) a ts) (row-constants zero cs l (subst (λ n. l < n) (sym (length-list_of size (λ _. capped (pos 0) (pos 0)))) m)
    ∙ ap (λ a. fold (with_constant l) a cs) (get_or-list_of size (λ _. capped (pos 0) (pos 0)) l None m)))
