-- Whole numbers within 2^120, and sums of columns.
use Rattle.std.proofs.Common.{◌≡◌, ◌≢◌, ◌∙◌, ℕ, zero, suc, ◌+◌, ◌<◌, ◌≤◌, ◌^◌, ℤ, pos, ◌+ℤ◌, ◌*ℤ◌, nat_abs, true, false, List, length, set, Option, Some, None, IfNone, IfSome, is_some, FitsSigned, to_z, of_z, ◌⊎◌, arith, ap, refl, sym, subst, inl, inr}
use Rattle.std.specs.Int.{w64, w128}
use Rattle.std.proofs.lemmas.Int.{ints, to_z-of_z, fits_signed_from_abs}
use Rattle.std.proofs.lemmas.Bool.{cases_eq}
use Rattle.std.proofs.lemmas.List.{get_or-set_same, get_or-set_other, length-set}
use Rattle.fd_enclosure.specs.fd_exact.States.{part}
use Rattle.fd_enclosure.specs.fd_arith.Limits.{Fits, IsUnits, within}
use Rattle.fd_enclosure.specs.fd_arith.Nearest.{within-Fits, within-IsUnits, within-past}
use Rattle.fd_enclosure.specs.fd_arith.Wide.{wide_product, wide_sum}
use Rattle.fd_enclosure.specs.fd_equations.Amounts.{Amount, AreCells, IsNothingElsewhere, IsRowOf, cell_at}
use Rattle.fd_enclosure.specs.fd_equations.Matrices.{MatrixView}
use Rattle.fd_enclosure.specs.fd_equations.declared.cells.Cell.{Cell}
use Rattle.fd_enclosure.specs.Bounds.{wide_sums}
use Rattle.fd_cert.specs.Columns.{AreColumns, AreUnits, HasEntries, IsRow, column_sum, sum_more}

pub kept_by : (z : ℤ) → nat_abs z ≤ 2 ^ 126 → to_z w128 (of_z w128 z) ≡ z
kept_by z h = to_z-of_z w128 z (fits_signed_from_abs w128 z (omega arith))

-- a number of 64 bits, in 128
widened : (n : ℕ) → to_z w128 (of_z w128 (to_z w64 n)) ≡ to_z w64 n
widened n = omega (arith, ints)

pub widened_is : (z : ℤ) → FitsSigned w64 z → to_z w128 (of_z w128 (to_z w64 (of_z w64 z))) ≡ z
widened_is z f = widened (of_z w64 z) ∙ to_z-of_z w64 z f

pub fits_by : (z : ℤ) → nat_abs z ≤ 2 ^ 120 → Fits z
fits_by z h = (omega (arith, ints), omega (arith, ints))

pub size_by : (z : ℤ) → Fits z → nat_abs z ≤ 2 ^ 120
size_by z f = omega (arith, ints, f.0, f.1)

-- a number of this size is itself
pub within_small : (z : ℤ) → nat_abs z ≤ 2 ^ 120 → within z ≡ Some z
within_small z h = within-Fits z (fits_by z h)

pub product_past : (a b : ℤ) → ¬ (FitsSigned w128 (a *ℤ b)) → wide_product (Some a) (Some b) ≡ None
product_past a b f = within-past (a *ℤ b) (λ w. f (omega (arith, ints, w.0, w.1)))

-- a number is within the limit where it is one
pub unit_size : (o : Option ℤ) → IsUnits o → IfSome o (λ s. nat_abs s ≤ 2 ^ 120)
unit_size None h = tt
unit_size (Some s) h = size_by s h

pub within_size : (z : ℤ) (s : ℤ) → within z ≡ Some s → nat_abs s ≤ 2 ^ 120
within_size z s e = size_by s (subst IsUnits e (within-IsUnits z))

-- ---- none

pub sum_none : (o : Option ℤ) → wide_sum o None ≡ None
sum_none None = refl
sum_none (Some a) = refl

pub sums_stay : (f : ℕ → Option ℤ) (m n : ℕ) → m ≤ n → wide_sums f m ≡ None → wide_sums f n ≡ None
sums_stay f m zero h e = let z : m ≡ 0 = omega arith in sym (ap (wide_sums f) z) ∙ e
sums_stay f m (suc n) h e = elim (cases_eq m (suc n)) [
  | inl q ↦ sym (ap (wide_sums f) q) ∙ e
  | inr ne ↦ ap (λ o. wide_sum o (f n)) (sums_stay f m n (omega arith) e)
]

-- a summand that is none
pub sums_past : (f : ℕ → Option ℤ) (n j : ℕ) → j < n → f j ≡ None → wide_sums f n ≡ None
sums_past f n j l e = sums_stay f (suc j) n (omega arith) (ap (wide_sum (wide_sums f j)) e ∙ sum_none (wide_sums f j))

pub sums_same : (f g : ℕ → Option ℤ) (n : ℕ) → ((j : ℕ) → j < n → f j ≡ g j) → wide_sums f n ≡ wide_sums g n
sums_same f g zero h = refl
sums_same f g (suc n) h = λ i. wide_sum (sums_same f g n (λ j l. h j (omega arith)) i) (h n (omega arith) i)

-- ---- a row

-- a product with an entry of 0 adds nothing
pub nothing_more : (s factor : ℤ) → nat_abs s ≤ 2 ^ 120 → sum_more s factor (pos 0) ≡ Some s
nothing_more s factor h =
    let zero : (factor *ℤ pos 0) ≡ pos 0 = omega (arith, ints) in
    let same : (s +ℤ pos 0) ≡ s = omega (arith, ints) in
    ap (λ z. wide_sum (Some s) (within z)) zero ∙ ap (wide_sum (Some s)) (within_small (pos 0) (omega arith)) ∙ ap within same ∙ within_small s h

-- the first k cells have been added
pub record IsPartly (cells : List Cell) (factor : ℤ) (old new : List ℤ) (k : ℕ) : Type 0 where
  pub long : length new ≡ length old
  pub units : AreUnits new
  pub done : (i : ℕ) → i < k
      → sum_more (part old (cell_at cells i).col) factor (cell_at cells i).units ≡ Some (part new (cell_at cells i).col)
  pub left : (j : ℕ) → ((i : ℕ) → i < k → (cell_at cells i).col ≢ j) → part new j ≡ part old j

-- a cell stands in the column, or none of the first n does
pub find : (cells : List Cell) (j n : ℕ)
    → ((k : ℕ) × (k < n) × ((cell_at cells k).col ≡ j)) ⊎ ((k : ℕ) → k < n → (cell_at cells k).col ≢ j)
find cells j zero = inr (λ k l. absurd (omega arith))
find cells j (suc n) = elim (cases_eq (cell_at cells n).col j) [
  | inl e ↦ inl (n, omega arith, e)
  | inr ne ↦ elim (find cells j n) [
    | inl (k, l, e) ↦ inl (k, omega arith, e)
    | inr none ↦ inr (λ k l. elim (cases_eq k n) [ inl e ↦ subst (λ m. (cell_at cells m).col ≢ j) (sym e) ne | inr q ↦ none k (omega arith) ])
  ]
]

module _ (cells : List Cell) (factor : ℤ) (old : List ℤ) where
  pub partly_start : AreUnits old → IsPartly cells factor old old 0
  partly_start h = record { long = refl; units = h; done = λ i l. absurd (omega arith); left = λ j away. refl }

  -- where the next cell stands nothing was added yet
  pub not_yet : (new : List ℤ) (k width : ℕ) → AreColumns width cells → k < length cells
      → IsPartly cells factor old new k → part new (cell_at cells k).col ≡ part old (cell_at cells k).col
  not_yet new k width c l h = h.left (cell_at cells k).col (λ i m. let r = c.rising i k m l in omega arith)

  pub partly_more : (new : List ℤ) (k : ℕ) (sum : ℤ) → AreColumns (length old) cells → k < length cells
      → IsPartly cells factor old new k
      → sum_more (part new (cell_at cells k).col) factor (cell_at cells k).units ≡ Some sum → nat_abs sum ≤ 2 ^ 120
      → IsPartly cells factor old (set new (cell_at cells k).col sum) (k + 1)
  partly_more new k sum c l h e small =
      let at = (cell_at cells k).col in
      let inside : at < length new = subst (λ n. at < n) (sym h.long) (c.inside k l) in
      let same = get_or-set_same new at sum (pos 0) inside in
      record {
        long = length-set new at sum ∙ h.long;
        units = λ j. elim (cases_eq j at) [
          | inl q ↦ subst (λ m. nat_abs (part (set new at sum) m) ≤ 2 ^ 120) (sym q) (subst (λ z. nat_abs z ≤ 2 ^ 120) (sym same) small)
          | inr ne ↦ subst (λ z. nat_abs z ≤ 2 ^ 120) (sym (get_or-set_other new at j sum (pos 0) ne)) (h.units j)
        ];
        done = λ i m. elim (cases_eq i k) [
          | inl q ↦
              subst (λ n. sum_more (part old (cell_at cells n).col) factor (cell_at cells n).units ≡ Some (part (set new at sum) (cell_at cells n).col)) (sym q)
              (ap (λ z. sum_more z factor (cell_at cells k).units) (sym (not_yet new k (length old) c l h)) ∙ e ∙ ap Some (sym same))
          | inr ne ↦
              let r = c.rising i k (omega arith) l in
              let apart : (cell_at cells i).col ≢ at = omega arith in
              h.done i (omega arith) ∙ ap Some (sym (get_or-set_other new at (cell_at cells i).col sum (pos 0) apart))
        ];
        left = λ j away.
            let apart : j ≢ at = (λ q. away k (omega arith) (sym q)) in
            get_or-set_other new at j sum (pos 0) apart ∙ h.left j (λ i m. away i (omega arith));
      }

  -- the cell at which the sum passes the limit
  pub partly_past : (new : List ℤ) (k : ℕ) (at : ℕ → ℤ) → AreColumns (length old) cells → k < length cells
      → IsPartly cells factor old new k
      → sum_more (part new (cell_at cells k).col) factor (cell_at cells k).units ≡ None → IsRow cells at
      → ((cell_at cells k).col < length old) × (sum_more (part old (cell_at cells k).col) factor (at (cell_at cells k).col) ≡ None)
  partly_past new k at c l h e r = (
    c.inside k l,
    ap (λ z. sum_more z factor (at (cell_at cells k).col)) (sym (not_yet new k (length old) c l h))
        ∙ ap (sum_more (part new (cell_at cells k).col) factor) (sym (r.each k l))
        ∙ e,
  )

  pub partly_all : (new : List ℤ) (k : ℕ) (at : ℕ → ℤ) → AreUnits old → length cells ≡ k
      → IsPartly cells factor old new k → IsRow cells at → (j : ℕ)
      → sum_more (part old j) factor (at j) ≡ Some (part new j)
  partly_all new k at units e h r j = elim (find cells j (length cells)) [
    | inl (i, l, is) ↦
        subst (λ m. sum_more (part old m) factor (at m) ≡ Some (part new m)) is
        (ap (sum_more (part old (cell_at cells i).col) factor) (sym (r.each i l)) ∙ h.done i (omega arith))
    | inr none ↦
        let away : (i : ℕ) → i < k → (cell_at cells i).col ≢ j = λ i l. none i (omega arith) in
        ap (sum_more (part old j) factor) (r.all j none) ∙ nothing_more (part old j) factor (units j) ∙ ap Some (sym (h.left j away))
  ]

-- ---- columns

pub row_columns : (n row : ℕ) (at : ℕ × ℕ → Amount) (cells : List Cell) → IsRowOf n at row cells → AreColumns n cells
row_columns n row at cells h = record { inside = h.inside; rising = h.rising }

pub row_entries : (n row : ℕ) (at : ℕ × ℕ → Amount) (cells : List Cell) (J : ℕ → ℕ → ℤ) → IsRowOf n at row cells
    → ((l j : ℕ) → (at (l, j)).units ≡ J l j) → IsRow cells (J row)
row_entries n row at cells J h e = record {
  each = λ k l. ap (λ (c : Cell). c.units) (h.each k l) ∙ e row (cell_at cells k).col;
  all = λ col away. sym (e row col) ∙ ap (λ (a : Amount). a.units) (h.all col away);
}

-- the first rows have been added
pub record IsSummed (m : MatrixView) (factors sums : List ℤ) (row : ℕ) : Type 0 where
  pub long : length sums ≡ m.size
  pub units : AreUnits sums
  pub sums_are : (J : ℕ → ℕ → ℤ) → HasEntries m J → (j : ℕ) → column_sum (part factors) J j row ≡ Some (part sums j)

module _ (m : MatrixView) (factors : List ℤ) where
  pub summed_start : (sums : List ℤ) → length sums ≡ m.size → ((j : ℕ) → part sums j ≡ pos 0)
      → IsSummed m factors sums 0
  summed_start sums e z = record {
    long = e;
    units = λ j. subst (λ n. nat_abs n ≤ 2 ^ 120) (sym (z j)) (omega arith);
    sums_are = λ J h j. ap Some (sym (z j));
  }

  pub summed_more : (sums new : List ℤ) (row : ℕ) (factor : ℤ) (cells : List Cell) → factor ≡ part factors row
      → ((at : ℕ × ℕ → Amount) → AreCells m.places m.cells at → IsNothingElsewhere m.places at → IsRowOf m.size at row cells)
      → IsSummed m factors sums row → length new ≡ length sums → AreUnits new
      → ((at : ℕ → ℤ) → IsRow cells at → (j : ℕ) → sum_more (part sums j) factor (at j) ≡ Some (part new j))
      → IsSummed m factors new (row + 1)
  summed_more sums new row factor cells f is h e units g = record {
    long = e ∙ h.long;
    units = units;
    sums_are = λ J has j.
        let next : row + 1 ≡ suc row = omega arith in
        ap (column_sum (part factors) J j) next
        ∙ (λ i. wide_sum (h.sums_are J has j i) (wide_product (Some (sym f i)) (Some (J row j))))
        ∙ g (J row) (row_entries m.size row has.at cells J (is has.at has.cells has.nothing) has.entries) j;
  }

  -- a column that passes the limit in a row
  pub summed_past : (sums : List ℤ) (row : ℕ) (factor : ℤ) (cells : List Cell) (j : ℕ) (J : ℕ → ℕ → ℤ)
      → factor ≡ part factors row
      → ((at : ℕ × ℕ → Amount) → AreCells m.places m.cells at → IsNothingElsewhere m.places at → IsRowOf m.size at row cells)
      → IsSummed m factors sums row → row < m.size → HasEntries m J → sum_more (part sums j) factor (J row j) ≡ None
      → column_sum (part factors) J j m.size ≡ None
  summed_past sums row factor cells j J f is h l has g =
      sums_stay (λ k. wide_product (Some (part factors k)) (Some (J k j))) (suc row) m.size (omega arith)
      ((λ i. wide_sum (h.sums_are J has j i) (wide_product (Some (sym f i)) (Some (J row j))))
      ∙ g)

  pub summed_all : (sums : List ℤ) (row : ℕ) → row ≡ m.size → IsSummed m factors sums row → (J : ℕ → ℕ → ℤ)
      → HasEntries m J → (j : ℕ) → column_sum (part factors) J j m.size ≡ Some (part sums j)
  summed_all sums row e h J has j = ap (column_sum (part factors) J j) (sym e) ∙ h.sums_are J has j

-- ---- sums in 128 bits

pub sum_fits : (a b : ℤ) → nat_abs a ≤ 2 ^ 120 → nat_abs b ≤ 2 ^ 120
    → FitsSigned w128 (to_z w128 (of_z w128 a) +ℤ to_z w128 (of_z w128 b))
sum_fits a b h k = rw (kept_by a (omega arith), kept_by b (omega arith)) (fits_signed_from_abs w128 (a +ℤ b) (omega (arith, ints)))

pub sum_kept : (a b : ℤ) → nat_abs a ≤ 2 ^ 120 → nat_abs b ≤ 2 ^ 120
    → to_z w128 (of_z w128 (to_z w128 (of_z w128 a) +ℤ to_z w128 (of_z w128 b))) ≡ (a +ℤ b)
sum_kept a b h k = rw (kept_by a (omega arith), kept_by b (omega arith)) (kept_by (a +ℤ b) (omega (arith, ints)))

-- ---- what an option says

pub when_none : {X : Type 0} (o : Option X) {P : Type 0} → IfNone o P → is_some o ≡ false → P
when_none None h e = h
when_none (Some x) h e = absurd cc

pub weaker_some : {X : Type 0} (o : Option X) (P Q : X → Type 0) → ((x : X) → P x → Q x) → IfSome o P → IfSome o Q
weaker_some None P Q f h = tt
weaker_some (Some x) P Q f h = f x h

pub when_some : {X : Type 0} (o : Option X) (P : X → Type 0) {Q : Type 0} → ((x : X) → P x → Q) → IfSome o P
    → is_some o ≡ true → Q
when_some None P f h e = absurd cc
when_some (Some x) P f h e = f x h

-- what a sum is, whose parts were read from 128 bits
pub sum_read : (r : Option ℤ) (s f u : ℤ) → nat_abs s ≤ 2 ^ 120 → FitsSigned w128 f → FitsSigned w128 u
    → r ≡ sum_more (to_z w128 (of_z w128 s)) (to_z w128 (of_z w128 f)) (to_z w128 (of_z w128 u)) → r ≡ sum_more s f u
sum_read r s f u h k l e = e ∙ (λ i. sum_more (kept_by s (omega arith) i) (to_z-of_z w128 f k i) (to_z-of_z w128 u l i))

-- a product that was found small
pub product_size : (o : Option ℤ) (f u p : ℤ) → FitsSigned w128 f → FitsSigned w128 u
    → o ≡ wide_product (Some (to_z w128 (of_z w128 f))) (Some (to_z w128 (of_z w128 u))) → o ≡ Some p
    → nat_abs p ≤ 2 ^ 120
product_size o f u p k l e g = within_size (f *ℤ u) p (sym (e ∙ (λ i. wide_product (Some (to_z-of_z w128 f k i)) (Some (to_z-of_z w128 u l i)))) ∙ g)

pub product_read : (o : Option ℤ) (f u : ℤ) → FitsSigned w128 f → FitsSigned w128 u
    → o ≡ wide_product (Some (to_z w128 (of_z w128 f))) (Some (to_z w128 (of_z w128 u)))
    → o ≡ wide_product (Some f) (Some u)
product_read o f u k l e = e ∙ (λ i. wide_product (Some (to_z-of_z w128 f k i)) (Some (to_z-of_z w128 u l i)))

pub none_of : {X : Type 0} (o : Option X) → ((x : X) → ¬ (o ≡ Some x)) → o ≡ None
none_of None h = refl
none_of (Some x) h = absurd (h x refl)

pub when_default : {X : Type 0} (o : Option X) (P : Type 0) → IfNone o P → ((x : X) → ¬ (o ≡ Some x)) → P
when_default None P h e = h
when_default (Some x) P h e = absurd (e x refl)

pub weaker_none : {X : Type 0} (o : Option X) {P Q : Type 0} → (P → Q) → IfNone o P → IfNone o Q
weaker_none None f h = f h
weaker_none (Some x) f h = tt

-- a sum is small where it is one
pub wide_small : (a b : Option ℤ) (s : ℤ) → wide_sum a b ≡ Some s → nat_abs s ≤ 2 ^ 120
wide_small (Some a) (Some b) s e = within_size (a +ℤ b) s e
wide_small (Some a) None s e = absurd cc
wide_small None b s e = absurd cc
