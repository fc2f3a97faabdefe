-- A walk over the cells of a row is the walk over all its columns, for any step to which nothing adds nothing.
use Rattle.std.proofs.Common.{◌≡◌, ◌≢◌, ◌∙◌, ℕ, zero, suc, ◌+◌, ◌<◌, ◌≤◌, ℤ, pos, ◌+ℤ◌, List, [], ◌∷◌, length, arith, ap, refl, sym, inl, inr}
use Rattle.std.specs.List.{fold}
use Rattle.std.proofs.lemmas.Int.{ints}
use Rattle.std.proofs.lemmas.Bool.{cases_eq}
use Rattle.fd_mat.specs.fd_exact.Sums.{list_n, list_z, sum_n, sum_z}
use Rattle.fd_equations.specs.declared.cells.Cell.{Cell}
use Rattle.fd_equations.specs.Amounts.{Amount, IsRowOf, cell_at, cell_of, nothing}
use Rattle.fd_equations.specs.Walks.{CountLaw, WalkLaw, amount_in, run, walk}

-- the cells of m columns from lo on
record IsFrom (lo m : ℕ) (at : ℕ → Amount) (cells : List Cell) : Type 0 where
  low : (k : ℕ) → k < length cells → lo ≤ (cell_at cells k).col
  high : (k : ℕ) → k < length cells → (cell_at cells k).col < lo + m
  rising : (i j : ℕ) → i < j → j < length cells → (cell_at cells i).col < (cell_at cells j).col
  each : (k : ℕ) → k < length cells → cell_at cells k ≡ cell_of (cell_at cells k).col (at (cell_at cells k).col)
  all : (col : ℕ) → lo ≤ col → col < lo + m → ((k : ℕ) → k < length cells → (cell_at cells k).col ≢ col) → at col ≡ nothing

from_tail : (lo m : ℕ) (at : ℕ → Amount) (c : Cell) (cells : List Cell) → IsFrom lo (suc m) at (c ∷ cells) → c.col ≡ lo → IsFrom (suc lo) m at cells
from_tail lo m at c cells h e = record {
  low = λ k l. let r = h.rising 0 (suc k) (omega arith) (omega arith) in omega arith;
  high = λ k l. let r = h.high (suc k) (omega arith) in omega arith;
  rising = λ i j a b. h.rising (suc i) (suc j) (omega arith) (omega arith);
  each = λ k l. h.each (suc k) (omega arith);
  all = λ col a b away. h.all col (omega arith) (omega arith) (λ k l. apart col a away k l);
}
  where
    apart : (col : ℕ) → suc lo ≤ col → ((k : ℕ) → k < length cells → (cell_at cells k).col ≢ col) → (k : ℕ)
        → k < length (c ∷ cells) → (cell_at (c ∷ cells) k).col ≢ col
    apart col a away zero l f = omega arith
    apart col a away (suc k) l f = away k (omega arith) f

from_next : (lo m : ℕ) (at : ℕ → Amount) (cells : List Cell) → IsFrom lo (suc m) at cells
    → ((k : ℕ) → k < length cells → (cell_at cells k).col ≢ lo) → IsFrom (suc lo) m at cells
from_next lo m at cells h away = record {
  low = λ k l. let a = h.low k l in let b : (cell_at cells k).col ≢ lo = away k l in omega arith;
  high = λ k l. let a = h.high k l in omega arith;
  rising = h.rising;
  each = h.each;
  all = λ col a b. h.all col (omega arith) (omega arith);
}

module _ {X : Type 0} (step : X → ℕ → Amount → X) (still : (x : X) (col : ℕ) → step x col nothing ≡ x) (at : ℕ → Amount) where
  walked_from : (m lo : ℕ) (x : X) (cells : List Cell) → IsFrom lo m at cells → walk step x cells ≡ run step at x lo m
  walked_from zero lo x [] h = refl
  walked_from zero lo x (c ∷ cells) h = let a = h.low 0 (omega arith) in let b = h.high 0 (omega arith) in absurd (omega arith)
  walked_from (suc m) lo x [] h =
      let none : at lo ≡ nothing = h.all lo (omega arith) (omega arith) (λ k l. absurd (omega arith)) in
      let same : step x lo (at lo) ≡ x = ap (step x lo) none ∙ still x lo in
      walked_from m (suc lo) x [] (from_next lo m at [] h (λ k l. absurd (omega arith))) ∙ ap (λ y. run step at y (suc lo) m) (sym same)
  walked_from (suc m) lo x (c ∷ cells) h = elim (cases_eq c.col lo) [
    | inl e ↦
        let here : step x c.col (amount_in c) ≡ step x lo (at lo) = ap (step x c.col) (ap amount_in (h.each 0 (omega arith))) ∙ ap (λ n. step x n (at n)) e in
        walked_from m (suc lo) (step x c.col (amount_in c)) cells (from_tail lo m at c cells h e) ∙ ap (λ y. run step at y (suc lo) m) here
    | inr ne ↦
        let away = λ (k : ℕ) (l : k < length (c ∷ cells)). behind lo m c cells h ne k l in
        let none : at lo ≡ nothing = h.all lo (omega arith) (omega arith) away in
        let same : step x lo (at lo) ≡ x = ap (step x lo) none ∙ still x lo in
        walked_from m (suc lo) x (c ∷ cells) (from_next lo m at (c ∷ cells) h away) ∙ ap (λ y. run step at y (suc lo) m) (sym same)
  ]
    where
      behind : (lo m : ℕ) (c : Cell) (cells : List Cell) → IsFrom lo (suc m) at (c ∷ cells) → c.col ≢ lo → (k : ℕ)
          → k < length (c ∷ cells) → (cell_at (c ∷ cells) k).col ≢ lo
      behind lo m c cells h ne zero l e = ne e
      behind lo m c cells h ne (suc k) l e = let a = h.low 0 (omega arith) in let b = h.rising 0 (suc k) (omega arith) l in omega arith

-- for any step, as one that adds in a limited range and remembers that it overflowed
pub walked : {X : Type 0} (step : X → ℕ → Amount → X) → ((x : X) (col : ℕ) → step x col nothing ≡ x)
    → (size row : ℕ) (at : ℕ × ℕ → Amount) (cells : List Cell) (x : X) → IsRowOf size at row cells
    → walk step x cells ≡ run step (λ col. at (row, col)) x 0 size
walked step still size row at cells x h = walked_from step still (λ col. at (row, col)) size 0 x cells (record {
  low = λ k l. omega arith;
  high = λ k l. let a = h.inside k l in omega arith;
  rising = h.rising;
  each = h.each;
  all = λ col a b away. h.all col away;
})

-- ---- sums

run_last : {X : Type 0} (step : X → ℕ → Amount → X) (at : ℕ → Amount) (m lo : ℕ) (x : X)
    → run step at x lo (suc m) ≡ step (run step at x lo m) (lo + m) (at (lo + m))
run_last step at zero lo x = let e : lo ≡ lo + 0 = omega arith in ap (λ n. step x n (at n)) e
run_last step at (suc m) lo x =
    let e : suc lo + m ≡ lo + suc m = omega arith in
    run_last step at m (suc lo) (step x lo (at lo))
    ∙ ap (λ n. step (run step at (step x lo (at lo)) (suc lo) m) n (at n)) e

run_sum_z : (g : ℕ → Amount → ℤ) (at : ℕ → Amount) (m : ℕ) → run (λ a col x. a +ℤ g col x) at (pos 0) 0 m ≡ sum_z (λ col. g col (at col)) m
run_sum_z g at zero = refl
run_sum_z g at (suc m) = let e : 0 + m ≡ m = omega arith in run_last (λ a col x. a +ℤ g col x) at m 0 (pos 0) ∙ (λ i. run_sum_z g at m i +ℤ g (e i) (at (e i)))

run_sum_n : (g : ℕ → Amount → ℕ) (at : ℕ → Amount) (m : ℕ) → run (λ a col x. a + g col x) at 0 0 m ≡ sum_n (λ col. g col (at col)) m
run_sum_n g at zero = refl
run_sum_n g at (suc m) = let e : 0 + m ≡ m = omega arith in run_last (λ a col x. a + g col x) at m 0 0 ∙ (λ i. run_sum_n g at m i + g (e i) (at (e i)))

fold_z : {A : Type 0} (g : A → ℤ) (xs : List A) (x : ℤ) → fold (λ a c. a +ℤ g c) x xs ≡ (x +ℤ list_z g xs)
fold_z g [] x = omega (arith, ints)
fold_z g (c ∷ xs) x = fold_z g xs (x +ℤ g c) ∙ omega (arith, ints)

fold_n : {A : Type 0} (g : A → ℕ) (xs : List A) (x : ℕ) → fold (λ a c. a + g c) x xs ≡ x + list_n g xs
fold_n g [] x = omega arith
fold_n g (c ∷ xs) x = fold_n g xs (x + g c) ∙ omega arith

pub walk_sums : WalkLaw
walk_sums size at row cells f h zero_adds =
    let a = fold_z (λ (c : Cell). f c.col c.units) cells (pos 0) in
    let b = walked (λ x col y. x +ℤ f col y.units) (λ x col. ap (λ z. x +ℤ z) (zero_adds col) ∙ omega (arith, ints)) size row at cells (pos 0) h in
    let c = run_sum_z (λ col y. f col y.units) (λ col. at (row, col)) size in
    sym (a ∙ omega (arith, ints)) ∙ b ∙ c

pub count_sums : CountLaw
count_sums size at row cells f h zero_adds =
    let a = fold_n (λ (c : Cell). f c.col (c.count + c.slopes)) cells 0 in
    let b = walked (λ x col y. x + f col (y.count + y.slopes)) (λ x col. ap (λ z. x + z) (zero_adds col) ∙ omega arith) size row at cells 0 h in
    let c = run_sum_n (λ col y. f col (y.count + y.slopes)) (λ col. at (row, col)) size in
    sym (a ∙ omega arith) ∙ b ∙ c
