-- How large the sums and the numbers of contributions and slopes are.
use Rattle.std.proofs.Common.{ℕ, suc, ◌+◌, ◌*◌, ◌≤◌, ◌^◌, pos, ◌+ℤ◌, nat_abs, Bool, true, false, cond, eqb, List, [], ◌∷◌, length, Option, Some, None, lit≤, arith}
use Rattle.std.specs.List.{All}
use Rattle.std.proofs.Math.Nat.{mul-le-mul}
use Rattle.std.proofs.lemmas.Int.{ints}
use Rattle.std.proofs.lemmas.List.Elements.{All-head, All-tail}
use Rattle.fd_pattern.specs.fd_arith.declared.terms.Term.{Term}
use Rattle.fd_pattern.specs.fd_arith.declared.terms.NodeAt.{NodeAt}
use Rattle.fd_pattern.specs.fd_arith.declared.terms.NodeAt.TheVariants.{Ground, Node}
use Rattle.fd_mat.specs.fd_exact.SumLaws.{list_n-bound}
use Rattle.fd_pattern.specs.fd_arith.LoadModels.{is_linear}
use Rattle.fd_pattern.specs.fd_system.declared.loads.LoadAt.{LoadAt}
use Rattle.fd_pattern.specs.fd_system.Contributions.{AreSmall, term_units}
use Rattle.fd_pattern.specs.Coefficients.{count_at, linear_entry, stands_at}
use Rattle.fd_pattern.specs.Conditions.{IsLinear}
use Rattle.fd_equations.specs.PartLoads.{slope_count, slope_counts}
use Rattle.fd_pattern.specs.Terminals.{count_magnitude, count_node, count_terminal}
use Rattle.fd_equations.proofs.Sizes.{small_size}

-- ---- contributions

pub entry_size : (size : ℕ) (ts : List Term) (row col : ℕ) → All (IsLinear size) ts → nat_abs (linear_entry ts row col) ≤ length ts * 2 ^ 54
entry_size size [] row col h = lit≤ tt
entry_size size (t ∷ ts) row col h =
    by_test (stands_at row col t) (entry_size size ts row col (All-tail (IsLinear size) t ts h))
    (All-head (IsLinear size) t ts h).within
  where
    by_test : (b : Bool) → nat_abs (linear_entry ts row col) ≤ length ts * 2 ^ 54 → AreSmall (term_units t)
        → nat_abs (cond b (term_units t) (pos 0) +ℤ linear_entry ts row col) ≤ suc (length ts) * 2 ^ 54
    by_test true e w = let size = small_size (term_units t) w in omega (arith, ints, size)
    by_test false e w = omega (arith, ints)

pub count_size : (ts : List Term) (row col : ℕ) → count_at ts row col ≤ length ts
count_size [] row col = lit≤ tt
count_size (t ∷ ts) row col = by_test (stands_at row col t) (count_size ts row col)
  where
    by_test : (b : Bool) → count_at ts row col ≤ length ts → cond b 1 0 + count_at ts row col ≤ suc (length ts)
    by_test true e = omega arith
    by_test false e = omega arith

-- ---- slopes of part loads

pub cond_few : (b : Bool) (n k : ℕ) → n ≤ k → cond b n 0 ≤ k
cond_few true n k h = h
cond_few false n k h = omega arith

pub node_few : (l : ℕ) (node : NodeAt) → count_node l node ≤ 2
node_few l Ground = omega arith
node_few l (Node k) = let a = cond_few (eqb (2 * k) l) 1 1 (omega arith) in let b = cond_few (eqb (2 * k + 1) l) 1 1 (omega arith) in omega arith

pub magnitude_few : (l : ℕ) (place : Option ℕ) → count_magnitude l place ≤ 1
magnitude_few l None = omega arith
magnitude_few l (Some k) = cond_few (eqb k l) 1 1 (omega arith)

pub terminal_few : (l : ℕ) (u : LoadAt) → count_terminal l u ≤ 5
unfolding count_terminal
terminal_few l u = omega (arith, node_few l u.first, node_few l u.second, magnitude_few l u.magnitude)

pub product_few : (a b m k : ℕ) → a ≤ m → b ≤ k → a * b ≤ m * k
product_few a b m k h l = mul-le-mul h l

pub slope_few : (row col : ℕ) (u : LoadAt) → slope_count row col u ≤ 25
unfolding slope_count
slope_few row col u = by_test (is_linear u.load.model)
  where
    by_test : (b : Bool) → cond b 0 (count_terminal row u * count_terminal col u) ≤ 25
    by_test true = omega arith
    by_test false = product_few (count_terminal row u) (count_terminal col u) 5 5 (terminal_few row u) (terminal_few col u)

pub slopes_few : (us : List LoadAt) (row col : ℕ) → slope_counts us row col ≤ length us * 25
slopes_few us row col = list_n-bound (slope_count row col) 25 us (slope_few row col)
