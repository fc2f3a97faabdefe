-- The contributions of series impedances add up to the voltage that the currents take.
use Rattle.std.proofs.Common.{ℕ, ◌<◌, ◌^◌, ℤ, pos, neg_ℤ, subst, lit<}
use Rattle.std.specs.List.{All}
use Rattle.fd_arith.specs.fd_exact.Fractions.{Same}
use Rattle.fd_arith.specs.fd_exact.States.{State}
use Rattle.fd_system.specs.Complex.{◌⊠◌, negative}
use Rattle.fd_system.specs.Contributions.{row_sum, IsDivided}
use Rattle.fd_system.specs.Equations.{unknown, side}
use Rattle.fd_system.specs.Terminals.{branch_of}
use Rattle.fd_system.specs.Series.{drop_at, drop_list, drop_of, ohms}
use Rattle.fd_system.proofs.Divided.{complex_divided, concat_divided}
use Rattle.fd_system.proofs.ComplexRows.{same_place_concat, negative_complex, total-negative}

module _ (r x : ℕ → ℕ → ℤ) (branch n k : ℕ) where
  pub drops_add : (s : State) (row : ℕ) → 0 < s.over
      → Same (row_sum row (drop_list r x branch n k) s) (side row (branch_of branch k) (negative (drop_of r x branch n s k)))
  drops_add s row o =
      let z = λ (m : ℕ). ohms r x k m ⊠ unknown s (branch_of branch m) in
      let drops = same_place_concat (drop_at r x branch k) s row (branch_of branch k) (λ m. negative (z m)) n
      (λ m p. negative_complex (branch_of branch k) (branch_of branch m) (r k m) (x k m) (pos (10 ^ 12)) s row (lit< tt) o) in
      subst (λ c. Same (row_sum row (drop_list r x branch n k) s) (side row (branch_of branch k) c)) (total-negative z n) drops

  pub drops_divided : All IsDivided (drop_list r x branch n k)
  drops_divided = concat_divided (drop_at r x branch k) n
      (λ m. complex_divided (pos (10 ^ 12)) (record { lt = tt }) (record { le = tt }) (branch_of branch k) (branch_of branch m) (neg_ℤ (r k m)) (neg_ℤ (x k m)))
