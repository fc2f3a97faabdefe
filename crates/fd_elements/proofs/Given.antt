-- Matrices that are given, or zero, are in the ranges of the physics.
use Rattle.std.proofs.Common.{◌≡◌, ℕ, ◌*◌, ◌==◌, ℤ, pos, false, List, length, Option, Some, None, IfSome, All, arith}
use Rattle.std.proofs.lemmas.Int.{ints}
use Rattle.std.proofs.lemmas.List.{length-replicate}
use Rattle.std.proofs.lemmas.List.Elements.{All-replicate}
use Rattle.std.proofs.lemmas.Bool.{not-false, eqb-true}
use Rattle.dss_model.specs.Sound.{is_size_wrong}
use Rattle.dss_model.specs.fd_exact.Ranges.{Within}
use Rattle.fd_line.specs.Totals.{IsMatrix}
use Rattle.fd_elements.specs.Lines.{matrix_or_zero}

sized : (n : ℕ) (m : Option (List ℤ)) → is_size_wrong n m ≡ false → length (matrix_or_zero n m) ≡ n * n
sized n None h = length-replicate (n * n) (pos 0)
sized n (Some xs) h = eqb-true (length xs) (n * n) (not-false (length xs == n * n) h)

zero_within : (b : ℕ) → Within b (pos 0)
zero_within b = record { least = omega (arith, ints); most = omega (arith, ints) }

entries : (n b : ℕ) (m : Option (List ℤ)) → IfSome m (All (Within b)) → All (Within b) (matrix_or_zero n m)
entries n b None h = All-replicate (Within b) (n * n) (pos 0) (zero_within b)
entries n b (Some xs) h = h

pub is_matrix_given : (n b : ℕ) (m : Option (List ℤ)) → is_size_wrong n m ≡ false → IfSome m (All (Within b))
    → IsMatrix n b (matrix_or_zero n m)
is_matrix_given n b m h k = record { count = sized n m h; within = entries n b m k }
