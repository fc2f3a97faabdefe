use Rattle.std.proofs.Common.{◌≡◌, ℕ, ℤ, length}
use Rattle.fd_cert.specs.Columns.{HasEntries}
use Rattle.fd_rowcert.proofs.Loading.{AreLoaded}
use Rattle.fd_rowcert.proofs.equations.equations_of.Given as goal

abbrev pub invariant-loop-row : goal.invariant-loop-row
invariant-loop-row l = record {
  long : length l.equations.items ≡ l.row;
  loaded : (J : ℕ → ℕ → ℤ) → HasEntries l.jacobian J → AreLoaded l.jacobian.size J l.mismatch l.equations.items l.row;
}
