use Rattle.std.proofs.Common.{ℕ}
use Rattle.fd_cert.specs.Slopes.{HasRadii}
use Rattle.fd_rowcert.proofs.Loading.{HaveRadii, HaveStayed}
use Rattle.fd_rowcert.proofs.equations.set_radii.Given as goal

abbrev pub invariant-loop-row : goal.invariant-loop-row
invariant-loop-row l = record {
  stayed : HaveStayed l.fn.equations l.equations;
  radii : (R : ℕ → ℕ → ℕ) → HasRadii l.radii R → HaveRadii l.radii.size R l.equations l.row;
}
