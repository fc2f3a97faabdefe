use Rattle.fd_triangles.specs.Factors.{AreLoaded}
use Rattle.fd_triangles.proofs.loading.first_rows.Given as goal

abbrev pub invariant-loop-place : goal.invariant-loop-place
invariant-loop-place l = AreLoaded l.equations l.order l.place l.work.items l.columns
