use Rattle.std.proofs.Common.{subst, sym}
use Rattle.std.specs.List.{All}
use Rattle.std.proofs.lemmas.List.Elements.{All-nil}
use Rattle.fd_settings.specs.fd_pattern.Conditions.{IsServed}
use Rattle.fd_tests.proofs.cert.network.Goals as goal

pub new-requires-clause-loads : goal.new-requires-clause-loads
new-requires-clause-loads g c = subst (All (IsServed 1 1 c.args.rows.now.size)) (sym c.requires.loads) (All-nil (IsServed 1 1 c.args.rows.now.size))
