use Rattle.std.proofs.Common.{subst}
use Rattle.std.specs.List.{All}
use Rattle.fd_xfmr.specs.fd_system.Contributions.{IsWithin}
use Rattle.fd_devices.proofs.Bounded.{line_settled}
use Rattle.fd_devices.proofs.stamps.line_at.Goals as goal

pub returns-clause-settled : goal.returns-clause-settled
returns-clause-settled c = λ m n size first second branches.
    line_settled m n size c.args.line.now c.args.at.now c.requires.line.few first second branches
    (subst (All IsWithin) c.in_ok-line_terms.ensures.list c.in_ok-line_terms.ensures.within)
