use Rattle.std.proofs.Common.{[], arith}
use Rattle.std.specs.Str.{chars}
use Rattle.fd_pages.specs.dss_script.Sessions.{remaining}
use Rattle.fd_pages.specs.fd_outcome.Behind.{closes}
use Rattle.fd_pages.specs.fd_outcome.Events.{finishes}
use Rattle.fd_pages.proofs.CallerLemmas.fd_outcome.{exactly_this, untold_first}
use Rattle.fd_solving.specs.Commands.{IsStep}
use Rattle.fd_solving.specs.Scripts.{IsDoneThere, first_standing, no_name}
use Rattle.fd_solving.proofs.Handed.{ends_closed}
use Rattle.fd_solving.proofs.Tests.{one_step}
use Rattle.fd_solving.proofs.Scripts.{not_begun, of_script}
use Rattle.fd_solving.proofs.solving.solve.Goals as goal

pub returns-in_default-clause-run : goal.returns-in_default-clause-run
returns-in_default-clause-run g c files told =
    not_begun IsStep no_name IsDoneThere g.P.Page.style
    (closes g.P.Page.style.closing) g.L.Library.answers g.S.Sink.taken
    g.S.Sink.calls files (chars c.args.file.now) first_standing one_step (λ s found. exactly_this (finishes []))
    c.law.ensures.names (λ s found h told is none. ends_closed g.P.Page.style told h is) c.args.lib.now c.args.out.now

pub returns-in_default-clause-untold : goal.returns-in_default-clause-untold
returns-in_default-clause-untold g c =
    untold_first g.L.Library.answers g.L.Library.holds g.S.Sink.faults g.S.Sink.taken g.S.Sink.calls c.args.lib.now
    c.args.out.now

pub run_script-requires : goal.run_script-requires
run_script-requires g c = rw (c.new-standing.ensures, c.in-Ok.ensures.start) omega arith

pub returns-clause-run : goal.returns-clause-run
returns-clause-run g c files told =
    of_script IsStep no_name IsDoneThere g.P.Page.style
    (closes g.P.Page.style.closing) g.L.Library.answers g.S.Sink.taken
    g.S.Sink.calls files (chars c.args.file.now) first_standing c.said_law.ensures (remaining files c.in-Ok.session)
    c.new-standing.result c.args.lib.now c.run_script.new.lib c.args.out.now c.run_script.new.out c.run_script.result
    (c.in-Ok.ensures.script files) c.new-standing.ensures (c.run_script.ensures.run files told)
