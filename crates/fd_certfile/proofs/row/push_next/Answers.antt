use Rattle.std.proofs.Common.{ap, sym, subst}
use Rattle.std.specs.Option.{option_map}
use Rattle.fd_certfile.specs.Blocks.{Version}
use Rattle.fd_lines.specs.Cuts.{texts_of}
use Rattle.fd_certfile.specs.Readings.{IsNoNext}
use Rattle.fd_certfile.proofs.StepReading.{no_fields}
use Rattle.fd_certfile.proofs.row.push_next.Goals as goal

pub returns-in-None-fields-clause-none : goal.returns-in-None-fields-clause-none
returns-in-None-fields-clause-none c =
    let fields = texts_of (option_map (λ t. t.now) c.args.fields) in
    subst (λ (v : Version). IsNoNext v c.args.count c.args.next fields) (sym c.in-Sparse.is)
    (no_fields c.args.count c.args.next fields (ap (λ r. texts_of (option_map (λ t. t.now) r)) c.in-None-fields.is))
