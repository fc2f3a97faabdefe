use Rattle.std.proofs.Common.{◌∙◌, pos, ap, sym}
use Rattle.std.proofs.lemmas.List.Elements.{All-rest}
use Rattle.dss_layout.specs.fd_exact.Ranges.{IsBetween}
use Rattle.dss_layout.specs.dss_model.Ranges.{ones}
use Rattle.dss_layout.specs.dss_model.declared.options.Options.{Options}
use Rattle.fd_bases.proofs.bus_base.bases.Goals as goal

pub based-requires-clause-others_in_range : goal.based-requires-clause-others_in_range
based-requires-clause-others_in_range c =
    let bases = sym (ap (λ (o : Options). o.voltagebases) c.options.ensures.value) ∙ sym c.as_slice.ensures ∙ c.in-Some.ensures.cases.0 in
    All-rest (IsBetween (pos 1_000_000) (ones 1000)) c.in-Some.first.now c.in-Some.others.now
    c.args.circuit.now.options.voltagebases bases c.options.ensures.in_range.voltagebases
