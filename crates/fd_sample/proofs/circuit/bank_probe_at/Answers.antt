use Rattle.std.proofs.Common.{◌∙◌, ap, sym}
use Rattle.std.specs.Prelude.{option_copied}
use Rattle.fd_network.specs.dss_layout.Layout.{complex_count, size_of}
use Rattle.fd_sample.proofs.Standing.{line_stands}
use Rattle.fd_sample.proofs.circuit.bank_probe_at.Goals as goal

pub returns-clause-places : goal.returns-clause-places
returns-clause-places c =
    let layout = c.args.layout.now in
    c.bank_probe.ensures.places (complex_count layout) (size_of layout)
    (line_stands layout c.args.place c.args.control.now c.args.element.now c.unwrap-line.result.now c.in_ok-at.at c.requires.element
    (sym (ap option_copied c.unwrap-line.ensures) ∙ c.as_line.ensures) c.in_ok-at.ensures)
