use Rattle.std.proofs.Common.{◌∙◌, ap, sym}
use Rattle.fd_derived.specs.Rows.{entries_of}
use Rattle.fd_derived.proofs.Rows.{coefficients_read}
use Rattle.fd_derived.proofs.defects.coefficients.Goals as goal

pub returns : goal.returns
returns c =
    let read = coefficients_read c.args.equations.now c.args.place c.index-equations-place.result c.requires in
    sym (read ∙ ap entries_of (sym c.deref.ensures.value))
