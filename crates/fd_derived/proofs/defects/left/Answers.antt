use Rattle.std.proofs.Common.{◌∙◌, ap, sym}
use Rattle.fd_factors.specs.Factors.{DerivedRow}
use Rattle.fd_derived.specs.Rows.{entries_of}
use Rattle.fd_derived.proofs.Rows.{row_there}
use Rattle.fd_derived.proofs.defects.left.Goals as goal

pub returns : goal.returns
returns c =
    let read = row_there c.args.rows.now c.args.place c.index-rows-place.result c.requires in
    sym (ap (λ (r : DerivedRow). r.left) read ∙ ap entries_of (sym c.deref.ensures.value))
