use Rattle.std.proofs.Common.{◌∙◌, sym, FitsSigned, rules}
use Rattle.std.specs.Int.{w64}
use Rattle.std.proofs.lemmas.Int.{to_z-of_z}
use Rattle.fd_triangles.specs.Rows.{entry_at}
use Rattle.fd_triangles.proofs.Entries.{number_here, number_nowhere}
use Rattle.fd_triangles.proofs.row.number_at.Goals as goal

pub returns-in-Ok : goal.returns-in-Ok
returns-in-Ok c =
    let f : FitsSigned w64 (entry_at c.args.row.now c.in-Ok.at).units = search rules in
    to_z-of_z w64 (entry_at c.args.row.now c.in-Ok.at).units f
    ∙ sym (number_here c.args.row.now c.requires c.args.place c.in-Ok.at c.in-Ok.ensures.found)

pub returns-in-Err : goal.returns-in-Err
returns-in-Err c = sym (number_nowhere c.args.row.now c.args.place c.in-Err.field-0 c.in-Err.ensures.gap)
