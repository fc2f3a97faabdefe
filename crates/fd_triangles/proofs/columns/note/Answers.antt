use Rattle.std.proofs.Common.{[], ◌∷◌, ◌++◌, ap, sym, ◌∙◌}
use Rattle.fd_triangles.specs.Columns.{rows_of}
use Rattle.fd_triangles.proofs.Lists.{at_read}
use Rattle.fd_triangles.proofs.Noted.{one_noted}
use Rattle.fd_triangles.proofs.columns.note.Goals as goal

pub returns : goal.returns
returns c =
    let column = c.index-columns-place.result in
    let here = at_read rows_of [] c.args.columns.now c.args.place column c.requires in
    one_noted c.args.columns.now c.args.place c.args.index (record { rows = c.push.new.self }) c.requires
    (c.in_ok-push.ensures.items ∙ ap (λ l. l ++ c.args.index ∷ []) (sym here))
