use Rattle.std.proofs.Common.{◌≡◌, ◌∙◌, ◌+◌, ◌*◌, length, ap, sym, subst, FitsSigned, rules}
use Rattle.std.specs.Int.{w128}
use Rattle.std.proofs.lemmas.Int.{to_z-of_z}
use Rattle.std.proofs.lemmas.List.{get_or_read}
use Rattle.fd_mat.specs.Sparse.{IsAt, IsGap, held}
use Rattle.fd_mat.proofs.Entries.{entry_held, value_here, value_nowhere}
use Rattle.fd_mat.proofs.sparse.SparseRows.get.Goals as goal

pub returns-in-Ok : goal.returns-in-Ok
returns-in-Ok c =
    let hs = c.self.inside.entries.items in
    let f : FitsSigned w128 c.index.result.now.value = search rules in
    let here : IsAt hs (c.args.row * length c.args.self.now + c.args.col) c.in-Ok.at =
    subst (λ p. IsAt hs p c.in-Ok.at) c.place.ensures (subst (λ l. IsAt l c.place.result c.in-Ok.at) c.deref.ensures.value c.in-Ok.ensures.found) in
    to_z-of_z w128 c.index.result.now.value f
    ∙ ap (λ h. h.value) (get_or_read hs c.in-Ok.at c.index.result.now here.in_range c.index.ensures _)
    ∙ sym (value_here hs c.self.invariant.rising _ c.in-Ok.at here)
    ∙ sym (entry_held c.self.inside.size hs c.args.self.now c.args.row c.args.col c.self.view_is c.requires.row_in c.requires.col_in)

pub returns-in-Err : goal.returns-in-Err
returns-in-Err c =
    let hs = c.self.inside.entries.items in
    let gap : IsGap hs (c.args.row * length c.args.self.now + c.args.col) c.in-Err.field-0 =
    subst (λ p. IsGap hs p c.in-Err.field-0) c.place.ensures (subst (λ l. IsGap l c.place.result c.in-Err.field-0) c.deref.ensures.value c.in-Err.ensures.gap) in
    sym (entry_held c.self.inside.size hs c.args.self.now c.args.row c.args.col c.self.view_is c.requires.row_in c.requires.col_in
    ∙ value_nowhere hs _ c.in-Err.field-0 gap)
