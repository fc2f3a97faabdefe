use Rattle.std.proofs.Common.{◌∙◌, ◌+◌, ◌<◌, ap, length, subst, sym}
use Rattle.dss_script.specs.Readings.{Reading, advanced}
use Rattle.dss_script.proofs.Lines.{advanced_is}
use Rattle.dss_script.proofs.reading.Frame.advance.Goals as goal

pub returns : goal.returns
returns c =
    let inside = c.self.inside in
    let P : Reading → Type 0 = λ r. 0 < length r.lines in
    ap (λ ls. record { file = inside.file; line = inside.line + 1; lines = ls })
    (advanced_is inside.bytes.items c.deref.result.now c.after_line-left.result.now inside.at c.len.result
    c.after_line-left.ensures.rest c.deref.ensures.value (cc) (subst P (sym c.self.view_is) c.requires))
    ∙ ap advanced c.self.view_is
