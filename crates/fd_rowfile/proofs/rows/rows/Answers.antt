use Rattle.std.proofs.Common.{◌≡◌, ℕ, length, ap, subst, ◌∙◌, ◌+◌, arith, ◌∷◌, []}
use Rattle.std.proofs.lemmas.List.{length-append}
use Rattle.fd_lines.specs.WordLines.{lines_of}
use Rattle.fd_rowfile.specs.Blocks.{row_step}
use Rattle.fd_rowfile.specs.Held.{IsRowStep}
use Rattle.fd_rowfile.proofs.ReadTo.{AreRowsTo, rows_more}
use Rattle.fd_rowfile.proofs.rows.rows.Goals as goal

pub loop-found-preserved : goal.loop-found-preserved
loop-found-preserved c =
    let many : length c.loop-found.found.items + 1 ≡ length c.push.new.self.items =
    omega (arith, ap length c.in_ok-push.ensures.items, length-append c.loop-found.found.items (c.in-Some.held ∷ [])) in
    subst (λ (i : ℕ). AreRowsTo c.args.below (lines_of c.args.bytes.now) i c.push.new.self.items (lines_of c.in-Some.more.now)) many
    (rows_more c.args.below (lines_of c.args.bytes.now) (length c.loop-found.found.items) c.loop-found.found.items
    (lines_of c.loop-found.rest.now) c.loop-found.invariant c.in-Some.held (lines_of c.in-Some.more.now) c.push.new.self.items
    (subst (λ (i : ℕ). IsRowStep (row_step c.args.below i (lines_of c.loop-found.rest.now)) c.in-Some.held (lines_of c.in-Some.more.now))
    (c.len.ensures ∙ c.loop-found.found.ok.0) (rw c.in-Some.is at c.in_ok-held.ensures.row)) c.in_ok-push.ensures.items)
