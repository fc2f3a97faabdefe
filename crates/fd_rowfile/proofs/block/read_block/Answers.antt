use Rattle.std.proofs.Common.{◌≡◌, ℕ, ℤ, Ok, ap, subst, sym, ◌∙◌, rules, FitsSigned}
use Rattle.std.specs.Prelude.{map}
use Rattle.std.specs.Int.{w128}
use Rattle.std.proofs.lemmas.Int.{to_z-of_z}
use Rattle.fd_lines.specs.Numbered.{count_of, numbered_at}
use Rattle.fd_lines.specs.WordLines.{lines_of}
use Rattle.fd_rowfile.specs.Blocks.{block_at, bound_at, part_at, rows_at}
use Rattle.fd_rowfile.specs.Held.{AreRows, IsBlock, Stops}
use Rattle.fd_rowfile.specs.Views.{bound, head, part}
use Rattle.fd_rowfile.specs.declared.block.HeldBlock.{HeldBlock}
use Rattle.fd_rowfile.proofs.BlockParts.{no_bounds, no_box, no_head, no_parts, no_rows, whole}
use Rattle.fd_rowfile.proofs.block.read_block.Goals as goal

pub returns-in_default-clause-refused : goal.returns-in_default-clause-refused
returns-in_default-clause-refused c = no_head (lines_of c.args.bytes.now) (lines_of c.args.bytes.now) c.in_default.ensures.none

pub returns-in_default-next_box-clause-refused : goal.returns-in_default-next_box-clause-refused
returns-in_default-next_box-clause-refused c =
    no_box (lines_of c.args.bytes.now) (head c.in-Some.head) (lines_of c.in-Some.rest.now) c.in-Some.ensures.some
    (lines_of c.in-Some.rest.now) c.in_default-next_box.ensures.none

pub returns-in-Err-clause-refused : goal.returns-in-Err-clause-refused
returns-in-Err-clause-refused c =
    let fits : FitsSigned w128 c.in-Some.head.size = search rules in
    let counted = c.count_of-count.ensures ∙ ap count_of (to_z-of_z w128 c.in-Some.head.size fits) in
    no_parts (lines_of c.args.bytes.now) (head c.in-Some.head) (lines_of c.in-Some.rest.now) c.in-Some.ensures.some
    c.in-Some-next_box.divisor (lines_of c.in-Some-next_box.rest.now) c.in-Some-next_box.ensures.some
    c.in-Err.stop (subst (λ (n : ℕ). Stops c.in-Err.stop (numbered_at part_at n 0 (lines_of c.in-Some-next_box.rest.now))) counted c.in-Err.ensures)

pub returns-in-Err-rows-clause-refused : goal.returns-in-Err-rows-clause-refused
returns-in-Err-rows-clause-refused c =
    let fits : FitsSigned w128 c.in-Some.head.size = search rules in
    let counted = c.count_of-count.ensures ∙ ap count_of (to_z-of_z w128 c.in-Some.head.size fits) in
    no_rows (lines_of c.args.bytes.now) (head c.in-Some.head) (lines_of c.in-Some.rest.now) c.in-Some.ensures.some
    c.in-Some-next_box.divisor (lines_of c.in-Some-next_box.rest.now) c.in-Some-next_box.ensures.some
    (map part c.in-Ok.read.0.items) (lines_of c.in-Ok.read.1.now)
    (subst (λ (n : ℕ). numbered_at part_at n 0 (lines_of c.in-Some-next_box.rest.now) ≡ Ok (map part c.in-Ok.read.0.items, lines_of c.in-Ok.read.1.now))
    counted c.in-Ok.ensures)
    c.in-Err-rows.stop (subst (λ (n : ℕ). Stops c.in-Err-rows.stop (rows_at n 0 (lines_of c.in-Ok.read.1.now))) counted c.in-Err-rows.ensures.refused)

pub returns-in-Err-bounds-clause-refused : goal.returns-in-Err-bounds-clause-refused
returns-in-Err-bounds-clause-refused c =
    let fits : FitsSigned w128 c.in-Some.head.size = search rules in
    let counted = c.count_of-count.ensures ∙ ap count_of (to_z-of_z w128 c.in-Some.head.size fits) in
    let rows = (subst (λ (n : ℕ). AreRows (rows_at n 0 (lines_of c.in-Ok.read.1.now)) c.in-Ok-rows.read.0.items (lines_of c.in-Ok-rows.read.1.now))
    counted c.in-Ok-rows.ensures.read) in
    no_bounds (lines_of c.args.bytes.now) (head c.in-Some.head) (lines_of c.in-Some.rest.now) c.in-Some.ensures.some
    c.in-Some-next_box.divisor (lines_of c.in-Some-next_box.rest.now) c.in-Some-next_box.ensures.some
    (map part c.in-Ok.read.0.items) (lines_of c.in-Ok.read.1.now)
    (subst (λ (n : ℕ). numbered_at part_at n 0 (lines_of c.in-Some-next_box.rest.now) ≡ Ok (map part c.in-Ok.read.0.items, lines_of c.in-Ok.read.1.now))
    counted c.in-Ok.ensures)
    rows.rows (lines_of c.in-Ok-rows.read.1.now) rows.same c.in-Err-bounds.stop
    (subst (λ (n : ℕ). Stops c.in-Err-bounds.stop (numbered_at bound_at n 0 (lines_of c.in-Ok-rows.read.1.now))) counted c.in-Err-bounds.ensures)

pub returns-clause-read : goal.returns-clause-read
returns-clause-read c =
    let fits : FitsSigned w128 c.in-Some.head.size = search rules in
    let counted = c.count_of-count.ensures ∙ ap count_of (to_z-of_z w128 c.in-Some.head.size fits) in
    let divisor : FitsSigned w128 c.in-Some-next_box.divisor = search rules in
    let made : ℤ → HeldBlock = λ d. record {
      head = c.in-Some.head;
      divisor = d;
      parts = c.in-Ok.read.0;
      rows = c.in-Ok-rows.read.0;
      bounds = c.in-Ok-bounds.read.0;
      acts = c.in_ok-acts.acts;
    } in
    subst (λ (d : ℤ). IsBlock (block_at (lines_of c.args.bytes.now)) (made d) (lines_of c.in_ok-acts.rest.now))
    (sym (to_z-of_z w128 c.in-Some-next_box.divisor divisor))
    (whole (lines_of c.args.bytes.now) (made c.in-Some-next_box.divisor) (lines_of c.in-Some.rest.now)
    (lines_of c.in-Some-next_box.rest.now) (lines_of c.in-Ok.read.1.now) (lines_of c.in-Ok-rows.read.1.now)
    (lines_of c.in-Ok-bounds.read.1.now) (lines_of c.in_ok-acts.rest.now) c.in-Some.ensures.some c.in-Some-next_box.ensures.some
    (subst (λ (n : ℕ). numbered_at part_at n 0 (lines_of c.in-Some-next_box.rest.now) ≡ Ok (map part c.in-Ok.read.0.items, lines_of c.in-Ok.read.1.now))
    counted c.in-Ok.ensures)
    (subst (λ (n : ℕ). AreRows (rows_at n 0 (lines_of c.in-Ok.read.1.now)) c.in-Ok-rows.read.0.items (lines_of c.in-Ok-rows.read.1.now))
    counted c.in-Ok-rows.ensures.read)
    (subst (λ (n : ℕ). numbered_at bound_at n 0 (lines_of c.in-Ok-rows.read.1.now) ≡ Ok (map bound c.in-Ok-bounds.read.0.items, lines_of c.in-Ok-bounds.read.1.now))
    counted c.in-Ok-bounds.ensures)
    c.in_ok-acts.ensures)
