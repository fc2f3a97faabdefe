use Rattle.std.proofs.Common.{◌≡◌, ℕ, ◌+◌, Bool, Ok, ◌∙◌, ap, subst, arith, rules, FitsSigned, to_z, of_z}
use Rattle.std.specs.Int.{w128}
use Rattle.std.proofs.lemmas.Int.{to_z-of_z}
use Rattle.fd_certfile.specs.Lines.{lines_of}
use Rattle.fd_certfile.specs.Blocks.{count_of, is_place, part_at, row_at, numbered_at}
use Rattle.fd_certfile.specs.Readings.{Fails, cells_of, kept}
use Rattle.fd_certfile.specs.declared.ahead.Ahead.{Ahead}
use Rattle.fd_certfile.proofs.BlockReading.{ahead_is, before_fits, parts_fail, parts_lines, rows_fail, length-lines_of}
use Rattle.fd_lines.proofs.CallerLemmas.{numbered_left}
use Rattle.fd_certfile.proofs.ahead.body.Goals as goal

pub moved-requires : goal.moved-requires
moved-requires c = omega (arith, before_fits c.in-Err.stop c.args.bytes.now _ c.in-Err.ensures)

pub returns-in-Err : goal.returns-in-Err
returns-in-Err c =
    let fits : FitsSigned w128 c.args.head.size = search rules in
    let counted = c.count_of-count.ensures ∙ ap count_of (to_z-of_z w128 c.args.head.size fits) in
    let f = subst (λ (n : ℕ). Fails c.in-Err.stop (lines_of c.args.bytes.now) (numbered_at part_at n 0 (lines_of c.args.bytes.now))) counted c.in-Err.ensures in
    rw c.moved.ensures (parts_fail c.args.version c.args.head.number c.args.head.hour c.args.head.round c.args.head.size (lines_of c.args.bytes.now) c.in-Err.stop f)

pub overflow_cast-count : goal.overflow_cast-count
overflow_cast-count c =
    omega (
      arith,
      length-lines_of c.args.bytes.now,
      numbered_left part_at c.count_of-count.result 0 (lines_of c.args.bytes.now) c.in-Ok.ensures.all (lines_of c.in-Ok.read.1.now) c.in-Ok.ensures.same,
    )

pub moved-requires-in-Err-rows : goal.moved-requires-in-Err-rows
moved-requires-in-Err-rows c =
    let fits : FitsSigned w128 c.args.head.size = search rules in
    let counted = c.count_of-count.ensures ∙ ap count_of (to_z-of_z w128 c.args.head.size fits) in
    let read = subst
    (λ (n : ℕ). numbered_at part_at n 0 (lines_of c.args.bytes.now) ≡ Ok (c.in-Ok.ensures.all, lines_of c.in-Ok.read.1.now))
    counted c.in-Ok.ensures.same in
    let few = parts_lines c.args.version c.args.head.number c.args.head.hour c.args.head.round c.args.head.size
    (lines_of c.args.bytes.now) c.in-Ok.ensures.all (lines_of c.in-Ok.read.1.now) read in
    omega (arith, counted, few, length-lines_of c.args.bytes.now, before_fits c.in-Err-rows.stop c.in-Ok.read.1.now _ c.in-Err-rows.ensures)

pub returns-in-Err-rows : goal.returns-in-Err-rows
returns-in-Err-rows c =
    let fits : FitsSigned w128 c.args.head.size = search rules in
    let counted = c.count_of-count.ensures ∙ ap count_of (to_z-of_z w128 c.args.head.size fits) in
    let read = subst
    (λ (n : ℕ). numbered_at part_at n 0 (lines_of c.args.bytes.now) ≡ Ok (c.in-Ok.ensures.all, lines_of c.in-Ok.read.1.now))
    counted c.in-Ok.ensures.same in
    let f = subst
    (λ (n : ℕ). Fails c.in-Err-rows.stop (lines_of c.in-Ok.read.1.now) (numbered_at (row_at c.args.version n) n 0 (lines_of c.in-Ok.read.1.now)))
    counted c.in-Err-rows.ensures in
    rw (c.moved-in-Err-rows.ensures, counted)
    (rows_fail c.args.version c.args.head.number c.args.head.hour c.args.head.round c.args.head.size
    (lines_of c.args.bytes.now) c.in-Ok.ensures.all (lines_of c.in-Ok.read.1.now) read c.in-Err-rows.stop f)

pub overflow_add-result : goal.overflow_add-result
overflow_add-result c =
    omega (
      arith,
      length-lines_of c.args.bytes.now,
      c.acts-made.ensures.lines,
      numbered_left part_at c.count_of-count.result 0 (lines_of c.args.bytes.now) c.in-Ok.ensures.all (lines_of c.in-Ok.read.1.now) c.in-Ok.ensures.same,
      numbered_left (row_at c.args.version c.count_of-count.result) c.count_of-count.result 0 (lines_of c.in-Ok.read.1.now)
          c.in-Ok-rows.ensures.all (lines_of c.in-Ok-rows.read.1.now) c.in-Ok-rows.ensures.same,
    )

pub overflow_add-result-2 : goal.overflow_add-result-2
overflow_add-result-2 c =
    omega (
      arith,
      length-lines_of c.args.bytes.now,
      c.acts-made.ensures.lines,
      numbered_left part_at c.count_of-count.result 0 (lines_of c.args.bytes.now) c.in-Ok.ensures.all (lines_of c.in-Ok.read.1.now) c.in-Ok.ensures.same,
      numbered_left (row_at c.args.version c.count_of-count.result) c.count_of-count.result 0 (lines_of c.in-Ok.read.1.now)
          c.in-Ok-rows.ensures.all (lines_of c.in-Ok-rows.read.1.now) c.in-Ok-rows.ensures.same,
    )

pub overflow_add-result-3 : goal.overflow_add-result-3
overflow_add-result-3 c =
    omega (
      arith,
      length-lines_of c.args.bytes.now,
      c.acts-made.ensures.lines,
      numbered_left part_at c.count_of-count.result 0 (lines_of c.args.bytes.now) c.in-Ok.ensures.all (lines_of c.in-Ok.read.1.now) c.in-Ok.ensures.same,
      numbered_left (row_at c.args.version c.count_of-count.result) c.count_of-count.result 0 (lines_of c.in-Ok.read.1.now)
          c.in-Ok-rows.ensures.all (lines_of c.in-Ok-rows.read.1.now) c.in-Ok-rows.ensures.same,
    )

pub returns : goal.returns
returns c =
    let fits : FitsSigned w128 c.args.head.size = search rules in
    let counted = c.count_of-count.ensures ∙ ap count_of (to_z-of_z w128 c.args.head.size fits) in
    let keep : c.is_place-keep.result ≡ is_place c.args.due c.args.head.size = c.is_place-keep.ensures
    ∙ ap (λ (n : ℕ). is_place n (to_z w128 (of_z w128 c.args.head.size))) c.from.ensures
    ∙ ap (is_place c.args.due) (to_z-of_z w128 c.args.head.size fits) in
    let x : Ahead = record {
      head = c.args.head;
      parts = c.in-Ok.read.0;
      cells = c.in-Ok-rows.read.0;
      acts = c.in-Ok-rows.read.1;
      rest = c.acts-made.result.1;
      lines = 1 + (c.count_of-count.result + (c.count_of-count.result + c.acts-made.result.0));
    } in
    let p = subst
    (λ (n : ℕ). numbered_at part_at n 0 (lines_of c.args.bytes.now) ≡ Ok (c.in-Ok.ensures.all, lines_of c.in-Ok.read.1.now))
    counted c.in-Ok.ensures.same in
    let r = subst
    (λ (n : ℕ). numbered_at (row_at c.args.version n) n 0 (lines_of c.in-Ok.read.1.now) ≡ Ok (c.in-Ok-rows.ensures.all, lines_of c.in-Ok-rows.read.1.now))
    counted c.in-Ok-rows.ensures.same in
    ahead_is c.args.version c.args.due x (lines_of c.args.bytes.now) c.in-Ok.ensures.all (lines_of c.in-Ok.read.1.now) c.in-Ok-rows.ensures.all p r c.acts-made.ensures.rest
    (c.in-Ok.ensures.keeps ∙ ap (λ (k : Bool). kept k c.in-Ok.ensures.all) keep)
    (c.in-Ok-rows.ensures.keeps ∙ ap (λ (k : Bool). kept k (cells_of c.in-Ok-rows.ensures.all)) keep)
    (omega (arith, counted, c.acts-made.ensures.count))
