use Rattle.std.proofs.Common.{◌≡◌, true, arith, rules}
use Rattle.fd_certfile.specs.Lines.{line_of, lines_of}
use Rattle.fd_certfile.specs.Reader.{starts_with_end}
use Rattle.fd_certfile.proofs.BlockReading.{length-lines_of}
use Rattle.fd_certfile.proofs.Lines.{of_last}
use Rattle.fd_certfile.proofs.Outside.{block_lines_left, never_ended, ok_map, on_ends, on_more, on_stop, on_trails, stop_within}
use Rattle.fd_certfile.proofs.Reading.{lines_cut}
use Rattle.fd_certfile.proofs.upgrades.outside.Goals as goal

pub overflow_cast-line : goal.overflow_cast-line
overflow_cast-line c =
    omega (
      arith,
      c.loop-alloc.invariant.count,
      block_lines_left c.args.version (lines_of c.args.bytes.now) (lines_of c.loop-alloc.rest.now) c.loop-alloc.line c.loop-alloc.invariant
          c.in-Ok.ensures.block (lines_of c.in-Ok.ahead.rest.now) c.in-Ok.ensures.same,
      c.in-Ok.ensures.count,
      length-lines_of c.args.bytes.now,
    )

pub overflow_add-line : goal.overflow_add-line
overflow_add-line c =
    omega (
      arith,
      c.loop-alloc.invariant.count,
      block_lines_left c.args.version (lines_of c.args.bytes.now) (lines_of c.loop-alloc.rest.now) c.loop-alloc.line c.loop-alloc.invariant
          c.in-Ok.ensures.block (lines_of c.in-Ok.ahead.rest.now) c.in-Ok.ensures.same,
      c.in-Ok.ensures.count,
      length-lines_of c.args.bytes.now,
    )

pub loop-alloc-smaller : goal.loop-alloc-smaller
loop-alloc-smaller c =
    omega (
      arith,
      block_lines_left c.args.version (lines_of c.args.bytes.now) (lines_of c.loop-alloc.rest.now) c.loop-alloc.line c.loop-alloc.invariant
          c.in-Ok.ensures.block (lines_of c.in-Ok.ahead.rest.now) c.in-Ok.ensures.same,
    )

pub loop-alloc-preserved : goal.loop-alloc-preserved
loop-alloc-preserved c =
    on_more c.args.version (lines_of c.args.bytes.now) (lines_of c.loop-alloc.rest.now) c.loop-alloc.line c.loop-alloc.invariant
    c.in-Ok.ensures.block (lines_of c.in-Ok.ahead.rest.now) c.in-Ok.ahead.lines c.in-Ok.ensures.same c.in-Ok.ensures.count

pub refused_line-requires : goal.refused_line-requires
refused_line-requires c =
    omega (
      arith,
      c.loop-alloc.invariant.count,
      stop_within c.in-Err.stop (lines_of c.loop-alloc.rest.now) _ c.in-Err.ensures,
      length-lines_of c.args.bytes.now,
    )

pub returns-in-Err : goal.returns-in-Err
returns-in-Err c =
    ok_map c.refused_line.result
    (λ found. on_stop c.args.version (lines_of c.args.bytes.now) (lines_of c.loop-alloc.rest.now) c.loop-alloc.line c.loop-alloc.invariant
    c.in-Err.stop found c.loop-alloc-test.ensures c.in-Err.ensures)
    c.refused_line.ensures

pub overflow_add-result : goal.overflow_add-result
overflow_add-result c = omega (arith, c.loop-alloc.invariant.count, length-lines_of c.args.bytes.now)

pub returns-then-is_empty : goal.returns-then-is_empty
returns-then-is_empty c =
    let ended : true ≡ starts_with_end (lines_of c.loop-alloc.rest.now) = search rules in
    on_ends c.args.version (lines_of c.args.bytes.now) (lines_of c.loop-alloc.rest.now) c.loop-alloc.line c.loop-alloc.invariant
    (line_of c.in-Some.field-0-0.now) c.in-Some.more.now
    (lines_cut c.loop-alloc.rest.now c.in-Some.field-0-0.now c.in-Some.more.now c.in-Some.ensures.before c.in-Some.ensures.whole)
    ended (search rules)

pub returns-else-is_empty : goal.returns-else-is_empty
returns-else-is_empty c =
    let ended : true ≡ starts_with_end (lines_of c.loop-alloc.rest.now) = search rules in
    on_trails c.args.version (lines_of c.args.bytes.now) (lines_of c.loop-alloc.rest.now) c.loop-alloc.line c.loop-alloc.invariant
    (line_of c.in-Some.field-0-0.now) c.in-Some.more.now
    (lines_cut c.loop-alloc.rest.now c.in-Some.field-0-0.now c.in-Some.more.now c.in-Some.ensures.before c.in-Some.ensures.whole)
    ended (search rules)

pub returns-in-None : goal.returns-in-None
returns-in-None c =
    let ended : true ≡ starts_with_end (lines_of c.loop-alloc.rest.now) = search rules in
    absurd (never_ended c.loop-alloc.rest.now (lines_of c.loop-alloc.rest.now) (of_last c.loop-alloc.rest.now (search rules)) ended)
