use Rattle.std.proofs.Common.{◌∙◌, ◌+◌, ◌-◌, drop, arith, refl, sym}
use Rattle.std.proofs.lemmas.List.{drop_all, length-drop}
use Rattle.fd_check.proofs.Commands.{last_here, last_later, last_never, next_item}
use Rattle.fd_check.proofs.script.solves_last.Goals as goal

pub loop-command-init : goal.loop-command-init
loop-command-init c = record { left = omega arith; same = refl }

pub returns-then-is_solve : goal.returns-then-is_solve
returns-then-is_solve c =
    let l = c.loop-command in
    let xs = c.args.commands.now in
    let x = c.command-item.result in
    let item =
    next_item xs l.command-index x (omega (arith, l.auto.command-index-end, c.loop-command-test.true))
    c.command-item.is in
    last_here xs (drop l.command-index xs) (drop (l.command-index + 1) xs) x (l.left - 1) item l.invariant.same
    (sym c.is_solve.ensures ∙ c.if-is_solve.true)
    (omega (arith, l.invariant.left, length-drop (l.command-index + 1) xs))

pub loop-command-preserved : goal.loop-command-preserved
loop-command-preserved c =
    let l = c.loop-command in
    let xs = c.args.commands.now in
    let x = c.command-item.result in
    let item =
    next_item xs l.command-index x (omega (arith, l.auto.command-index-end, c.loop-command-test.true))
    c.command-item.is in
    record {
      left = omega (arith, l.invariant.left, l.auto.command-index-end, c.loop-command-test.true);
      same =
          last_later xs (drop l.command-index xs) (drop (l.command-index + 1) xs) x item l.invariant.same
          (sym c.is_solve.ensures ∙ c.if-is_solve.false);
    }

pub returns : goal.returns
returns c =
    let l = c.loop-command in
    let xs = c.args.commands.now in
    last_never xs (drop l.command-index xs)
    (drop_all l.command-index xs (omega (arith, l.auto.command-index-end, c.loop-command-test.false))) l.invariant.same
