use Rattle.std.proofs.Common.{◌∙◌, ◌<◌, length, take, get_or, pos, sym, subst, ap}
use Rattle.std.specs.List.{fold}
use Rattle.std.proofs.lemmas.List.{take_all}
use Rattle.std.proofs.lemmas.List.Elements.{All-get_or}
use Rattle.fd_pattern.specs.fd_system.Residual.{IsConstant, constant_added}
use Rattle.fd_pattern.proofs.CallerLemmas.fd_system.{length-constants}
use Rattle.fd_equations.proofs.Folds.{fold_more}
use Rattle.fd_equations.proofs.rows.add_constants.Goals as goal

pub add_constant-requires : goal.add_constant-requires
add_constant-requires c =
    let k = c.loop-constant.constant-index in
    let long = ap length c.loop-constant.invariant ∙ length-constants c.args.rows.now (take k c.args.constants.now) in
    subst (λ n. (get_or c.args.constants.now k (record { row = 0; value = pos 0 })).row < n) (sym long)
    (All-get_or (IsConstant (length c.args.rows.now)) c.args.constants.now k (record { row = 0; value = pos 0 })
    c.loop-constant-test.true c.requires)

pub loop-constant-preserved : goal.loop-constant-preserved
loop-constant-preserved c =
    let k = c.loop-constant.constant-index in
    c.add_constant.ensures
    ∙ ap (λ rows. constant_added rows (get_or c.args.constants.now k (record { row = 0; value = pos 0 })))
    c.loop-constant.invariant
    ∙ sym (fold_more constant_added c.args.rows.now c.args.constants.now k (record { row = 0; value = pos 0 })
    c.loop-constant-test.true)

pub returns : goal.returns
returns c =
    c.loop-constant.invariant
    ∙ ap (fold constant_added c.args.rows.now)
    (take_all c.loop-constant.constant-index c.args.constants.now c.loop-constant-test.false)
