use Rattle.std.proofs.Common.{◌<◌, ◌≤◌, ◌^◌, length, nat_lt, arith, sym, rules}
use Rattle.fd_substitution.specs.fd_derived.fd_factors.fd_exact.FirstLaws.{first_none, first_some}
use Rattle.fd_substitution.specs.fd_derived.Refusals.{added_sizes}
use Rattle.fd_bounds.proofs.Loops.{in_limit, names_exist, none_more, past_limit}
use Rattle.fd_bounds.proofs.defects.row_past.Goals as goal

pub sizes_added-requires-clause-placed : goal.sizes_added-requires-clause-placed
sizes_added-requires-clause-placed c =
    let t_in : c.loop-row.row < length c.args.rows.now = search rules in
    names_exist c.args.equations.now c.args.rows.now c.requires c.loop-row.row t_in

pub loop-row-preserved : goal.loop-row-preserved
loop-row-preserved c =
    let t = c.loop-row.row in
    let x = added_sizes c.args.equations.now c.args.rows.now t in
    let low : c.sizes_added.result ≤ 2 ^ 120 = search rules in
    none_more (λ k. nat_lt (2 ^ 120) (added_sizes c.args.equations.now c.args.rows.now k)) t c.loop-row.invariant
    (in_limit c.sizes_added.result x c.sizes_added.ensures low)

pub returns-then-sizes_added-gt-SIZE_LIMIT : goal.returns-then-sizes_added-gt-SIZE_LIMIT
returns-then-sizes_added-gt-SIZE_LIMIT c =
    let t = c.loop-row.row in
    let x = added_sizes c.args.equations.now c.args.rows.now t in
    let high : 2 ^ 120 < c.sizes_added.result = search rules in
    let t_in : t < length c.args.rows.now = search rules in
    sym (first_some (λ k. nat_lt (2 ^ 120) (added_sizes c.args.equations.now c.args.rows.now k)) (length c.args.rows.now) t t_in
    c.loop-row.invariant (past_limit c.sizes_added.result x c.sizes_added.ensures high))

pub returns : goal.returns
returns c =
    sym (first_none (λ k. nat_lt (2 ^ 120) (added_sizes c.args.equations.now c.args.rows.now k)) (length c.args.rows.now)
    (λ k l. c.loop-row.invariant k (omega (arith, l, c.loop-row-test.false))))
