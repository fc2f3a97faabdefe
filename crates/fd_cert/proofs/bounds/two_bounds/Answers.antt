use Rattle.std.proofs.Common.{◌∙◌, ◌≤◌, ◌^◌, arith}
use Rattle.fd_cert.proofs.FlatSums.{flat_column, flat_units}
use Rattle.fd_cert.proofs.bounds.two_bounds.Goals as goal

pub bound_of_sums-bound-requires-clause-units : goal.bound_of_sums-bound-requires-clause-units
bound_of_sums-bound-requires-clause-units c =
    let m = c.args.slopes.now.jacobian.matrix.now in
    let few : m.size ≤ 2 ^ 11 = omega (arith, c.size-size.ensures.small, c.size-size.ensures.size) in
    flat_units m c.args.entries.now c.args.first.now c.add_entries_of_two.new.sums c.requires.entries few
    c.requires.first c.add_entries_of_two.ensures.sums c.requires.slopes.jacobian.J c.requires.slopes.jacobian.has
    (c.add_entries_of_two.ensures.long ∙ c.clear.ensures.long ∙ c.requires.sums)

pub bound_of_sums-bound-requires-clause-sums : goal.bound_of_sums-bound-requires-clause-sums
bound_of_sums-bound-requires-clause-sums c = λ J has.
    let m = c.args.slopes.now.jacobian.matrix.now in
    let few : m.size ≤ 2 ^ 11 = omega (arith, c.size-size.ensures.small, c.size-size.ensures.size) in
    flat_column m c.args.entries.now c.args.first.now c.add_entries_of_two.new.sums c.requires.entries few
    c.requires.first c.add_entries_of_two.ensures.sums J has

pub bound_of_sums-requires-clause-units : goal.bound_of_sums-requires-clause-units
bound_of_sums-requires-clause-units c =
    let m = c.args.slopes.now.jacobian.matrix.now in
    let few : m.size ≤ 2 ^ 11 = omega (arith, c.size-size.ensures.small, c.size-size.ensures.size) in
    flat_units m c.args.entries.now c.args.second.now c.add_entries_of_two.new.others c.requires.entries few
    c.requires.second c.add_entries_of_two.ensures.others c.requires.slopes.jacobian.J c.requires.slopes.jacobian.has
    (c.add_entries_of_two.ensures.other_long ∙ c.clear-2.ensures.long ∙ c.requires.others)

pub bound_of_sums-requires-clause-sums : goal.bound_of_sums-requires-clause-sums
bound_of_sums-requires-clause-sums c = λ J has.
    let m = c.args.slopes.now.jacobian.matrix.now in
    let few : m.size ≤ 2 ^ 11 = omega (arith, c.size-size.ensures.small, c.size-size.ensures.size) in
    flat_column m c.args.entries.now c.args.second.now c.add_entries_of_two.new.others c.requires.entries few
    c.requires.second c.add_entries_of_two.ensures.others J has
