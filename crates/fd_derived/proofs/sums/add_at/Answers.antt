use Rattle.std.proofs.Common.{◌<◌, length, subst, sym, FitsSigned, rules}
use Rattle.std.specs.Int.{w64, w128}
use Rattle.std.proofs.lemmas.Int.{to_z-of_z}
use Rattle.std.proofs.lemmas.List.{length-set}
use Rattle.fd_factors.specs.fd_exact.States.{part}
use Rattle.fd_derived.specs.Sums.{AreInside}
use Rattle.fd_derived.proofs.Adding.{inside_more, one_added, supported_more}
use Rattle.fd_derived.proofs.sums.add_at.Goals as goal

pub plus-sum-requires : goal.plus-sum-requires
plus-sum-requires c =
    let p = c.args.place in
    let sums = c.args.sums.now in
    let p_in : p < length sums = search rules in
    let fs : FitsSigned w128 (part sums p) = search rules in
    let ff : FitsSigned w128 c.args.factor = c.ranges.factor in
    let fu : FitsSigned w64 c.args.units = c.ranges.units in
    simp to_z-of_z (c.requires.room p p_in)

pub returns-clause-added : goal.returns-clause-added
returns-clause-added c =
    let p = c.args.place in
    let sums = c.args.sums.now in
    let p_in : p < length sums = search rules in
    let fs : FitsSigned w128 (part sums p) = search rules in
    let ff : FitsSigned w128 c.args.factor = c.ranges.factor in
    let fu : FitsSigned w64 c.args.units = c.ranges.units in
    let fr : FitsSigned w128 c.plus-sum.result = search rules in
    let sum = simp to_z-of_z at c.plus-sum.ensures in
    simp to_z-of_z (one_added sums p c.args.units c.args.factor c.plus-sum.result p_in sum)

pub returns-clause-supported : goal.returns-clause-supported
returns-clause-supported c =
    rw c.in_ok-push.ensures.items (supported_more c.args.sums.now c.args.touched.now.items c.args.place _ c.requires.supported)

pub returns-clause-inside : goal.returns-clause-inside
returns-clause-inside c =
    let p_in : c.args.place < length c.args.sums.now = search rules in
    let inside = inside_more c.args.touched.now.items c.args.place (length c.args.sums.now) c.requires.inside p_in in
    rw c.in_ok-push.ensures.items (subst (AreInside _) (sym (length-set c.args.sums.now c.args.place _)) inside)
