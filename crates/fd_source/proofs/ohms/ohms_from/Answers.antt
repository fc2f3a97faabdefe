use Rattle.std.proofs.Common.{◌≡◌, FitsSigned, rules, arith}
use Rattle.std.specs.Int.{w128}
use Rattle.std.proofs.lemmas.Int.{to_z-of_z}
use Rattle.fd_source.specs.Powers.{AreWithin, ohms_of}
use Rattle.fd_source.proofs.Impedances.{ohms_are, are_within, shown_parts}
use Rattle.fd_source.proofs.ohms.ohms_from.Goals as goal

pub returns-clause-ohms : goal.returns-clause-ohms
returns-clause-ohms c =
    let s = c.args.source.now in
    let p = c.part-r1 in
    let q = c.part-r0 in
    let fx : FitsSigned w128 s.x1r1 = search rules in
    let fy : FitsSigned w128 s.x0r0 = search rules in
    let ohms = ohms_are s c.args.three c.args.one _ _ p.result.0 p.result.1 q.result.0 q.result.1 c.requires.three
    c.requires.one (to_z-of_z w128 s.x1r1 fx) (to_z-of_z w128 s.x0r0 fy) p.ensures.greatest p.ensures.reactance
    q.ensures.greatest q.ensures.reactance in
    shown_parts (λ o. o ≡ ohms_of s) p.result.0 p.result.1 q.result.0 q.result.1 (omega arith) (omega arith) (omega arith) (omega arith) ohms

pub returns-clause-within : goal.returns-clause-within
returns-clause-within c =
    let p = c.part-r1 in
    let q = c.part-r0 in
    shown_parts AreWithin p.result.0 p.result.1 q.result.0 q.result.1 (omega arith) (omega arith) (omega arith) (omega arith)
    (are_within p.result.0 p.result.1 q.result.0 q.result.1 (omega arith) (omega arith) (omega arith) (omega arith))
