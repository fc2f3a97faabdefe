use Rattle.std.proofs.Common.{◌≡◌, ◌∙◌, Option, sym, subst}
use Rattle.std.proofs.lemmas.Result.{IfOk-weaker}
use Rattle.fd_enclosure.specs.Boxes.{boxes_of}
use Rattle.fd_cert.specs.Rechecks.{Tells}
use Rattle.fd_cert.specs.declared.rule.Broken.{Broken}
use Rattle.fd_cert.proofs.FirstBroken.{past_range, range_first, range_same, size_first}
use Rattle.fd_cert.proofs.Rechecks.{inverse_within, parts_within, sized_parts}
use Rattle.fd_cert.proofs.rechecking.tested.Goals as goal

pub returns-then-not-has_size : goal.returns-then-not-has_size
returns-then-not-has_size c =
    size_first c.args.net.now c.args.centre.now c.args.radius.now c.args.mismatch.now c.args.inverse.now (sym c.has_size.ensures ∙ c.if-not-has_size.true)

pub tested_at_point-requires-clause-point : goal.tested_at_point-requires-clause-point
tested_at_point-requires-clause-point c =
    let v = c.args.net.now in
    let sized = sym c.has_size.ensures ∙ c.if-not-has_size.false in
    let s = sized_parts v.size c.args.centre.now c.args.radius.now c.args.mismatch.now c.args.inverse.now sized in
    let none = range_same v c.args.centre.now c.args.radius.now c.args.mismatch.now c.args.inverse.now sized _ c.in-None.ensures in
    record { long = s.centre; parts = parts_within v.size c.args.centre.now c.args.radius.now c.args.inverse.now none s.centre }

pub tested_at_point-requires-clause-inverse : goal.tested_at_point-requires-clause-inverse
tested_at_point-requires-clause-inverse c =
    let v = c.args.net.now in
    let sized = sym c.has_size.ensures ∙ c.if-not-has_size.false in
    let s = sized_parts v.size c.args.centre.now c.args.radius.now c.args.mismatch.now c.args.inverse.now sized in
    let none = range_same v c.args.centre.now c.args.radius.now c.args.mismatch.now c.args.inverse.now sized _ c.in-None.ensures in
    inverse_within v.size c.args.centre.now c.args.radius.now c.args.inverse.now none s.inverse

pub returns-in-Some : goal.returns-in-Some
returns-in-Some c =
    range_first c.args.net.now c.args.centre.now c.args.radius.now c.args.mismatch.now c.args.inverse.now
    (sym c.has_size.ensures ∙ c.if-not-has_size.false) c.in-Some.place c.in-Some.ensures

pub returns-in-None : goal.returns-in-None
returns-in-None c =
    let same = past_range c.args.net.now c.args.centre.now c.args.radius.now c.args.mismatch.now c.args.inverse.now
    (sym c.has_size.ensures ∙ c.if-not-has_size.false) c.in-None.ensures in
    IfOk-weaker c.tested_at_point.result _ _ (λ t h.
    subst (λ (o : Option Broken). Tells o t (λ boxes. boxes.items ≡ boxes_of c.args.net.now c.args.centre.now))
    (sym same) h)
    c.tested_at_point.ensures
