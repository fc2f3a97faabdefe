use Rattle.std.proofs.Common.{◌≡◌, length, sym, ◌∙◌, ap, FitsSigned, rules}
use Rattle.std.specs.Int.{w64}
use Rattle.fd_arith.specs.fd_exact.States.{part}
use Rattle.fd_inverse.specs.Numbers.{in_range}
use Rattle.fd_inverse.proofs.EachBelow.{each_below-false, each_below-more, each_below-end}
use Rattle.fd_inverse.proofs.Losses.{widened_is}
use Rattle.fd_inverse.proofs.rows.are_in_range.Goals as goal

pub returns-then-not-is_in_range : goal.returns-then-not-is_in_range
returns-then-not-is_in_range c =
    let i = c.loop-entry.entry-index in
    let f : FitsSigned w64 (part c.args.row.now i) = search rules in
    let e : c.is_in_range.result ≡ in_range (part c.args.row.now i) =
    c.is_in_range.ensures ∙ ap in_range (widened_is (part c.args.row.now i) f) in
    sym (each_below-false (λ k. in_range (part c.args.row.now k)) (length c.args.row.now) i c.loop-entry-test.true (sym e ∙ c.if-not-is_in_range.true))

pub loop-entry-preserved : goal.loop-entry-preserved
loop-entry-preserved c =
    let i = c.loop-entry.entry-index in
    let f : FitsSigned w64 (part c.args.row.now i) = search rules in
    let e : c.is_in_range.result ≡ in_range (part c.args.row.now i) =
    c.is_in_range.ensures ∙ ap in_range (widened_is (part c.args.row.now i) f) in
    each_below-more (λ k. in_range (part c.args.row.now k)) i c.loop-entry.invariant
    (sym e ∙ c.if-not-is_in_range.false)

pub returns : goal.returns
returns c =
    each_below-end (λ k. in_range (part c.args.row.now k)) c.loop-entry.entry-index (length c.args.row.now)
    c.loop-entry.invariant c.loop-entry-test.false c.loop-entry.auto.entry-index-end
