use Rattle.std.proofs.Common.{◌≡◌, ℕ, ℤ, List, length, sym, arith, ◌∙◌, ap, FitsSigned, rules}
use Rattle.std.specs.Int.{w128}
use Rattle.std.proofs.lemmas.Int.{to_z-of_z}
use Rattle.fd_enclosure.specs.fd_exact.FirstLaws.{first_none, first_some}
use Rattle.fd_enclosure.specs.fd_exact.States.{part}
use Rattle.fd_enclosure.specs.Sound.{number_at}
use Rattle.fd_cert.specs.Rechecks.{is_out_of_range, is_past_range}
use Rattle.fd_cert.proofs.range.first_out_of_range.Goals as goal

pub returns-then-is_past_range : goal.returns-then-is_past_range
returns-then-is_past_range c =
    let n = length c.args.centre.now in
    let centre = part c.args.centre.now c.loop-place.place in
    let radius = number_at c.args.radius.now c.loop-place.place in
    let fits : FitsSigned w128 centre = search rules in
    let tested : c.is_past_range.result ≡ is_past_range (length c.row.result.now) centre radius c.row.result.now = simp to_z-of_z at c.is_past_range.ensures in
    sym (first_some (is_out_of_range n c.args.centre.now c.args.radius.now c.args.inverse.now) n c.loop-place.place
    c.loop-place-test.true c.loop-place.invariant
    (ap (λ (row : List ℤ). is_past_range n centre radius row) (sym c.row.ensures.numbers)
    ∙ ap (λ (m : ℕ). is_past_range m centre radius c.row.result.now) (sym (c.row.ensures.long ∙ c.requires.inverse))
    ∙ sym tested ∙ c.if-is_past_range.true))

pub returns : goal.returns
returns c =
    sym (first_none (is_out_of_range (length c.args.centre.now) c.args.centre.now c.args.radius.now
    c.args.inverse.now)
    (length c.args.centre.now) (λ k l. c.loop-place.invariant k (omega (arith, l, c.loop-place-test.false))))
