use Rattle.std.proofs.Common.{◌≡◌, ℤ, ◌∷◌, sym, subst, ◌∙◌, arith, rules, to_z, of_z}
use Rattle.std.specs.Int.{w64}
use Rattle.std.proofs.lemmas.Int.{to_z-of_z}
use Rattle.fd_lines.specs.FewDigits.{IsShortBefore}
use Rattle.fd_lines.proofs.FewDigits.{minus_before}
use Rattle.fd_lines.proofs.short.integer.Goals as goal

pub returns-else-value-lt1 : goal.returns-else-value-lt1
returns-else-value-lt1 c =
    let same : to_z w64 (of_z w64 c.below_zero.result) ≡ c.below_zero.result = to_z-of_z w64 c.below_zero.result (search rules) in
    subst (λ (z : ℤ). IsShortBefore c.args.text.now z (32 ∷ c.in-Some.rest.now)) (sym same)
    (minus_before c.args.text.now c.split_at.result.1.now c.in-Some.value (32 ∷ c.in-Some.rest.now) c.below_zero.result
    (sym c.is_negative.ensures ∙ c.if-is_negative.true) c.split_at.ensures.back c.in-Some.ensures.size
    (omega (arith, c.if-value-lt1.false)) c.below_zero.ensures)
