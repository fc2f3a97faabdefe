use Rattle.std.proofs.Common.{◌∙◌, ◌<◌, length, arith, sym, rules}
use Rattle.fd_derived.specs.Refusals.{unknown_refusal}
use Rattle.fd_derived.proofs.Found.{found_at, found_none}
use Rattle.fd_derived.proofs.checking.bounds_refusal.Goals as goal

pub returns-then-is_some : goal.returns-then-is_some
returns-then-is_some c =
    let k_in : c.loop-unknown.unknown < length c.args.claim.now.bounds.items = search rules in
    found_at (unknown_refusal c.args.claim.now) (length c.args.claim.now.bounds.items) c.loop-unknown.unknown c.unknown_refusal-refusal.result k_in c.loop-unknown.invariant c.unknown_refusal-refusal.ensures (sym c.is_some.ensures ∙ c.if-is_some.true)

pub returns : goal.returns
returns c = sym (found_none (unknown_refusal c.args.claim.now) (length c.args.claim.now.bounds.items) (λ k l. c.loop-unknown.invariant k (omega (arith, l, c.loop-unknown-test.false, c.len-unknown-end.ensures))))
