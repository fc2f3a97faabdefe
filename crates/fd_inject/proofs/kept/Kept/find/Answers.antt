use Rattle.std.proofs.Common.{◌≡◌, ◌∙◌, ◌<◌, true, false, length, ap, sym, below_more, arith}
use Rattle.fd_inject.proofs.Pairs.{at_is, is_at}
use Rattle.fd_inject.proofs.kept.Kept.find.Goals as goal

pub loop-place-preserved : goal.loop-place-preserved
loop-place-preserved c = below_more _ _ c.loop-place.invariant (λ at.
    let t = c.same.ensures.1 (at_is c.args.matrix.now c.self.inside.pairs.items c.args.self.now c.loop-place.place
    c.index.result.now c.self.view_is c.index.ensures at) in
    let e : true ≡ false = sym t ∙ c.if-same.false in
    cc e)

pub returns-then-same-clause-found : goal.returns-then-same-clause-found
returns-then-same-clause-found c =
    let l : c.loop-place.place < length c.self.inside.pairs.items = omega (arith, c.loop-place-test.true) in
    is_at c.args.matrix.now c.self.inside.pairs.items c.args.self.now c.loop-place.place c.index.result.now c.self.view_is
    l c.index.ensures (c.same.ensures.0 c.if-same.true)

pub returns-clause-none : goal.returns-clause-none
returns-clause-none c = λ (place, at). c.loop-place.invariant place (omega (arith, at.inside, c.loop-place-test.false, ap length c.self.view_is)) at
