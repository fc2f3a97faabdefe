use Rattle.std.proofs.Common.{◌≡◌, ◌∙◌, ◌+◌, ◌*◌, ◌^◌, ◌++◌, ◌∷◌, [], sym, subst, rules}
use Rattle.std.proofs.Math.Nat.{mod-add-div}
use Rattle.fd_enclosure.specs.Sound.{number_at}
use Rattle.fd_cert.specs.Parts.{AreFront, with_high}
use Rattle.fd_cert.proofs.PartSums.{front_more}
use Rattle.fd_cert.proofs.parted.parts_of.Goals as goal

pub loop-place-preserved : goal.loop-place-preserved
loop-place-preserved c =
    let ns = c.args.numbers.now in
    let k = c.loop-place.place in
    let lows = c.loop-place.lows.items in
    let low = c.rest_of.result in
    let times = c.in-Some.times in
    let parted : low + 2 ^ 60 * times ≡ number_at ns k =
    (λ i. c.rest_of.ensures.value i + 2 ^ 60 * c.in-Some.ensures.value i) ∙ mod-add-div (number_at ns k) (2 ^ 60) in
    let pushed : c.push.new.self.items ≡ lows ++ low ∷ [] = search rules in
    let more : c.push_high.new.highs.items ≡ with_high c.loop-place.highs.items k times = search rules in
    let made = front_more ns k lows c.loop-place.highs.items low times c.loop-place-test.true (sym parted)
    c.rest_of.ensures.small c.in-Some.ensures.small c.loop-place.invariant in
    subst (λ xs. AreFront ns (k + 1) xs c.push_high.new.highs.items) (sym pushed) (subst (λ hs. AreFront ns (k + 1) (lows ++ low ∷ []) hs) (sym more) made)
