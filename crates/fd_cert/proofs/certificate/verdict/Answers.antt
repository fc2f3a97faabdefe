use Rattle.std.proofs.Common.{◌≡◌, ◌∙◌, ◌<◌, ◌^◌, nat_abs, nat_lt, length, None, arith, ap, sym, subst, FitsSigned, rules}
use Rattle.std.specs.Int.{w128}
use Rattle.std.proofs.lemmas.Int.{to_z-of_z}
use Rattle.fd_enclosure.specs.fd_exact.First.{first_place}
use Rattle.fd_enclosure.specs.Sound.{number_at}
use Rattle.fd_enclosure.specs.fd_exact.States.{entry, part}
use Rattle.fd_enclosure.proofs.CallerLemmas.fd_equations.{length-list_of}
use Rattle.fd_cert.specs.Reaches.{bound_in, named_bound, radius_of}
use Rattle.fd_cert.proofs.Units.{none_of}
use Rattle.fd_cert.proofs.Verdict.{are_within, bound_below, product_at, refused, too_wide}
use Rattle.fd_cert.proofs.certificate.verdict.Goals as goal

pub returns-in-Some : goal.returns-in-Some
returns-in-Some c = λ J R f e b h k.
    let n = length c.args.mismatch.now in
    let i = c.in-Some.place in
    let inside : i < length c.args.bounds.now = c.in-Some.ensures.inside in
    let ff : FitsSigned w128 (part c.args.weights.now i) = search rules in
    let w : c.unsigned_abs-weight.result ≡ nat_abs (part c.args.weights.now i) = simp to_z-of_z at c.unsigned_abs-weight.ensures.value in
    let reach = c.greatest_reach-reach.result in
    refused n (entry c.args.inverse.now) J R f e c.args.weights.now c.args.bounds.now reach b h
    (c.greatest_reach-reach.ensures f e h k) i c.named.result c.in-Some.ensures.first
    (subst (λ m. i < m) c.requires.long inside)
    (c.named.ensures ∙ ap (λ m. named_bound m reach (bound_in c.args.bounds.now i)) w)

pub radii-requires-clause-bound : goal.radii-requires-clause-bound
radii-requires-clause-bound c =
    let all = c.in_default.ensures.below in
    subst (λ n. n < 2 ^ 40) (sym c.greatest_bound.ensures) (bound_below c.args.weights.now c.args.bounds.now c.greatest_reach-reach.result c.requires.signs all)

pub radii-requires-clause-products : goal.radii-requires-clause-products
radii-requires-clause-products c = λ i l.
    let all = c.in_default.ensures.below in
    product_at c.args.weights.now c.args.bounds.now c.greatest_reach-reach.result c.requires.signs all i
    (omega (arith, c.requires.weights.long, c.requires.long))

pub first_wide-requires : goal.first_wide-requires
first_wide-requires c = omega (
  arith,
  ap length (c.deref.ensures.value ∙ c.in_ok-radii.ensures) ∙ length-list_of (length c.args.weights.now) _,
  c.requires.weights.long,
  c.requires.few,
)

pub returns-in-Some-first_wide : goal.returns-in-Some-first_wide
returns-in-Some-first_wide c = λ J R f e b h k.
    let n = length c.args.mismatch.now in
    let reach = c.greatest_reach-reach.result in
    let none = sym (none_of c.first_unbounded.result c.in_default.not-Some) ∙ c.first_unbounded.ensures.first in
    let rs = c.deref.ensures.value ∙ c.in_ok-radii.ensures in
    let long = ap length rs
    ∙ length-list_of (length c.args.weights.now) (λ i.
    radius_of (nat_abs (part c.args.weights.now i)) reach c.greatest_bound.result)
    ∙ c.requires.weights.long in
    too_wide n (entry c.args.inverse.now) J R f e c.args.weights.now c.args.bounds.now reach b h
    (c.greatest_reach-reach.ensures f e h k) none c.deref.result.now c.greatest_bound.result c.greatest_bound.ensures
    (length c.args.weights.now) c.requires.weights.long rs
    c.in-Some-first_wide.place c.in-Some-first_wide.ensures.first
    (subst (λ m. c.in-Some-first_wide.place < m) long c.in-Some-first_wide.ensures.inside)

pub returns-in-None : goal.returns-in-None
returns-in-None c = λ J R f e b h k.
    let n = length c.args.mismatch.now in
    let reach = c.greatest_reach-reach.result in
    let none = sym (none_of c.first_unbounded.result c.in_default.not-Some) ∙ c.first_unbounded.ensures.first in
    are_within n (entry c.args.inverse.now) J R f e c.args.weights.now c.args.bounds.now reach b h
    (c.greatest_reach-reach.ensures f e h k) none c.in_ok-radii.radii.items c.greatest_bound.result
    c.greatest_bound.ensures (length c.args.weights.now) c.requires.weights.long c.in_ok-radii.ensures
    (subst (λ xs. None ≡ first_place (λ i. nat_lt (2 ^ 40) (number_at xs i)) (length xs)) c.deref.ensures.value
    c.in-None.ensures.first)
