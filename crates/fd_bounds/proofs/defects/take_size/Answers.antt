use Rattle.std.proofs.Common.{◌≡◌, ◌∙◌, ◌+◌, ◌*◌, nat_abs, List, ap, sym, FitsSigned, rules}
use Rattle.std.specs.Int.{w128}
use Rattle.std.proofs.lemmas.Int.{to_z-of_z}
use Rattle.fd_substitution.specs.fd_derived.fd_factors.fd_exact.States.{part}
use Rattle.fd_bounds.specs.Defects.{weighed}
use Rattle.fd_bounds.specs.declared.defects.Defect.{Defect}
use Rattle.fd_bounds.proofs.Sizes.{no_more, weighed_push}
use Rattle.fd_bounds.proofs.defects.take_size.Goals as goal

pub returns-in_ok-push-clause-noted : goal.returns-in_ok-push-clause-noted
returns-in_ok-push-clause-noted c r =
    let p = c.args.place in
    let z = part c.args.sums.now p in
    let fits : FitsSigned w128 z = search rules in
    let size : c.unsigned_abs-size.result ≡ nat_abs z = c.unsigned_abs-size.ensures.value ∙ ap nat_abs (to_z-of_z w128 z fits) in
    ap (λ (ds : List Defect). weighed ds r) c.in_ok-push.ensures.items
    ∙ weighed_push c.args.sizes.now.items (record { place = p; size = c.unsigned_abs-size.result }) r
    ∙ ap (λ n. weighed c.args.sizes.now.items r + n * r p) size

pub returns-else-size-ne0-clause-noted : goal.returns-else-size-ne0-clause-noted
returns-else-size-ne0-clause-noted c r =
    let p = c.args.place in
    let z = part c.args.sums.now p in
    let fits : FitsSigned w128 z = search rules in
    let size : c.unsigned_abs-size.result ≡ nat_abs z = c.unsigned_abs-size.ensures.value ∙ ap nat_abs (to_z-of_z w128 z fits) in
    let none : c.unsigned_abs-size.result ≡ 0 = search rules in
    no_more (weighed c.args.sizes.now.items r) (nat_abs z) (r p) (sym size ∙ none)
