use Rattle.std.proofs.Common.{◌≡◌, ◌∙◌, ◌+◌, ◌≤◌, ◌^◌, nat_abs, length, arith, ap, sym, subst, inl, inr, FitsSigned, rules}
use Rattle.std.specs.Int.{w128}
use Rattle.std.proofs.lemmas.Bool.{cases_lt}
use Rattle.std.proofs.lemmas.Int.{to_z-of_z}
use Rattle.std.proofs.lemmas.List.{get_or_append_left, get_or_push, length_push}
use Rattle.fd_enclosure.specs.fd_exact.States.{part}
use Rattle.fd_enclosure.specs.Sound.{number_at}
use Rattle.fd_cert.proofs.bounds.short_weights.Goals as goal

pub loop-weight-preserved : goal.loop-weight-preserved
loop-weight-preserved c =
    let k = c.loop-weight.weight-index in
    let ws = c.args.weights.now in
    let old = c.loop-weight.shorts.items in
    let value = c.in-Some.short in
    let items = c.in_ok-push.ensures.items in
    let f : FitsSigned w128 (part ws k) = search rules in
    let is : value ≡ nat_abs (part ws k) = simp to_z-of_z at c.in-Some.ensures.same in
    record {
      long = ap length items ∙ length_push old value ∙ ap (λ n. n + 1) c.loop-weight.invariant.long;
      each = λ j l. elim (cases_lt j k) [
        | inl lt ↦ ap (λ xs. number_at xs j) items
            ∙ get_or_append_left old _ 0 j (omega (arith, c.loop-weight.invariant.long))
            ∙ c.loop-weight.invariant.each j lt
        | inr ge ↦
            let here : k ≡ j = omega arith in
            ap (λ xs. number_at xs j) items ∙ get_or_push old value 0 j (c.loop-weight.invariant.long ∙ here) ∙ is ∙ ap (λ n. nat_abs (part ws n)) here
      ];
      small = λ j l. elim (cases_lt j k) [
        | inl lt ↦
            let same = ap (λ xs. number_at xs j) items ∙ get_or_append_left old _ 0 j (omega (arith, c.loop-weight.invariant.long)) in
            subst (λ n. n ≤ 2 ^ 40) (sym same) (c.loop-weight.invariant.small j lt)
        | inr ge ↦
            let here : k ≡ j = omega arith in
            let same = ap (λ xs. number_at xs j) items ∙ get_or_push old value 0 j (c.loop-weight.invariant.long ∙ here) in
            subst (λ n. n ≤ 2 ^ 40) (sym same) c.in-Some.ensures.small
      ];
    }
