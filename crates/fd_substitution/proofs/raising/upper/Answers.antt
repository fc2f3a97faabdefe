use Rattle.std.proofs.Common.{◌≡◌, ◌∙◌, ◌-◌, ◌<◌, ◌≤◌, ◌^◌, ◌*ℤ◌, length, pos, nat_abs, inr, subst, sym, arith, below_more, FitsSigned, to_z, of_z}
use Rattle.std.specs.Int.{w64}
use Rattle.std.proofs.lemmas.Int.{to_z-of_z}
use Rattle.std.proofs.lemmas.List.{length-set}
use Rattle.fd_triangles.specs.Elimination.{pair_at}
use Rattle.fd_triangles.specs.fd_derived.fd_factors.fd_exact.States.{part}
use Rattle.fd_substitution.specs.Sums.{IsPast, IsWithin, raised}
use Rattle.fd_substitution.specs.Substitution.{pivot_at, place_before, rest_at, unknown_before, upper_made}
use Rattle.fd_substitution.proofs.Filling.{filled_start, unknown_there, upper_more, upper_past, upper_within}
use Rattle.fd_substitution.proofs.Sizes.{narrow}
use Rattle.fd_substitution.proofs.raising.upper.Goals as goal

pub loop-behind-init : goal.loop-behind-init
loop-behind-init c = record {
  long = c.in_ok-numbers.ensures.long;
  each = λ right on j. c.in_ok-numbers.ensures.zero j
      ∙ sym (filled_start (pos 0) (unknown_before c.args.order.now) (upper_made c.args.rows.now c.args.order.now right) j);
  within = λ right on k l. absurd (omega arith);
}

pub returns-in-None : goal.returns-in-None
returns-in-None c = λ right on.
    let rows = c.args.rows.now in
    let order = c.args.order.now in
    let lows = c.args.lower.now in
    let s = c.loop-behind.behind in
    let xs = c.loop-behind.numbers.items in
    let t = length order - 1 - s in
    let t_is : t ≡ place_before order s = omega arith in
    let each = c.loop-behind.invariant.each right on in
    inr (record {
      behind = s;
      behind_in = c.loop-behind-test.true;
      unknown_is = unknown_there rows order right s lows xs on each t t_is;
      lower_within = on.within;
      before = c.loop-behind.invariant.within right on;
      past = upper_past rows order right s lows xs on each t t_is
          (subst (λ l. IsPast (pos (2 ^ 40) *ℤ part lows t) (rest_at rows t) (part l)
          (raised (part lows t) (rest_at rows t) (part l) (pivot_at rows t))) c.deref.ensures.value c.in-None.ensures);
    })

pub loop-behind-preserved : goal.loop-behind-preserved
loop-behind-preserved c =
    let rows = c.args.rows.now in
    let order = c.args.order.now in
    let lows = c.args.lower.now in
    let s = c.loop-behind.behind in
    let xs = c.loop-behind.numbers.items in
    let t = length order - 1 - s in
    let q = (pair_at order t).unknown in
    let t_is : t ≡ place_before order s = omega arith in
    let t_in : t < length order = omega (arith, c.loop-behind-test.true) in
    let q_in : q < length xs = omega (arith, c.loop-behind.invariant.long, c.requires.ready.unknowns t t_in) in
    let made : c.in-Some.number ≡ raised (part lows t) (rest_at rows t) (part xs) (pivot_at rows t) =
    subst (λ l. c.in-Some.number ≡ raised (part lows t) (rest_at rows t) (part l) (pivot_at rows t))
    c.deref.ensures.value c.in-Some.ensures.0 in
    let within : IsWithin (pos (2 ^ 40) *ℤ part lows t) (rest_at rows t) (part xs)
    (raised (part lows t) (rest_at rows t) (part xs) (pivot_at rows t)) =
    subst (λ l. IsWithin (pos (2 ^ 40) *ℤ part lows t) (rest_at rows t) (part l)
    (raised (part lows t) (rest_at rows t) (part l) (pivot_at rows t)))
    c.deref.ensures.value c.in-Some.ensures.1 in
    let fits : FitsSigned w64 c.in-Some.number =
    narrow c.in-Some.number (subst (λ z. nat_abs z ≤ 2 ^ 62) (sym made) within.number) in
    let kept = to_z-of_z w64 c.in-Some.number fits in
    record {
      long = length-set xs q (to_z w64 (of_z w64 c.in-Some.number)) ∙ c.loop-behind.invariant.long;
      each = λ right on. upper_more rows order right s lows xs on (c.loop-behind.invariant.each right on) t t_is
          (to_z w64 (of_z w64 c.in-Some.number)) q_in (kept ∙ made);
      within = λ right on. below_more _ _ (c.loop-behind.invariant.within right on)
          (upper_within rows order right s lows xs on (c.loop-behind.invariant.each right on) t t_is within);
    }
