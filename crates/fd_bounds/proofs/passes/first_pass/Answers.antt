use Rattle.std.proofs.Common.{◌≡◌, ◌∙◌, ℕ, ◌<◌, ◌≤◌, ◌^◌, nat_lt, Some, List, length, replicate, arith, ap, subst, sym, rules}
use Rattle.std.proofs.lemmas.List.{length-replicate}
use Rattle.fd_substitution.specs.fd_derived.fd_factors.fd_exact.First.{first_place}
use Rattle.fd_substitution.specs.fd_derived.Rows.{number_at}
use Rattle.fd_bounds.specs.Passes.{IsEnd, IsPass, pass_end, risen}
use Rattle.fd_bounds.proofs.Loops.{zeros_read}
use Rattle.fd_bounds.proofs.Passing.{after_none, goes_on, low_bounds, next_bounds, over_of, pass_ended, rose, stands, starts}
use Rattle.fd_bounds.proofs.passes.first_pass.Goals as goal

pub loop-turn-init : goal.loop-turn-init
loop-turn-init c =
    let es = c.args.equations.now in
    let rows = c.args.rows.now in
    let items : c.in_ok-bounds.bounds.items ≡ replicate (length es) 0 = search rules in
    let zero : ℕ = 0 in
    record {
      long = ap length items ∙ length-replicate {A = ℕ} (length es) zero;
      each = λ j. ap (λ (l : List ℕ). number_at l j) items ∙ zeros_read (length es) j ∙ after_none es rows j;
      low = λ j. subst (λ x. x ≤ 2 ^ 60) (sym (ap (λ (l : List ℕ). number_at l j) items ∙ zeros_read (length es) j)) (omega arith);
      goes = starts es rows;
      rose = λ k e. absurd (omega arith);
    }

pub returns-in-Err : goal.returns-in-Err
returns-in-Err c =
    let es = c.args.equations.now in
    let rows = c.args.rows.now in
    let k = c.loop-turn.turn in
    let over = c.in_ok-over.over.items in
    let is = over_of es rows k c.loop-turn.bounds.items c.deref.result.now over c.loop-turn.invariant.long c.loop-turn.invariant.each
    c.deref.ensures.value c.in_ok-over.ensures.each in
    let few : k < 64 = search rules in
    let end = subst (λ (o : List ℕ). IsEnd c.in-Err.fault (pass_end es rows (number_at o))) c.deref-in-loop-turn.ensures.value c.in-Err.ensures in
    pass_ended es rows k over c.in-Err.fault is few c.loop-turn.invariant.goes end

pub returns-in-None : goal.returns-in-None
returns-in-None c =
    let es = c.args.equations.now in
    let rows = c.args.rows.now in
    let k = c.loop-turn.turn in
    let over = c.in_ok-over.over.items in
    let hs = c.in-Ok.pass.heights.items in
    let bs = c.in-Ok.pass.bounds.items in
    let is = over_of es rows k c.loop-turn.bounds.items c.deref.result.now over c.loop-turn.invariant.long c.loop-turn.invariant.each
    c.deref.ensures.value c.in_ok-over.ensures.each in
    let few : k < 64 = search rules in
    let made = subst (λ (o : List ℕ). IsPass es rows (λ j. number_at o j) hs bs) c.deref-in-loop-turn.ensures.value c.in-Ok.ensures in
    let found = subst (λ (o : List ℕ). c.first_risen.result ≡ first_place (λ j. nat_lt (number_at o j) (number_at bs j)) (length bs)) c.deref-in-loop-turn-3.ensures.value
    (subst (λ (b : List ℕ). c.first_risen.result ≡ first_place (λ j. nat_lt (number_at c.deref-in-loop-turn-3.result.now j) (number_at b j)) (length b))
    c.deref-in-loop-turn-2.ensures.value c.first_risen.ensures) in
    stands es rows k over hs bs is made few c.loop-turn.invariant.goes (sym c.in-None.is ∙ found)

pub loop-turn-preserved : goal.loop-turn-preserved
loop-turn-preserved c =
    let es = c.args.equations.now in
    let rows = c.args.rows.now in
    let k = c.loop-turn.turn in
    let over = c.in_ok-over.over.items in
    let hs = c.in-Ok.pass.heights.items in
    let bs = c.in-Ok.pass.bounds.items in
    let u = c.in-Some.risen in
    let is = over_of es rows k c.loop-turn.bounds.items c.deref.result.now over c.loop-turn.invariant.long c.loop-turn.invariant.each
    c.deref.ensures.value c.in_ok-over.ensures.each in
    let made = subst (λ (o : List ℕ). IsPass es rows (λ j. number_at o j) hs bs) c.deref-in-loop-turn.ensures.value c.in-Ok.ensures in
    let found = subst (λ (o : List ℕ). c.first_risen.result ≡ first_place (λ j. nat_lt (number_at o j) (number_at bs j)) (length bs)) c.deref-in-loop-turn-3.ensures.value
    (subst (λ (b : List ℕ). c.first_risen.result ≡ first_place (λ j. nat_lt (number_at c.deref-in-loop-turn-3.result.now j) (number_at b j)) (length b))
    c.deref-in-loop-turn-2.ensures.value c.first_risen.ensures) in
    let some = sym c.in-Some.is ∙ found in
    record {
      long = made.bounds_are.long;
      each = next_bounds es rows k over hs bs is made;
      low = low_bounds es rows (λ j. number_at over j) hs bs made;
      goes = goes_on es rows k over hs bs is made u c.loop-turn.invariant.goes some;
      rose = λ i e. let q : k ≡ i = omega arith in subst (λ n. risen es rows n ≡ Some u) q (rose es rows k over hs bs is made u some);
    }
