use Rattle.std.proofs.Common.{◌≡◌, ◌∙◌, ℕ, ◌<◌, Some, None, List, length, replicate, arith, ap, subst, sym, rules}
use Rattle.std.proofs.lemmas.List.{length-replicate, length-set}
use Rattle.fd_substitution.specs.fd_derived.Rows.{number_at}
use Rattle.fd_substitution.proofs.CallerLemmas.{filled_more, filled_start}
use Rattle.fd_bounds.specs.Passes.{bound_made, bound_unless_wide, bounds, from_last, is_wide, remainder, unknown_from_last}
use Rattle.fd_bounds.specs.Rows.{pivot_at, unknown_at}
use Rattle.fd_bounds.proofs.Loops.{bound_over, found_first, found_none, no_bound, none_more, some_bound, zeros_read}
use Rattle.fd_bounds.proofs.widths.widths.Goals as goal

pub bound_at-requires-clause-pivot : goal.bound_at-requires-clause-pivot
bound_at-requires-clause-pivot c =
    (c.requires.order.each c.last_but-row.result
    (subst (λ n. c.last_but-row.result < n) c.requires.order.long c.last_but-row.ensures.inside)).pivot

pub loop-behind-init : goal.loop-behind-init
loop-behind-init c =
    let items : c.in_ok-bounds.bounds.items ≡ replicate (length c.args.equations.now) 0 = search rules in
    record {
      long = ap length items ∙ length-replicate (length c.args.equations.now) 0;
      each = λ j. ap (λ (l : List ℕ). number_at l j) items ∙ zeros_read (length c.args.equations.now) j
          ∙ sym (filled_start 0 (unknown_from_last c.args.rows.now) (bound_made c.args.rows.now (number_at c.args.heights.now)) j);
      narrow = λ d l. absurd (omega arith);
    }

pub loop-behind-preserved : goal.loop-behind-preserved
loop-behind-preserved c =
    let es = c.args.equations.now in
    let rows = c.args.rows.now in
    let hs = number_at c.args.heights.now in
    let d = c.loop-behind.behind in
    let t = c.last_but-row.result in
    let list = c.loop-behind.bounds.items in
    let u = c.unknown_of.result in
    let x = c.in-Some.bound in
    let s = remainder rows hs (bounds rows hs d) (from_last rows d) in
    let p = pivot_at rows (from_last rows d) in
    let is : c.bound_at.result ≡ bound_unless_wide s p =
    bound_over rows hs d t c.bound_at.result c.deref.result.now list c.bound_at.ensures c.deref.ensures.value c.loop-behind.invariant.each
    c.last_but-row.ensures.value in
    let some : Some x ≡ bound_unless_wide s p = sym c.in-Some.is ∙ is in
    let found = some_bound s p x some in
    let u_is : u ≡ unknown_at rows (from_last rows d) = c.unknown_of.ensures ∙ ap (unknown_at rows) c.last_but-row.ensures.value in
    let u_in : u < length list = subst (λ n. n < length list) (sym c.unknown_of.ensures) (subst (λ n. unknown_at rows t < n) (sym c.loop-behind.invariant.long)
    (c.requires.order.each t (subst (λ n. t < n) c.requires.order.long c.last_but-row.ensures.inside)).unknown) in
    record {
      long = length-set list u x ∙ c.loop-behind.invariant.long;
      each = filled_more 0 (unknown_from_last rows) (bound_made rows hs) d list x u u_is u_in c.loop-behind.invariant.each found.1;
      narrow = none_more (is_wide rows hs) d c.loop-behind.invariant.narrow found.0;
    }

pub returns-in-None : goal.returns-in-None
returns-in-None c =
    let rows = c.args.rows.now in
    let hs = number_at c.args.heights.now in
    let d = c.loop-behind.behind in
    let t = c.last_but-row.result in
    let list = c.loop-behind.bounds.items in
    let u = c.unknown_of-in-None.result in
    let s = remainder rows hs (bounds rows hs d) (from_last rows d) in
    let p = pivot_at rows (from_last rows d) in
    let is : c.bound_at.result ≡ bound_unless_wide s p =
    bound_over rows hs d t c.bound_at.result c.deref.result.now list c.bound_at.ensures c.deref.ensures.value c.loop-behind.invariant.each
    c.last_but-row.ensures.value in
    let none : None ≡ bound_unless_wide s p = sym c.in-None.is ∙ is in
    let u_is : u ≡ unknown_at rows (from_last rows d) = c.unknown_of-in-None.ensures ∙ ap (unknown_at rows) c.last_but-row.ensures.value in
    let d_in : d < length rows = search rules in
    found_first (λ e. unknown_at rows (from_last rows e)) (is_wide rows hs) (length rows) d u d_in c.loop-behind.invariant.narrow (no_bound s p none) u_is

pub returns : goal.returns
returns c =
    let rows = c.args.rows.now in
    let hs = number_at c.args.heights.now in
    let all : c.loop-behind.behind ≡ length rows = omega (arith, c.loop-behind.auto.behind-end, c.loop-behind-test.false) in
    record {
      long = c.loop-behind.invariant.long;
      each = λ j. c.loop-behind.invariant.each j ∙ ap (λ n. bounds rows hs n j) all;
      ends = found_none (λ e. unknown_at rows (from_last rows e)) (is_wide rows hs) (length rows)
          (λ d l. c.loop-behind.invariant.narrow d (subst (λ n. d < n) (sym all) l));
    }
