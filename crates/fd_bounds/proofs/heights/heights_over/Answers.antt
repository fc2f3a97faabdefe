use Rattle.std.proofs.Common.{◌≡◌, ◌∙◌, ℕ, ◌+◌, ◌*◌, ◌/◌, ◌<◌, ◌≤◌, ◌^◌, List, length, arith, ap, subst, sym, rules}
use Rattle.std.proofs.lemmas.List.{length_push}
use Rattle.fd_substitution.specs.fd_derived.Rows.{number_at, radius, right_side_at}
use Rattle.fd_substitution.specs.fd_derived.fd_factors.fd_exact.Sums.{sum_n}
use Rattle.fd_substitution.specs.fd_derived.Sums.{AreTotals, capped}
use Rattle.fd_substitution.proofs.CallerLemmas.{filled_start}
use Rattle.fd_bounds.specs.Passes.{above_part, height_made, heights, is_high, load}
use Rattle.fd_bounds.specs.Rows.{unknown_at}
use Rattle.fd_bounds.proofs.Loops.{found_first, found_none, heights_push, load_over, none_more}
use Rattle.fd_bounds.proofs.Sizes.{high_capped, low_capped, not_capped}
use Rattle.fd_bounds.proofs.heights.heights_over.Goals as goal

pub load_of-load-requires-clause-allowed : goal.load_of-load-requires-clause-allowed
load_of-load-requires-clause-allowed c =
    let es = c.args.equations.now in
    let f : ℕ → ℕ = (λ l. sum_n (λ j. radius es l j * number_at c.args.bounds.now j) (length es) + 2 ^ 40 * right_side_at es l) in
    subst (λ (a : List ℕ). AreTotals f (length es) a) (sym c.deref.ensures.value) c.in_ok-allowed.ensures

pub loop-row-init : goal.loop-row-init
loop-row-init c = record {
  long = ap length c.in_ok-heights.ensures.items;
  each = λ k. ap (λ (l : List ℕ). number_at l k) c.in_ok-heights.ensures.items
      ∙ sym (filled_start 0 (λ t. t) (height_made c.args.equations.now c.args.rows.now (number_at c.args.bounds.now)) k);
  low = λ k l. absurd (omega arith);
}

pub loop-row-preserved : goal.loop-row-preserved
loop-row-preserved c =
    let es = c.args.equations.now in
    let rows = c.args.rows.now in
    let bs = number_at c.args.bounds.now in
    let t = c.loop-row.row in
    let list = c.loop-row.heights.items in
    let s = c.load_of-load.result in
    let L = load es rows bs (heights es rows bs t) t in
    let is : s ≡ capped L =
    load_over es rows bs t s c.deref-in-loop-row.result.now c.loop-row.heights.items c.load_of-load.ensures c.deref-in-loop-row.ensures.value
    c.loop-row.invariant.each in
    let low : s < 2 ^ 127 = search rules in
    let x = s / 2 ^ 40 + 1 in
    record {
      long = ap length c.in_ok-push.ensures.items ∙ length_push list x ∙ ap (λ n. n + 1) c.loop-row.invariant.long;
      each = λ k. ap (λ (l : List ℕ). number_at l k) c.in_ok-push.ensures.items
          ∙ heights_push es rows bs list t x c.loop-row.invariant.long c.loop-row.invariant.each
          (ap (λ n. above_part n (2 ^ 40)) (not_capped s L is low)) k;
      low = none_more (is_high es rows bs) t c.loop-row.invariant.low (low_capped s L is low);
    }

pub returns-then-load-ge-SUM_LIMIT : goal.returns-then-load-ge-SUM_LIMIT
returns-then-load-ge-SUM_LIMIT c =
    let es = c.args.equations.now in
    let rows = c.args.rows.now in
    let bs = number_at c.args.bounds.now in
    let t = c.loop-row.row in
    let s = c.load_of-load.result in
    let L = load es rows bs (heights es rows bs t) t in
    let is : s ≡ capped L =
    load_over es rows bs t s c.deref-in-loop-row.result.now c.loop-row.heights.items c.load_of-load.ensures c.deref-in-loop-row.ensures.value
    c.loop-row.invariant.each in
    let high : 2 ^ 127 ≤ s = search rules in
    let t_in : t < length rows = search rules in
    found_first (unknown_at rows) (is_high es rows bs) (length rows) t c.unknown_of.result t_in c.loop-row.invariant.low
    (high_capped s L is high) c.unknown_of.ensures

pub returns : goal.returns
returns c =
    let es = c.args.equations.now in
    let rows = c.args.rows.now in
    let bs = number_at c.args.bounds.now in
    let all : c.loop-row.row ≡ length rows = omega (arith, c.loop-row.auto.row-end, c.loop-row-test.false) in
    record {
      long = c.loop-row.invariant.long ∙ all;
      each = λ k. c.loop-row.invariant.each k ∙ ap (λ n. heights es rows bs n k) all;
      ends = found_none (unknown_at rows) (is_high es rows bs) (length rows) (λ k l. c.loop-row.invariant.low k (subst (λ n. k < n) (sym all) l));
    }
