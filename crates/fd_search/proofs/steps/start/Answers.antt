use Rattle.std.proofs.Common.{◌≡◌, ◌∙◌, ◌^◌, ◌++◌, length, take, drop, ap, sym, subst, rules, arith}
use Rattle.std.specs.List.{fold}
use Rattle.std.proofs.lemmas.Result.{err_from_is_err_and}
use Rattle.fd_inject.specs.Procedure.{with_nominal}
use Rattle.fd_inject.specs.Ranges.{SizesWithin}
use Rattle.fd_inject.proofs.CallerLemmas.{constants_long, point_from}
use Rattle.fd_inject.proofs.CallerLemmas.fd_equations.{rewritten}
use Rattle.fd_search.specs.Moves.{CanMove, changes}
use Rattle.fd_search.proofs.Changes.{first_is, length-first, start_past}
use Rattle.fd_search.proofs.steps.start.Goals as goal

pub update-requires-clause-long : goal.update-requires-clause-long
update-requires-clause-long c =
    constants_long c.args.net.now c.deref_mut.result.now (c.deref_mut.ensures.value ∙ c.in_ok-x.ensures.sums)
    ∙ sym c.requires.long

pub test_range-requires : goal.test_range-requires
test_range-requires c =
    let right = c.update.new.right in
    let xs = c.in_ok-x.x.items in
    let len = c.in_ok-x.x.len in
    let n : len ≡ length right = search rules in
    let changed = rewritten xs right len n ∙ c.in_ok-update.ensures.changes
    ∙ ap (changes c.args.rows.now c.args.order.now) (c.deref_mut.ensures.value ∙ c.in_ok-x.ensures.sums) in
    let m : len ≡ length c.set_magnitudes.new.x = search rules in
    let kept = rewritten (take len (right ++ drop (length right) xs)) c.set_magnitudes.new.x len m
    ∙ first_is c.args.net.now c.args.order.now c.args.rows.now c.set_magnitudes.new.x
    (c.set_magnitudes.ensures
    ∙ (λ i. fold with_nominal ((c.deref_mut-2.ensures.value ∙ changed) i) (c.loads.ensures i))) in
    let made = c.deref.ensures.value ∙ kept in
    omega (
      arith,
      ap length made ∙ length-first c.args.net.now c.args.order.now c.args.rows.now ∙ c.requires.long,
      c.size-size.ensures.small,
      c.size-size.ensures.size,
    )

pub returns-in_err-test_range-clause-start : goal.returns-in_err-test_range-clause-start
returns-in_err-test_range-clause-start c =
    let p = err_from_is_err_and c.from_residual-in_err-test_range.result c.from_residual-in_err-test_range.ensures.1 in
    let right = c.update.new.right in
    let xs = c.in_ok-x.x.items in
    let len = c.in_ok-x.x.len in
    let n : len ≡ length right = search rules in
    let changed = rewritten xs right len n ∙ c.in_ok-update.ensures.changes
    ∙ ap (changes c.args.rows.now c.args.order.now) (c.deref_mut.ensures.value ∙ c.in_ok-x.ensures.sums) in
    let m : len ≡ length c.set_magnitudes.new.x = search rules in
    let kept = rewritten (take len (right ++ drop (length right) xs)) c.set_magnitudes.new.x len m
    ∙ first_is c.args.net.now c.args.order.now c.args.rows.now c.set_magnitudes.new.x
    (c.set_magnitudes.ensures
    ∙ (λ i. fold with_nominal ((c.deref_mut-2.ensures.value ∙ changed) i) (c.loads.ensures i))) in
    let made = c.deref.ensures.value ∙ kept in
    rw (p.1, p.2) (start_past c.args.net.now c.args.order.now c.args.rows.now c.deref.result.now
    c.in_err-test_range.field-0.0 (subst (CanMove c.args.rows.now c.args.order.now) (c.deref_mut.ensures.value ∙ c.in_ok-x.ensures.sums)
    c.in_ok-update.ensures.moves)
    made c.in_err-test_range.ensures.range)

pub returns-clause-start : goal.returns-clause-start
returns-clause-start c =
    let right = c.update.new.right in
    let xs = c.in_ok-x.x.items in
    let len = c.in_ok-x.x.len in
    let n : len ≡ length right = search rules in
    let changed = rewritten xs right len n ∙ c.in_ok-update.ensures.changes
    ∙ ap (changes c.args.rows.now c.args.order.now) (c.deref_mut.ensures.value ∙ c.in_ok-x.ensures.sums) in
    let m : len ≡ length c.set_magnitudes.new.x = search rules in
    let kept = rewritten (take len (right ++ drop (length right) xs)) c.set_magnitudes.new.x len m
    ∙ first_is c.args.net.now c.args.order.now c.args.rows.now c.set_magnitudes.new.x
    (c.set_magnitudes.ensures
    ∙ (λ i. fold with_nominal ((c.deref_mut-2.ensures.value ∙ changed) i) (c.loads.ensures i))) in
    let made = c.deref.ensures.value ∙ kept in
    record {
      moves = subst (CanMove c.args.rows.now c.args.order.now) (c.deref_mut.ensures.value ∙ c.in_ok-x.ensures.sums)
          c.in_ok-update.ensures.moves;
      within = subst (SizesWithin (2 ^ 40)) made c.in_ok-test_range.ensures.within;
    }

pub returns-clause-state : goal.returns-clause-state
returns-clause-state c =
    let right = c.update.new.right in
    let xs = c.in_ok-x.x.items in
    let len = c.in_ok-x.x.len in
    let n : len ≡ length right = search rules in
    let changed = rewritten xs right len n ∙ c.in_ok-update.ensures.changes
    ∙ ap (changes c.args.rows.now c.args.order.now) (c.deref_mut.ensures.value ∙ c.in_ok-x.ensures.sums) in
    let m : len ≡ length c.set_magnitudes.new.x = search rules in
    let kept = rewritten (take len (right ++ drop (length right) xs)) c.set_magnitudes.new.x len m
    ∙ first_is c.args.net.now c.args.order.now c.args.rows.now c.set_magnitudes.new.x
    (c.set_magnitudes.ensures
    ∙ (λ i. fold with_nominal ((c.deref_mut-2.ensures.value ∙ changed) i) (c.loads.ensures i))) in
    kept

pub returns-clause-point : goal.returns-clause-point
returns-clause-point c =
    let right = c.update.new.right in
    let xs = c.in_ok-x.x.items in
    let len = c.in_ok-x.x.len in
    let n : len ≡ length right = search rules in
    let changed = rewritten xs right len n ∙ c.in_ok-update.ensures.changes
    ∙ ap (changes c.args.rows.now c.args.order.now) (c.deref_mut.ensures.value ∙ c.in_ok-x.ensures.sums) in
    let m : len ≡ length c.set_magnitudes.new.x = search rules in
    let kept = rewritten (take len (right ++ drop (length right) xs)) c.set_magnitudes.new.x len m
    ∙ first_is c.args.net.now c.args.order.now c.args.rows.now c.set_magnitudes.new.x
    (c.set_magnitudes.ensures
    ∙ (λ i. fold with_nominal ((c.deref_mut-2.ensures.value ∙ changed) i) (c.loads.ensures i))) in
    point_from c.args.net.now _
    (ap length kept ∙ length-first c.args.net.now c.args.order.now c.args.rows.now ∙ c.requires.long)
    (subst (SizesWithin (2 ^ 40)) c.deref.ensures.value c.in_ok-test_range.ensures.within)
