use Rattle.std.proofs.Common.{ap, sym, ◌∙◌, slice_get, length, arith}
use Rattle.std.specs.Option.{option_map}
use Rattle.std.specs.Map.Iter.{deref_pair}
use Rattle.dss_layout.specs.Layout.{passes_limit}
use Rattle.dss_layout.proofs.Placing.{added_next, laid_out_whole, passed_more, too_many_at}
use Rattle.dss_layout.proofs.layout.Layout.of.Goals as goal

pub returns-then-branch : goal.returns-then-branch
returns-then-branch c =
    let here = ap (λ es. slice_get es c.loop-place.place) (sym c.as_slice-entries.ensures.entries)
    ∙ sym c.get_index.ensures.entry
    ∙ ap (option_map deref_pair) c.unwrap.ensures in
    too_many_at _ c.loop-place.place _ _ _ _ here c.loop-place.invariant.so_far c.loop-place.invariant.before c.in_ok-add.ensures.passes c.if-branch.true

pub loop-place-preserved : goal.loop-place-preserved
loop-place-preserved c =
    let here = ap (λ es. slice_get es c.loop-place.place) (sym c.as_slice-entries.ensures.entries)
    ∙ sym c.get_index.ensures.entry
    ∙ ap (option_map deref_pair) c.unwrap.ensures in
    record {
      so_far = c.in_ok-add.ensures.added c.if-branch.false ∙ added_next _ c.loop-place.place _ _ _ here c.loop-place.invariant.so_far;
      within = ap passes_limit (c.in_ok-add.ensures.added c.if-branch.false) ∙ sym c.in_ok-add.ensures.passes ∙ c.if-branch.false;
      before = passed_more _ c.loop-place.place _ _ _ _ here c.loop-place.invariant.so_far
          c.loop-place.invariant.before c.in_ok-add.ensures.passes c.if-branch.false;
    }

pub returns : goal.returns
returns c =
    let whole = ap length c.as_slice-entries.ensures.entries in
    laid_out_whole _ c.loop-place.place _ (omega (arith, whole, c.len-place-end.ensures)) c.loop-place.invariant.so_far c.loop-place.invariant.before
