use Rattle.std.proofs.Common.{◌≤◌, ap, sym, ◌∙◌, length, slice_get, All, subst, arith}
use Rattle.std.proofs.lemmas.List.{take_all}
use Rattle.std.specs.Option.{option_map}
use Rattle.std.specs.Map.Iter.{deref_pair}
use Rattle.dss_layout.specs.Layout.{LayoutView}
use Rattle.dss_ready.specs.Feeding.{IsFed}
use Rattle.dss_ready.proofs.Labelled.{first_isolated_at, fed_up_to}
use Rattle.dss_ready.proofs.feeding.first_isolated.Goals as goal

pub returns-then-branch : goal.returns-then-branch
returns-then-branch c =
    let here = ap (λ es. slice_get es c.loop-place.place) (sym c.as_slice-entries.ensures.entries)
    ∙ sym c.get_index.ensures.entry
    ∙ ap (option_map deref_pair) c.unwrap.ensures in
    first_isolated_at c.args.elements.now.entries c.loop-place.place _ _ _ _ _ here (ap (λ (v : LayoutView). v.nodes) c.requires)
    (c.deref.ensures.value ∙ c.in_ok-labels.ensures.labels) c.in_ok-is_apart.ensures c.if-branch.true c.loop-place.invariant

pub loop-place-preserved : goal.loop-place-preserved
loop-place-preserved c =
    let here = ap (λ es. slice_get es c.loop-place.place) (sym c.as_slice-entries.ensures.entries)
    ∙ sym c.get_index.ensures.entry
    ∙ ap (option_map deref_pair) c.unwrap.ensures in
    fed_up_to c.args.elements.now.entries c.loop-place.place _ _ _ _ _ here (ap (λ (v : LayoutView). v.nodes) c.requires)
    (c.deref.ensures.value ∙ c.in_ok-labels.ensures.labels) c.in_ok-is_apart.ensures c.if-branch.false c.loop-place.invariant

pub returns : goal.returns
returns c =
    let es = c.args.elements.now.entries in
    let n = ap length c.as_slice-entries.ensures.entries in
    let all : length es ≤ c.loop-place.place = omega (arith, n, c.len-place-end.ensures, c.loop-place-test.false) in
    subst (All (IsFed es)) (take_all c.loop-place.place es all) c.loop-place.invariant
