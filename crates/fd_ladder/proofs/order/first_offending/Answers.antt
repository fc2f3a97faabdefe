use Rattle.std.proofs.Common.{ap, sym, ◌∙◌, slice_get, length, arith}
use Rattle.std.specs.Option.{option_map}
use Rattle.std.specs.Map.Iter.{deref_pair}
use Rattle.fd_ladder.proofs.Placing.{offends_here, none_more, none_offends}
use Rattle.fd_ladder.proofs.order.first_offending.Goals as goal

pub returns-then-branch : goal.returns-then-branch
returns-then-branch c =
    let here = ap (λ es. slice_get es c.loop-place.place) (sym c.as_slice-entries.ensures.entries)
    ∙ sym c.get_index.ensures.entry
    ∙ ap (option_map deref_pair) c.unwrap.ensures in
    offends_here _ _ c.loop-place.place _ here c.loop-place.invariant (sym c.in_ok-offends.ensures ∙ c.if-branch.true)

pub loop-place-preserved : goal.loop-place-preserved
loop-place-preserved c =
    let here = ap (λ es. slice_get es c.loop-place.place) (sym c.as_slice-entries.ensures.entries)
    ∙ sym c.get_index.ensures.entry
    ∙ ap (option_map deref_pair) c.unwrap.ensures in
    none_more _ _ c.loop-place.place _ here c.loop-place.invariant (sym c.in_ok-offends.ensures ∙ c.if-branch.false)

pub returns : goal.returns
returns c =
    let whole = ap length c.as_slice-entries.ensures.entries in
    none_offends _ _ c.loop-place.place (omega (arith, whole, c.len-place-end.ensures, c.loop-place-test.false)) c.loop-place.invariant
