use Rattle.std.proofs.Common.{◌∙◌, sym, rules}
use Rattle.std.proofs.lemmas.List.{take_all}
use Rattle.std.proofs.lemmas.Map.Text.{hash_map_updates_str}
use Rattle.fd_picture.specs.Bases.{HoldsLast}
use Rattle.fd_picture.proofs.LastBases.{base_of_more}
use Rattle.fd_picture.proofs.units.BaseTable.new.Goals as goal

pub loop-base-init : goal.loop-base-init
unfolding HoldsLast
loop-base-init c = λ bus. search rules

pub loop-base-preserved : goal.loop-base-preserved
unfolding HoldsLast
loop-base-preserved c = λ bus.
    hash_map_updates_str c.as_slice.result.now c.loop-base.last c.insert.new.self _ c.in_ok-insert.ensures.updates bus
    ∙ rw (c.as_slice.ensures, c.loop-base.invariant bus) (sym (base_of_more c.args.bases.now c.loop-base.base-index
    c.base-item.result bus c.loop-base-test.true c.base-item.is))

pub invariant_of-result : goal.invariant_of-result
invariant_of-result c = rw (take_all c.loop-base.base-index c.args.bases.now c.loop-base-test.false) at c.loop-base.invariant
