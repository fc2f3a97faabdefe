use Rattle.std.proofs.Common.{◌∙◌, sym, refl}
use Rattle.std.proofs.lemmas.List.{append-nil}
use Rattle.fd_system.proofs.Appending.{one_more, all_added}
use Rattle.fd_system.proofs.stamps.extend_reserved.Goals as goal

pub loop-item-init : goal.loop-item-init
loop-item-init g c = record { items = sym (append-nil _); capacity = refl }

pub loop-item-preserved : goal.loop-item-preserved
loop-item-preserved g c = record {
  items =
      c.push_reserved.ensures.items
      ∙ one_more _ _ _ _ _ c.loop-item-test.true c.item-item.is c.loop-item.invariant.items;
  capacity = c.push_reserved.ensures.capacity ∙ c.loop-item.invariant.capacity;
}

pub returns-clause-items : goal.returns-clause-items
returns-clause-items g c = all_added _ _ _ _ c.loop-item-test.false c.loop-item.invariant.items

pub returns-clause-capacity : goal.returns-clause-capacity
returns-clause-capacity g c = c.loop-item.invariant.capacity
