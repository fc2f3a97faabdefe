use Rattle.std.proofs.Common.{◌≡◌, ◌+◌, ◌<◌, ◌∙◌, ℕ, List, [], ◌∷◌, ◌++◌, length, get_or, take, ap, sym, refl}
use Rattle.std.proofs.lemmas.List.{append-nil, append_assoc, take_all, take_more}
use Rattle.fd_network.proofs.extents.extend_reserved.Goals as goal

-- one item more
one_more : {A : Type 0} (start more now : List A) (i : ℕ) (x : A) → i < length more → x ≡ get_or more i x
    → now ≡ start ++ take i more → now ++ x ∷ [] ≡ start ++ take (i + 1) more
one_more start more now i x h is e =
    ap (λ l. l ++ x ∷ []) e
    ∙ append_assoc start (take i more) (x ∷ [])
    ∙ ap (λ l. start ++ l) (ap (λ y. take i more ++ y ∷ []) is ∙ sym (take_more more i x h))

pub loop-item-init : goal.loop-item-init
loop-item-init g c = record { items = sym (append-nil _); capacity = refl }

pub loop-item-preserved : goal.loop-item-preserved
loop-item-preserved g c = record {
  items =
      c.push_reserved.ensures.items
      ∙ one_more _ _ _ _ _ c.loop-item-test.true c.item-item.is c.loop-item.invariant.items;
  capacity = c.push_reserved.ensures.capacity ∙ c.loop-item.invariant.capacity;
}

pub returns-clause-items : goal.returns-clause-items
returns-clause-items g c =
    c.loop-item.invariant.items ∙ ap (λ l. c.args.list.now.items ++ l) (take_all _ _ c.loop-item-test.false)

pub returns-clause-capacity : goal.returns-clause-capacity
returns-clause-capacity g c = c.loop-item.invariant.capacity
