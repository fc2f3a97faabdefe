use Rattle.std.proofs.Common.{Ok, Err, ap, sym, ◌∙◌, if◌then◌else◌}
use Rattle.fd_ladder.specs.Radial.{first_offending, order_of}
use Rattle.fd_ladder.specs.dss_layout.Layout.{size_of}
use Rattle.fd_levels.specs.Order.{is_paired, pairs_of}
use Rattle.fd_levels.specs.declared.fault.OrderFault.TheVariants.{Unpaired}
use Rattle.fd_levels.proofs.Ordering.{is_ordered, same_order}
use Rattle.fd_levels.proofs.answer.order.Goals as goal

pub pairs_in-requires-clause-taken : goal.pairs_in-requires-clause-taken
pairs_in-requires-clause-taken c =
    let es = c.args.circuit.now.elements in
    c.deref.ensures.value
    ∙ same_order (first_offending es) (order_of es) c.in-Ok.taken.items c.in-Ok.ensures
    ∙ ap order_of (sym c.elements.ensures.entries)

pub returns-then-not-branch : goal.returns-then-not-branch
returns-then-not-branch c =
    let es = c.args.circuit.now.elements in
    is_ordered (first_offending es) (order_of es) c.in-Ok.taken.items es c.size.result c.in_ok-pairs.pairs.items c.in_ok-is_paired.field-0
    c.in-Ok.ensures (c.size.ensures ∙ ap size_of c.requires) (c.in_ok-pairs.ensures ∙ ap pairs_of c.elements.ensures.entries)
    (c.in_ok-is_paired.ensures ∙ ap (is_paired c.size.result) c.deref-2.ensures.value)
    ∙ ap (λ b. if b then Ok c.in_ok-pairs.pairs.items else Err Unpaired) c.if-not-branch.true

pub returns : goal.returns
returns c =
    let es = c.args.circuit.now.elements in
    is_ordered (first_offending es) (order_of es) c.in-Ok.taken.items es c.size.result c.in_ok-pairs.pairs.items c.in_ok-is_paired.field-0
    c.in-Ok.ensures (c.size.ensures ∙ ap size_of c.requires) (c.in_ok-pairs.ensures ∙ ap pairs_of c.elements.ensures.entries)
    (c.in_ok-is_paired.ensures ∙ ap (is_paired c.size.result) c.deref-2.ensures.value)
    ∙ ap (λ b. if b then Ok c.in_ok-pairs.pairs.items else Err Unpaired) c.if-not-branch.false
