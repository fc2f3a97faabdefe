use Rattle.std.proofs.Common.{◌≡◌, ◌∙◌, ◌*◌, ◌^◌, length, take, drop, ◌++◌, sym, subst, arith, rules}
use Rattle.fd_arith.specs.fd_exact.States.{entry}
use Rattle.fd_mat.specs.Rows.{EntriesWithin}
use Rattle.fd_mat.proofs.CallerLemmas.{held_within}
use Rattle.fd_inverse.specs.Numbers.{IsSmall}
use Rattle.fd_inverse.specs.Running.{IsStart}
use Rattle.fd_inverse.proofs.HeldStarts.{HasWhole, is_start}
use Rattle.fd_inverse.proofs.Starts.{rewritten, starts_small}
use Rattle.fd_inverse.proofs.cells.sparse_start_cells.Goals as goal
use Rattle.fd_inverse.proofs.cells.sparse_start_cells.Goals.{After-write_unit}

pub write_held-requires-clause-small : goal.write_held-requires-clause-small
write_held-requires-clause-small c = held_within c.args.a.now c.held.result.now (2 ^ 62) c.held.ensures c.requires.entries

started : (c : After-write_unit) → IsStart (entry c.args.a.now) c.size-n.result c.write_unit.new.cells
started c =
    let n : c.in_ok-cells.cells.len ≡ length c.write_held.new.cells = search rules in
    let left = c.deref_mut-2.ensures.value ∙ rewritten c.in_ok-cells.cells.items c.write_held.new.cells c.in_ok-cells.cells.len n in
    is_start c.args.a.now c.held.result.now c.size-n.result c.write_held.new.cells c.write_unit.new.cells c.held.ensures
    c.size-n.ensures c.write_held.ensures
    (subst (λ l. HasWhole c.size-n.result l c.write_unit.new.cells) left c.write_unit.ensures)

pub returns-clause-cells : goal.returns-clause-cells
returns-clause-cells c =
    let n : c.in_ok-cells.cells.len ≡ length c.write_unit.new.cells = search rules in
    let before = take c.in_ok-cells.cells.len (c.write_held.new.cells ++ drop (length c.write_held.new.cells) c.in_ok-cells.cells.items) in
    let begun = subst (λ m. IsStart (entry c.args.a.now) m c.write_unit.new.cells) c.size-n.ensures (started c.before) in
    subst (IsStart (entry c.args.a.now) (length c.args.a.now)) (sym (rewritten before c.write_unit.new.cells c.in_ok-cells.cells.len n)) begun

pub returns-clause-small : goal.returns-clause-small
returns-clause-small c =
    let n : c.in_ok-cells.cells.len ≡ length c.write_unit.new.cells = search rules in
    let long : length c.write_unit.new.cells ≡ c.size-n.result * (2 * c.size-n.result) = search rules in
    subst IsSmall (sym (rewritten _ c.write_unit.new.cells c.in_ok-cells.cells.len n))
    (starts_small (entry c.args.a.now) c.size-n.result c.write_unit.new.cells long (started c.before)
    (λ row col l m. c.requires.entries row col (omega (arith, c.size-n.ensures)) (omega (arith, c.size-n.ensures))))
