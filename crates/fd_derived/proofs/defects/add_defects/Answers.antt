use Rattle.std.proofs.Common.{◌∙◌, ◌*◌, pos, negsuc, length, nat_abs, arith, ap, subst, sym}
use Rattle.fd_factors.specs.Factors.{DerivedRow, HasPlaces, weighted_size}
use Rattle.fd_derived.specs.Rows.{coefficients_at, entries_of, row_at}
use Rattle.fd_derived.specs.Sums.{HasRoom, IsAdded, IsCombined, size_of}
use Rattle.fd_derived.proofs.DefectSums.{defects_made, first_room, second_room, third_room}
use Rattle.fd_derived.proofs.Drained.{supported_start}
use Rattle.fd_derived.proofs.Rows.{row_read}
use Rattle.fd_derived.proofs.defects.add_defects.Goals as goal

pub add_equations-requires-clause-placed : goal.add_equations-requires-clause-placed
add_equations-requires-clause-placed c =
    let read = row_read c.args.rows.now c.args.row c.index-rows-row.result c.requires.row c.index-rows-row.is in
    let items = ap (λ (r : DerivedRow). r.equations) read ∙ ap entries_of (sym c.deref.ensures.value) in
    subst (HasPlaces (length c.args.equations.now)) items c.requires.placed.equations

pub add_equations-requires-clause-room : goal.add_equations-requires-clause-room
add_equations-requires-clause-room c =
    let read = row_read c.args.rows.now c.args.row c.index-rows-row.result c.requires.row c.index-rows-row.is in
    let items = ap (λ (r : DerivedRow). r.equations) read ∙ ap entries_of (sym c.deref.ensures.value) in
    subst (λ its. HasRoom c.args.sums.now (weighted_size its (λ l. size_of (coefficients_at c.args.equations.now l)))) items
    (first_room c.args.equations.now c.args.rows.now c.args.row c.requires.range c.args.sums.now c.requires.zero)

pub add_equations-requires-clause-supported : goal.add_equations-requires-clause-supported
add_equations-requires-clause-supported c = supported_start c.args.sums.now c.args.touched.now.items c.requires.zero

pub add_equations-requires-clause-inside : goal.add_equations-requires-clause-inside
add_equations-requires-clause-inside c = rw c.requires.untouched (λ k d h. absurd (omega arith))

pub take_rows-requires-clause-placed : goal.take_rows-requires-clause-placed
take_rows-requires-clause-placed c =
    let rows = c.args.rows.now in
    let read = row_read rows c.args.row c.index-rows-row.result c.requires.row c.index-rows-row.is in
    let others = ap (λ (r : DerivedRow). r.others) read ∙ ap entries_of (sym c.deref-2.ensures.value) in
    (subst (HasPlaces (length rows)) others c.requires.placed.others)

pub take_rows-requires-clause-room : goal.take_rows-requires-clause-room
take_rows-requires-clause-room c =
    let es = c.args.equations.now in
    let rows = c.args.rows.now in
    let first = c.add_equations.new.sums in
    let read = row_read rows c.args.row c.index-rows-row.result c.requires.row c.index-rows-row.is in
    let equations = ap (λ (r : DerivedRow). r.equations) read ∙ ap entries_of (sym c.deref.ensures.value) in
    let others = ap (λ (r : DerivedRow). r.others) read ∙ ap entries_of (sym c.deref-2.ensures.value) in
    let made = subst (λ its. IsCombined c.args.sums.now first its (coefficients_at es) (pos 1)) (sym equations) c.in_ok-add_equations.ensures.combined in
    (subst (λ its. HasRoom first (weighted_size its (λ k. size_of (row_at rows k).left))) others
    (second_room es rows c.args.row c.requires.range c.args.sums.now first first first c.requires.zero made))

pub add-requires-clause-room : goal.add-requires-clause-room
add-requires-clause-room c =
    let es = c.args.equations.now in
    let rows = c.args.rows.now in
    let first = c.add_equations.new.sums in
    let second = c.take_rows.new.sums in
    let read = row_read rows c.args.row c.index-rows-row.result c.requires.row c.index-rows-row.is in
    let equations = ap (λ (r : DerivedRow). r.equations) read ∙ ap entries_of (sym c.deref.ensures.value) in
    let others = ap (λ (r : DerivedRow). r.others) read ∙ ap entries_of (sym c.deref-2.ensures.value) in
    let left = ap (λ (r : DerivedRow). r.left) read ∙ ap entries_of (sym c.deref-3.ensures.value) in
    let made = subst (λ its. IsCombined c.args.sums.now first its (coefficients_at es) (pos 1)) (sym equations) c.in_ok-add_equations.ensures.combined in
    let taken = subst (λ its. IsCombined first second its (λ k. (row_at rows k).left) (negsuc 0)) (sym others)
    c.in_ok-take_rows.ensures.combined in
    subst (λ its. HasRoom second (nat_abs (negsuc 1099511627775) * size_of its)) left
    (third_room es rows c.args.row c.requires.range c.args.sums.now first second second c.requires.zero made taken)

pub returns-clause-defects : goal.returns-clause-defects
returns-clause-defects c =
    let es = c.args.equations.now in
    let rows = c.args.rows.now in
    let first = c.add_equations.new.sums in
    let second = c.take_rows.new.sums in
    let third = c.add.new.sums in
    let read = row_read rows c.args.row c.index-rows-row.result c.requires.row c.index-rows-row.is in
    let equations = ap (λ (r : DerivedRow). r.equations) read ∙ ap entries_of (sym c.deref.ensures.value) in
    let others = ap (λ (r : DerivedRow). r.others) read ∙ ap entries_of (sym c.deref-2.ensures.value) in
    let left = ap (λ (r : DerivedRow). r.left) read ∙ ap entries_of (sym c.deref-3.ensures.value) in
    let made = subst (λ its. IsCombined c.args.sums.now first its (coefficients_at es) (pos 1)) (sym equations) c.in_ok-add_equations.ensures.combined in
    let taken = subst (λ its. IsCombined first second its (λ k. (row_at rows k).left) (negsuc 0)) (sym others)
    c.in_ok-take_rows.ensures.combined in
    let itself = subst (λ its. IsAdded second third its (negsuc 1099511627775)) (sym left) c.in_ok-add.ensures.added in
    defects_made es rows c.args.row c.requires.range c.args.sums.now first second third c.requires.zero made taken itself
