use Rattle.std.proofs.Common.{◌≡◌, ◌∙◌, ◌<◌, ◌%◌, length, nat_abs, inl, inr, ap, sym, subst, refl, arith}
use Rattle.std.proofs.lemmas.Bool.{cases_lt}
use Rattle.fd_mat.specs.Sparse.{held}
use Rattle.fd_mat.proofs.Columns.{column_none}
use Rattle.fd_mat.proofs.Entries.{AreWithin, column_first, column_nothing, size_held, within_earlier, within_later, within_start}
use Rattle.fd_mat.proofs.sparse.SparseRows.first_column_past.Goals as goal

pub loop-held-init : goal.loop-held-init
loop-held-init c = within_start c.self.inside.size c.args.limit c.deref-held-items.result.now

pub loop-held-preserved : goal.loop-held-preserved
loop-held-preserved c =
    let hs = c.deref-held-items.result.now in
    let k = c.loop-held.held-index in
    let n = c.self.inside.size in
    let within = c.loop-held.invariant in
    let column = c.loop-held.least in
    let h = held hs k in
    elim (cases_lt c.args.limit (nat_abs h.value)) [
      | inl past ↦ elim (cases_lt (h.place % n) column) [
        | inl less ↦ rw (c.earlier-least.ensures.past past less) (within_earlier n c.args.limit k column hs h within c.loop-held-test.true refl past less)
        | inr later ↦ rw (c.earlier-least.ensures.other (λ less. absurd (omega arith))) (within_later n c.args.limit k column hs h within refl (λ less. absurd (omega arith)))
      ]
      | inr small ↦ rw (c.earlier-least.ensures.other (λ less. small)) (within_later n c.args.limit k column hs h within refl (λ less. small))
    ]

pub returns-then-least-size-clause-first : goal.returns-then-least-size-clause-first
returns-then-least-size-clause-first c =
    let n = c.self.inside.size in
    let hs = c.self.inside.entries.items in
    let rows = c.args.self.now in
    let s = size_held n hs rows c.self.view_is in
    let e = c.deref-held-items.ensures.value in
    let all : c.loop-held.held-index ≡ length hs = omega (arith, c.loop-held-test.false, c.loop-held.auto.held-index-end, ap length e) in
    let within = subst (AreWithin n c.args.limit c.loop-held.held-index c.loop-held.least) e c.loop-held.invariant in
    sym (column_first n c.args.limit c.loop-held.held-index c.loop-held.least hs rows c.self.view_is within all c.self.invariant
    (subst (λ m. c.loop-held.least < m) s c.if-least-size.true))

pub returns-else-least-size-clause-none : goal.returns-else-least-size-clause-none
returns-else-least-size-clause-none c =
    let n = c.self.inside.size in
    let hs = c.self.inside.entries.items in
    let rows = c.args.self.now in
    let s = size_held n hs rows c.self.view_is in
    let e = c.deref-held-items.ensures.value in
    let all : c.loop-held.held-index ≡ length hs = omega (arith, c.loop-held-test.false, c.loop-held.auto.held-index-end, ap length e) in
    let within = subst (AreWithin n c.args.limit c.loop-held.held-index c.loop-held.least) e c.loop-held.invariant in
    column_nothing n c.args.limit c.loop-held.held-index c.loop-held.least hs rows c.self.view_is within all
    (omega (arith, c.if-least-size.false, s))

pub returns-else-least-size-clause-first : goal.returns-else-least-size-clause-first
returns-else-least-size-clause-first c = sym (column_none c.args.limit c.args.self.now (returns-else-least-size-clause-none c))
