use Rattle.std.proofs.Common.{◌≡◌, ◌∙◌, true, ap, sym}
use Rattle.std.proofs.lemmas.Bool.Decides.{Decides-eqb}
use lib.Pointwise.{pointwise_decides}
use Rattle.fd_mat.specs.Sparse.{rows_held}
use Rattle.fd_mat.proofs.Entries.{same_entry, same_held}
use Rattle.fd_mat.proofs.sparse.SparseRows.same.Goals as goal

pub returns-then-self-other : goal.returns-then-self-other
returns-then-self-other c =
    let s = c.self.inside in
    let o = c.other.inside in
    let equal = pointwise_decides same_entry c.as_slice.result.now c.as_slice-then-self-other.result.now in
    let mine = c.as_slice.ensures.value in
    let theirs = c.as_slice-then-self-other.ensures.value in (
      λ t.
          let hs = sym mine ∙ equal.0 (sym c.eq.ensures ∙ t) ∙ theirs in
          sym c.self.view_is ∙ (λ i. rows_held (c.if-self-other.true i) (hs i)) ∙ c.other.view_is,
      λ e.
          c.eq.ensures ∙ equal.1 (mine ∙ (same_held s.size o.size s.entries.items o.entries.items c.self.invariant c.other.invariant
          (c.self.view_is ∙ e ∙ sym c.other.view_is)).1 ∙ sym theirs),
    )

pub returns-else-self-other : goal.returns-else-self-other
returns-else-self-other c =
    let s = c.self.inside in
    let o = c.other.inside in (
      λ t. absurd (c.if-self-other.false ((Decides-eqb s.size o.size).0 t)),
      λ e. absurd (c.if-self-other.false (same_held s.size o.size s.entries.items o.entries.items c.self.invariant c.other.invariant
          (c.self.view_is ∙ e ∙ sym c.other.view_is)).0),
    )
