use Rattle.std.proofs.Common.{◌≡◌, ◌∙◌, ◌≢◌, ◌+◌, ◌*◌, ◌<◌, length, ap, sym, subst, set, pos, FitsSigned, rules, Result, Ok, Err, IfErr}
use Rattle.std.specs.Int.{w128}
use Rattle.std.proofs.lemmas.Int.{to_z-of_z}
use Rattle.fd_mat.specs.Sparse.{AreHeld, IsAt, IsGap, held}
use Rattle.fd_mat.proofs.Entries.{WithValue, entry_held, held_insert, held_remove, held_set, other_read, place_in, value_nowhere, with_insert, with_nothing, with_remove, with_set, written, zero_read}
use Rattle.fd_mat.proofs.sparse.SparseRows.set.Goals as goal

anyhow : {A E : Type 0} (r : Result A E) (P : Type 0) → P → IfErr r (λ _. P)
anyhow (Ok a) P p = tt
anyhow (Err e) P p = p

pub invariant_of-self : goal.invariant_of-self
invariant_of-self c =
    let hs = c.self.inside.entries.items in
    let here : IsAt hs c.place-place.result c.in-Ok.at =
    subst (λ l. IsAt l c.place-place.result c.in-Ok.at) c.deref.ensures.value c.in-Ok.ensures.found in
    rw c.remove.ensures.items (held_remove c.self.inside.size hs c.self.invariant c.place-place.result c.in-Ok.at here)

pub invariant_of-self-in-Ok-2 : goal.invariant_of-self-in-Ok-2
invariant_of-self-in-Ok-2 c =
    let hs = c.self.inside.entries.items in
    let here : IsAt hs c.place-place.result c.in-Ok.at =
    subst (λ l. IsAt l c.place-place.result c.in-Ok.at) c.deref.ensures.value c.in-Ok.ensures.found in
    let f : FitsSigned w128 c.args.value = c.ranges.value in
    rw (to_z-of_z w128 c.args.value f) (held_set c.self.inside.size hs c.self.invariant c.place-place.result c.in-Ok.at
    here c.args.value (other_read c.args.value c.if-value-eq0.false))

pub invariant_of-self-in-Continue-1 : goal.invariant_of-self-in-Continue-1
invariant_of-self-in-Continue-1 c =
    let hs = c.self.inside.entries.items in
    let gap : IsGap hs c.place-place.result c.in-Err.field-0 =
    subst (λ l. IsGap l c.place-place.result c.in-Err.field-0) c.deref.ensures.value c.in-Err.ensures.gap in
    let inside : c.place-place.result < c.self.inside.size * c.self.inside.size =
    rw c.place-place.ensures (place_in c.self.inside.size hs c.args.self.now c.args.row c.args.col c.self.view_is
    c.requires.row_in c.requires.col_in) in
    let f : FitsSigned w128 c.args.value = c.ranges.value in
    rw (c.in_ok-insert-in-Err-2.ensures.items, to_z-of_z w128 c.args.value f)
    (held_insert hs c.place-place.result c.in-Err.field-0 gap c.self.inside.size c.args.value
    (other_read c.args.value c.if-value-eq0-2.false) inside c.self.invariant)

pub returns-in_err-insert-in-Err-2-clause-refused : goal.returns-in_err-insert-in-Err-2-clause-refused
returns-in_err-insert-in-Err-2-clause-refused c =
    let hs = c.self.inside.entries.items in
    let gap : IsGap hs c.place-place.result c.in-Err-2.at =
    subst (λ l. IsGap l c.place-place.result c.in-Err-2.at) c.deref.ensures.value c.in-Err-2.ensures.gap in
    anyhow c.from_residual.result _ (
      (other_read c.args.value c.if-value-eq0-2.false),
      entry_held c.self.inside.size hs c.args.self.now c.args.row c.args.col c.self.view_is c.requires.row_in
          c.requires.col_in
          ∙ value_nowhere hs _ c.in-Err-2.at (subst (λ p. IsGap hs p c.in-Err-2.at) c.place-place.ensures gap),
    )

pub returns-in-Ok-clause-set : goal.returns-in-Ok-clause-set
returns-in-Ok-clause-set c =
    let hs = c.self.inside.entries.items in
    let here : IsAt hs c.place-place.result c.in-Ok.at =
    subst (λ l. IsAt l c.place-place.result c.in-Ok.at) c.deref.ensures.value c.in-Ok.ensures.found in
    let is = with_remove hs c.self.invariant.rising c.place-place.result c.in-Ok.at here in
    let z : pos 0 ≡ c.args.value = sym (zero_read c.args.value c.ranges.value c.if-value-eq0.true) in
    written c.self.inside.size hs c.remove.new.self.items c.args.self.now c.args.row c.args.col c.args.value
    c.self.view_is c.requires.row_in c.requires.col_in
    (subst (λ v. WithValue hs c.remove.new.self.items (c.args.row * length c.args.self.now + c.args.col) v) z
    (subst (λ p. WithValue hs c.remove.new.self.items p (pos 0)) c.place-place.ensures
    (subst (λ l. WithValue hs l c.place-place.result (pos 0)) (sym c.remove.ensures.items) is)))

pub returns-in-Ok-2-clause-set : goal.returns-in-Ok-2-clause-set
returns-in-Ok-2-clause-set c =
    let hs = c.self.inside.entries.items in
    let here : IsAt hs c.place-place.result c.in-Ok.at =
    subst (λ l. IsAt l c.place-place.result c.in-Ok.at) c.deref.ensures.value c.in-Ok.ensures.found in
    let f : FitsSigned w128 c.args.value = c.ranges.value in
    let is = with_set hs c.self.invariant.rising c.place-place.result c.in-Ok.at here c.args.value in
    rw (to_z-of_z w128 c.args.value f) (written c.self.inside.size hs (set hs c.in-Ok.at (record {
      place =
          c.place-place.result;
      value = c.args.value;
    }))
    c.args.self.now c.args.row c.args.col c.args.value c.self.view_is c.requires.row_in c.requires.col_in
    (subst (λ p. WithValue hs (set hs c.in-Ok.at (record { place = c.place-place.result; value = c.args.value })) p
    c.args.value) c.place-place.ensures is))

pub returns-in-Err-clause-set : goal.returns-in-Err-clause-set
returns-in-Err-clause-set c =
    let hs = c.self.inside.entries.items in
    let gap : IsGap hs c.place-place.result c.in-Err.field-0 =
    subst (λ l. IsGap l c.place-place.result c.in-Err.field-0) c.deref.ensures.value c.in-Err.ensures.gap in
    let z : pos 0 ≡ c.args.value = sym (zero_read c.args.value c.ranges.value c.if-value-eq0-2.true) in
    sym c.self.view_is ∙ written c.self.inside.size hs hs c.args.self.now c.args.row c.args.col c.args.value
    c.self.view_is c.requires.row_in c.requires.col_in
    (subst (λ v. WithValue hs hs (c.args.row * length c.args.self.now + c.args.col) v) z
    (subst (λ p. WithValue hs hs p (pos 0)) c.place-place.ensures (with_nothing hs c.place-place.result c.in-Err.field-0
    gap)))

pub returns-in_ok-insert-in-Err-2-clause-set : goal.returns-in_ok-insert-in-Err-2-clause-set
returns-in_ok-insert-in-Err-2-clause-set c =
    let hs = c.self.inside.entries.items in
    let gap : IsGap hs c.place-place.result c.in-Err.field-0 =
    subst (λ l. IsGap l c.place-place.result c.in-Err.field-0) c.deref.ensures.value c.in-Err.ensures.gap in
    let f : FitsSigned w128 c.args.value = c.ranges.value in
    let items = simp to_z-of_z at c.in_ok-insert-in-Err-2.ensures.items in
    let is = with_insert hs c.place-place.result c.in-Err.field-0 gap c.args.value in
    written c.self.inside.size hs c.insert.new.self.items c.args.self.now c.args.row c.args.col c.args.value
    c.self.view_is c.requires.row_in c.requires.col_in
    (subst (λ p. WithValue hs c.insert.new.self.items p c.args.value) c.place-place.ensures
    (subst (λ l. WithValue hs l c.place-place.result c.args.value) (sym items) is))
