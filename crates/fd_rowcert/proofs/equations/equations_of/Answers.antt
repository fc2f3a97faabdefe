use Rattle.std.proofs.Common.{◌≡◌, ◌∙◌, ◌<◌, ◌+◌, is_none, IfSome, arith, ap, sym, subst}
use Rattle.fd_rowcert.specs.Entries.{AreEntriesOf}
use Rattle.fd_rowcert.proofs.Loading.{AreLoaded, loaded_all, loaded_more, pushed_list, wide_first}
use Rattle.fd_rowcert.proofs.equations.equations_of.Goals as goal

pub returns-in-None : goal.returns-in-None
returns-in-None c = λ J h.
    let m = c.args.jacobian.now in
    let in_range : c.loop-row.row < m.size = omega (arith, c.loop-row-test.true, c.size-row-end.ensures.size) in
    wide_first m.size J c.loop-row.row in_range (c.loop-row.invariant.loaded J h).none
    (sym (ap is_none c.in-None.is) ∙ c.in_ok-coefficients.ensures.wide J h)

pub loop-row-preserved : goal.loop-row-preserved
loop-row-preserved c =
    let m = c.args.jacobian.now in
    record {
      long = pushed_list c.loop-row.equations.items c.push.new.self.items _ c.loop-row.row c.loop-row.invariant.long
          c.in_ok-push-in-Some.ensures.items;
      loaded = λ J h.
          let made = subst (λ o. IfSome o (λ es. AreEntriesOf m.size (J c.loop-row.row) es.items)) c.in-Some.is
          (c.in_ok-coefficients.ensures.entries J h) in
          let narrow = sym (ap is_none c.in-Some.is) ∙ c.in_ok-coefficients.ensures.wide J h in
          subst (λ es. AreLoaded m.size J c.args.mismatch.now es (c.loop-row.row + 1))
          (sym c.in_ok-push-in-Some.ensures.items)
          (loaded_more m.size J c.args.mismatch.now c.loop-row.equations.items c.loop-row.row _
          c.loop-row.invariant.long
          (c.loop-row.invariant.loaded J h) made c.right_side.ensures narrow);
    }

pub returns : goal.returns
returns c = λ J h.
    let m = c.args.jacobian.now in
    let all : c.loop-row.row ≡ m.size = omega
    (arith, c.loop-row.auto.row-end, c.loop-row-test.false, c.size-row-end.ensures.size) in
    loaded_all m.size J c.args.mismatch.now c.loop-row.equations.items (c.loop-row.invariant.long ∙ all)
    (subst (AreLoaded m.size J c.args.mismatch.now c.loop-row.equations.items) all (c.loop-row.invariant.loaded J h))
