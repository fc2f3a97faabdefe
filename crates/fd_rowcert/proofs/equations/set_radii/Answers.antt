use Rattle.std.proofs.Common.{◌≡◌, ◌∙◌, ◌<◌, is_none, IfSome, get_or, length, arith, ap, sym, subst}
use Rattle.std.proofs.lemmas.List.{length-set}
use Rattle.fd_bounds.specs.fd_derived.declared.entries.Equation.{Equation}
use Rattle.fd_rowcert.specs.Entries.{AreEntriesOf}
use Rattle.fd_rowcert.specs.Equations.{no_terms, radii_in, terms_of}
use Rattle.fd_rowcert.proofs.Lists.{at_read}
use Rattle.fd_rowcert.proofs.Loading.{HaveRadii, none_wide, radii_all, radii_more, stayed_more, wide_first}
use Rattle.fd_rowcert.proofs.equations.set_radii.Goals as goal

pub returns-in-None-clause-first : goal.returns-in-None-clause-first
returns-in-None-clause-first c = λ R h.
    let n = c.args.radii.now.size in
    let in_range : c.loop-row.row < n = omega (arith, c.loop-row-test.true, c.size-row-end.ensures.size) in
    sym (wide_first n (radii_in R) c.loop-row.row in_range (c.loop-row.invariant.radii R h).none
    (sym (ap is_none c.in-None.is) ∙ c.in_ok-entries.ensures.wide (radii_in R) h))

pub loop-row-preserved : goal.loop-row-preserved
loop-row-preserved c =
    let n = c.args.radii.now.size in
    let es = c.loop-row.equations in
    let m = c.loop-row.row in
    let x = c.index-equations-row.result in
    let q : Equation = record {
      coefficients = (get_or es m x).coefficients;
      radii = c.in-Some.entries;
      right_side = (get_or es m x).right_side;
    } in
    let in_range : m < length es =
    omega (arith, c.loop-row-test.true, c.size-row-end.ensures.size, c.requires.long, c.loop-row.auto.equations) in
    let read = at_read terms_of no_terms es m x in_range in
    record {
      stayed = stayed_more c.args.equations.now es m q in_range c.loop-row.invariant.stayed
          (sym (ap (λ t. t.coefficients) read)) (sym (ap (λ t. t.right_side) read)) (length-set es m q);
      radii = λ R h.
          let made = subst (λ o. IfSome o (λ xs. AreEntriesOf n (radii_in R m) xs.items)) c.in-Some.is
          (c.in_ok-entries.ensures.entries (radii_in R) h) in
          radii_more c.args.equations.now es m q in_range n R (c.loop-row.invariant.radii R h) made
          (sym (ap is_none c.in-Some.is) ∙ c.in_ok-entries.ensures.wide (radii_in R) h);
    }

pub returns-clause-first : goal.returns-clause-first
returns-clause-first c = λ R h.
    let n = c.args.radii.now.size in
    let all : c.loop-row.row ≡ n = omega (
      arith,
      c.loop-row.auto.row-end,
      c.loop-row-test.false,
      c.size-row-end.ensures.size,
    ) in
    sym (none_wide n (radii_in R) (subst (HaveRadii n R c.loop-row.equations) all
    (c.loop-row.invariant.radii R h)).none)

pub returns-clause-equations : goal.returns-clause-equations
returns-clause-equations c = λ none J R e have h.
    let n = c.args.radii.now.size in
    let all : c.loop-row.row ≡ n = omega (
      arith,
      c.loop-row.auto.row-end,
      c.loop-row-test.false,
      c.size-row-end.ensures.size,
    ) in
    radii_all n J R e c.args.equations.now c.loop-row.equations c.loop-row.invariant.stayed
    (subst (HaveRadii n R c.loop-row.equations) all (c.loop-row.invariant.radii R h)) have
