use Rattle.std.proofs.Common.{◌≡◌, ◌∙◌, ◌+◌, ◌*◌, take, get_or, arith, ap, sym, rules}
use Rattle.std.proofs.lemmas.List.{take_all}
use Rattle.fd_substitution.specs.fd_derived.Rows.{number_at}
use Rattle.fd_substitution.specs.fd_derived.Sums.{capped}
use Rattle.fd_substitution.proofs.CallerLemmas.fd_derived.{capped_start, weigh_step}
use Rattle.fd_bounds.specs.Defects.{weighed}
use Rattle.fd_bounds.specs.declared.defects.Defect.{Defect}
use Rattle.fd_bounds.proofs.Loops.{weighed_more}
use Rattle.fd_bounds.proofs.defects.plus_defects.Goals as goal

abbrev nothing : Defect
nothing = record { place = 0; size = 0 }

pub loop-defect-init : goal.loop-defect-init
loop-defect-init c = capped_start c.args.total (search rules)

pub loop-defect-preserved : goal.loop-defect-preserved
loop-defect-preserved c =
    let k = c.loop-defect.defect-index in
    let ds = c.args.defects.now in
    let r = number_at c.args.bounds.now in
    let d = get_or ds k nothing in
    let next : c.plus_product-whole.result ≡ capped (c.loop-defect.whole + d.size * r d.place) =
    c.plus_product-whole.ensures ∙ ap (λ x. capped (c.loop-defect.whole + d.size * x)) c.number_at.ensures in
    weigh_step c.loop-defect.whole c.plus_product-whole.result c.args.total (weighed (take k ds) r) (d.size * r d.place) next c.loop-defect.invariant
    ∙ ap (λ w. capped (c.args.total + w)) (sym (weighed_more ds r k nothing c.loop-defect-test.true))

pub returns : goal.returns
returns c =
    let whole = take_all c.loop-defect.defect-index c.args.defects.now (omega (arith, c.loop-defect.auto.defect-index-end, c.loop-defect-test.false)) in
    c.loop-defect.invariant ∙ ap (λ ds. capped (c.args.total + weighed ds (number_at c.args.bounds.now))) whole
