use Rattle.std.proofs.Common.{◌∙◌, ap, sym, subst}
use Rattle.std.proofs.lemmas.Bool.{eqb-true, eqb-false}
use Rattle.dss_script.specs.Script.{Script}
use Rattle.dss_script.specs.Sessions.{taken_of, Steps}
use Rattle.dss_script.specs.contracts.session.Session.{the_view}
use Rattle.dss_script.proofs.Steps.{over_says, lined, lined_spends, with_files, after_line, positive}
use Rattle.dss_script.proofs.session.Session.line_step.Goals as goal

pub returns-then-is_over-clause-steps : goal.returns-then-is_over-clause-steps
returns-then-is_over-clause-steps c =
    λ files. let over = over_says files c.args.self.now c.requires (eqb-true _ _ (sym c.is_over.ensures ∙ c.if-is_over.true)) in (over, over)

pub returns-clause-steps : goal.returns-clause-steps
returns-clause-steps c =
    λ files.
    let P : Script → Type 0 = λ said. Steps files said c.finish.new.self c.finish.result in
    subst P
    (lined files c.args.self.now _ c.in_ok-taken.taken c.requires
    (c.in_ok-taken.ensures.taken ∙ ap (λ s. taken_of s.files) c.self.view_is)
    (ap (with_files (the_view c.self.inside)) c.in_ok-taken.ensures.files ∙ ap after_line c.self.view_is))
    (c.finish.ensures.steps files)

pub returns-clause-room : goal.returns-clause-room
returns-clause-room c =
    lined_spends c.args.self.now _ c.in_ok-taken.taken c.finish.new.self c.finish.result
    (positive _ (eqb-false _ _ (sym c.is_over.ensures ∙ c.if-is_over.false)))
    (c.in_ok-taken.ensures.taken ∙ ap (λ s. taken_of s.files) c.self.view_is)
    (ap (with_files (the_view c.self.inside)) c.in_ok-taken.ensures.files ∙ ap after_line c.self.view_is)
    c.finish.ensures.room
