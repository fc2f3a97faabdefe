use Rattle.std.proofs.Common.{◌∙◌, ap, sym}
use Rattle.dss_script.specs.Paths.{joined}
use Rattle.dss_script.proofs.Steps.{deep_enough, too_deep_for}
use Rattle.dss_script.proofs.session.Session.redirect.Goals as goal

pub returns-then-is_deepest-clause-steps : goal.returns-then-is_deepest-clause-steps
returns-then-is_deepest-clause-steps c = λ files.
    rw c.script_fault.ensures
    (too_deep_for files c.args.self.now c.args.place c.args.name (sym c.is_deepest.ensures ∙ c.if-is_deepest.true))

pub returns-clause-steps : goal.returns-clause-steps
returns-clause-steps c = λ files.
    deep_enough files c.args.self.now c.args.place c.args.name c.in_ok-name_within.field-0 c.requires
    (sym c.is_deepest.ensures ∙ c.if-is_deepest.false)
    (c.in_ok-name_within.ensures ∙ ap (λ s. joined s.folder c.args.name) c.self.view_is)
