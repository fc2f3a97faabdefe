use Rattle.std.proofs.Common.{◌∙◌, sym, subst, refl}
use Rattle.dss_script.specs.Sessions.{State, Steps, remaining}
use Rattle.dss_script.proofs.Steps.{master_step, opened_same}
use Rattle.dss_script.proofs.session.Session.step.Goals as goal

pub returns-in_ok-clone-in-Some-clause-steps : goal.returns-in_ok-clone-in-Some-clause-steps
returns-in_ok-clone-in-Some-clause-steps c =
    λ files. master_step files c.args.self.now c.take_master.new.self c.in-Some.master c.in_ok-clone-in-Some.field-0
    (sym c.in-Some.is ∙ c.take_master.ensures.master) (c.in-Some.ensures.fresh refl) c.in_ok-clone-in-Some.ensures.cases c.take_master.ensures.opened

pub returns-in-None-clause-steps : goal.returns-in-None-clause-steps
returns-in-None-clause-steps c =
    λ files.
    let P : State → Type 0 = λ s. Steps files (remaining files s) c.line_step.new.self c.line_step.result in
    subst P (c.take_master.ensures.opened ∙ opened_same c.args.self.now (sym c.take_master.ensures.master ∙ c.in-None.is)) (c.line_step.ensures.steps files)
