use Rattle.std.proofs.Common.{◌∙◌, ap, rules}
use Rattle.dss_script.specs.Sessions.{remaining_by}
use Rattle.dss_script.proofs.Steps.{says_command}
use Rattle.dss_script.proofs.session.Session.mean.Goals as goal

pub returns-in-Reads-clause-steps : goal.returns-in-Reads-clause-steps
returns-in-Reads-clause-steps c = λ files. rw c.in-Reads.is (c.redirect.ensures.steps files)

pub returns-in-Does-clause-steps : goal.returns-in-Does-clause-steps
returns-in-Does-clause-steps c =
    λ files. ap (λ m. remaining_by files c.args.place m c.args.self.now) c.in-Does.is
    ∙ says_command files c.args.self.now _ c.args.place c.in-Does.verb c.in-Does.change
    (ap (λ s. s.waiting) c.self.view_is ∙ c.requires) (ap (λ s. s.folder) c.self.view_is) (ap (λ s. s.files) c.self.view_is)
    (search (rules, c.self.view_is, c.take.ensures, c.target_then.ensures))
