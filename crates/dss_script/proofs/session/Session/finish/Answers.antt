use Rattle.std.proofs.Common.{◌≡◌, ◌∙◌, ◌≤◌, ap, sym, subst, arith}
use Rattle.dss_script.specs.Script.{Script}
use Rattle.dss_script.specs.Meaning.{meaning_of}
use Rattle.dss_script.specs.Sessions.{taken_says, Steps, price, pays}
use Rattle.dss_script.proofs.Steps.{says_closed, says_bad, says_cut, spends_more}
use Rattle.dss_script.proofs.Prices.{price_paid}
use Rattle.dss_script.proofs.session.Session.finish.Goals as goal

pub returns-in-Closed-clause-steps : goal.returns-in-Closed-clause-steps
returns-in-Closed-clause-steps c = λ files. rw c.in-Closed.is (says_closed files c.args.self.now)

pub returns-in-Refused-clause-steps : goal.returns-in-Refused-clause-steps
returns-in-Refused-clause-steps c = λ files.
    rw c.script_fault.ensures (ap (λ t. taken_says files t c.args.self.now) c.in-Refused.is
    ∙ says_bad files c.args.self.now c.in-Refused.place c.in-Refused.cause)

pub returns-in_ok-meaning-in-Cut-clause-steps : goal.returns-in_ok-meaning-in-Cut-clause-steps
returns-in_ok-meaning-in-Cut-clause-steps c =
    λ files.
    let P : Script → Type 0 = λ said. Steps files said c.mean.new.self c.mean.result in
    subst P (says_cut files c.args.self.now c.in-Cut.place c.in-Cut.pairs c.in_ok-meaning-in-Cut.meaning
    (c.in_ok-meaning-in-Cut.ensures ∙ ap (meaning_of c.self.inside.target) c.into_vec.ensures
    ∙ ap (λ s. meaning_of s.standing.target c.in-Cut.pairs) c.self.view_is)
    ∙ ap (λ t. taken_says files t c.args.self.now) (sym c.in-Cut.is))
    (c.mean.ensures.steps files)

pub returns-in_ok-meaning-in-Cut-clause-room : goal.returns-in_ok-meaning-in-Cut-clause-room
returns-in_ok-meaning-in-Cut-clause-room c =
    let meaning : c.in_ok-meaning-in-Cut.meaning ≡ meaning_of c.self.inside.target c.in-Cut.pairs =
    c.in_ok-meaning-in-Cut.ensures ∙ ap (meaning_of c.self.inside.target) c.into_vec.ensures in
    let cheap : price c.in_ok-meaning-in-Cut.meaning ≤ pays c.args.taken = rw (meaning, c.in-Cut.is) (price_paid c.self.inside.target c.in-Cut.pairs) in
    spends_more _ _ _ _ c.mean.new.self c.mean.result (omega arith) (omega arith) c.mean.ensures.room
