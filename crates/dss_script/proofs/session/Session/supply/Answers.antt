use Rattle.std.proofs.Common.{◌∙◌, ap, sym, subst}
use Rattle.fd_outside.specs.declared.library.Found.{Found}
use Rattle.dss_script.specs.Sessions.{remaining_with, found_bytes, Enters}
use Rattle.dss_script.proofs.Steps.{says_absent}
use Rattle.dss_script.proofs.session.Session.supply.Goals as goal

pub returns-in-Absent-clause-enters : goal.returns-in-Absent-clause-enters
returns-in-Absent-clause-enters c = λ files.
    rw c.script_fault.ensures
    (ap (λ f. remaining_with files (found_bytes f) c.args.place c.args.name c.args.self.now) c.in-Absent.is
    ∙ says_absent files c.args.self.now c.args.place c.args.name)

pub returns-in-Bytes-clause-enters : goal.returns-in-Bytes-clause-enters
returns-in-Bytes-clause-enters c = λ files.
    let P : Found → Type 0 = λ f.
    Enters files (remaining_with files (found_bytes f) c.args.place c.args.name c.args.self.now) c.stand_at.new.self
    c.stand_at.result in
    subst P (sym c.in-Bytes.is) (c.stand_at.ensures.enters files)
