use Rattle.std.proofs.Common.{◌≡◌, ◌++◌, ◌∷◌, [], List, ℕ, Ok, subst}
use Rattle.fd_outside.specs.Answers.{answered, failed}
use Rattle.dss_script.proofs.Entering.{asked_failed, asked_found, enter_asked, later_read, not_read, read_last, told_by}
use Rattle.dss_script.proofs.session.Session.enter.Goals as goal

pub returns-in-Ok-clause-told : goal.returns-in-Ok-clause-told
returns-in-Ok-clause-told g c =
    λ files agree.
    let answers = g.L.Library.answers in
    let P : List ℕ → Type 0 = λ n. answers c.read.new.self ≡ answers c.args.lib.now ++ answered n (Ok c.in-Ok.found) in
    told_by files _ _ c.in-Ok.found c.args.place c.args.name c.args.self.now c.supply.new.self c.supply.result agree
    (subst P c.as_str.ensures.bytes c.in-Ok.ensures.answers) (c.supply.ensures.enters files)

pub returns-in-Ok-clause-later : goal.returns-in-Ok-clause-later
returns-in-Ok-clause-later g c =
    later_read g.L.Library.answers g.L.Library.holds _ _ _ _ c.read.ensures.answers c.read.ensures.holds c.read.ensures.held

pub returns-in-Ok-clause-last : goal.returns-in-Ok-clause-last
returns-in-Ok-clause-last g c = not_read Unit _ _ _ c.supply.ensures.reads_nothing

pub returns-in-Ok-clause-asked : goal.returns-in-Ok-clause-asked
returns-in-Ok-clause-asked g c =
    let answers = g.L.Library.answers in
    let P : List ℕ → Type 0 = λ n. answers c.read.new.self ≡ answers c.args.lib.now ++ answered n (Ok c.in-Ok.found) in
    enter_asked _ _ c.args.name c.supply.result
    (asked_found _ _ c.args.name c.in-Ok.found (subst P c.as_str.ensures.bytes c.in-Ok.ensures.answers))

pub returns-in-Err-Failed-clause-later : goal.returns-in-Err-Failed-clause-later
returns-in-Err-Failed-clause-later g c =
    later_read g.L.Library.answers g.L.Library.holds _ _ _ _ c.read.ensures.answers c.read.ensures.holds c.read.ensures.held

pub returns-in-Err-Failed-clause-last : goal.returns-in-Err-Failed-clause-last
returns-in-Err-Failed-clause-last g c =
    let answers = g.L.Library.answers in
    let P : List ℕ → Type 0 = λ n. answers c.read.new.self ≡ answers c.args.lib.now ++ (n, failed) ∷ [] in
    read_last _ _ _ (subst P c.as_str.ensures.bytes (rw c.in-Err-Failed.field-0-is at c.in-Err-Failed.ensures.answers))

pub returns-in-Err-Failed-clause-asked : goal.returns-in-Err-Failed-clause-asked
returns-in-Err-Failed-clause-asked g c =
    let answers = g.L.Library.answers in
    let P : List ℕ → Type 0 = λ n. answers c.read.new.self ≡ answers c.args.lib.now ++ (n, failed) ∷ [] in
    asked_failed _ _ c.args.name (subst P c.as_str.ensures.bytes (rw c.in-Err-Failed.field-0-is at c.in-Err-Failed.ensures.answers))
