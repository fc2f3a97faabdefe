use Rattle.std.proofs.Common.{◌≡◌, ◌∙◌, ◌++◌, ◌∷◌, [], List, ℕ, Ok, subst, sym}
use Rattle.fd_outside.specs.Answers.{answered, failed}
use Rattle.dss_script.proofs.Entering.{asked_failed, later_read, read_last}
use Rattle.dss_script.proofs.Filling.{pair_failed, pair_found}
use Rattle.dss_script.proofs.shapes.fill_pair.Goals as goal

pub returns-in-Ok-clause-fills : goal.returns-in-Ok-clause-fills
returns-in-Ok-clause-fills g c =
    λ files agree.
    let answers = g.L.Library.answers in
    let P : List ℕ → Type 0 = λ n. answers c.read.new.self ≡ answers c.args.lib.now ++ answered n (Ok c.in-Ok.found) in
    pair_found files _ _ c.in-Ok.found c.args.folder.now c.args.place.now c.args.pair
    c.in-Some.name c.in_ok-name-2.name c.with_file.result agree
    (subst P c.as_str.ensures.bytes c.in-Ok.ensures.answers) (sym c.in_ok-name.ensures ∙ c.in-Some.is)
    c.in_ok-name-2.ensures c.with_file.ensures

pub returns-in-Ok-clause-later : goal.returns-in-Ok-clause-later
returns-in-Ok-clause-later g c =
    later_read g.L.Library.answers g.L.Library.holds _ _ _ _ c.read.ensures.answers c.read.ensures.holds c.read.ensures.held

pub returns-in-Err-Failed-clause-fills : goal.returns-in-Err-Failed-clause-fills
returns-in-Err-Failed-clause-fills g c =
    λ files agree.
    let answers = g.L.Library.answers in
    let P : List ℕ → Type 0 = λ n. answers c.read.new.self ≡ answers c.args.lib.now ++ (n, failed) ∷ [] in
    pair_failed files c.args.folder.now c.args.place.now c.args.pair c.in-Some.name c.in_ok-name-2.name _ _
    (sym c.in_ok-name.ensures ∙ c.in-Some.is) c.in_ok-name-2.ensures
    (asked_failed _ _ c.in_ok-name-2.name (subst P c.as_str.ensures.bytes (rw c.in-Err-Failed.field-0-is at c.in-Err-Failed.ensures.answers)))

pub returns-in-Err-Failed-clause-later : goal.returns-in-Err-Failed-clause-later
returns-in-Err-Failed-clause-later g c =
    later_read g.L.Library.answers g.L.Library.holds _ _ _ _ c.read.ensures.answers c.read.ensures.holds c.read.ensures.held

pub returns-in-Err-Failed-clause-last : goal.returns-in-Err-Failed-clause-last
returns-in-Err-Failed-clause-last g c =
    let answers = g.L.Library.answers in
    let P : List ℕ → Type 0 = λ n. answers c.read.new.self ≡ answers c.args.lib.now ++ (n, failed) ∷ [] in
    read_last _ _ _ (subst P c.as_str.ensures.bytes (rw c.in-Err-Failed.field-0-is at c.in-Err-Failed.ensures.answers))
