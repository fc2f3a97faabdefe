use Rattle.std.proofs.Common.{◌≡◌, [], List, ℕ, Ok, Err, Result, arith, rules, subst, sym}
use Rattle.std.proofs.lemmas.List.{nil_from_length}
use Rattle.dss_model.specs.dss_lexer.declared.pair.Pair.{Pair}
use Rattle.fd_outside.specs.Answers.{names_asked}
use Rattle.fd_outside.proofs.CallerLemmas.{agrees_before, agrees_behind, later_then}
use Rattle.dss_script.specs.declared.fault.SessionFault.{SessionFault}
use Rattle.dss_script.specs.declared.fault.SessionFault.TheVariants as fault
use Rattle.dss_script.specs.Fills.{Fills}
use Rattle.dss_script.specs.Shapes.{pairs_filled}
use Rattle.dss_script.proofs.Filling.{Done, all_done, done_upto, fault_done, one_done}
use Rattle.dss_script.proofs.Entering.{last_both}
use Rattle.dss_script.proofs.shapes.fill_pairs.Goals as goal

pub loop-pair-preserved : goal.loop-pair-preserved
loop-pair-preserved g c =
    record {
      later = later_then g.L.Library.answers g.L.Library.holds _ _ _ c.loop-pair.invariant.later c.fill_pair.ensures.later;
      done = λ files told.
          let D : List Pair → Type 0 = λ left.
          Done files c.args.folder.now c.args.pairs c.loop-pair.filled.items left (names_asked (g.L.Library.answers c.args.lib.now))
          (names_asked (g.L.Library.answers c.loop-pair.lib)) in
          let E : List Pair → Type 0 = λ done.
          Done files c.args.folder.now c.args.pairs done c.next.new.self.rest.items (names_asked (g.L.Library.answers c.args.lib.now))
          (names_asked (g.L.Library.answers c.fill_pair.new.lib)) in
          subst E (sym c.in_ok-push-in-Ok.ensures.items)
          (one_done files _ c.args.place.now c.args.pairs _ _ c.in-Some.pair c.in-Ok.pair _ _ _
          (subst D c.in-Some.ensures.steps.0 (c.loop-pair.invariant.done files
          (agrees_before g.L.Library.answers g.L.Library.holds files _ _ _ c.fill_pair.ensures.later told)))
          (c.in-Ok.ensures.fills files
          (agrees_behind g.L.Library.answers g.L.Library.holds files _ _ _ c.loop-pair.invariant.later told)));
    }

pub returns-in_err-push-in-Ok-clause-fills : goal.returns-in_err-push-in-Ok-clause-fills
returns-in_err-push-in-Ok-clause-fills g c =
    λ files told.
    let old : List (List ℕ) = names_asked (g.L.Library.answers c.args.lib.now) in
    let new : List (List ℕ) = names_asked (g.L.Library.answers c.fill_pair.new.lib) in
    let D : List Pair → Type 0 = λ left. Done files c.args.folder.now c.args.pairs c.loop-pair.filled.items left old (names_asked (g.L.Library.answers c.loop-pair.lib)) in
    let F : Result (List Pair) SessionFault → Type 0 = λ r. Fills c.args.place.now (pairs_filled files c.args.folder.now c.args.pairs) old new r in
    let memory : c.from_residual.result ≡ Err fault.NoMemory = search (rules, c.from_residual.ensures) in
    subst F (sym memory) (done_upto files _ c.args.pairs _ _ old new (one_done files _ c.args.place.now c.args.pairs
    _ _ c.in-Some.pair c.in-Ok.pair _ _ _ (subst D c.in-Some.ensures.steps.0 (c.loop-pair.invariant.done files
    (agrees_before g.L.Library.answers g.L.Library.holds files _ _ _ c.fill_pair.ensures.later told)))
    (c.in-Ok.ensures.fills files
    (agrees_behind g.L.Library.answers g.L.Library.holds files _ _ _ c.loop-pair.invariant.later told))))

pub returns-in_err-push-in-Ok-clause-later : goal.returns-in_err-push-in-Ok-clause-later
returns-in_err-push-in-Ok-clause-later g c =
    later_then g.L.Library.answers g.L.Library.holds _ _ _ c.loop-pair.invariant.later c.fill_pair.ensures.later

pub returns-in-Err-clause-fills : goal.returns-in-Err-clause-fills
returns-in-Err-clause-fills g c = λ files told.
    let D : List Pair → Type 0 = λ left.
    Done files c.args.folder.now c.args.pairs c.loop-pair.filled.items left (names_asked (g.L.Library.answers c.args.lib.now))
    (names_asked (g.L.Library.answers c.loop-pair.lib)) in
    fault_done files _ c.args.place.now c.args.pairs _ _ c.in-Some.pair c.in-Err.fault _ _ _
    (subst D c.in-Some.ensures.steps.0 (c.loop-pair.invariant.done files
    (agrees_before g.L.Library.answers g.L.Library.holds files _ _ _ c.fill_pair.ensures.later told)))
    (c.in-Err.ensures.fills files
    (agrees_behind g.L.Library.answers g.L.Library.holds files _ _ _ c.loop-pair.invariant.later told))

pub returns-in-Err-clause-later : goal.returns-in-Err-clause-later
returns-in-Err-clause-later g c =
    later_then g.L.Library.answers g.L.Library.holds _ _ _ c.loop-pair.invariant.later c.fill_pair.ensures.later

pub returns-in-Err-clause-last : goal.returns-in-Err-clause-last
returns-in-Err-clause-last g c =
    last_both Pair (List Pair) _ _ _ _ c.in-Err.fault c.loop-pair.invariant.later.told c.in-Err.ensures.last

pub returns-clause-fills : goal.returns-clause-fills
returns-clause-fills g c =
    λ files told.
    let old : List (List ℕ) = names_asked (g.L.Library.answers c.args.lib.now) in
    let new : List (List ℕ) = names_asked (g.L.Library.answers c.loop-pair.lib) in
    let D : List Pair → Type 0 = λ left. Done files c.args.folder.now c.args.pairs c.loop-pair.filled.items left old new in
    let none : c.loop-pair.pair-iterator.rest.items ≡ [] = nil_from_length _ (omega (arith, c.in-None.ensures.steps.0, c.loop-pair.pair-iterator.rest.ok.0)) in
    let F : List Pair → Type 0 = λ done. Fills c.args.place.now (pairs_filled files c.args.folder.now c.args.pairs) old new (Ok done) in
    subst F (sym c.new.ensures) (all_done files _ c.args.place.now c.args.pairs _ old new (subst D none (c.loop-pair.invariant.done files told)))
