use Rattle.std.proofs.Common.{◌≡◌, ◌+◌, ◌∙◌, List, [], ℕ, ap, inl, inr, refl, sym, subst, take}
use Rattle.std.proofs.lemmas.Bool.{eqb-true, eqb-false}
use Rattle.fd_outside.specs.Told.{events_on}
use Rattle.fd_outside.specs.System.{moved}
use Rattle.fd_outside.proofs.KnownBytes.{HasWritten, all_written, more_written, no_more_written, none_written, part_written, write_answered}
use Rattle.fd_outside.proofs.Turns.{WrittenSoFar, behind_first, fatal, write_stops, written_again, written_more}
use Rattle.fd_outside.proofs.writer.write_whole.Goals as goal
use Rattle.fd_outside.proofs.writer.write_whole.Goals.{in-Ok, in-Err+else-is_fatal}

pub returns-in-Ok-eq0-clause-system : goal.returns-in-Ok-eq0-clause-system
returns-in-Ok-eq0-clause-system g c =
    let rest = c.loop-turn.rest.now in
    let none : take c.in-Ok-eq0.field-0 rest ≡ [] = ap (λ k. take k rest) c.in-Ok-eq0.field-0-test in
    write_stops _ _ _ _ rest _ _ c.loop-turn.invariant.system (eqb-false _ 0 (sym c.is_empty.ensures ∙ c.if-is_empty.false)) c.in-Ok-eq0.ensures.noted none
    (inl (ap moved none))

pub returns-in-Ok-eq0-clause-told : goal.returns-in-Ok-eq0-clause-told
returns-in-Ok-eq0-clause-told g c =
    let rest = c.loop-turn.rest.now in
    part_written _ _ _ rest
    (none_written _ (g.W.Write.contents c.loop-turn.writer) _ _ rest _ c.loop-turn.invariant.told c.in-Ok-eq0.field-0-test
    (write_answered _ _ _ _ _ c.write-answer.ensures.bytes c.turn.ensures.answer c.in-Ok-eq0.is))
    (eqb-false _ 0 (sym c.is_empty.ensures ∙ c.if-is_empty.false))

pub returns-then-is_fatal-clause-system : goal.returns-then-is_fatal-clause-system
returns-then-is_fatal-clause-system g c =
    write_stops _ _ _ _ _ _ _ c.loop-turn.invariant.system (eqb-false _ 0 (sym c.is_empty.ensures ∙ c.if-is_empty.false)) c.in-Err.ensures.noted refl
    (inr (c.in-Err.trouble, (refl, fatal _ (sym c.is_fatal.ensures ∙ c.if-is_fatal.true))))

pub returns-then-is_fatal-clause-told : goal.returns-then-is_fatal-clause-told
returns-then-is_fatal-clause-told g c =
    part_written _ _ _ _
    (no_more_written _ (g.W.Write.contents c.loop-turn.writer) _ _ _ c.loop-turn.invariant.told
    (write_answered _ _ _ _ _ c.write-answer.ensures.bytes c.turn.ensures.answer c.in-Err.is))
    (eqb-false _ 0 (sym c.is_empty.ensures ∙ c.if-is_empty.false))

pub returns-then-is_empty-clause-told : goal.returns-then-is_empty-clause-told
returns-then-is_empty-clause-told g c =
    all_written _ _ _ _ c.loop-turn.invariant.told (eqb-true _ 0 (sym c.is_empty.ensures ∙ c.if-is_empty.true))

pub loop-turn-preserved : goal.loop-turn-preserved
loop-turn-preserved g c =
    let P : List ℕ → Type 0 = λ l. WrittenSoFar (events_on c.args.system.now) (events_on c.turn.new.self) c.args.bytes.now l (c.loop-turn._turn + 1) in
    let Q : List ℕ → Type 0 = λ l. HasWritten (g.W.Write.contents c.args.writer.now) (g.W.Write.contents c.write-answer.new.self) c.args.bytes.now l in
    elim c.match-turn.branch [
      | in-Ok w ↦ record {
        system = subst P (sym (ap (λ r. r.now) w.rest-is ∙ behind_first w.in-Ok.count c.loop-turn.rest.now))
            (written_more _ _ _ _ c.loop-turn.rest.now _ w.in-Ok.count c.loop-turn.invariant.system w.in-Ok.ensures.noted);
        told = subst Q (sym (ap (λ r. r.now) w.rest-is ∙ behind_first w.in-Ok.count c.loop-turn.rest.now))
            (more_written _ _ _ _ c.loop-turn.rest.now w.in-Ok.count c.loop-turn.invariant.told
            (write_answered _ _ _ _ _ c.write-answer.ensures.bytes c.turn.ensures.answer w.in-Ok.is));
      }
      | in-Err+else-is_fatal w ↦ record {
        system = subst P (sym (ap (λ r. r.now) w.rest-is))
            (written_again _ _ _ _ _ _ _ c.loop-turn.invariant.system w.in-Err.ensures.noted (sym w.is_fatal.ensures ∙ w.if-is_fatal.false));
        told = subst Q (sym (ap (λ r. r.now) w.rest-is))
            (no_more_written _ _ _ _ _ c.loop-turn.invariant.told
            (write_answered _ _ _ _ _ c.write-answer.ensures.bytes c.turn.ensures.answer w.in-Err.is));
      }
    ]
