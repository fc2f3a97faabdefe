use Rattle.std.proofs.Common.{◌<◌, ◌≤◌, ◌∙◌, ℕ, List, length, refl, sym, subst, arith}
use Rattle.std.proofs.lemmas.Grind.{common_steps}
use Rattle.std.specs.Io.KnownBytes.{Consumes}
use Rattle.fd_outside.specs.Reading.{IsFaultOf, max_bytes}
use Rattle.fd_outside.specs.declared.system.Trouble.{Trouble}
use Rattle.fd_outside.proofs.KnownBytes.{consumes_all, consumes_kept, consumes_more, read_answered}
use Rattle.fd_outside.proofs.Turns.{broken, fatal, no_room_left, one_more, read_again, read_more, too_long}
use Rattle.fd_outside.proofs.folder.read_whole.Goals as goal
use Rattle.fd_outside.proofs.folder.read_whole.Goals.{in-Ok+in_default+else-len-gt-MAX_BYTES, in-Err+else-is_fatal}

pub returns-in-Ok-eq0-clause-whole : goal.returns-in-Ok-eq0-clause-whole
returns-in-Ok-eq0-clause-whole g c =
    consumes_all _ _ _ _ _ _ c.loop-turn.invariant.told (read_answered _ _ _ _ _ c.read-answer.ensures.bytes
    c.turn.ensures.answer c.in-Ok-eq0.is) c.in-Ok-eq0.field-0-test
    (omega (arith, c.read-answer.auto.buf, c.loop-turn.invariant.part))

pub returns-in-Err-room-clause-system : goal.returns-in-Err-room-clause-system
returns-in-Err-room-clause-system g c =
    let P : Trouble → Type 0 = λ t. IsFaultOf t c.fault_of.result in
    no_room_left _ _ _ _ _ _ (one_more _ _ _ _ _ _ _ c.loop-turn.invariant.system.so_far c.in-Ok.ensures.noted tt refl)
    c.in-Err-room.ensures.1
    (subst P c.in-Err-room.ensures.0 c.fault_of.ensures)

pub returns-then-len-gt-MAX_BYTES-clause-system : goal.returns-then-len-gt-MAX_BYTES-clause-system
returns-then-len-gt-MAX_BYTES-clause-system g c =
    let long : max_bytes < length c.room.new.bytes.items = grind (arith, common_steps) in
    too_long _ _ _ _ (one_more _ _ _ _ _ _ _ c.loop-turn.invariant.system.so_far (c.in_default.ensures.1
    ∙ c.in-Ok.ensures.noted) tt c.in_default.ensures.0) long

pub returns-then-is_fatal-clause-system : goal.returns-then-is_fatal-clause-system
returns-then-is_fatal-clause-system g c =
    broken _ _ _ _ _ _ _ c.loop-turn.invariant.system.so_far c.in-Err.ensures.noted
    (fatal _ (sym c.is_fatal.ensures ∙ c.if-is_fatal.true)) c.fault_of-then-is_fatal.ensures

pub loop-turn-preserved : goal.loop-turn-preserved
loop-turn-preserved g c =
    elim c.match-turn.branch [
      | in-Ok+in_default+else-len-gt-MAX_BYTES w ↦
          let short : length w.room.new.bytes.items ≤ max_bytes = grind (arith, common_steps) in
          record {
            system = rw (w.system-is, w.bytes-is) (read_more _ _ _ _ _ _ _ c.loop-turn.invariant.system
                (w.in_default.ensures.1 ∙ w.in-Ok.ensures.noted) tt w.in_default.ensures.0 short);
            told = (let P : List ℕ → Type 0 = λ l. Consumes (g.F.Read.remaining c.args.file.now)
                (g.F.Read.remaining c.read-answer.new.self) l in
                rw w.bytes-is (subst P (sym w.in_default.ensures.0) (consumes_more _ _ _ _ _ c.loop-turn.invariant.told
                (read_answered _ _ _ _ _ c.read-answer.ensures.bytes c.turn.ensures.answer w.in-Ok.is).0)));
            part = omega (arith, c.read-answer.auto.buf, c.loop-turn.invariant.part);
          }
      | in-Err+else-is_fatal w ↦ record {
        system = rw (w.system-is, w.bytes-is)
            (read_again _ _ _ _ _ _ c.loop-turn.invariant.system w.in-Err.ensures.noted (sym w.is_fatal.ensures
            ∙ w.if-is_fatal.false));
        told = rw w.bytes-is (consumes_kept _ _ _ _ c.loop-turn.invariant.told
            (read_answered _ _ _ _ _ c.read-answer.ensures.bytes c.turn.ensures.answer w.in-Err.is));
        part = omega (arith, c.read-answer.auto.buf, c.loop-turn.invariant.part);
      }
    ]
