use Rattle.std.proofs.Common.{◌≡◌, ◌∙◌, [], refl, sym, ap}
use Rattle.std.proofs.lemmas.List.{append-nil}
use Rattle.fd_pages.specs.fd_outside.Emitted.{pieces_of}
use Rattle.fd_pages.proofs.CallerLemmas.fd_outcome.{cut_before}
use Rattle.fd_daily.specs.fd_sample.Probes.{positions_in}
use Rattle.fd_pages.specs.Hours.{IsSettleAt, end_with, rounds_in, settle_made}
use Rattle.fd_pages.specs.Rounds.{rounds_texts}
use Rattle.fd_solving.proofs.Parted.{failed_cut, failed_printed, rounds_written, written_more, written_none}
use Rattle.fd_solving.proofs.print.print_failed.Goals as goal

pub returns-in-Some-clause-prints : goal.returns-in-Some-clause-prints
returns-in-Some-clause-prints g c l number =
    let made = c.args.made.now in
    let f = c.args.failure.fault in
    let x = settle_made made.circuit.now made.hour l made.rounds.now (end_with f c.args.failure.tried)
    (positions_in c.args.at.now) in
    let at : IsSettleAt made.circuit.now made.number made.hour x =
    record { circuit_is = refl; number_is = sym number; hour_is = refl } in
    failed_cut g.S.Sink.taken g.S.Sink.calls g.P.Page.style c.args.begun x (c.law.ensures.silent x) c.args.out.now
    c.args.out.now c.print_rounds.new.out c.args.begun
    (rounds_texts g.P.Page.round_texts x 0 (rounds_in made.rounds.now)) (g.P.Page.last_texts x) _ f c.in-Some.code
    (sym (c.law.ensures.parts x))
    (written_none g.S.Sink.taken g.S.Sink.calls g.P.Page.style.opening c.args.begun c.args.out.now _)
    (c.in-Some.ensures.ends x at)

pub returns-in_default-failed-clause-prints : goal.returns-in_default-failed-clause-prints
returns-in_default-failed-clause-prints g c l number =
    let made = c.args.made.now in
    let f = c.args.failure.fault in
    let x = settle_made made.circuit.now made.hour l made.rounds.now (end_with f c.args.failure.tried)
    (positions_in c.args.at.now) in
    let at : IsSettleAt made.circuit.now made.number made.hour x =
    record { circuit_is = refl; number_is = sym number; hour_is = refl } in
    let w = rounds_written g.S.Sink.taken g.S.Sink.calls g.P.Page.style.opening c.args.begun c.args.out.now
    c.print_rounds.new.out c.print_rounds.new.begun (rounds_texts g.P.Page.round_texts x 0 (rounds_in made.rounds.now))
    (g.P.Page.last_texts x) _ (c.law.ensures.parts x) (c.in_default.ensures.goes x at)
    (c.in_default.ensures.begun x at refl) in
    failed_cut g.S.Sink.taken g.S.Sink.calls g.P.Page.style c.args.begun x (c.law.ensures.silent x) c.args.out.now
    c.print_rounds.new.out c.print_rounds.new.out c.print_rounds.new.begun (g.P.Page.last_texts x) [] _ f 1
    (sym (append-nil (g.P.Page.last_texts x))) w (cut_before g.S.Sink.taken g.S.Sink.calls c.print_rounds.new.out _)

pub returns-in-Some-print_texts-clause-prints : goal.returns-in-Some-print_texts-clause-prints
returns-in-Some-print_texts-clause-prints g c l number =
    let made = c.args.made.now in
    let f = c.args.failure.fault in
    let x = settle_made made.circuit.now made.hour l made.rounds.now (end_with f c.args.failure.tried)
    (positions_in c.args.at.now) in
    let at : IsSettleAt made.circuit.now made.number made.hour x =
    record { circuit_is = refl; number_is = sym number; hour_is = refl } in
    let w = rounds_written g.S.Sink.taken g.S.Sink.calls g.P.Page.style.opening c.args.begun c.args.out.now
    c.print_rounds.new.out c.print_rounds.new.begun (rounds_texts g.P.Page.round_texts x 0 (rounds_in made.rounds.now))
    (g.P.Page.last_texts x) _ (c.law.ensures.parts x) (c.in_default.ensures.goes x at)
    (c.in_default.ensures.begun x at refl) in
    let texts = pieces_of c.in-Ok.texts.items in
    failed_cut g.S.Sink.taken g.S.Sink.calls g.P.Page.style c.args.begun x (c.law.ensures.silent x) c.args.out.now
    c.print_rounds.new.out c.print_texts.new.out c.print_rounds.new.begun texts [] _ f c.in-Some-print_texts.code
    (sym (c.in-Ok.ensures l f number) ∙ sym (append-nil texts)) w c.in-Some-print_texts.ensures.ends

pub returns-clause-prints : goal.returns-clause-prints
returns-clause-prints g c l number =
    let made = c.args.made.now in
    let f = c.args.failure.fault in
    let x = settle_made made.circuit.now made.hour l made.rounds.now (end_with f c.args.failure.tried)
    (positions_in c.args.at.now) in
    let at : IsSettleAt made.circuit.now made.number made.hour x =
    record { circuit_is = refl; number_is = sym number; hour_is = refl } in
    let w = rounds_written g.S.Sink.taken g.S.Sink.calls g.P.Page.style.opening c.args.begun c.args.out.now
    c.print_rounds.new.out c.print_rounds.new.begun (rounds_texts g.P.Page.round_texts x 0 (rounds_in made.rounds.now))
    (g.P.Page.last_texts x) _ (c.law.ensures.parts x) (c.in_default.ensures.goes x at)
    (c.in_default.ensures.begun x at refl) in
    let texts = pieces_of c.in-Ok.texts.items in
    let all = written_more g.S.Sink.taken g.S.Sink.calls g.P.Page.style.opening c.args.begun c.args.out.now
    c.print_rounds.new.out c.print_texts.new.out c.print_rounds.new.begun c.print_texts.new.begun texts [] _ _
    (sym (c.in-Ok.ensures l f number) ∙ sym (append-nil texts)) w c.in_default-print_texts.ensures.goes
    (c.in_default-print_texts.ensures.begun refl) in
    failed_printed g.S.Sink.taken g.S.Sink.calls g.P.Page.style c.args.begun x (c.law.ensures.silent x) c.args.out.now
    c.print_texts.new.out c.print_fault.new.out c.print_texts.new.begun f c.print_fault.result all
    c.print_fault.ensures.prints
