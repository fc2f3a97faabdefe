use Rattle.std.proofs.Common.{◌≡◌, ◌∙◌, [], refl, sym}
use Rattle.std.proofs.lemmas.List.{append-nil}
use Rattle.fd_pages.specs.fd_outside.Emitted.{pieces_of}
use Rattle.fd_pages.specs.fd_outcome.Settles.{settled}
use Rattle.fd_pages.proofs.CallerLemmas.fd_outcome.{cut_before}
use Rattle.fd_daily.specs.fd_sample.Probes.{positions_in}
use Rattle.fd_pages.specs.Hours.{IsSettleAt, rounds_in, settle_made}
use Rattle.fd_pages.specs.Rounds.{rounds_texts}
use Rattle.fd_solving.proofs.Parted.{rounds_written, settle_begun, settle_first_cut, settle_last_cut}
use Rattle.fd_solving.proofs.Parted.{settle_wrote, written_more}
use Rattle.fd_solving.proofs.Weaker.{if_none_with, if_some_weaker, if_some_with, is_none_by, none_goes}
use Rattle.fd_solving.proofs.print.print_settled.Goals as goal

pub returns-in_default-clause-ends : goal.returns-in_default-clause-ends
returns-in_default-clause-ends g c l number = cut_before g.S.Sink.taken g.S.Sink.calls c.args.out.now _

pub returns-then-is_some-clause-ends : goal.returns-then-is_some-clause-ends
returns-then-is_some-clause-ends g c l number =
    let made = c.args.made.now in
    let x = settle_made made.circuit.now made.hour l made.rounds.now settled (positions_in c.args.at.now) in
    let at : IsSettleAt made.circuit.now made.number made.hour x =
    record { circuit_is = refl; number_is = sym number; hour_is = refl } in
    if_some_weaker c.print_rounds-ended.result _ _ (λ code cut.
    settle_first_cut g.S.Sink.taken g.S.Sink.calls g.P.Page.style c.args.begun.now x (c.law.ensures.silent x)
    c.args.out.now c.print_rounds-ended.new.out (rounds_texts g.P.Page.round_texts x 0 (rounds_in made.rounds.now))
    (g.P.Page.last_texts x) code (c.law.ensures.parts x) cut)
    (c.print_rounds-ended.ensures.ends x at)

pub returns-clause-goes : goal.returns-clause-goes
returns-clause-goes g c l number =
    let made = c.args.made.now in
    let x = settle_made made.circuit.now made.hour l made.rounds.now settled (positions_in c.args.at.now) in
    let at : IsSettleAt made.circuit.now made.number made.hour x =
    record { circuit_is = refl; number_is = sym number; hour_is = refl } in
    let none = is_none_by c.print_rounds-ended.result (sym c.is_some.ensures ∙ c.if-is_some.false) in
    let w = rounds_written g.S.Sink.taken g.S.Sink.calls g.P.Page.style.opening c.args.begun.now c.args.out.now
    c.print_rounds-ended.new.out c.print_rounds-ended.new.begun
    (rounds_texts g.P.Page.round_texts x 0 (rounds_in made.rounds.now)) (g.P.Page.last_texts x) _
    (c.law.ensures.parts x)
    (none_goes c.print_rounds-ended.result _ none (c.print_rounds-ended.ensures.goes x at))
    (c.print_rounds-ended.ensures.begun x at none) in
    let texts = pieces_of c.in-Ok.texts.items in
    if_none_with c.print_texts.result _ _ (λ ended wrote.
    settle_wrote g.S.Sink.taken g.S.Sink.calls g.P.Page.style c.args.begun.now x (c.law.ensures.silent x)
    c.args.out.now c.print_texts.new.out c.print_texts.new.begun
    (written_more g.S.Sink.taken g.S.Sink.calls g.P.Page.style.opening c.args.begun.now c.args.out.now
    c.print_rounds-ended.new.out c.print_texts.new.out c.print_rounds-ended.new.begun c.print_texts.new.begun texts []
    _ _
    (sym (c.in-Ok.ensures l number) ∙ sym (append-nil texts)) w wrote (c.print_texts.ensures.begun ended)))
    c.print_texts.ensures.goes

pub returns-clause-begun : goal.returns-clause-begun
returns-clause-begun g c l number ended =
    let made = c.args.made.now in
    let x = settle_made made.circuit.now made.hour l made.rounds.now settled (positions_in c.args.at.now) in
    let at : IsSettleAt made.circuit.now made.number made.hour x =
    record { circuit_is = refl; number_is = sym number; hour_is = refl } in
    let none = is_none_by c.print_rounds-ended.result (sym c.is_some.ensures ∙ c.if-is_some.false) in
    let w = rounds_written g.S.Sink.taken g.S.Sink.calls g.P.Page.style.opening c.args.begun.now c.args.out.now
    c.print_rounds-ended.new.out c.print_rounds-ended.new.begun
    (rounds_texts g.P.Page.round_texts x 0 (rounds_in made.rounds.now)) (g.P.Page.last_texts x) _
    (c.law.ensures.parts x)
    (none_goes c.print_rounds-ended.result _ none (c.print_rounds-ended.ensures.goes x at))
    (c.print_rounds-ended.ensures.begun x at none) in
    let texts = pieces_of c.in-Ok.texts.items in
    settle_begun g.S.Sink.taken g.S.Sink.calls g.P.Page.style c.args.begun.now x (c.law.ensures.silent x)
    c.args.out.now c.print_texts.new.out c.print_texts.new.begun
    (written_more g.S.Sink.taken g.S.Sink.calls g.P.Page.style.opening c.args.begun.now c.args.out.now
    c.print_rounds-ended.new.out c.print_texts.new.out c.print_rounds-ended.new.begun c.print_texts.new.begun texts []
    _ _
    (sym (c.in-Ok.ensures l number) ∙ sym (append-nil texts)) w
    (none_goes c.print_texts.result _ ended c.print_texts.ensures.goes) (c.print_texts.ensures.begun ended))

pub returns-clause-ends : goal.returns-clause-ends
returns-clause-ends g c l number =
    let made = c.args.made.now in
    let x = settle_made made.circuit.now made.hour l made.rounds.now settled (positions_in c.args.at.now) in
    let at : IsSettleAt made.circuit.now made.number made.hour x =
    record { circuit_is = refl; number_is = sym number; hour_is = refl } in
    let none = is_none_by c.print_rounds-ended.result (sym c.is_some.ensures ∙ c.if-is_some.false) in
    let w = rounds_written g.S.Sink.taken g.S.Sink.calls g.P.Page.style.opening c.args.begun.now c.args.out.now
    c.print_rounds-ended.new.out c.print_rounds-ended.new.begun
    (rounds_texts g.P.Page.round_texts x 0 (rounds_in made.rounds.now)) (g.P.Page.last_texts x) _
    (c.law.ensures.parts x)
    (none_goes c.print_rounds-ended.result _ none (c.print_rounds-ended.ensures.goes x at))
    (c.print_rounds-ended.ensures.begun x at none) in
    let texts = pieces_of c.in-Ok.texts.items in
    if_some_with c.print_texts.result _ _ _ (λ code cut some.
    settle_last_cut g.S.Sink.taken g.S.Sink.calls g.P.Page.style c.args.begun.now x (c.law.ensures.silent x)
    c.args.out.now c.print_rounds-ended.new.out c.print_texts.new.out c.print_rounds-ended.new.begun texts _ code
    (sym (c.in-Ok.ensures l number)) w cut some)
    c.print_texts.ensures.ends c.print_texts.ensures.some
