use Rattle.std.proofs.Common.{◌≡◌, ◌∙◌, ◌+◌, ◌<◌, ◌++◌, List, ℕ, length, drop, map, ap, sym, arith}
use Rattle.fd_pages.specs.fd_outside.Emitted.{pieces_of}
use Rattle.fd_pages.specs.fd_outcome.Calls.{writes}
use Rattle.fd_pages.specs.fd_outcome.Behind.{opened_unless}
use Rattle.fd_pages.specs.fd_outcome.Parts.{IsCutIn}
use Rattle.fd_pages.proofs.CallerLemmas.fd_outcome.{cut_before}
use Rattle.fd_pages.specs.Hours.{round_in, rounds_in}
use Rattle.fd_pages.specs.Rounds.{rounds_texts}
use Rattle.fd_solving.proofs.Parted.{next_texts, written_cut, written_more, written_none}
use Rattle.fd_solving.proofs.Weaker.{if_some_with, is_none_by, none_goes}
use Rattle.fd_solving.proofs.print.print_rounds.Goals as goal

pub loop-place-init : goal.loop-place-init
loop-place-init g c = record {
  later = omega arith;
  written = λ s at.
      written_none g.S.Sink.taken g.S.Sink.calls g.P.Page.style.opening c.args.begun.now c.args.out.now
      (rounds_texts g.P.Page.round_texts s 0 (rounds_in c.args.made.now.rounds.now));
}

pub returns-in_default-clause-ends : goal.returns-in_default-clause-ends
returns-in_default-clause-ends g c s at =
    let rounds = c.args.made.now.rounds.now in
    let k = c.loop-place.place in
    let within : k < length rounds = omega (arith, c.loop-place-test.true, c.loop-place.auto.place-end) in
    written_cut g.S.Sink.taken g.S.Sink.calls g.P.Page.style.opening c.args.begun.now c.args.out.now c.loop-place.out
    c.loop-place.out c.loop-place.begun (g.P.Page.round_texts s k (round_in c.round-item.result))
    (rounds_texts g.P.Page.round_texts s (k + 1) (map round_in (drop (k + 1) rounds))) _ _ 1
    (next_texts g.P.Page.round_texts s rounds k c.round-item.result within c.round-item.is)
    (c.loop-place.invariant.written s at)
    (cut_before g.S.Sink.taken g.S.Sink.calls c.loop-place.out _)
    (c.in_default.ensures.some s at)

pub returns-then-is_some-clause-ends : goal.returns-then-is_some-clause-ends
returns-then-is_some-clause-ends g c s at =
    let rounds = c.args.made.now.rounds.now in
    let k = c.loop-place.place in
    let within : k < length rounds = omega (arith, c.loop-place-test.true, c.loop-place.auto.place-end) in
    let texts = pieces_of c.in-Ok.texts.items in
    let rest = rounds_texts g.P.Page.round_texts s (k + 1) (map round_in (drop (k + 1) rounds)) in
    let left = next_texts g.P.Page.round_texts s rounds k c.round-item.result within c.round-item.is
    ∙ ap (λ (l : List (List ℕ)). l ++ rest) (sym (c.in-Ok.ensures.texts s at)) in
    if_some_with c.print_texts-ended.result
    (IsCutIn g.S.Sink.taken g.S.Sink.calls c.loop-place.out c.print_texts-ended.new.out
    (opened_unless c.loop-place.begun g.P.Page.style.opening (map writes texts))) _ _ (λ code cut some.
    written_cut g.S.Sink.taken g.S.Sink.calls g.P.Page.style.opening c.args.begun.now c.args.out.now c.loop-place.out
    c.print_texts-ended.new.out c.loop-place.begun texts rest _ _ code left (c.loop-place.invariant.written s at) cut
    some)
    c.print_texts-ended.ensures.ends c.print_texts-ended.ensures.some

pub loop-place-preserved : goal.loop-place-preserved
loop-place-preserved g c = record {
  later = omega (arith, c.loop-place.invariant.later, c.print_texts-ended.ensures.later);
  written = λ s at.
      let rounds = c.args.made.now.rounds.now in
      let k = c.loop-place.place in
      let within : k < length rounds = omega (arith, c.loop-place-test.true, c.loop-place.auto.place-end) in
      let texts = pieces_of c.in-Ok.texts.items in
      let rest = rounds_texts g.P.Page.round_texts s (k + 1) (map round_in (drop (k + 1) rounds)) in
      let left = next_texts g.P.Page.round_texts s rounds k c.round-item.result within c.round-item.is
      ∙ ap (λ (l : List (List ℕ)). l ++ rest) (sym (c.in-Ok.ensures.texts s at)) in
      let none = is_none_by c.print_texts-ended.result (sym c.is_some.ensures ∙ c.if-is_some.false) in
      written_more g.S.Sink.taken g.S.Sink.calls g.P.Page.style.opening c.args.begun.now c.args.out.now c.loop-place.out
      c.print_texts-ended.new.out c.loop-place.begun c.print_texts-ended.new.begun texts rest _ _ left
      (c.loop-place.invariant.written s at)
      (none_goes c.print_texts-ended.result _ none c.print_texts-ended.ensures.goes)
      (c.print_texts-ended.ensures.begun none);
}
