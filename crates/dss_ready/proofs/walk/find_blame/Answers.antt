use Rattle.std.proofs.Common.{◌≡◌, [], ◌∷◌, ◌++◌, map, Some, None, Err, ◌∙◌, sym, ap, subst}
use Rattle.std.specs.Map.Iter.{deref_pair}
use Rattle.std.proofs.lemmas.List.{map-append}
use Rattle.dss_circuit.specs.dss_model.declared.element.Element.{Element}
use Rattle.dss_circuit.specs.dss_model.declared.names.ElementName.{ElementName}
use Rattle.dss_circuit.specs.Circuit.{Elements}
use Rattle.dss_ready.specs.Noted.{Notes}
use Rattle.dss_ready.specs.Walk.{first_blame}
use Rattle.dss_ready.proofs.Noted.{notes_more}
use Rattle.dss_ready.proofs.Blaming.{one_blamed}
use Rattle.dss_ready.proofs.walk.find_blame.Goals as goal

pub loop-name-preserved : goal.loop-name-preserved
loop-name-preserved c =
    let before : Elements = map deref_pair c.loop-name.yielded in
    let entry : ElementName × Element = (c.in-Some.name.now, c.in-Some.element.now) in
    let all = c.args.elements.now.entries in
    let more : map deref_pair (c.loop-name.yielded ++ (c.in-Some.name, c.in-Some.element) ∷ [])
    ≡ before ++ entry ∷ [] =
    map-append deref_pair c.loop-name.yielded ((c.in-Some.name, c.in-Some.element) ∷ []) in
    record {
      noted = subst (λ b. Notes c.note.new.self b) (sym more) (notes_more c.loop-name.seen c.note.new.self before
          entry c.in_ok-second.ensures.noted c.loop-name.invariant.noted);
      rest = ap (λ b. first_blame c.args.hertz all b c.next.new.self) more
          ∙ one_blamed c.args.hertz all before c.loop-name.name-iterator c.next.new.self entry c.in_ok-second.second
          None (first_blame c.args.hertz all [] all) c.in-Some.ensures.steps
          (c.in_ok-second.ensures.second before c.loop-name.invariant.noted)
          (sym c.in_default.is ∙ c.in_ok-cause.ensures) c.loop-name.invariant.rest;
    }

pub returns-in-Some-2 : goal.returns-in-Some-2
returns-in-Some-2 c =
    let before : Elements = map deref_pair c.loop-name.yielded in
    let entry : ElementName × Element = (c.in-Some.name.now, c.in-Some.element.now) in
    let all = c.args.elements.now.entries in
    sym (one_blamed c.args.hertz all before c.loop-name.name-iterator c.next.new.self entry c.in_ok-second.second
    (Some c.in-Some-2.cause) (first_blame c.args.hertz all [] all) c.in-Some.ensures.steps
    (c.in_ok-second.ensures.second before c.loop-name.invariant.noted) (sym c.in-Some-2.is ∙ c.in_ok-cause.ensures)
    c.loop-name.invariant.rest)
    ∙ ap Err (sym c.in_ok-blame.ensures)
