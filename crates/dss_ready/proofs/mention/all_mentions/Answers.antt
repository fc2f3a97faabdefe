use Rattle.std.proofs.Common.{◌≡◌, [], ◌∷◌, ◌++◌, map, append_assoc, ◌∙◌, sym, ap, subst}
use Rattle.std.specs.Map.Iter.{deref_pair}
use Rattle.std.proofs.lemmas.List.{append-nil, map-append}
use Rattle.dss_circuit.specs.dss_model.declared.element.Element.{Element}
use Rattle.dss_circuit.specs.dss_model.declared.names.ElementName.{ElementName}
use Rattle.dss_circuit.specs.Circuit.{Elements}
use Rattle.dss_ready.specs.Noted.{Notes}
use Rattle.dss_ready.proofs.Noted.{notes_more}
use Rattle.dss_ready.proofs.mention.all_mentions.Goals as goal

pub returns : goal.returns
returns c =
    let before : Elements = map deref_pair c.loop-name.yielded in
    let whole : before ≡ c.args.elements.now.entries =
    sym (append-nil before) ∙ ap (λ l. before ++ l) (sym c.in-None.ensures.steps.0) ∙ c.loop-name.invariant.all in
    subst (λ es. Notes c.loop-name.mentions es) whole c.loop-name.invariant.noted

pub loop-name-preserved : goal.loop-name-preserved
loop-name-preserved c =
    let before : Elements = map deref_pair c.loop-name.yielded in
    let entry : ElementName × Element = (c.in-Some._name.now, c.in-Some.element.now) in
    let more : map deref_pair (c.loop-name.yielded ++ (c.in-Some._name, c.in-Some.element) ∷ [])
    ≡ before ++ entry ∷ [] =
    map-append deref_pair c.loop-name.yielded ((c.in-Some._name, c.in-Some.element) ∷ []) in
    record {
      noted = subst (λ b. Notes c.note.new.self b) (sym more) (notes_more c.loop-name.mentions c.note.new.self before
          entry c.in_ok-_second.ensures.noted c.loop-name.invariant.noted);
      all = ap (λ b. b ++ c.next.new.self) more
          ∙ append_assoc before (entry ∷ []) c.next.new.self
          ∙ ap (λ l. before ++ l) (sym c.in-Some.ensures.steps)
          ∙ c.loop-name.invariant.all;
    }
