use Rattle.std.proofs.Common.{◌∙◌, ap, arith}
use Rattle.fd_bases.specs.Due.{touches_at}
use Rattle.fd_bases.proofs.Noting.{rest_within, rest_more, whole_taken, noted_more}
use Rattle.fd_bases.proofs.touching.touching_in.Goals as goal

pub loop-name-preserved : goal.loop-name-preserved
loop-name-preserved c =
    let es = c.args.elements.now.entries in
    let next = c.loop-name.invariant.rest ∙ c.in-Some.ensures.steps in
    let low = rest_within c.loop-name.place es _ _ next in
    record {
      noted = noted_more es _ c.loop-name.place _ c.loop-name.touching.entries c.note_element.new.touching.entries next c.loop-name.invariant.noted c.in_ok-note_element.ensures;
      rest = rest_more c.loop-name.place es _ _ next;
      within = omega (arith, low);
    }

pub returns : goal.returns
returns c bus place =
    let es = c.args.elements.now.entries in
    c.loop-name.invariant.noted bus place
    ∙ ap (λ xs. touches_at xs place bus) (whole_taken c.loop-name.place es (c.loop-name.invariant.rest ∙ c.in-None.ensures.steps.0))
