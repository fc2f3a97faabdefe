use Rattle.std.proofs.Common.{◌≡◌, ◌+◌, ◌-◌, ◌*◌, ◌∙◌, ◌++◌, ℕ, map, refl, sym, ap, arith}
use Rattle.std.proofs.lemmas.List.{append-nil}
use Rattle.fd_outside.specs.Emitted.{pieces_of}
use Rattle.fd_gen.specs.Draws.{number_after}
use Rattle.fd_gen.specs.Script.{ended, sections_of}
use Rattle.fd_gen.proofs.Sections.{lines_more, third_draw}
use Rattle.fd_gen.proofs.script.push_sections.Goals as goal

pub loop-section-init : goal.loop-section-init
unfolding number_after
loop-section-init c = record { drawn = refl; lines = sym (append-nil _) }

pub loop-section-preserved : goal.loop-section-preserved
loop-section-preserved c =
    let same : c.loop-section.section ≡ c.loop-section.section + 1 - 1 = omega arith in
    record {
      drawn = c.push_section.ensures.moved
          ∙ third_draw c.args.number c.loop-section.section c.loop-section.draws.at c.loop-section.auto.section c.loop-section.invariant.drawn
          ∙ ap (λ (k : ℕ). number_after c.args.number (3 * k)) same;
      lines = lines_more c.args.number c.loop-section.section c.loop-section.draws.at c.loop-section.auto.section c.loop-section.invariant.drawn
          _ _ _ c.loop-section.invariant.lines c.in_ok-push_section.ensures.lines
          ∙ ap (λ (k : ℕ). pieces_of c.args.records.now.items ++ map ended (sections_of c.args.number k)) same;
    }

-- the first section is one of them
pub returns : goal.returns
returns c = absurd (omega arith)

-- that was the last
pub returns-in_ok-push_section : goal.returns-in_ok-push_section
returns-in_ok-push_section c =
    let last : c.loop-section.section ≡ c.args.sections = omega arith in
    lines_more c.args.number c.loop-section.section c.loop-section.draws.at c.loop-section.auto.section c.loop-section.invariant.drawn
    _ _ _ c.loop-section.invariant.lines c.in_ok-push_section.ensures.lines
    ∙ ap (λ (k : ℕ). pieces_of c.args.records.now.items ++ map ended (sections_of c.args.number k)) last
