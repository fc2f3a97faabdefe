use Rattle.std.proofs.Common.{◌≡◌, ◌∙◌, ◌+◌, ◌%◌, ap, ℕ}
use Rattle.fd_gen.specs.Draws.{drawn, next}
use Rattle.fd_gen.specs.Script.{line_of, load_of, section_by}
use Rattle.fd_gen.proofs.Sections.{pushed, two_pushed}
use Rattle.fd_gen.proofs.script.push_section.Goals as goal

pub returns-clause-lines : goal.returns-clause-lines
unfolding section_by
returns-clause-lines c =
    let a : c.draw.result ≡ drawn (next c.args.draws.now.at) = c.draw.ensures.value ∙ ap drawn c.draw.ensures.moved in
    let second = c.draw-2.ensures.moved ∙ ap next c.draw.ensures.moved in
    let b : c.draw-2.result ≡ drawn (next (next c.args.draws.now.at)) = c.draw-2.ensures.value ∙ ap drawn second in
    let third = c.draw-3.ensures.moved ∙ ap next second in
    let d : c.draw-3.result ≡ drawn (next (next (next c.args.draws.now.at))) = c.draw-3.ensures.value ∙ ap drawn third in
    two_pushed _ _ _ _ _
    (pushed _ _ _ _ c.in_ok-push_line.ensures
    (c.in_ok-line_text.ensures ∙ ap (λ (n : ℕ). line_of c.args.section (n % c.args.section) (100 + c.draw-2.result % 200)) a
    ∙ ap (λ (n : ℕ). line_of c.args.section (drawn (next c.args.draws.now.at) % c.args.section) (100 + n % 200)) b))
    (pushed _ _ _ _ c.in_ok-push_line-2.ensures (c.in_ok-load_text.ensures ∙ ap (λ (n : ℕ). load_of c.args.section (5 + n % 20)) d))
