use Rattle.std.proofs.Common.{ℕ, ◌+◌, ◌*◌, [], ◌∷◌, ◌++◌, length, ap, sym, ◌∙◌, arith}
use Rattle.std.specs.Prelude.{map}
use Rattle.std.proofs.lemmas.List.{map_push}
use Rattle.fd_certfile.specs.Blocks.{acts_at}
use Rattle.fd_certfile.specs.Lines.{lines_of}
use Rattle.fd_certfile.specs.Reader.{ReaderView, behind, given_block}
use Rattle.fd_certfile.specs.declared.reader.Given.{Given}
use Rattle.fd_certfile.proofs.NextBlock.{after_is, passed_lines, passed_one, passed_some}
use Rattle.fd_certfile.proofs.reader.CertReader.pass.Goals as goal

pub overflow_cast-self : goal.overflow_cast-self
overflow_cast-self c = omega (
  arith,
  passed_lines c.args.self.now c.args.size (acts_at (lines_of c.args.acts.now)).0 (lines_of c.args.rest.now)
      c.args.lines c.requires,
  c.self.invariant.0,
  ap (λ (r : ReaderView). length r.lines) c.self.view_is,
)

pub overflow_add-self : goal.overflow_add-self
overflow_add-self c = omega (
  arith,
  passed_lines c.args.self.now c.args.size (acts_at (lines_of c.args.acts.now)).0 (lines_of c.args.rest.now)
      c.args.lines c.requires,
  c.self.invariant.0,
  ap (λ (r : ReaderView). length r.lines) c.self.view_is,
)

pub invariant_of-self-2 : goal.invariant_of-self-2
invariant_of-self-2 c = (
  omega (
    arith,
    passed_lines c.args.self.now c.args.size (acts_at (lines_of c.args.acts.now)).0 (lines_of c.args.rest.now)
        c.args.lines c.requires,
    c.self.invariant.0,
    ap (λ (r : ReaderView). length r.lines) c.self.view_is,
  ),
  omega (
    arith,
    passed_some c.args.self.now c.args.size (acts_at (lines_of c.args.acts.now)).0 (lines_of c.args.rest.now)
        c.args.lines c.requires,
    c.self.invariant.1,
  ),
)

pub returns : goal.returns
returns c = λ b w e.
    let h = c.requires in
    let s = c.self.inside in
    let given : Given = record { acts = c.args.acts; rule_line = s.line + 1 + 2 * c.from.result } in
    let now = ap (map given_block) c.in_ok-push.ensures.items ∙ map_push given_block s.given.items given
    ∙ ap
    (λ (k : ℕ). map given_block s.given.items ++ record { acts = (acts_at (lines_of c.args.acts.now)).0; rule_line = s.line + 1 + 2 * k } ∷ [])
    c.from.ensures in
    passed_one c.args.self.now c.args.size (acts_at (lines_of c.args.acts.now)).0 (lines_of c.args.rest.now)
    c.args.lines h b w e
    ∙ ap (λ (r : ReaderView). behind r h.block (lines_of c.args.rest.now)) (sym c.self.view_is)
    ∙ after_is s.version (lines_of s.rest.now) s.line s.number s.hour s.round (map given_block s.given.items) h.block
    (lines_of c.args.rest.now) c.args.size (s.line + c.args.lines) (map given_block c.push.new.self.items)
    (acts_at (lines_of c.args.acts.now)).0 h.size (ap (λ (k : ℕ). s.line + k) h.count_is) h.acts_are now
