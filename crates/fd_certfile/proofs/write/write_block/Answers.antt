use Rattle.std.proofs.Common.{◌≡◌, ℕ, ◌<◌, ℤ, List, [], ◌∷◌, ◌++◌, length, All, ap, sym, subst, ◌∙◌, rules}
use Rattle.std.specs.Prelude.{map}
use Rattle.std.specs.List.{concat}
use Rattle.fd_settle.specs.declared.round.Act.{Act as Made}
use Rattle.fd_settle.specs.fd_cert.Claims.{claim_in, support_in}
use Rattle.fd_settle.proofs.CallerLemmas.fd_cert.{of_sized, of_inverse}
use Rattle.fd_settle.specs.fd_cert.declared.ball.Certified.{Certified}
use Rattle.fd_settle.specs.fd_enclosure.Sound.{IsByInverse, inverse_in}
use Rattle.fd_settle.specs.fd_equations.Rounded.{list_of}
use Rattle.fd_settle.specs.fd_mat.Rows.{row_of}
use Rattle.fd_lines.specs.fd_outside.declared.bytes.Record.{Record}
use Rattle.fd_lines.specs.fd_outside.Emitted.{pieces_of}
use Rattle.fd_certfile.specs.Blocks.{Sparse, act_line, block_at, block_lines}
use Rattle.fd_certfile.specs.Lines.{line_bytes, lines_of}
use Rattle.fd_certfile.specs.Rounds.{AreNumbers, act_of, block_of, part_bytes, row_bytes}
use Rattle.fd_certfile.proofs.RowTexts.{concat_lines}
use Rattle.fd_certfile.proofs.Writing.{lines_together, pieces_pushed, sized, writable}
use Rattle.fd_certfile.proofs.Written.{text_law}
use Rattle.fd_certfile.proofs.write.write_block.Goals as goal

pub inverse-requires : goal.inverse-requires
inverse-requires c =
    subst (λ (m : Certified). IsByInverse (support_in m.support)) (sym c.as_ref-certified.ensures)
    (of_sized c.args.net.now.rows.size (support_in c.args.made.now.certified.value.support) c.requires.inverse)

pub returns-clause-lines : goal.returns-clause-lines
returns-clause-lines c =
    subst (λ (n : ℕ). pieces_of c.push_acts.new.records.items
    ≡ map line_bytes (block_lines Sparse (block_of n c.args.number c.args.hour c.args.round c.args.made.now)))
    c.size-size.ensures.rows (lines_together c.size-size.result c.args.number c.args.hour c.args.round c.args.made.now
    (pieces_of c.push.new.self.items) (pieces_of c.push_parts.new.records.items)
    (pieces_of c.push_rows.new.records.items) (pieces_of c.push_acts.new.records.items)
    (pieces_pushed c.new-records.result.items c.push.new.self.items c.in_ok-solution_record.field-0
    c.in_ok-push.ensures.items
    ∙ ap (λ (rs : List Record). pieces_of rs ++ c.in_ok-solution_record.field-0.bytes ∷ [])
    c.new-records.ensures.items
    ∙ ap (λ (b : List ℕ). b ∷ []) c.in_ok-solution_record.ensures)
    (c.in_ok-push_parts.ensures
    ∙ ap (λ (m : Certified). pieces_of c.push.new.self.items ++ list_of c.size-size.result (part_bytes (claim_in m))) c.as_ref-certified.ensures)
    ((of_inverse c.args.net.now.rows.size (support_in c.args.made.now.certified.value.support) c.requires.inverse).long
    ∙ sym c.size-size.ensures.rows)
    (c.in_ok-push_rows.ensures.lines
    ∙ ap (λ (m : List (List ℤ)). pieces_of c.push_parts.new.records.items ++ list_of (length m) (row_bytes m)) (c.inverse.ensures ∙ ap (λ (m : Certified). inverse_in (support_in m.support)) c.as_ref-certified.ensures))
    (c.in_ok-push_acts.ensures.lines
    ∙ ap (λ (acts : List Made).
    pieces_of c.push_rows.new.records.items ++ map line_bytes (map act_line (map act_of acts)))
    c.deref.ensures.value))

pub returns-clause-read : goal.returns-clause-read
returns-clause-read c = λ tail k.
    ap (λ (ps : List (List ℕ)). block_at Sparse (lines_of (concat ps ++ tail))) (returns-clause-lines c)
    ∙ ap (λ (bs : List ℕ). block_at Sparse (lines_of (bs ++ tail))) (concat_lines (block_lines Sparse
    (block_of c.args.net.now.rows.size c.args.number c.args.hour c.args.round c.args.made.now)))
    ∙ text_law.again Sparse (block_of c.args.net.now.rows.size c.args.number c.args.hour c.args.round c.args.made.now)
    tail (sized c.args.net.now.rows.size c.args.number c.args.hour c.args.round c.args.made.now c.requires
    (subst (λ (m : List (List ℤ)). (i : ℕ) → i < length m → length (row_of m i) ≡ length m) (c.inverse.ensures ∙ ap (λ (m : Certified). inverse_in (support_in m.support)) c.as_ref-certified.ensures)
    c.in_ok-push_rows.ensures.wide))
    (writable c.args.net.now.rows.size c.args.number c.args.hour c.args.round c.args.made.now c.requires
    (subst (λ (m : List (List ℤ)). (i : ℕ) → i < length m → length (row_of m i) ≡ length m) (c.inverse.ensures ∙ ap (λ (m : Certified). inverse_in (support_in m.support)) c.as_ref-certified.ensures)
    c.in_ok-push_rows.ensures.wide) (search rules) (search rules) (search rules) (search rules)
    (subst (All (λ (a : Made). AreNumbers (act_of a))) c.deref.ensures.value c.in_ok-push_acts.ensures.small))
    k
