use Rattle.std.specs.Int.{w128}
use Rattle.std.proofs.lemmas.Int.{to_z-of_z}
use Rattle.std.proofs.Common.{ℤ, ◌∷◌, rules, ap, ◌∙◌, sym, arith, inl, inr, subst, ◌≡◌, ℕ, length}
use Rattle.std.proofs.lemmas.Bool.{cases_eq}
use Rattle.fd_settle.specs.fd_mat.Rows.{row_of}
use Rattle.fd_lines.specs.fd_outside.Emitted.{pieces_of}
use Rattle.fd_certfile.specs.Blocks.{Sparse, fields_of, row_line}
use Rattle.fd_certfile.specs.Lines.{line_bytes, row}
use Rattle.fd_certfile.proofs.Writing.{list_pushed, pieces_pushed}
use Rattle.fd_certfile.proofs.write.push_rows.Goals as goal

pub loop-place-preserved : goal.loop-place-preserved
loop-place-preserved c = record {
  lines = list_pushed (pieces_of c.args.records.now.items) (pieces_of c.loop-place.records.items)
      (pieces_of c.push.new.self.items) c.loop-place.place
      (λ i. line_bytes (row_line Sparse i (row_of c.args.inverse.now i))) c.in_ok-row_record.field-0.bytes
      c.loop-place.invariant.lines
      (pieces_pushed c.loop-place.records.items c.push.new.self.items c.in_ok-row_record.field-0 c.in_ok-push.ensures.items)
      (c.in_ok-row_record.ensures
      ∙ ap (λ (z : ℤ). line_bytes (row (z ∷ fields_of Sparse c.row-row.result.now))) (to_z-of_z w128 c.from.result (search rules) ∙ c.from.ensures)
      ∙ ap (λ r. line_bytes (row_line Sparse c.loop-place.place r)) c.row-row.ensures.numbers);
  wide = λ i l. elim (cases_eq i c.loop-place.place) [
    | inl same ↦ subst (λ (k : ℕ). length (row_of c.args.inverse.now k) ≡ length c.args.inverse.now) (sym same)
        (sym (ap length c.row-row.ensures.numbers) ∙ c.row-row.ensures.long)
    | inr other ↦ c.loop-place.invariant.wide i (omega (arith, l, other))
  ];
}
