use Rattle.std.proofs.Common.{ℤ, pos, ◌++◌, get_or, ap, ◌∙◌, rules, FitsSigned}
use Rattle.std.specs.Int.{w64}
use Rattle.std.proofs.lemmas.Int.{to_z-of_z}
use Rattle.fd_certfile.specs.Blocks.{pair_of}
use Rattle.fd_certfile.specs.Texts.{fields_text}
use Rattle.fd_certfile.proofs.RowTexts.{entries_left}
use Rattle.fd_certfile.proofs.texts.push_entries.Goals as goal

pub loop-place-preserved : goal.loop-place-preserved
loop-place-preserved c =
    let fits : FitsSigned w64 (get_or c.args.row.now c.loop-place.place (pos 0)) = search rules in
    entries_left c.args.text.now.items c.loop-place.text.items c.push_entry.new.text.items c.args.row.now c.loop-place.place (pos 0)
    c.loop-place.invariant
    (c.in_ok-push_entry.ensures
    ∙ ap (λ (z : ℤ). c.loop-place.text.items ++ fields_text (pair_of (c.loop-place.place, z)))
    (to_z-of_z w64 (get_or c.args.row.now c.loop-place.place (pos 0)) fits))
    c.loop-place-test.true
