use Rattle.std.proofs.Common.{ℕ, List, ◌∷◌, ◌++◌, ap, ◌∙◌, arith}
use Rattle.std.specs.Prelude.{codes}
use Rattle.std.specs.List.{slice_split}
use Rattle.std.specs.Option.{option_map}
use Rattle.fd_lines.specs.Cuts.{texts_of}
use Rattle.fd_certfile.specs.Lines.{is_blank}
use Rattle.fd_certfile.proofs.UpgradedRows.{entries_few, entries_known, row_written}
use Rattle.fd_certfile.proofs.upgrades.upgraded_row.Goals as goal

pub push_entries-requires-clause-few : goal.push_entries-requires-clause-few
push_entries-requires-clause-few c =
    omega (
      arith,
      entries_few c.args.fields.now c.parted.result.0.now (texts_of (option_map (λ t. t.now) c.parted.result.1)) c.parted.ensures,
    )

pub push_entries-requires-clause-numbers : goal.push_entries-requires-clause-numbers
push_entries-requires-clause-numbers c =
    entries_known c.parted.result.0.now (slice_split is_blank c.args.fields.now)
    (texts_of (option_map (λ t. t.now) c.parted.result.1)) c.parted.ensures c.requires

pub returns : goal.returns
returns c =
    row_written c.parted.result.0.now (slice_split is_blank c.args.fields.now) (texts_of (option_map (λ t. t.now) c.parted.result.1))
    c.in_ok-count.count c.new-pairs.result.items c.push_entries.new.text.items c.push_field.new.text.items
    c.push_count.new.text.items c.extend_from_slice-2.new.self.items c.new.result
    c.parted.ensures c.requires c.new-pairs.ensures.items c.in_ok-count.ensures
    (c.in_ok-push_field.ensures ∙ ap (λ (t : List ℕ). t ++ 32 ∷ c.parted.result.0.now)
    (c.in_ok-extend_from_slice.ensures.items ∙ ap (λ (t : List ℕ). t ++ codes "c") c.new-text.ensures.items))
    c.in_ok-push_count.ensures
    (c.in_ok-extend_from_slice-2.ensures.items ∙ ap (λ (t : List ℕ). c.push_count.new.text.items ++ t) c.as_slice.ensures.value)
    (c.new.ensures ∙ c.in_ok-push.ensures.items)
