use Rattle.std.proofs.Common.{◌≡◌, ◌++◌, [], ◌∷◌, ℕ, List, ap, sym, subst, ◌∙◌}
use Rattle.std.specs.List.{slice_split}
use Rattle.fd_certfile.specs.Lines.{IsKnown, Line, is_blank, line_bytes, row, text_of}
use Rattle.fd_lines.specs.Numbers.{numbers_of}
use Rattle.fd_certfile.specs.Upgrade.{upgraded}
use Rattle.fd_certfile.proofs.Lines.{line_found}
use Rattle.fd_certfile.proofs.Outside.{ok_map}
use Rattle.fd_certfile.proofs.UpgradedRows.{row_line_is}
use Rattle.fd_certfile.proofs.Upgrading.{some_numbers}
use Rattle.fd_certfile.proofs.upgrades.upgraded_line.Goals as goal

pub upgraded_row-requires : goal.upgraded_row-requires
upgraded_row-requires c =
    some_numbers row (numbers_of (slice_split is_blank c.in-Some.fields.now))
    (subst IsKnown (sym c.read_line.ensures ∙ c.in-Some.ensures.some.1) c.requires)

pub returns-in-Some : goal.returns-in-Some
returns-in-Some c =
    ok_map c.upgraded_row.result
    (λ r e. row_line_is (numbers_of (slice_split is_blank c.in-Some.fields.now)) r.bytes e
    ∙ (λ i. line_bytes (upgraded (sym c.in-Some.ensures.some.0 i) ((sym c.in-Some.ensures.some.1 ∙ c.read_line.ensures) i))))
    c.upgraded_row.ensures

pub returns-in-None : goal.returns-in-None
returns-in-None c =
    let stays = subst (λ (l : Line). upgraded c.args.version l ≡ l) c.read_line.ensures c.in-None.ensures.none in
    ok_map c.text_record.result
    (λ r e. e ∙ ap (λ (t : List ℕ). t ++ 10 ∷ []) ((line_found c.args.text.now c.requires).0 ∙ ap text_of (sym stays)))
    c.text_record.ensures
