use Rattle.std.proofs.Common.{◌∙◌, None, Some, ap, option_map, sym}
use Rattle.fd_words.proofs.Fitting.{fits_line}
use Rattle.fd_words.proofs.usage.is_form_by.Goals as goal

pub returns-in-Some : goal.returns-in-Some
returns-in-Some c =
    c.are_words.ensures
    ∙ fits_line c.args.table.now c.args.first.now c.args.others.now (Some c.in-Some.row.now) c.requires
    (ap (option_map (λ row. row.now)) (sym c.in-Some.is) ∙ c.row_of.ensures)

pub returns-in-None : goal.returns-in-None
returns-in-None c =
    fits_line c.args.table.now c.args.first.now c.args.others.now None c.requires
    (ap (option_map (λ row. row.now)) (sym c.in-None.is) ∙ c.row_of.ensures)
