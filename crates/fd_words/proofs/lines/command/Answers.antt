use Rattle.std.proofs.Common.{◌∙◌, ap₂, length, sym}
use Rattle.std.proofs.lemmas.List.Sums.{fold_more}
use Rattle.clap.specs.Words.{with_subcommand}
use Rattle.fd_words.specs.Lines.{no_lines, with_line}
use Rattle.fd_words.proofs.lines.command.Goals as goal

pub loop-row-preserved : goal.loop-row-preserved
loop-row-preserved c =
    c.in_ok-command.ensures.shape c.in_ok-line.ensures.local
    ∙ (ap₂ with_subcommand c.loop-row.invariant c.in_ok-line.ensures.app
    ∙ sym (fold_more (λ app row. with_line app row.0.now (length row.1.now)) no_lines c.args.rows.now c.loop-row.row-index _ c.loop-row-test.true))
