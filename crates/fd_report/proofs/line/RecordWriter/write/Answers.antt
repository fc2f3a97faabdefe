use Rattle.std.proofs.Common.{◌≢◌, ◌∙◌, ◌++◌, ap, append-nil, map}
use Rattle.csv.specs.declared.writer.QuoteStyle.TheVariants as style
use Rattle.fd_report.specs.Lines.{line_of, text_of}
use Rattle.fd_report.proofs.Rows.{same_row}
use Rattle.fd_report.proofs.line.RecordWriter.write.Goals as goal

pub returns-clause-text : goal.returns-clause-text
unfolding line_of
returns-clause-text c =
    let plain : c.args.self.now.writer.cfg.style ≢ style.NonNumeric = rw c.requires.setup (λ e. cc e) in
    let written = c.in_ok-write_fields.ensures.bytes c.requires.fields c.requires.wrote plain in
    let row = rw (c.requires.setup, c.requires.pending, append-nil (text_of c.args.self.now)) at written in
    let flushed = rw (c.in_ok-flush.ensures.pending, append-nil (text_of record { writer = c.flush.new.self })) at c.in_ok-flush.ensures.bytes in
    flushed ∙ row ∙ ap (λ line. text_of c.args.self.now ++ line) (same_row (map (λ f. f.now) c.args.fields.now))
