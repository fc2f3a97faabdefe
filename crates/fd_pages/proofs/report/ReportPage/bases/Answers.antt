use Rattle.std.proofs.Common.{◌∙◌}
use Rattle.fd_bases.specs.Bases.{bases_of}
use Rattle.fd_pages.proofs.Blocks.{base_lines}
use Rattle.std.proofs.lemmas.Result.{IfOk-weaker}
use Rattle.fd_pages.proofs.report.ReportPage.bases.Goals as goal

pub returns : goal.returns
returns c =
    IfOk-weaker c.base_records.result _ _ (λ r is. is ∙ base_lines (bases_of c.args.circuit.now)) c.base_records.ensures
