use Rattle.std.proofs.Common.{◌∙◌, ap}
use Rattle.std.specs.Int.{w128}
use Rattle.std.specs.Prelude.{unsigned_abs}
use Rattle.std.proofs.lemmas.Int.{to_z-of_z}
use Rattle.dss_script.specs.fd_decimal.Decimals.{size_text}
use Rattle.fd_report.proofs.faults.not_converged_record.Goals as goal

pub returns : goal.returns
returns c =
    let size = c.in_ok-size.ensures ∙ ap size_text (c.unsigned_abs.ensures.value ∙ ap unsigned_abs (to_z-of_z w128 c.args.update c.ranges.update)) in
    let named = rw (c.as_bytes.ensures.value, c.as_str.ensures.bytes) at c.record_of.ensures in
    rw (c.as_bytes-2.ensures.value, c.in_ok-steps.ensures.ok, c.as_slice.ensures.value, size) at named
