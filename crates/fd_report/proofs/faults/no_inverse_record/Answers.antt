use Rattle.fd_report.proofs.faults.no_inverse_record.Goals as goal

pub returns : goal.returns
returns c = rw (c.as_bytes.ensures.value, c.as_str.ensures.bytes) at c.record_of.ensures
