use Rattle.fd_report.proofs.faults.not_certified_record.Goals as goal

pub returns : goal.returns
returns c = rw (c.as_bytes.ensures.value, c.as_str.ensures.bytes, c.as_slice.ensures.value, c.in_ok-bound.ensures) at c.record_of.ensures
