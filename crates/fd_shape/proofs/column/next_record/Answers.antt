use Rattle.fd_shape.proofs.Readings.{plain_after, reads, stops}
use Rattle.fd_shape.proofs.column.next_record.Goals as goal

pub stopped-requires : goal.stopped-requires
stopped-requires c = record { stops = stops c.args.reader.now c.read_byte_record.new.self c.in-Err.error.kind c.requires.plain c.in-Err.ensures.why }

pub returns-in-Ok-clause-plain : goal.returns-in-Ok-clause-plain
returns-in-Ok-clause-plain c = plain_after _ _ c.in-Ok.found _ c.requires.plain c.in-Ok.ensures.reads c.in-Ok.ensures.ready c.in-Ok.ensures.flexible

pub returns-in-Ok-clause-left : goal.returns-in-Ok-clause-left
returns-in-Ok-clause-left c = reads _ _ c.in-Ok.found _ c.requires.plain c.in-Ok.ensures.reads
