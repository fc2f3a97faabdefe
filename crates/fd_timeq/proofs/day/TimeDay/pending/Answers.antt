use Rattle.fd_timeq.proofs.day.TimeDay.pending.Goals as goal

pub returns : goal.returns
returns c = λ at. c.pending.ensures at c.args.self.now.underway.clock
