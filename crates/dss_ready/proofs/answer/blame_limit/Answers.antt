use Rattle.dss_ready.proofs.Answering.{limit_of, many_place, many_blame}
use Rattle.dss_ready.proofs.answer.blame_limit.Goals as goal

pub blame_place-requires : goal.blame_place-requires
blame_place-requires c =
    many_place c.args.circuit.now.elements c.in-TooMany.place
    (limit_of c.args.circuit.now.elements c.args.fault c.in-TooMany.place c.in-TooMany.is c.requires.limit)

pub returns-in_ok-blame-in-TooMany : goal.returns-in_ok-blame-in-TooMany
returns-in_ok-blame-in-TooMany c =
    many_blame c.args.circuit.now c.in-TooMany.place c.in_ok-blame-in-TooMany.blame c.requires.no_own
    (limit_of c.args.circuit.now.elements c.args.fault c.in-TooMany.place c.in-TooMany.is c.requires.limit)
    c.in_ok-blame-in-TooMany.ensures
