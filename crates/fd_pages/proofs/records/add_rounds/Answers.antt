use Rattle.std.proofs.Common.{arith}
use Rattle.fd_bases.specs.dss_layout.Layout.{layout_of, size_of}
use Rattle.fd_pages.proofs.Recorded.{size_at}
use Rattle.fd_pages.proofs.records.add_rounds.Goals as goal

pub add_round-requires-clause-numbers : goal.add_round-requires-clause-numbers
add_round-requires-clause-numbers c =
    size_at (size_of (layout_of c.args.circuit.now.elements)) c.args.rounds.now c.loop-place.place
    c.index-rounds-place.result c.requires.numbers
    (omega (arith, c.loop-place-test.true, c.loop-place.auto.place-end)) c.index-rounds-place.is
