use Rattle.std.proofs.Common.{string_bytes, subst}
use Rattle.std.specs.Vec.Iter.{into_iter_items, into_iter_len}
use Rattle.feeder.specs.Ending.{IsRun}
use Rattle.feeder.proofs.Longer.{behind_first, five_are_enough}
use Rattle.feeder.proofs.ending.do_words.Goals as goal

-- src/ending.rt:28:1
pub returns : goal.returns
returns g c =
    let behind = behind_first c.args.args c.next-name.new.self c.next-name.result (into_iter_len c.next.new.self)
    c.next-name.ensures.cases c.in-Some.ensures.len in
    subst (λ form. IsRun g.L.Library.answers g.L.Library.holds g.S.Sink.faults g.S.Sink.taken g.S.Sink.calls
    c.args.lib.now c.run_words-2.new.lib c.args.out.now c.run_words-2.new.out form c.run_words-2.result)
    (five_are_enough string_bytes (into_iter_items c.args.args) (into_iter_items c.next-name.new.self)
    (into_iter_items c.next.new.self) (into_iter_items c.next-2.new.self) (into_iter_items c.next-3.new.self)
    (into_iter_items c.next-4.new.self)
    c.in-Some.first c.in-Some-next.second c.in-Some-next-2.third c.in-Some-next-3.fourth c.in-Some-next-4.fifth behind
    c.in-Some.ensures.items c.in-Some-next.ensures.items c.in-Some-next-2.ensures.items c.in-Some-next-3.ensures.items
    (into_iter_items c.next-5.new.self) c.in-Some-next-4.ensures.items)
    c.run_words-2.ensures
