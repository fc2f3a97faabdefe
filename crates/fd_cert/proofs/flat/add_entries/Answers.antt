use Rattle.std.proofs.Common.{◌≡◌, ◌*ℤ◌, length, get_or, arith, FitsSigned, rules}
use Rattle.std.specs.Int.{w64}
use Rattle.std.proofs.lemmas.Int.{to_z-of_z}
use Rattle.std.proofs.lemmas.List.Elements.{All-get_or}
use Rattle.fd_enclosure.specs.fd_exact.States.{part}
use Rattle.fd_cert.specs.Entries.{IsShort}
use Rattle.fd_cert.proofs.FlatSums.{added_all, added_more, no_entry, product_small, sum_value}
use Rattle.fd_cert.proofs.flat.add_entries.Goals as goal

pub loop-entry-preserved : goal.loop-entry-preserved
loop-entry-preserved c =
    let k = c.loop-entry.entry-index in
    let es = c.args.entries.now in
    let fs = c.args.factors.now in
    let e = get_or es k no_entry in
    let short : IsShort (length c.args.sums.now) e =
    All-get_or (IsShort (length c.args.sums.now)) es k no_entry c.loop-entry-test.true c.requires.entries.each in
    let factor = c.requires.factors.small e.row short.row in
    let small = product_small (part fs e.row) e.units factor short.small in
    let ff : FitsSigned w64 (part fs e.row) = search rules in
    let fu : FitsSigned w64 e.units = search rules in
    let times : c.times.result ≡ (part fs e.row *ℤ e.units) = simp to_z-of_z at c.times.ensures.value in
    let few = c.requires.entries.few in
    let value = sum_value (part c.loop-entry.sums e.col) c.times.result (part fs e.row *ℤ e.units) k times small
    (c.loop-entry.invariant.small e.col) (omega (arith, c.loop-entry-test.true)) in
    added_more fs es c.args.sums.now c.loop-entry.sums k no_entry _ c.loop-entry-test.true c.loop-entry.invariant short.col value small

pub returns-clause-sums : goal.returns-clause-sums
returns-clause-sums c =
    added_all c.args.factors.now c.args.entries.now c.args.sums.now c.loop-entry.sums c.loop-entry.entry-index
    (omega (arith, c.loop-entry-test.false)) c.loop-entry.invariant
