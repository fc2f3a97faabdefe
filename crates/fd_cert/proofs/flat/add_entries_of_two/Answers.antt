use Rattle.std.proofs.Common.{◌≡◌, ◌<◌, ◌*ℤ◌, length, get_or, arith, sym, subst, FitsSigned, rules}
use Rattle.std.specs.Int.{w64}
use Rattle.std.proofs.lemmas.Int.{to_z-of_z}
use Rattle.std.proofs.lemmas.List.Elements.{All-get_or}
use Rattle.fd_enclosure.specs.fd_exact.States.{part}
use Rattle.fd_cert.specs.Entries.{IsShort}
use Rattle.fd_cert.proofs.FlatSums.{added_all, added_more, no_entry, product_small, sum_room, sum_value}
use Rattle.fd_cert.proofs.flat.add_entries_of_two.Goals as goal

pub overflow_add-sums : goal.overflow_add-sums
overflow_add-sums c =
    let k = c.loop-entry.entry-index in
    let e = get_or c.args.entries.now k no_entry in
    let few = c.requires.entries.few in
    sum_room (part c.loop-entry.sums e.col) c.times-product.result k c.times-product.ensures.small
    (c.loop-entry.invariant.sums.small e.col) (omega (arith, c.loop-entry-test.true))

pub overflow_add-others : goal.overflow_add-others
overflow_add-others c =
    let k = c.loop-entry.entry-index in
    let e = get_or c.args.entries.now k no_entry in
    let few = c.requires.entries.few in
    sum_room (part c.loop-entry.others e.col) c.times-other.result k c.times-other.ensures.small
    (c.loop-entry.invariant.others.small e.col) (omega (arith, c.loop-entry-test.true))

pub loop-entry-preserved : goal.loop-entry-preserved
loop-entry-preserved c =
    let k = c.loop-entry.entry-index in
    let es = c.args.entries.now in
    let fs = c.args.first.now in
    let gs = c.args.second.now in
    let e = get_or es k no_entry in
    let short : IsShort (length c.args.sums.now) e =
    All-get_or (IsShort (length c.args.sums.now)) es k no_entry c.loop-entry-test.true c.requires.entries.each in
    let small = product_small (part fs e.row) e.units (c.requires.first.small e.row short.row) short.small in
    let other_small = product_small (part gs e.row) e.units (c.requires.second.small e.row short.row) short.small in
    let ff : FitsSigned w64 (part fs e.row) = search rules in
    let fg : FitsSigned w64 (part gs e.row) = search rules in
    let fu : FitsSigned w64 e.units = search rules in
    let times : c.times-product.result ≡ (part fs e.row *ℤ e.units) = simp to_z-of_z at c.times-product.ensures.value in
    let other : c.times-other.result ≡ (part gs e.row *ℤ e.units) = simp to_z-of_z at c.times-other.ensures.value in
    let few = c.requires.entries.few in
    let value = sum_value (part c.loop-entry.sums e.col) c.times-product.result (part fs e.row *ℤ e.units) k times
    small (c.loop-entry.invariant.sums.small e.col) (omega (arith, c.loop-entry-test.true)) in
    let other_value = sum_value (part c.loop-entry.others e.col) c.times-other.result (part gs e.row *ℤ e.units) k
    other other_small (c.loop-entry.invariant.others.small e.col) (omega (arith, c.loop-entry-test.true)) in
    record {
      sums = added_more fs es c.args.sums.now c.loop-entry.sums k no_entry _ c.loop-entry-test.true c.loop-entry.invariant.sums short.col value small;
      others = added_more gs es c.args.others.now c.loop-entry.others k no_entry _ c.loop-entry-test.true
          c.loop-entry.invariant.others (subst (λ n. e.col < n) (sym c.requires.long) short.col) other_value
          other_small;
    }

pub returns-clause-sums : goal.returns-clause-sums
returns-clause-sums c =
    added_all c.args.first.now c.args.entries.now c.args.sums.now c.loop-entry.sums c.loop-entry.entry-index
    (omega (arith, c.loop-entry-test.false)) c.loop-entry.invariant.sums

pub returns-clause-others : goal.returns-clause-others
returns-clause-others c =
    added_all c.args.second.now c.args.entries.now c.args.others.now c.loop-entry.others c.loop-entry.entry-index
    (omega (arith, c.loop-entry-test.false)) c.loop-entry.invariant.others
