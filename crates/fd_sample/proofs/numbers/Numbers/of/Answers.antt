use Rattle.std.proofs.Common.{◌∙◌, slice_get, ap, sym, arith}
use Rattle.std.specs.Option.{option_map}
use Rattle.std.specs.Map.Iter.{deref_pair}
use Rattle.fd_network.specs.fd_devices.Settings.{bank_count, tap_count}
use Rattle.fd_sample.proofs.Places.{sums_next}
use Rattle.fd_sample.proofs.numbers.Numbers.of.Goals as goal

pub loop-place-preserved : goal.loop-place-preserved
loop-place-preserved c =
    let es = c.args.elements.now.entries in
    let here = ap (λ es. slice_get es c.loop-place.place) (sym c.as_slice-entries.ensures.entries)
    ∙ sym c.get_index.ensures.entry
    ∙ ap (option_map deref_pair) c.unwrap.ensures in
    let taps = c.tap_count-taps_so_far.ensures in
    let banks = c.bank_count-banks_so_far.ensures in
    record {
      transformers = sums_next tap_count es c.loop-place.place _ _ (deref_pair c.unwrap.result) _ _ _ here taps.value
          c.in_ok-push.ensures.items c.loop-place.invariant.transformers;
      banks = sums_next bank_count es c.loop-place.place _ _ (deref_pair c.unwrap.result) _ _ _ here banks.value
          c.in_ok-push-2.ensures.items c.loop-place.invariant.banks;
      few_taps = omega (arith, c.loop-place.invariant.few_taps, taps.few);
      few_banks = omega (arith, c.loop-place.invariant.few_banks, banks.few);
    }
