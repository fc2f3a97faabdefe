use Rattle.std.proofs.Common.{◌≡◌, ◌≤◌, ◌++◌, drop}
use Rattle.fd_network.specs.dss_layout.Layout.{sums_before}
use Rattle.fd_network.specs.fd_devices.Settings.{bank_count, tap_count}
use Rattle.fd_sample.proofs.numbers.Numbers.of.Given as goal

abbrev pub invariant-loop-place : goal.invariant-loop-place
invariant-loop-place l = record {
  transformers : l.transformers.items ++ sums_before tap_count l.taps_so_far (drop l.place l.elements.entries) ≡ sums_before tap_count 0 l.elements.entries;
  banks : l.banks.items ++ sums_before bank_count l.banks_so_far (drop l.place l.elements.entries) ≡ sums_before bank_count 0 l.elements.entries;
  few_taps : l.taps_so_far ≤ l.place;
  few_banks : l.banks_so_far ≤ l.place;
}
