use Rattle.std.proofs.Common.{◌≡◌, ◌*◌, ◌≤◌, ◌^◌, nat_abs, take}
use Rattle.fd_enclosure.specs.fd_exact.States.{part}
use Rattle.fd_cert.specs.Parts.{high_sum}
use Rattle.fd_cert.proofs.parted.high_total.Given as goal

abbrev pub invariant-loop-high : goal.invariant-loop-high
invariant-loop-high l = record {
  sum : l.total ≡ high_sum (λ j. nat_abs (part l.factors j)) (take l.high-index l.highs);
  small : l.total ≤ l.high-index * 2 ^ 104;
}
