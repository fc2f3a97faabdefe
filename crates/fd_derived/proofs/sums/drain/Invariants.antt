use Rattle.std.proofs.Common.{◌≡◌, ◌+◌, length, drop}
use Rattle.fd_derived.specs.Sums.{IsSupported, capped, spread}
use Rattle.fd_derived.proofs.sums.drain.Given as goal

abbrev pub invariant-loop-place : goal.invariant-loop-place
invariant-loop-place l = record {
  long : length l.sums ≡ length l.fn.sums;
  total : capped (l.whole + spread l.sums l.bounds (length l.fn.sums)) ≡ capped (l.fn.total + spread l.fn.sums l.bounds (length l.fn.sums));
  supported : IsSupported l.sums (drop l.place-index l.touched);
  fits : l.whole ≡ capped l.whole;
}
