use Rattle.std.proofs.Common.{◌≡◌, ℕ, take, true}
use Rattle.fd_arith.specs.fd_exact.States.{part}
use Rattle.fd_inverse.specs.Numbers.{in_range, reduced}
use Rattle.fd_inverse.specs.Places.{is_among, reduced_among}
use Rattle.fd_inverse.proofs.rows.reduce_long.Given as goal

abbrev pub invariant-loop-place : goal.invariant-loop-place
invariant-loop-place l = record {
  now : (k : ℕ) → part l.row k ≡ reduced_among l.initial.row l.pivot l.fn.f (take l.place-index l.places) k;
  within : (k : ℕ) → is_among (take l.place-index l.places) k ≡ true → in_range (reduced l.initial.row l.pivot l.fn.f k) ≡ true;
}
