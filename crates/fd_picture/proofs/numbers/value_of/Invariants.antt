use Rattle.std.proofs.Common.{◌≡◌, ◌+◌, ◌*◌, ◌^◌, ◌≤◌, take}
use Rattle.fd_picture.specs.Numbers.{value_of}
use Rattle.fd_picture.proofs.numbers.value_of.Given as goal

abbrev pub invariant-loop-c : goal.invariant-loop-c
invariant-loop-c l = record {
  value : l.value ≡ value_of (take l.c-index l.text);
  small : l.value + 23 ≤ 23 * 10 ^ l.c-index;
}
