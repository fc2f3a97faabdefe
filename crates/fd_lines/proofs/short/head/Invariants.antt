use Rattle.std.proofs.Common.{◌≡◌, take}
use Rattle.std.specs.Str.Parse.{digits_value, AllDigits}
use Rattle.fd_lines.proofs.short.head.Given as goal

-- what the digits so far are worth
abbrev pub invariant-loop-place : goal.invariant-loop-place
invariant-loop-place l = record {
  digits : AllDigits 10 (take l.place l.text);
  worth : l.value ≡ digits_value 10 (take l.place l.text);
}
