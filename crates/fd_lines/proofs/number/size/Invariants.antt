use Rattle.std.proofs.Common.{◌≡◌, take}
use Rattle.std.specs.Str.Parse.{digits_value, AllDigits}
use Rattle.fd_lines.proofs.number.size.Given as goal

-- what the digits so far are worth
abbrev pub invariant-loop-digit : goal.invariant-loop-digit
invariant-loop-digit l = record {
  digits : AllDigits 10 (take l.digit-index l.digits);
  worth : l.value ≡ digits_value 10 (take l.digit-index l.digits);
}
