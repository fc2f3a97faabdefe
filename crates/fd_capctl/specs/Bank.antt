-- What a capacitor bank's control wants at its quantity (OpenDSS manual, CapControl, properties type, ON and OFF).
use Rattle.std.specs.Prelude.{ℤ, Bool, true, false, if◌then◌else◌}
use Rattle.fd_queue.specs.Quantities.{Quantity}
use Rattle.fd_queue.specs.Decisions.{Decision, Raise, Hold, Lower}

pub data Kind : Type 0 where
  Voltage : Kind
  Current : Kind
  Kvar : Kind

-- the edges of closing and of opening, in whole microvolts or microamperes, or in 10^-9 kvar
pub record Bank : Type 0 where
  pub kind : Kind
  pub on : ℤ
  pub off : ℤ

-- a bank closes at a voltage below the edge, and at a current or kvar above it
abbrev pub past_on : Kind → ℤ → Quantity → Bool
past_on Voltage on q = q.below on
past_on Current on q = q.above on
past_on Kvar on q = q.above on

-- it opens at a voltage above the edge, and at a current or kvar below it
abbrev pub past_off : Kind → ℤ → Quantity → Bool
past_off Voltage off q = q.above off
past_off Current off q = q.below off
past_off Kvar off q = q.below off

-- of a bank that is closed, or open
abbrev pub bank_verdict : Bank → Bool → Quantity → Decision
bank_verdict b true q = if past_off b.kind b.off q then Lower 1 else Hold
bank_verdict b false q = if past_on b.kind b.on q then Raise 1 else Hold

-- the value at which the verdict changes
abbrev pub bank_edge : Bank → Bool → ℤ
bank_edge b closed = if closed then b.off else b.on
