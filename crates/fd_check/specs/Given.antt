-- How many blocks a reader gave for an hour.
use Rattle.std.specs.Prelude.{ℕ, ◌+◌, ◌≤◌, Result, Ok, Err}
use Rattle.fd_daily.specs.fd_settle.declared.fault.SettleFault.{SettleFault}
use Rattle.fd_daily.specs.fd_settle.declared.fault.SettleFault.TheVariants as settle
use Rattle.fd_certfile.specs.declared.fault.CertFileFault.{CertFileFault}
use Rattle.fd_certfile.specs.declared.fault.CertFileFault.TheVariants as file

-- so many blocks were given before the rounds, and now so many, where memory sufficed; a settle that ends at its last
-- round had one
abbrev pub AreGiven : {T : Type 0} → Result T (SettleFault CertFileFault) → ℕ → ℕ → ℕ → Type 0
AreGiven (Err settle.NoMemory) first rounds given = Unit {0}
AreGiven (Err (settle.Solver file.NoMemory)) first rounds given = Unit {0}
AreGiven (Err (settle.Undecided control low high edge)) first rounds given = (first + rounds ≤ given) × (1 ≤ rounds)
AreGiven (Err (settle.ControlLimit acts)) first rounds given = (first + rounds ≤ given) × (1 ≤ rounds)
AreGiven (Err (settle.Range blame)) first rounds given = first + rounds ≤ given
AreGiven (Err (settle.Solver (file.Refused line rule))) first rounds given = first + rounds ≤ given
AreGiven (Ok t) first rounds given = first + rounds ≤ given
