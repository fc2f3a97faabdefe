-- The voltage bases of buses. Invariants of private types alone cite `HoldsLast`.
use Rattle.std.specs.Prelude.{◌≡◌, ℕ, List, fold, Option, Some, None, if◌then◌else◌}
use Rattle.std.specs.HashMap.{HashMap, get_by}
use Rattle.std.specs.Str.{bytes_eq}
use denote.Ref.{Bor}
use Rattle.fd_picture.specs.declared.report.Base.{Base}

-- the base of the last record of a bus, in units of 10^-6 kV
abbrev pub base_of : List Base → List ℕ → Option ℕ
base_of bases bus = fold (λ found base. if bytes_eq base.bus bus then Some base.micro_kilovolts else found) None bases

-- a map that has exactly these
unfoldable pub HoldsLast : {S : Type 0} → HashMap (Bor (List ℕ)) ℕ S → List Base → Type 0
HoldsLast table bases = (bus : List ℕ) → get_by (λ k. bytes_eq bus k.now) table ≡ base_of bases bus
