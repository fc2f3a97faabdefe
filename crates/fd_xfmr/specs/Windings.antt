-- The windings of a transformer: their nominal voltages, and how their phases join the nodes of its terminals.
use Rattle.std.specs.Prelude.{ℕ, ℤ, get_or, Bool, true, false, not, cond, eqb, int_le}
use Rattle.fd_system.specs.fd_exact.States.{part}
use Rattle.fd_system.specs.fd_arith.declared.terms.Conn.{Conn}
use Rattle.fd_system.specs.fd_arith.declared.terms.Conn.TheVariants.{Wye, Delta}
use Rattle.fd_system.specs.declared.terminals.PhasePairs.{PhasePairs}
use Rattle.fd_system.specs.declared.terminals.PhasePairs.TheVariants as pairs
use Rattle.fd_system.specs.Terminals.{phase_volts}
use Rattle.fd_xfmr.specs.declared.data.XfmrData.{XfmrData}

-- ---- the nodes of a phase

-- at a winding, by its connection, that of the other winding and whether it is the higher side: the phases of a delta winding join
-- the nodes k and k - 1 at the higher side of a delta-wye transformer, else k and k + 1
abbrev pub three_phase_winding : Conn → Conn → Bool → PhasePairs
three_phase_winding Wye other higher = pairs.Wye
three_phase_winding Delta Delta higher = pairs.DeltaNext
three_phase_winding Delta Wye true = pairs.DeltaPrevious
three_phase_winding Delta Wye false = pairs.DeltaNext

abbrev pub winding_at : ℕ → Conn → Conn → Bool → PhasePairs
winding_at phases own other higher = cond (eqb phases 1) pairs.OnePhase (three_phase_winding own other higher)

-- ---- the windings of a transformer

-- the connection and the kV of winding 1 and of winding 2
abbrev pub conn1 : XfmrData → Conn
conn1 d = get_or d.conn 0 Wye

abbrev pub conn2 : XfmrData → Conn
conn2 d = get_or d.conn 1 Wye

abbrev pub kv1 : XfmrData → ℤ
kv1 d = part d.kv 0

abbrev pub kv2 : XfmrData → ℤ
kv2 d = part d.kv 1

-- U1 and U2
abbrev pub first_volts : XfmrData → ℤ
first_volts d = phase_volts d.phases (conn1 d) (kv1 d)

abbrev pub second_volts : XfmrData → ℤ
second_volts d = phase_volts d.phases (conn2 d) (kv2 d)

-- winding 1 is the higher side where its kV isn't below that of winding 2
abbrev pub first_is_higher : XfmrData → Bool
first_is_higher d = int_le (kv2 d) (kv1 d)

abbrev pub first_pairs : XfmrData → PhasePairs
first_pairs d = winding_at d.phases (conn1 d) (conn2 d) (first_is_higher d)

abbrev pub second_pairs : XfmrData → PhasePairs
second_pairs d = winding_at d.phases (conn2 d) (conn1 d) (not (first_is_higher d))
