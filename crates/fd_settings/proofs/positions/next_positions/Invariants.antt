use Rattle.std.proofs.Common.{◌≡◌, ◌++◌, drop, length}
use Rattle.fd_settings.specs.Positions.{next_closed, next_taps}
use Rattle.fd_settings.proofs.positions.next_positions.Given as goal

abbrev pub invariant-loop-place : goal.invariant-loop-place
invariant-loop-place l = record {
  taps : l.taps.items
      ++ next_taps l.circuit.solves (drop l.place l.circuit.elements) (drop (length l.taps.items) l.before.taps)
      ≡ next_taps l.circuit.solves l.circuit.elements l.before.taps;
  closed : l.closed.items
      ++ next_closed l.circuit.solves (drop l.place l.circuit.elements) (drop (length l.closed.items) l.before.closed)
      ≡ next_closed l.circuit.solves l.circuit.elements l.before.closed;
}
