use Rattle.std.proofs.Common.{◌≡◌, ℕ, ◌<◌, length, take, get_or, None}
use Rattle.std.specs.List.{fold}
use Rattle.fd_pattern.specs.fd_system.Residual.{whole_state, with_part}
use Rattle.fd_pattern.specs.fd_system.System.{nonlinear_of}
use Rattle.fd_equations.proofs.load_intervals.add_load_intervals.Given as goal

abbrev pub invariant-loop-load : goal.invariant-loop-load
invariant-loop-load l =
    (row : ℕ) → row < length l.initial.rows
    → get_or l.rows row None
    ≡ fold (with_part row) (get_or l.initial.rows row None)
    (nonlinear_of (take l.load-index l.loads) (whole_state l.x))
