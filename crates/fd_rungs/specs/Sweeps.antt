-- The sweeps over a ladder: a start, then backward and forward until no node moves.
use Rattle.std.specs.Prelude.{ℕ, zero, suc, ◌+◌, ◌*◌, ◌^◌, max, ℤ, pos, ◌-ℤ◌, nat_abs, nat_le, Bool, true, ◌&&◌, List, length, replicate, Result, Ok, Err, if◌then◌else◌}
use Rattle.fd_pattern.specs.fd_load.fd_exact.Results.{and_then}
use Rattle.fd_pattern.specs.fd_load.fd_exact.States.{part}
use Rattle.fd_pattern.specs.fd_system.declared.loads.LoadAt.{LoadAt}
use Rattle.fd_rungs.specs.declared.branch.Branch.{Branch}
use Rattle.fd_rungs.specs.declared.branch.Shunt.{Shunt}
use Rattle.fd_rungs.specs.declared.swept.Swept.{Swept}
use Rattle.fd_rungs.specs.declared.swept.Swept.TheVariants.{Settled, NotConverged, OutOfRange}
use Rattle.fd_rungs.specs.Passes.{Flow, backward, drawn, flow_with, forward, magnitudes}

-- the branches of each rung, from the source outwards, and the shunts
pub record LadderView : Type 0 where
  pub rungs : List (List Branch)
  pub shunts : List Shunt

-- a forward pass, and then the magnitudes
abbrev pub raised : LadderView → List LoadAt → List ℤ → Result (List ℤ) ℕ
raised l us x = and_then (forward l.rungs x) (magnitudes us)

-- the start: a forward pass without currents
abbrev pub started : LadderView → List LoadAt → ℕ → Result (List ℤ) ℕ
started l us size = raised l us (replicate size (pos 0))

-- a sweep: a backward pass from what the nodes draw at the present voltages, and then a forward pass
abbrev pub swept_once : LadderView → List LoadAt → List ℤ → Result (List ℤ) ℕ
swept_once l us x =
    and_then (backward l.rungs (flow_with x (drawn us l.shunts x (replicate (length x) (pos 0))))) (λ s. raised l us s.x)

-- ---- the end

-- the weight of a node's parts: the sum of their sizes, and at least one volt
abbrev pub node_weight : List ℤ → ℕ → ℕ
node_weight y k = max (10 ^ 6) (nat_abs (part y (2 * k)) + nat_abs (part y (2 * k + 1)))

-- a part moved by at most 10^-8 of the weight
abbrev pub is_still : ℕ → ℤ → ℤ → Bool
is_still weight before after = nat_le (nat_abs (after -ℤ before) * 10 ^ 8) weight

abbrev pub is_still_at : List ℤ → List ℤ → ℕ → Bool
is_still_at x y k =
    is_still (node_weight y k) (part x (2 * k)) (part y (2 * k)) && is_still (node_weight y k) (part x (2 * k + 1)) (part y (2 * k + 1))

-- no part of the first n nodes moved further on the way from x to y; branches and magnitudes don't count
abbrev pub are_still : List ℤ → List ℤ → ℕ → Bool
are_still x y zero = true
are_still x y (suc n) = are_still x y n && is_still_at x y n

-- ---- all sweeps

-- how the sweeps end, by how those that are left end after this one
abbrev pub after_sweep : ℕ → ℕ → List ℤ → (List ℤ → Swept) → Result (List ℤ) ℕ → Swept
after_sweep nodes sweep x rest (Ok y) = if are_still x y nodes then Settled y sweep else rest y
after_sweep nodes sweep x rest (Err place) = OutOfRange place sweep

-- the sweeps after this many, at most so many more
abbrev pub sweeps_from : LadderView → List LoadAt → ℕ → ℕ → ℕ → List ℤ → Swept
sweeps_from l us nodes zero done x = NotConverged done
sweeps_from l us nodes (suc left) done x =
    after_sweep nodes (suc done) x (sweeps_from l us nodes left (suc done)) (swept_once l us x)

abbrev pub after_start : (List ℤ → Swept) → Result (List ℤ) ℕ → Swept
after_start rest (Ok x) = rest x
after_start rest (Err place) = OutOfRange place 0

-- the start is sweep 0; the sweeps end with the first that leaves the nodes still, with a part out of range, or after
-- the most sweeps
abbrev pub sweeps_of : LadderView → List LoadAt → ℕ → ℕ → ℕ → Swept
sweeps_of l us nodes size most = after_start (sweeps_from l us nodes most 0) (started l us size)
