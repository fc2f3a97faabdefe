-- The intervals of a ball hold the unknowns of its states.
use Rattle.std.proofs.Common.{ℕ, ◌+◌, ◌*◌, ◌<◌, ◌≤◌, ℤ, pos, ◌+ℤ◌, ◌-ℤ◌, ◌*ℤ◌, ◌≤ℤ◌, nat_abs, List, length, lit<, arith}
use Rattle.std.proofs.lemmas.Int.{ints}
use Rattle.fd_network.specs.fd_exact.Fractions.{fraction, nothing}
use Rattle.fd_network.specs.fd_exact.Integers.{add-mul, sub-mul, comm}
use Rattle.fd_network.specs.fd_exact.States.{State, part}
use Rattle.fd_regctl.specs.fd_arith.Interval.{Holds}
use Rattle.fd_regctl.specs.fd_arith.Enclosing.{capped-holds}
use Rattle.fd_regctl.specs.fd_arith.Capping.{point-holds}
use Rattle.fd_regctl.specs.fd_arith.declared.terms.NodeAt.{NodeAt}
use Rattle.fd_regctl.specs.fd_arith.declared.terms.NodeAt.TheVariants.{Ground, Node}
use Rattle.fd_network.specs.fd_system.declared.terminals.NodePair.{NodePair}
use Rattle.fd_network.specs.fd_system.Equations.{unknown}
use Rattle.fd_network.specs.fd_system.Residual.{IsPlace}
use Rattle.fd_network.specs.fd_xfmr.Transformer.{across}
use Rattle.fd_sample.proofs.HeldPhasors.{AreHeld, less_held}
use Rattle.fd_sample.specs.Balls.{radius_at, IsInBall, place_interval, interval_at, interval_across}

low_end : (p c : ℤ) (r d : ℕ) → nat_abs (p -ℤ (pos d *ℤ c)) ≤ d * r → ((c -ℤ pos r) *ℤ pos d) ≤ℤ p
low_end p c r d h = omega (arith, ints, sub-mul c (pos r) (pos d), comm c (pos d))

high_end : (p c : ℤ) (r d : ℕ) → nat_abs (p -ℤ (pos d *ℤ c)) ≤ d * r → p ≤ℤ ((c +ℤ pos r) *ℤ pos d)
high_end p c r d h = omega (arith, ints, add-mul c (pos r) (pos d), comm c (pos d))

place_holds : (c : List ℤ) (r : List ℕ) (x : State) (i : ℕ) → IsInBall c r x → i < length c →
    Holds (place_interval c r i) (fraction (part x.parts i) x.over)
place_holds c r x i b h = capped-holds (part c i -ℤ pos (radius_at r i)) (part c i +ℤ pos (radius_at r i)) (part x.parts i) x.over
    (low_end (part x.parts i) (part c i) (radius_at r i) x.over (b.within i h))
    (high_end (part x.parts i) (part c i) (radius_at r i) x.over (b.within i h))

pub node_held : (c : List ℤ) (r : List ℕ) (x : State) (node : NodeAt) → IsInBall c r x → IsPlace (length c) node →
    AreHeld (interval_at c r node) (unknown x node)
unfolding nothing
node_held c r x Ground b h =
    record { re = record { over = lit< tt; holds = point-holds (pos 0) }; im = record { over = lit< tt; holds = point-holds (pos 0) } }
node_held c r x (Node k) b h = record {
  re = record { over = b.over; holds = place_holds c r x (2 * k) b (omega (arith, h.0)) };
  im = record { over = b.over; holds = place_holds c r x (2 * k + 1) b h.0 };
}

pub across_held : (c : List ℤ) (r : List ℕ) (x : State) (p : NodePair) → IsInBall c r x → IsPlace (length c) p.first
    → IsPlace (length c) p.second →
    AreHeld (interval_across c r p) (across x p)
across_held c r x p b h k = less_held (interval_at c r p.first) (interval_at c r p.second) (unknown x p.first) (unknown x p.second)
    (node_held c r x p.first b h) (node_held c r x p.second b k)
