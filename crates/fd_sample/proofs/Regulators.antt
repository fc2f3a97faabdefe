-- What a regulator's control samples over a ball holds what it would sample at each state, and where ALL differs.
use Rattle.std.proofs.Common.{◌≡◌, ◌≢◌, ℕ, ◌*◌, ◌<◌, ◌≤◌, ◌^◌, ℤ, pos, negsuc, ◌+ℤ◌, ◌-ℤ◌, nat_abs, Bool, true, false, cond, List, length, Some, None, lit<, refl, sym, ap, ◌∙◌, subst, arith}
use Rattle.std.proofs.Math.Nat.{mul-pos, mul-le-mul}
use Rattle.std.proofs.lemmas.Bool.Decides.{nat_tests, Decides-ltb}
use Rattle.std.proofs.lemmas.Int.{ints}
use Rattle.fd_network.specs.fd_exact.Fractions.{fraction}
use Rattle.fd_network.specs.fd_exact.Nearest.{near_within}
use Rattle.fd_network.specs.fd_exact.States.{State}
use Rattle.fd_regctl.specs.fd_arith.Interval.{Bounds, Holds}
use Rattle.fd_regctl.specs.fd_arith.declared.cx.Cx.{Cx}
use Rattle.fd_regctl.specs.fd_arith.declared.terms.NodeAt.TheVariants.{Node}
use Rattle.fd_regctl.specs.fd_arith.declared.terms.TapPair.{TapPair}
use Rattle.fd_network.specs.fd_system.Complex.{Complex, negative}
use Rattle.fd_network.specs.fd_system.Equations.{unknown}
use Rattle.fd_network.specs.fd_xfmr.Leakage.{AreTaps}
use Rattle.fd_network.specs.fd_xfmr.Transformer.{across}
use Rattle.fd_regctl.specs.fd_queue.Quantities.{magnitude, root_above, root_below}
use Rattle.fd_regctl.specs.fd_queue.Decisions.{Decision, Raise, Hold, Lower, IsEdge}
use Rattle.fd_regctl.specs.Regulator.{Regulator, regulator_verdict, steps_up, steps_down}
use Rattle.fd_regctl.specs.Settings.{regulator_at}
use Rattle.fd_regctl.proofs.CallerLemmas.{regulator_decided, settings_edge}
use Rattle.fd_sample.specs.declared.probe.RegProbe.{RegProbe}
use Rattle.fd_sample.specs.Balls.{IsInBall, interval_at, interval_across}
use Rattle.fd_sample.specs.Phasors.{factor, scaled_by, negative_interval, scaled_interval, product_interval, square_size}
use Rattle.fd_sample.specs.Regulators.{AreRegSettings, IsRegProbe, settings_of, turns_of, turns_interval, delivered, delivered_interval, compensation, relay_voltage, relay_interval, reg_interval, reg_quantity, wanted_at, edge_at, own_tap, reg_decision}
use Rattle.fd_sample.specs.Samples.{agreed, least_root, greatest_root}
use Rattle.fd_sample.proofs.HeldUnknowns.{node_held, across_held}
use Rattle.fd_sample.proofs.HeldPhasors.{IsHeld, AreHeld, factor_held, negative_held, less_held, scaled_held, times_held, square_size_held, square_top}
use Rattle.fd_sample.proofs.Samples.{all_differ, root_of_all}

-- ---- the phasor

delivered_by : (t : Bool) (b c : Cx Bounds) (y z : Complex) → AreHeld b y → AreHeld c z
    → AreHeld (cond t b c) (cond t y z)
delivered_by true b c y z h k = h
delivered_by false b c y z h k = k

delivered_held : (p : RegProbe) (t : TapPair) (c : List ℤ) (r : List ℕ) (x : State) → IsRegProbe (length c) p
    → AreTaps t → IsInBall c r x →
    AreHeld (delivered_interval p t c r) (delivered p t x)
delivered_held p t c r x h taps b =
    let branch = node_held c r x (Node p.branch) b h.branch in
    let turns = factor_held (pos (p.second_volts * t.second)) (p.first_volts * t.first)
    (mul-pos h.settings.first_volts_least (omega (arith, taps.first_least))) in
    delivered_by p.is_second (interval_at c r (Node p.branch)) (negative_interval (scaled_interval (interval_at c r (Node p.branch)) (turns_interval p t)))
    (unknown x (Node p.branch)) (negative (scaled_by (unknown x (Node p.branch)) (turns_of p t)))
    branch
    (negative_held (scaled_interval (interval_at c r (Node p.branch)) (turns_interval p t)) (scaled_by (unknown x (Node p.branch)) (turns_of p t))
    (scaled_held (interval_at c r (Node p.branch)) (turns_interval p t) (unknown x (Node p.branch)) (turns_of p t) branch turns))

relay_held : (p : RegProbe) (t : TapPair) (c : List ℤ) (r : List ℕ) (x : State) → IsRegProbe (length c) p → AreTaps t
    → IsInBall c r x →
    AreHeld (relay_interval p t c r) (relay_voltage p t x)
relay_held p t c r x h taps b =
    let volts = factor_held (pos (10 ^ 9)) p.ptratio (omega (arith, h.settings.ptratio_least)) in
    let re = factor_held p.r p.ctprim (omega (arith, h.settings.ctprim_least)) in
    let im = factor_held p.x p.ctprim (omega (arith, h.settings.ctprim_least)) in
    less_held (scaled_interval (interval_across c r p.nodes) (factor (pos (10 ^ 9)) p.ptratio))
    (product_interval (delivered_interval p t c r) (factor p.r p.ctprim) (factor p.x p.ctprim))
    (scaled_by (across x p.nodes) (fraction (pos (10 ^ 9)) p.ptratio)) _
    (scaled_held (interval_across c r p.nodes) (factor (pos (10 ^ 9)) p.ptratio) (across x p.nodes)
    (fraction (pos (10 ^ 9)) p.ptratio) (across_held c r x p.nodes b h.first h.second) volts)
    (times_held (delivered_interval p t c r) (factor p.r p.ctprim) (factor p.x p.ctprim) (delivered p t x)
    (compensation p) (delivered_held p t c r x h taps b) re im)

-- the interval of squares holds the square at each state
squares_held : (p : RegProbe) (t : TapPair) (c : List ℤ) (r : List ℕ) (x : State) → IsRegProbe (length c) p → AreTaps t
    → IsInBall c r x →
    IsHeld (reg_interval p t c r) (square_size (relay_voltage p t x))
unfolding reg_interval
squares_held p t c r x h taps b = square_size_held (relay_interval p t c r) (relay_voltage p t x) (relay_held p t c r x h taps b)

with_size : (s : Bounds) (z : Complex) → IsHeld s (square_size z)
    → Holds s (fraction (pos (nat_abs (square_size z).top)) (square_size z).over)
with_size s z h = subst (λ (n : ℤ). Holds s (fraction n (square_size z).over)) (square_top z) h.holds

-- what is decided over the ball is so at each of its states
pub reg_of_all : (p : RegProbe) (t : TapPair) (c : List ℤ) (r : List ℕ) (x : State) (v : Decision)
    → IsRegProbe (length c) p → AreTaps t → IsInBall c r x →
    agreed (reg_interval p t c r) (reg_decision p t (least_root (reg_interval p t c r))) (reg_decision p t (greatest_root (reg_interval p t c r))) ≡ Some v →
    reg_decision p t (reg_quantity p t x) ≡ v
reg_of_all p t c r x v h taps b e =
    let z = relay_voltage p t x in
    let held = squares_held p t c r x h taps b in
    root_of_all (reg_decision p t) (reg_interval p t c r) (nat_abs (square_size z).top) (square_size z).over v
    (regulator_decided (regulator_at (settings_of p) (own_tap p t))) held.over (with_size (reg_interval p t c r) z held) e

-- ---- at ALL

small_square : (k : ℕ) → k ≤ 2 ^ 60 → k * k * 1 ≤ 2 ^ 120
small_square k h = omega (arith, mul-le-mul h h)

below_large : (e : ℤ) (b : ℕ) → nat_abs e ≤ 2 ^ 60 → 2 ^ 120 < b → root_below b 1 e ≡ false
below_large (pos k) b h g = let s = small_square k h in grind (arith, nat_tests)
below_large (negsuc k) b h g = refl

above_large : (e : ℤ) (b : ℕ) → nat_abs e ≤ 2 ^ 60 → 2 ^ 120 < b → root_above b 1 e ≡ true
above_large (pos k) b h g = let s = small_square k h in (Decides-ltb (k * k * 1) b).1 (omega arith)
above_large (negsuc k) b h g = refl

above_nothing : (k : ℕ) → root_above 0 1 (pos k) ≡ false
above_nothing k = grind (arith, nat_tests)

not_lower : (t : Bool) (a b : ℕ) → cond t (Raise a) Hold ≢ Lower b
not_lower true a b e = cc
not_lower false a b e = cc

differs : (r : Regulator) (b : ℕ) → root_above 0 1 r.hi ≡ false → root_below b 1 r.lo ≡ false
    → root_above b 1 r.hi ≡ true →
    regulator_verdict r (magnitude 0 1) ≢ regulator_verdict r (magnitude b 1)
differs r b low lo hi e =
    let left : regulator_verdict r (magnitude 0 1) ≡ cond (root_below 0 1 r.lo) (Raise (steps_up r (magnitude 0 1))) Hold =
    ap (λ t. cond (root_below 0 1 r.lo) (Raise (steps_up r (magnitude 0 1))) (cond t (Lower (steps_down r (magnitude 0 1))) Hold)) low in
    let right : regulator_verdict r (magnitude b 1) ≡ Lower (steps_down r (magnitude b 1)) =
    ap (λ t. cond t (Raise (steps_up r (magnitude b 1))) (cond (root_above b 1 r.hi) (Lower (steps_down r (magnitude b 1))) Hold)) lo
    ∙ ap (λ t. cond t (Lower (steps_down r (magnitude b 1))) Hold) hi in
    not_lower (root_below 0 1 r.lo) (steps_up r (magnitude 0 1)) (steps_down r (magnitude b 1)) (sym left ∙ (e ∙ right))

low_size : (v b : ℕ) → v ≤ 10 ^ 15 → b ≤ 10 ^ 12 → nat_abs (pos (2 * v) -ℤ pos b) ≤ 2 ^ 60 * 2000
low_size v b h k = omega (arith, ints)

high_size : (v b : ℕ) → v ≤ 10 ^ 15 → b ≤ 10 ^ 12 → nat_abs (pos (2 * v) +ℤ pos b) ≤ 2 ^ 60 * 2000
high_size v b h k = omega (arith, ints)

pub reg_differs : (p : RegProbe) (tap : ℕ) → AreRegSettings p
    → wanted_at p tap (least_root None) ≢ wanted_at p tap (greatest_root None)
reg_differs p tap h =
    differs (regulator_at (settings_of p) tap) (2 ^ 240) (above_nothing _)
    (below_large (regulator_at (settings_of p) tap).lo (2 ^ 240)
    (near_within (pos (2 * p.vreg) -ℤ pos p.band) 2000 (2 ^ 60) (lit< tt) (low_size p.vreg p.band h.vreg h.band))
    (lit< tt))
    (above_large (regulator_at (settings_of p) tap).hi (2 ^ 240)
    (near_within (pos (2 * p.vreg) +ℤ pos p.band) 2000 (2 ^ 60) (lit< tt) (high_size p.vreg p.band h.vreg h.band))
    (lit< tt))

-- where nothing is decided, the edge is where the decision changes
all_of : (p : RegProbe) (tap : ℕ) (s : Bounds) → AreRegSettings p → s ≡ None
    → wanted_at p tap (least_root s) ≢ wanted_at p tap (greatest_root s)
all_of p tap s h e = subst (λ (b : Bounds). wanted_at p tap (least_root b) ≢ wanted_at p tap (greatest_root b)) (sym e) (reg_differs p tap h)

pub reg_edged : (p : RegProbe) (tap : ℕ) (s : Bounds) → AreRegSettings p →
    agreed s (wanted_at p tap (least_root s)) (wanted_at p tap (greatest_root s)) ≡ None →
    IsEdge (wanted_at p tap) (least_root s) (greatest_root s) (edge_at p tap (wanted_at p tap (least_root s)))
reg_edged p tap s h e = settings_edge (settings_of p) tap (least_root s) (greatest_root s)
    (all_differ s (wanted_at p tap (least_root s)) (wanted_at p tap (greatest_root s)) (all_of p tap s h) e)
