-- Ties of the numbers of a certificate.
use Rattle.std.proofs.Common.{◌≡◌, ◌∙◌, ℕ, ◌+◌, ◌-◌, ◌*◌, ◌/◌, ◌^◌, ◌<◌, ◌≤◌, max, ℤ, nat_abs, nat_lt, List, Bool, true, false, cond, Some, None, get_or, arith, ap, refl, sym, subst}
use Rattle.fd_equations.specs.fd_exact.Fractions.{Fraction}
use Rattle.fd_equations.specs.fd_exact.Rounding.{ceil_nat}
use Rattle.fd_equations.specs.fd_exact.States.{entry}
use Rattle.fd_slope.specs.fd_arith.Interval.{Bounds}
use Rattle.fd_slope.specs.fd_system.Residual.{greater_size, residual_interval, whole_state}
use Rattle.fd_slope.specs.fd_system.System.{residual_of}
use Rattle.fd_equations.specs.Enclosure.{EndsWithin, addend_count, interval_residual_of}
use Rattle.fd_equations.specs.Rounded.{jacobian_entry}
use Rattle.fd_equations.specs.fd_pattern.declared.layout.PlaceKind.{PlaceKind}
use Rattle.fd_equations.specs.fd_pattern.declared.layout.PlaceKind.TheVariants.{Node, Branch}
use Rattle.fd_equations.specs.fd_pattern.Views.{NetworkView, kind_of}
use Rattle.fd_equations.specs.Weights.{size_of_both, weight_at, weight_by}
use Rattle.fd_equations.proofs.CallerLemmas.{get_or-list_of, row_tie}
use Rattle.fd_enclosure.specs.Bounds.{bound_of, radius_at, reach_of}
use Rattle.fd_enclosure.specs.Boxes.{half_width_by}
use Rattle.fd_enclosure.specs.Radii.{slope_radius}
use Rattle.fd_enclosure.specs.Sound.{mismatch_size, number_at, radius_in}
use Rattle.fd_enclosure.specs.Ties.{BallLaw, IsTied, TieLaw}

greater_by : (a b o m : ℕ) → a * o ≤ m → b * o ≤ m → max a b * o ≤ m
greater_by a b o m h k = grind arith

size_tied : (row : Bounds) (f : Fraction) (n : ℕ) → EndsWithin row f (4 * n + 4)
    → IsTied f n (mismatch_size (greater_size row))
size_tied None f n h = absurd h
size_tied (Some e) f n h = greater_by (nat_abs e.0) (nat_abs e.1) f.over (nat_abs f.top + (4 * n + 4) * f.over) h.0 h.1

pub tied : TieLaw
tied v x l network point inside =
    let row : get_or (interval_residual_of v x) l None ≡ residual_interval v.stamp x l = get_or-list_of v.size (residual_interval v.stamp x) l None inside in
    let P : Bounds → Type 0 = λ r. EndsWithin r (residual_of v.stamp (whole_state x) l) (4 * addend_count v.stamp l + 4) in
    size_tied (residual_interval v.stamp x l) (residual_of v.stamp (whole_state x) l) (addend_count v.stamp l)
    (subst P row (row_tie v x network point (interval_residual_of v x) refl l inside))

-- ---- both parts of a complex unknown

halves : (k : ℕ) → (2 * k / 2 ≡ k) × ((2 * k + 1) / 2 ≡ k)
halves k = (omega arith, omega arith)

both_same : (x : List ℤ) (k : ℕ) → size_of_both x (2 * k) ≡ size_of_both x (2 * k + 1)
both_same x k = rw ((halves k).0, (halves k).1) refl

test_same : (k n : ℕ) → nat_lt (2 * k) (2 * n) ≡ nat_lt (2 * k + 1) (2 * n)
test_same k n = grind arith

test_holds : (k n : ℕ) → k < n → nat_lt (2 * k) (2 * n) ≡ true
test_holds k n h = grind arith

abbrev kind_by : Bool → PlaceKind
kind_by t = cond t Node Branch

kind_at : (v : NetworkView) (k : ℕ) → k < v.complexes → kind_of v (2 * k) ≡ kind_by (nat_lt (2 * k) (2 * v.nodes))
kind_at v k h = rw (test_holds k v.complexes h) refl

kind_same : (v : NetworkView) (k : ℕ) → kind_of v (2 * k) ≡ kind_of v (2 * k + 1)
kind_same v k = rw (test_same k v.nodes, test_same k v.complexes) refl

weight_by_same : (t : Bool) (draw : ℕ) (x : List ℤ) (k : ℕ)
    → weight_by (kind_by t) draw x (2 * k) ≡ weight_by (kind_by t) draw x (2 * k + 1)
weight_by_same true draw x k = ap (max (10 ^ 6)) (both_same x k)
weight_by_same false draw x k = refl

weight_same : (v : NetworkView) (x : List ℤ) (k : ℕ) → k < v.complexes
    → weight_at v x (2 * k) ≡ weight_at v x (2 * k + 1)
weight_same v x k h =
    let kind = kind_at v k h in
    ap (λ t. weight_by t v.stamp.draw x (2 * k)) kind ∙ weight_by_same (nat_lt (2 * k) (2 * v.nodes)) v.stamp.draw x k
    ∙ ap (λ t. weight_by t v.stamp.draw x (2 * k + 1)) (sym kind ∙ kind_same v k)

-- a radius depends on its unknown by the weight alone
radius_same : (v : NetworkView) (x : List ℤ) (c : List (List ℤ)) (e : List ℕ) (i j : ℕ)
    → weight_at v x i ≡ weight_at v x j → radius_in v x c e i ≡ radius_in v x c e j
unfolding radius_at
radius_same v x c e i j same =
    ap (λ w.
    ceil_nat (w * reach_of v.size (entry c) (jacobian_entry v x) (slope_radius v x) (weight_at v x) (number_at e))
    (2 ^ 20 * (2 ^ 40 - bound_of v.size (entry c) (jacobian_entry v x) (slope_radius v x) (weight_at v x))))
    same

pub one_ball : BallLaw
one_ball v x c e k nodes h =
    let same = weight_same v x k h in
    record {
      radius = radius_same v x c e (2 * k) (2 * k + 1) same;
      box = (λ i. half_width_by (kind_same v k i) (same i));
    }
