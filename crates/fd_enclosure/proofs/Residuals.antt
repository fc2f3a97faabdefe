-- The residual of a network: its denominators are positive, and at a point its size is at most the mismatch.
use Rattle.std.proofs.Common.{◌≡◌, ℕ, zero, suc, ◌*◌, ◌<◌, ◌≤◌, ℤ, ◌*ℤ◌, Bool, true, false, cond, eqb, List, [], ◌∷◌, Option, Some, None, arith, refl}
use Rattle.std.specs.List.{All, flat_map}
use Rattle.std.specs.Int.RustNames.{unsigned_abs}
use Rattle.std.proofs.Math.Nat.{le_trans, mul-le-mul_right, mul-pos}
use Rattle.std.proofs.lemmas.Int.{ints}
use Rattle.std.proofs.lemmas.List.Elements.{All-cons, All-head, All-nil, All-tail, All-weaker}
use Rattle.fd_equations.specs.fd_exact.FractionLaws.{nothing-pos, sum_of-pos}
use Rattle.fd_equations.specs.fd_exact.Fractions.{Fraction, SizeWithin, nothing, ◌⊕◌}
use Rattle.fd_equations.specs.fd_exact.States.{State, part}
use Rattle.fd_equations.specs.fd_exact.Sums.{sum_of}
use Rattle.fd_slope.specs.fd_arith.Interval.{Bounds, Holds}
use Rattle.fd_slope.specs.fd_arith.declared.terms.Term.{Term}
use Rattle.fd_slope.specs.fd_system.declared.constants.Constant.{Constant}
use Rattle.fd_slope.specs.fd_arith.declared.terms.LoadModel.{LoadModel}
use Rattle.fd_slope.specs.fd_system.declared.loads.LoadAt.{LoadAt}
use Rattle.fd_slope.specs.fd_system.Contributions.{given, row_sum}
use Rattle.fd_slope.specs.fd_system.Equations.{equation, seen}
use Rattle.fd_slope.specs.fd_system.Loads.{FitsModel, IsLoad, linear_list}
use Rattle.fd_slope.specs.fd_system.Residual.{HasDen, greater_size, residual_interval, whole_state}
use Rattle.fd_slope.specs.fd_system.System.{constant_given, linear_of, nonlinear_of, residual_of}
use Rattle.fd_slope.proofs.CallerLemmas.fd_system.{greater_size_held, loads_represent, residual_holds}
use Rattle.fd_equations.specs.fd_pattern.Conditions.{HasMagnitude, IsLinear, IsNetwork, IsServed}
use Rattle.fd_equations.specs.fd_pattern.Views.{NetworkView}
use Rattle.fd_enclosure.specs.Sound.{greatest_mismatch, mismatch_at, mismatch_size}

-- ---- denominators

sum_positive : {A : Type 0} {P : A → Type 0} (f : A → Fraction) (xs : List A) → All P xs
    → ((a : A) → P a → 0 < (f a).over) → 0 < (sum_of f xs).over
unfolding ◌⊕◌
sum_positive f [] all h = nothing-pos
sum_positive {A} {P} f (a ∷ xs) all h = mul-pos (h a (All-head P a xs all)) (sum_positive f xs (All-tail P a xs all) h)

left_positive : (a b : ℕ) → 0 < a * b → 0 < a
left_positive zero b h = absurd (omega arith)
left_positive (suc a) b h = omega arith

right_positive : (a b : ℕ) → 0 < a * b → 0 < b
right_positive a zero h = absurd (omega arith)
right_positive a (suc b) h = omega arith

each_positive : {A : Type 0} (f : A → Fraction) (xs : List A) → 0 < (sum_of f xs).over → All (λ a. 0 < (f a).over) xs
unfolding ◌⊕◌
each_positive f [] h = All-nil (λ a. 0 < (f a).over)
each_positive f (a ∷ xs) h =
    All-cons (λ a. 0 < (f a).over) a xs (left_positive (f a).over (sum_of f xs).over h)
    (each_positive f xs (right_positive (f a).over (sum_of f xs).over h))

constant_positive : (l : ℕ) (c : Constant) → 0 < (constant_given l c).over
unfolding nothing
constant_positive l c = by (eqb c.row l)
  where
    by : (t : Bool) → 0 < (cond t (record { top = c.value; over = 1 }) nothing).over
    by true = omega arith
    by false = omega arith

term_positive : (l : ℕ) (x : State) (t : Term) → 0 < x.over → 0 < unsigned_abs t.den → 0 < (given l t x).over
term_positive l x t h g = by (eqb t.row l)
  where
    by : (b : Bool)
        → 0 < (cond b (record { top = t.num *ℤ part x.parts t.col; over = unsigned_abs t.den * x.over }) nothing).over
    by true = mul-pos g h
    by false = nothing-pos

fits_model : (n size : ℕ) (model : LoadModel) (place : Option ℕ) → HasMagnitude n size model place → FitsModel model place
fits_model n size model None h = h
fits_model n size model (Some k) h = h.0

served_load : (m n size : ℕ) (u : LoadAt) → IsServed m n size u → IsLoad u
served_load m n size u s = record {
  vn = omega (arith, ints, s.phase.nominal_least);
  low = omega (arith, ints, s.phase.low_least);
  order = omega (arith, ints, s.phase.low_least, s.phase.low_most, s.phase.high_least);
  model = fits_model n size u.load.model u.magnitude s.magnitude;
}

plus_right_positive : (a b : Fraction) → 0 < (a ⊕ b).over → 0 < b.over
unfolding ◌⊕◌
plus_right_positive a b h = right_positive a.over b.over h

plus_positive : (a b : Fraction) → 0 < a.over → 0 < b.over → 0 < (a ⊕ b).over
unfolding ◌⊕◌
plus_positive a b h g = mul-pos h g

den_of : (size : ℕ) (t : Term) → IsLinear size t → 0 < unsigned_abs t.den
den_of size t h = let p = h.term.positive in omega (arith, ints)

module _ (v : NetworkView) (net : IsNetwork v) where
  loads_positive : (x : State) (l : ℕ) → 0 < x.over → 0 < (equation l (nonlinear_of v.stamp.loads x)).over
  loads_positive x l h =
      let all = All-weaker (IsServed v.nodes v.complexes v.size) IsLoad (served_load v.nodes v.complexes v.size) v.stamp.loads net.loads in
      let same = loads_represent v.stamp.loads all x h l in
      plus_right_positive (linear_of [] (flat_map linear_list v.stamp.loads) x l) (equation l (nonlinear_of v.stamp.loads x)) same.left

  pub residual_positive : (x : State) (l : ℕ) → 0 < x.over → 0 < (residual_of v.stamp x l).over
  residual_positive x l h =
      let constants = sum_of-pos (constant_given l) v.stamp.constants (constant_positive l) in
      let terms = sum_positive {P = IsLinear v.size} (λ t. given l t x) v.stamp.terms net.terms.each (λ t g. term_positive l x t h (den_of v.size t g)) in
      plus_positive (linear_of v.stamp.constants v.stamp.terms x l) (equation l (nonlinear_of v.stamp.loads x))
      (plus_positive (sum_of (constant_given l) v.stamp.constants) (row_sum l v.stamp.terms x) constants terms) (loads_positive x l h)

  -- ---- mismatches

  residual_held : (c : List ℤ) (l : ℕ) → Holds (residual_interval v.stamp c l) (residual_of v.stamp (whole_state c) l)
  residual_held c l =
      let dens = All-weaker (IsLinear v.size) HasDen (den_of v.size) v.stamp.terms net.terms.each in
      residual_holds v.stamp c l dens (each_positive (seen l) (nonlinear_of v.stamp.loads (whole_state c)) (loads_positive (whole_state c) l (omega arith)))

  met_by : (row : Bounds) (f : Fraction) (o : Option ℤ) (e : ℕ) → Some o ≡ Some (greater_size row) → Holds row f
      → mismatch_size o ≤ e → e ≤ greatest_mismatch → SizeWithin f e
  met_by row f None e same holds least most = absurd (omega arith)
  met_by row f (Some m) e same holds least most =
      let is : Some m ≡ greater_size row = cc in
      le_trans (greater_size_held row m is f holds) (mul-le-mul_right f.over least)

  -- numbers that are at least the mismatches, and at most the greatest, are met
  pub centre_meets : (c : List ℤ) (l e : ℕ) → mismatch_at v c l ≤ e → e ≤ greatest_mismatch
      → SizeWithin (residual_of v.stamp (whole_state c) l) e
  centre_meets c l e least most =
      met_by (residual_interval v.stamp c l) (residual_of v.stamp (whole_state c) l)
      (greater_size (residual_interval v.stamp c l)) e refl (residual_held c l) least most
