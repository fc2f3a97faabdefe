-- What a device adds is bounded: its contributions stand among the unknowns and are few, its constants are small, and so is what it draws.
use Rattle.std.proofs.Common.{◌≡◌, ◌∙◌, ℕ, zero, suc, ◌+◌, ◌*◌, ◌%◌, ◌<◌, ◌≤◌, ◌^◌, ℤ, pos, negsuc, neg_ℤ, ◌*ℤ◌, ◌<ℤ◌, ◌≤ℤ◌, nat_abs, Bool, true, false, ◌&&◌, leb, cond, List, [], ◌∷◌, ◌++◌, length, length-append, get_or, Option, Some, None, arith, ap, sym, refl, subst, lit<, lit≤, ⊎_elim}
use Rattle.std.specs.List.{All, flat_map}
use Rattle.std.proofs.Math.Nat.{mul-le-mul, mul-le-mul_right}
use Rattle.std.proofs.lemmas.Int.{ints, unsigned_abs-mul}
use Rattle.std.proofs.lemmas.Bool.{cases_lt, and_parts, leb-true}
use Rattle.std.proofs.lemmas.List.Elements.{All-nil, All-cons, All-append, All-head, All-tail, All-weaker}
use Rattle.dss_layout.specs.fd_exact.Rounding.{near_div}
use Rattle.dss_layout.specs.fd_exact.Quotients.{ceil_nat_least}
use Rattle.dss_layout.specs.fd_exact.Sums.{list_n}
use Rattle.dss_layout.specs.fd_exact.Ranges.{UpTo}
use Rattle.dss_layout.specs.fd_arith.declared.terms.Term.{Term}
use Rattle.dss_layout.specs.fd_arith.declared.terms.Ends.{Ends}
use Rattle.dss_layout.specs.fd_arith.declared.terms.NodeAt.{NodeAt}
use Rattle.dss_layout.specs.fd_arith.declared.terms.NodeAt.TheVariants.{Ground, Node}
use Rattle.dss_layout.specs.fd_arith.declared.terms.LoadModel.{LoadModel}
use Rattle.dss_layout.specs.fd_arith.LoadModels.{is_linear}
use Rattle.fd_xfmr.specs.fd_system.declared.loads.LoadAt.{LoadAt}
use Rattle.fd_xfmr.specs.fd_system.Contributions.{IsDivided, IsWithin, concat_below, complex_terms}
use Rattle.fd_xfmr.specs.fd_system.Loads.{FitsModel, IsLoad, draw_of, impedance_list, linear_list}
use Rattle.fd_xfmr.proofs.CallerLemmas.fd_system.{complex_divided}
use Rattle.fd_elements.specs.fd_line.declared.data.LineData.{LineData}
use Rattle.fd_elements.specs.fd_line.Line.{line_list}
use Rattle.fd_elements.proofs.CallerLemmas.fd_line.{line_is}
use Rattle.fd_elements.specs.fd_source.declared.data.SourceData.{SourceData}
use Rattle.fd_elements.specs.fd_source.Equations.{constants_from, phase_constants, source_constants, source_list}
use Rattle.fd_elements.specs.fd_source.Phasors.{cosine, cosines, steps_of, volts_im, volts_re}
use Rattle.fd_elements.proofs.CallerLemmas.fd_source.{source_is}
use Rattle.dss_layout.specs.fd_exact.Nearest.{near_within}
use Rattle.fd_elements.specs.fd_load.Current.{IsPast, power_sum}
use Rattle.fd_elements.proofs.CallerLemmas.fd_load.{within_limit}
use Rattle.fd_pattern.specs.Conditions.{HasMagnitude, IsAmong, IsKnown, IsServed}
use Rattle.fd_devices.specs.Devices.{source, line, loads, other}
use Rattle.fd_devices.specs.Building.{AreContributions, DeviceFits, IsSettled, IsUsable}
use Rattle.fd_devices.specs.Sound.{HasBranches, IsSideOf}
use Rattle.fd_devices.proofs.Fitting.{fit_loads, fit_terms, fits_by}
use Rattle.fd_devices.proofs.Counting.{AreInside, StandsBelow, line_inside, loads_inside, more_room, none_inside, source_inside}

pub contributions : (n b : ℕ) (ts : List Term) → AreInside n b ts → All IsDivided ts → All IsWithin ts → AreContributions n b ts
contributions n b ts h d w = record { inside = h.inside; divided = d; within = w; few = h.few }

-- ---- lines

pub line_settled : (m n size : ℕ) (l : LineData) (at : Ends) → l.phases ≤ 3 → IsSideOf n l.phases at.first
    → IsSideOf n l.phases at.second → HasBranches n l.phases at → All IsWithin (line_list l at)
    → IsSettled m n size l.phases (line l at)
line_settled m n size l at few first second branches w = record {
  fits = fits_by (line l at) w (All-nil (λ u. ¬ (IsPast u.load)));
  good = tt;
  bounded = record {
    terms = contributions n (64 * (1 + l.phases)) (line_list l at) (more_room n (l.phases * 64) (64 * (1 + l.phases))
        (line_list l at) (omega arith) (line_inside n l at first.below second.below branches.below few))
        (line_is l at).divided w;
    constants = All-nil (IsKnown (2 * n));
    few_constants = omega arith;
    loads = All-nil (IsServed m n size);
    few_loads = omega arith;
    draw = omega arith;
  };
}

-- ---- sources

abbrev IsUnit : ℤ → Type 0
IsUnit z = nat_abs z ≤ 10 ^ 15

are_units : List ℤ → Bool
are_units [] = true
are_units (z ∷ zs) = leb (nat_abs z) (10 ^ 15) && are_units zs

units_from : (zs : List ℤ) → are_units zs ≡ true → All IsUnit zs
unfolding are_units
units_from [] h = All-nil IsUnit
units_from (z ∷ zs) h =
    let both = and_parts (leb (nat_abs z) (10 ^ 15)) (are_units zs) h in
    All-cons IsUnit z zs (leb-true (nat_abs z) (10 ^ 15) both.0) (units_from zs both.1)

all_units : All IsUnit cosines
unfolding are_units
all_units = units_from cosines refl

found_unit : (zs : List ℤ) (k : ℕ) → All IsUnit zs → IsUnit (get_or zs k (pos 0))
found_unit [] k h = lit≤ tt
found_unit (z ∷ zs) zero h = All-head IsUnit z zs h
found_unit (z ∷ zs) (suc k) h = found_unit zs k (All-tail IsUnit z zs h)

volts_small : (v : ℤ) (k : ℕ) → UpTo (2 * 10 ^ 12) v → nat_abs (near_div (v *ℤ cosine k) (10 ^ 15)) ≤ 2 * 10 ^ 12
volts_small v k h =
    let c = found_unit cosines (k % 12) all_units in
    let size : nat_abs v ≤ 2 * 10 ^ 12 = omega (arith, ints, h.least, h.most) in
    let m : nat_abs v * nat_abs (cosine k) ≤ 2 * 10 ^ 12 * 10 ^ 15 = mul-le-mul size c in
    near_within (v *ℤ cosine k) (10 ^ 15) (2 * 10 ^ 12) (lit< tt) (subst (λ a. a ≤ 2 * 10 ^ 12 * 10 ^ 15) (sym (unsigned_abs-mul v (cosine k))) m)

abbrev IsSmallVoltage : ℤ → Type 0
IsSmallVoltage z = nat_abs z ≤ 2 * 10 ^ 12

constants_small : (s : SourceData) → UpTo (2 * 10 ^ 12) s.volts → (n : ℕ) → All IsSmallVoltage (concat_below (phase_constants s) n)
constants_small s h zero = All-nil IsSmallVoltage
constants_small s h (suc n) =
    All-append IsSmallVoltage (concat_below (phase_constants s) n) (phase_constants s n) (constants_small s h n)
    (All-cons IsSmallVoltage (volts_re s n) (volts_im s n ∷ []) (volts_small s.volts (steps_of s n) h)
    (All-cons IsSmallVoltage (volts_im s n) [] (volts_small s.volts (steps_of s n + 9) h) (All-nil IsSmallVoltage)))

constants_length : (s : SourceData) (n : ℕ) → length (concat_below (phase_constants s) n) ≡ 2 * n
constants_length s zero = refl
constants_length s (suc n) = length-append (concat_below (phase_constants s) n) (phase_constants s n) ∙ omega (arith, constants_length s n)

from_length : (row : ℕ) (vs : List ℤ) → length (constants_from row vs) ≡ length vs
from_length row [] = refl
from_length row (v ∷ vs) = ap suc (from_length (row + 1) vs)

known_from : (m row : ℕ) (vs : List ℤ) → row + length vs ≤ m → All IsSmallVoltage vs → All (IsKnown m) (constants_from row vs)
known_from m row [] h k = All-nil (IsKnown m)
known_from m row (v ∷ vs) h k =
    let size = All-head IsSmallVoltage v vs k in
    All-cons (IsKnown m) _ (constants_from (row + 1) vs) (record { row = omega arith; least = omega (arith, ints, size); most = omega (arith, ints, size) })
    (known_from m (row + 1) vs (omega arith) (All-tail IsSmallVoltage v vs k))

pub source_settled : (m n size : ℕ) (s : SourceData) (at : Ends) → s.phases ≤ 3 → UpTo (2 * 10 ^ 12) s.volts
    → IsSideOf n s.phases at.first → HasBranches n s.phases at → All IsWithin (source_list s at) → IsSettled m n size s.phases (source s at)
source_settled m n size s at few volts first branches w =
    let count = constants_length s s.phases in
    let rows = from_length (2 * at.branch) (source_constants s) in
    let below = branches.below in
    record {
      fits = fits_by (source s at) w (All-nil (λ u. ¬ (IsPast u.load)));
      good = tt;
      bounded = record {
        terms = contributions n (64 * (1 + s.phases)) (source_list s at)
            (more_room n (s.phases * 64) (64 * (1 + s.phases)) (source_list s at) (omega arith)
            (source_inside n s at first.below branches.below few))
            (source_is s at).divided w;
        constants = known_from (2 * n) (2 * at.branch) (source_constants s) (omega arith) (constants_small s volts s.phases);
        few_constants = omega arith;
        loads = All-nil (IsServed m n size);
        few_loads = omega arith;
        draw = omega arith;
      };
    }

-- ---- loads

fits_model : (n size : ℕ) (model : LoadModel) (place : Option ℕ) → HasMagnitude n size model place → FitsModel model place
fits_model n size model None h = h
fits_model n size model (Some l) h = h.0

is_load : (n size : ℕ) (u : LoadAt) → IsUsable u → HasMagnitude n size u.load.model u.magnitude → IsLoad u
is_load n size u h m =
    let v = h.voltages in
    record {
      vn = omega (arith, ints, v.nominal_least);
      low = omega (arith, ints, v.low_least);
      order = omega (arith, ints, v.low_least, v.low_most, v.high_least);
      model = fits_model n size u.load.model u.magnitude m;
    }

-- what a part load within its limit draws
draw_small : (u : LoadAt) → IsUsable u → ¬ (IsPast u.load) → draw_of u ≤ 640000000000
draw_small u h n =
    let v = h.voltages in
    let g = power_sum u.load in
    let vn = nat_abs u.load.vn in
    let lo = nat_abs u.load.vlo in
    let least : 5 * 10 ^ 6 ≤ vn = omega (arith, ints, v.nominal_least) in
    let order : lo ≤ vn = omega (arith, ints, v.low_least, v.low_most) in
    let phase = within_limit u.load v n in
    let power : g ≤ 10 ^ 11 = phase.power in
    let siemens : g * 10 ^ 9 ≤ 2 ^ 12 * (lo * lo) = phase.admittance in
    let squares : lo * lo ≤ vn * vn = mul-le-mul order order in
    let low : vn ≤ 156250000 → g * 10 ^ 9 ≤ 640000000000 * vn = λ k. let m : vn * vn ≤ 156250000 * vn = mul-le-mul_right vn k in omega arith in
    let high : 156250000 < vn → g * 10 ^ 9 ≤ 640000000000 * vn = λ k. omega arith in
    ceil_nat_least (g * 10 ^ 9) vn 640000000000 (omega arith) (⊎_elim high low (cases_lt 156250000 vn))

draws_small : (us : List LoadAt) → All IsUsable us → All (λ u. ¬ (IsPast u.load)) us → list_n draw_of us ≤ 640000000000 * length us
draws_small [] h n = omega arith
draws_small (u ∷ us) h n =
    let one = draw_small u (All-head IsUsable u us h) (All-head (λ w. ¬ (IsPast w.load)) u us n) in
    let rest = draws_small us (All-tail IsUsable u us h) (All-tail (λ w. ¬ (IsPast w.load)) u us n) in
    omega arith

pub among_more : (m n : ℕ) (node : NodeAt) → m ≤ n → IsAmong m node → IsAmong n node
among_more m n Ground h k = tt
among_more m n (Node j) h k = omega arith

module _ (m n size : ℕ) where
  -- a part load is between nodes, and its magnitude stands behind the complex unknowns
  pub record StandsInside (u : LoadAt) : Type 0 where
    pub nodes : StandsBelow m u
    pub magnitude : HasMagnitude n size u.load.model u.magnitude

  all_loads : (us : List LoadAt) → All IsUsable us → All StandsInside us → All IsLoad us
  all_loads [] h i = All-nil IsLoad
  all_loads (u ∷ us) h i =
      All-cons IsLoad u us (is_load n size u (All-head IsUsable u us h) (All-head StandsInside u us i).magnitude)
      (all_loads us (All-tail IsUsable u us h) (All-tail StandsInside u us i))

  is_served : (u : LoadAt) → IsUsable u → ¬ (IsPast u.load) → StandsInside u → IsServed m n size u
  is_served u h p i = record { phase = within_limit u.load h.voltages p; first = i.nodes.first; second = i.nodes.second; magnitude = i.magnitude }

  all_served : (us : List LoadAt) → All IsUsable us → All (λ u. ¬ (IsPast u.load)) us → All StandsInside us → All (IsServed m n size) us
  all_served [] h p i = All-nil (IsServed m n size)
  all_served (u ∷ us) h p i = All-cons (IsServed m n size) u us
      (is_served u (All-head IsUsable u us h) (All-head (λ w. ¬ (IsPast w.load)) u us p) (All-head StandsInside u us i))
      (all_served us (All-tail IsUsable u us h) (All-tail (λ w. ¬ (IsPast w.load)) u us p) (All-tail StandsInside u us i))

  all_below : m ≤ n → (us : List LoadAt) → All StandsInside us → All (StandsBelow n) us
  all_below h us a = All-weaker StandsInside (StandsBelow n)
      (λ u i. record { first = among_more m n u.first h i.nodes.first; second = among_more m n u.second h i.nodes.second }) us a

-- the square of a nominal voltage
pub square_between : (z : ℤ) → pos (5 * 10 ^ 6) ≤ℤ z → z ≤ℤ pos (10 ^ 12) → (pos 0 <ℤ (z *ℤ z)) × ((z *ℤ z) ≤ℤ pos (10 ^ 32))
square_between (pos m) h k =
    let least : 1 ≤ m = omega (arith, ints, h) in
    let most : m ≤ 10 ^ 12 = omega (arith, ints, k) in
    let low : 1 * 1 ≤ m * m = mul-le-mul least least in
    let high : m * m ≤ 10 ^ 12 * 10 ^ 12 = mul-le-mul most most in
    (omega (arith, ints, low), omega (arith, ints, high))
square_between (negsuc m) h k = absurd (omega (arith, ints, h))

pub impedance_divided : (u : LoadAt) → IsUsable u → All IsDivided (impedance_list u)
impedance_divided u h =
    let a = pos (10 ^ 9) *ℤ u.load.p in
    let b = pos (10 ^ 9) *ℤ u.load.q in
    let d = u.load.vn *ℤ u.load.vn in
    let v = h.voltages in
    let between = square_between u.load.vn v.nominal_least v.nominal_most in
    stamps a b d between.0 between.1
  where
    stamps : (a b d : ℤ) → pos 0 <ℤ d → d ≤ℤ pos (10 ^ 32)
        → All IsDivided
        ((complex_terms u.first u.first a (neg_ℤ b) d ++ complex_terms u.first u.second (neg_ℤ a) (neg_ℤ (neg_ℤ b)) d)
        ++ (complex_terms u.second u.first (neg_ℤ a) (neg_ℤ (neg_ℤ b)) d
        ++ complex_terms u.second u.second a (neg_ℤ b) d))
    stamps a b d p m =
        All-append IsDivided
        (complex_terms u.first u.first a (neg_ℤ b) d ++ complex_terms u.first u.second (neg_ℤ a) (neg_ℤ (neg_ℤ b)) d)
        _ (All-append IsDivided (complex_terms u.first u.first a (neg_ℤ b) d) _
        (complex_divided d p m u.first u.first a (neg_ℤ b))
        (complex_divided d p m u.first u.second (neg_ℤ a) (neg_ℤ (neg_ℤ b))))
        (All-append IsDivided (complex_terms u.second u.first (neg_ℤ a) (neg_ℤ (neg_ℤ b)) d) _
        (complex_divided d p m u.second u.first (neg_ℤ a) (neg_ℤ (neg_ℤ b)))
        (complex_divided d p m u.second u.second a (neg_ℤ b)))

linear_divided : (u : LoadAt) → IsUsable u → (b : Bool) → All IsDivided (cond b (impedance_list u) [])
linear_divided u h true = impedance_divided u h
linear_divided u h false = All-nil IsDivided

pub loads_divided : (us : List LoadAt) → All IsUsable us → All IsDivided (flat_map linear_list us)
loads_divided [] h = All-nil IsDivided
loads_divided (u ∷ us) h =
    All-append IsDivided (linear_list u) (flat_map linear_list us)
    (linear_divided u (All-head IsUsable u us h) (is_linear u.load.model))
    (loads_divided us (All-tail IsUsable u us h))

pub loads_settled : (m n size : ℕ) (us : List LoadAt) → m ≤ n → All IsUsable us → length us ≤ 9 → length (flat_map linear_list us) ≤ 64
    → All (StandsInside m n size) us → DeviceFits (loads us) → IsSettled m n size 0 (loads us)
loads_settled m n size us among h few few_terms inside f =
    let within = fit_terms (loads us) f in
    let below = fit_loads (loads us) f in
    let draws = draws_small us h below in
    record {
      fits = f;
      good = all_loads m n size us h inside;
      bounded = record {
        terms = contributions n 64 (flat_map linear_list us)
            (record { inside = (loads_inside n us (all_below m n size among us inside)).inside; few = few_terms })
            (loads_divided us h) within;
        constants = All-nil (IsKnown (2 * n));
        few_constants = omega arith;
        loads = all_served m n size us h below inside;
        few_loads = omega arith;
        draw = omega arith;
      };
    }

pub other_settled : (m n size : ℕ) → IsSettled m n size 0 other
other_settled m n size = record {
  fits = refl;
  good = tt;
  bounded = record {
    terms = contributions n 64 [] (more_room n 0 64 [] (omega arith) (none_inside n)) (All-nil IsDivided) (All-nil IsWithin);
    constants = All-nil (IsKnown (2 * n));
    few_constants = omega arith;
    loads = All-nil (IsServed m n size);
    few_loads = omega arith;
    draw = omega arith;
  };
}
