-- A part load within its limit has no contribution past the range: its admittance is at most 2^12 siemens.
use Rattle.std.proofs.Common.{◌≡◌, ℕ, ◌+◌, ◌*◌, ◌≤◌, ◌^◌, ℤ, pos, neg_ℤ, ◌*ℤ◌, ◌<ℤ◌, nat_abs, Bool, true, false, cond, List, [], ◌∷◌, ◌++◌, arith}
use Rattle.std.specs.List.{All, flat_map}
use Rattle.std.specs.Ordering.{int_eq}
use Rattle.std.proofs.Math.Nat.{mul-le-mul}
use Rattle.std.proofs.lemmas.Bool.{le-leb}
use Rattle.std.proofs.lemmas.Int.{ints, unsigned_abs-mul}
use Rattle.std.proofs.lemmas.List.Elements.{All-nil, All-cons, All-append, All-head, All-tail}
use Rattle.dss_layout.specs.fd_arith.LoadModels.{is_linear}
use Rattle.dss_layout.specs.fd_arith.Nearest.{near_size}
use Rattle.dss_layout.specs.fd_arith.declared.terms.NodeAt.{NodeAt}
use Rattle.dss_layout.specs.fd_arith.declared.terms.NodeAt.TheVariants.{Ground, Node}
use Rattle.fd_xfmr.specs.fd_system.declared.loads.LoadAt.{LoadAt}
use Rattle.fd_xfmr.specs.fd_system.Contributions.{IsWithin, complex_terms, one, shunt_list, term_units}
use Rattle.fd_xfmr.specs.fd_system.Loads.{impedance_list, linear_list}
use Rattle.fd_elements.specs.fd_load.Current.{IsPast, power_sum}
use Rattle.fd_elements.proofs.CallerLemmas.fd_load.{within_limit}
use Rattle.fd_devices.specs.Building.{IsUsable}
use Rattle.fd_devices.proofs.Bounded.{square_between}

-- ---- one complex number over a divisor

module _ (d : ℤ) (p : pos 0 <ℤ d) where
  -- at most 2^14, in units of 2^-40 at most 2^54
  abbrev IsLow : ℤ → Type 0
  IsLow n = nat_abs n * 2 ^ 40 ≤ 2 ^ 54 * nat_abs d

  low_opposite : (n : ℤ) → IsLow n → IsLow (neg_ℤ n)
  low_opposite n h = omega (arith, ints, h)

  one_by : (t : Bool) (r c : ℕ) (n : ℤ) → IsLow n → All IsWithin (cond t [] (record { row = r; col = c; num = n; den = d } ∷ []))
  one_by true r c n h = All-nil IsWithin
  one_by false r c n h =
      let small : nat_abs (term_units (record { row = r; col = c; num = n; den = d })) ≤ 2 ^ 54 = near_size n (nat_abs d) (2 ^ 54) (omega (arith, ints, p)) h in
      All-cons IsWithin _ [] (le-leb _ _ small) (All-nil IsWithin)

  one_within : (r c : ℕ) (n : ℤ) → IsLow n → All IsWithin (one r c n d)
  one_within r c n h = one_by (int_eq n (pos 0)) r c n h

  complex_within : (r c : NodeAt) (a b : ℤ) → IsLow a → IsLow b → All IsWithin (complex_terms r c a b d)
  complex_within (Node r) (Node c) a b h k =
      All-append IsWithin (one (2 * r) (2 * c) a d) _ (one_within (2 * r) (2 * c) a h)
      (All-append IsWithin (one (2 * r) (2 * c + 1) (neg_ℤ b) d) _ (one_within (2 * r) (2 * c + 1) (neg_ℤ b) (low_opposite b k))
      (All-append IsWithin (one (2 * r + 1) (2 * c) b d) _ (one_within (2 * r + 1) (2 * c) b k) (one_within (2 * r + 1) (2 * c + 1) a h)))
  complex_within (Node r) Ground a b h k = All-nil IsWithin
  complex_within Ground c a b h k = All-nil IsWithin

  shunt_within : (first second : NodeAt) (a b : ℤ) → IsLow a → IsLow b → All IsWithin (shunt_list first second a b d)
  shunt_within first second a b h k =
      let m = low_opposite a h in
      let o = low_opposite b k in
      All-append IsWithin (complex_terms first first a b d ++ complex_terms first second (neg_ℤ a) (neg_ℤ b) d) _
      (All-append IsWithin (complex_terms first first a b d) _
      (complex_within first first a b h k) (complex_within first second (neg_ℤ a) (neg_ℤ b) m o))
      (All-append IsWithin (complex_terms second first (neg_ℤ a) (neg_ℤ b) d) _
      (complex_within second first (neg_ℤ a) (neg_ℤ b) m o) (complex_within second second a b h k))

-- ---- a part load

impedance_within : (u : LoadAt) → IsUsable u → ¬ (IsPast u.load) → All IsWithin (impedance_list u)
impedance_within u h n =
    let v = h.voltages in
    let positive = (square_between u.load.vn v.nominal_least v.nominal_most).0 in
    let phase = within_limit u.load v n in
    let vn = nat_abs u.load.vn in
    let lo = nat_abs u.load.vlo in
    let order : lo ≤ vn = omega (arith, ints, v.low_least, v.low_most) in
    let squares : lo * lo ≤ vn * vn = mul-le-mul order order in
    let siemens : power_sum u.load * 10 ^ 9 ≤ 2 ^ 12 * (lo * lo) = phase.admittance in
    let divisor : nat_abs (u.load.vn *ℤ u.load.vn) ≡ vn * vn = unsigned_abs-mul u.load.vn u.load.vn in
    let low : (z : ℤ) → nat_abs z ≤ power_sum u.load → IsLow (u.load.vn *ℤ u.load.vn) positive (pos (10 ^ 9) *ℤ z) =
    λ z few. omega (arith, unsigned_abs-mul (pos (10 ^ 9)) z, few, siemens, squares, divisor) in
    let a = pos (10 ^ 9) *ℤ u.load.p in
    let b = pos (10 ^ 9) *ℤ u.load.q in
    shunt_within (u.load.vn *ℤ u.load.vn) positive u.first u.second a (neg_ℤ b)
    (low u.load.p (omega arith)) (low_opposite (u.load.vn *ℤ u.load.vn) positive b (low u.load.q (omega arith)))

linear_within : (u : LoadAt) → IsUsable u → ¬ (IsPast u.load) → (b : Bool) → All IsWithin (cond b (impedance_list u) [])
linear_within u h n true = impedance_within u h n
linear_within u h n false = All-nil IsWithin

-- nor have several
pub loads_within : (us : List LoadAt) → All IsUsable us → All (λ u. ¬ (IsPast u.load)) us → All IsWithin (flat_map linear_list us)
loads_within [] h n = All-nil IsWithin
loads_within (u ∷ us) h n =
    All-append IsWithin (linear_list u) (flat_map linear_list us)
    (linear_within u (All-head IsUsable u us h) (All-head (λ w. ¬ (IsPast w.load)) u us n) (is_linear u.load.model))
    (loads_within us (All-tail IsUsable u us h) (All-tail (λ w. ¬ (IsPast w.load)) u us n))
