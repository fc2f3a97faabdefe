-- What a capacitor bank adds is bounded.
use Rattle.std.proofs.Common.{◌≡◌, ℕ, ◌*◌, ◌≤◌, ◌^◌, ◌⊎◌, inl, inr, pos, nat_abs, Bool, true, false, [], arith, subst, sym}
use Rattle.std.specs.List.{All}
use Rattle.std.proofs.lemmas.Int.{ints, unsigned_abs-mul}
use Rattle.std.proofs.lemmas.List.Elements.{All-nil}
use Rattle.dss_layout.specs.fd_exact.Quotients.{ceil_nat_least}
use Rattle.dss_layout.specs.fd_exact.Rounding.{ceil_nat}
use Rattle.dss_layout.specs.fd_arith.declared.terms.Ends.{Ends}
use Rattle.fd_xfmr.specs.fd_system.Contributions.{IsWithin}
use Rattle.fd_xfmr.specs.fd_system.declared.terminals.NodePair.{NodePair}
use Rattle.fd_xfmr.specs.fd_system.Terminals.{node_count, pairs_of}
use Rattle.fd_xfmr.proofs.CallerLemmas.fd_system.{phase_volts_between}
use Rattle.fd_cap.specs.declared.data.CapData.{CapData}
use Rattle.fd_cap.specs.Capacitor.{IsCap, cap_draw_of, cap_list, cap_pair, cap_power, cap_volts, list_at, phase_list, volts_squared}
use Rattle.fd_cap.proofs.CallerLemmas.{cap_is}
use Rattle.fd_elements.specs.fd_load.Current.{IsPast}
use Rattle.fd_pattern.specs.Conditions.{IsAmong, IsKnown, IsServed}
use Rattle.fd_devices.specs.Devices.{capacitor}
use Rattle.fd_devices.specs.Building.{IsSettled}
use Rattle.fd_devices.specs.Sound.{IsSideOf}
use Rattle.fd_devices.proofs.Counting.{AreInside, concat_inside, more_room, none_inside, shunt_inside}
use Rattle.fd_devices.proofs.Bounded.{contributions}
use Rattle.fd_devices.proofs.Fitting.{fits_by}
use Rattle.fd_devices.proofs.Transformers.{IsPairBelow, pair_below}

-- ---- the places of its contributions

module _ (n : ℕ) where
  phase_inside : (d : CapData) (p : NodePair) → IsPairBelow n p → AreInside n 16 (phase_list d p)
  phase_inside d p h = shunt_inside n p.first p.second (pos 0) (cap_power d) (pos (volts_squared d)) h.first h.second

  cap_inside : (d : CapData) (closed : Bool) (at : Ends) → d.phases ≤ 3 → All (IsAmong n) at.first → AreInside n 64 (cap_list d closed at)
  cap_inside d true at few below = more_room n (d.phases * 16) 64 (cap_list d true at) (omega arith)
      (concat_inside n 16 (list_at d at) d.phases (λ k p. phase_inside d (cap_pair d at k) (pair_below n (pairs_of d.phases d.conn) at.first k below)))
  cap_inside d false at few below = more_room n 0 64 [] (omega arith) (none_inside n)

-- ---- what it draws

power_size : (d : CapData) → IsCap d → nat_abs (cap_power d) ≤ 10 ^ 20
power_size d h =
    let m : nat_abs d.kvar ≤ 10 ^ 14 = omega (arith, ints, h.kvar.least, h.kvar.most) in
    subst (λ s. s ≤ 10 ^ 20) (sym (unsigned_abs-mul d.kvar (pos (10 ^ 6)))) (omega (arith, m))

volts_least : (d : CapData) → IsCap d → 5773000 ≤ nat_abs (cap_volts d)
volts_least d h = let b = phase_volts_between d.phases d.conn d.kv h.kv in omega (arith, ints, b.least)

few_phases : (n : ℕ) → (n ≡ 1) ⊎ (n ≡ 3) → n ≤ 3
few_phases n (inl e) = omega arith
few_phases n (inr e) = omega arith

-- Q / V of all phases
draw_most : (q v p : ℕ) → q ≤ 10 ^ 20 → 5773000 ≤ v → (p ≡ 1) ⊎ (p ≡ 3) → ceil_nat q (v * p) * p ≤ 17500000000000
draw_most q v p h k (inl e) =
    let c = ceil_nat_least q (v * 1) 17400000000000 (omega arith) (omega arith) in
    subst (λ m. ceil_nat q (v * m) * m ≤ 17500000000000) (sym e) (omega (arith, c))
draw_most q v p h k (inr e) =
    let c = ceil_nat_least q (v * 3) 5800000000000 (omega arith) (omega arith) in
    subst (λ m. ceil_nat q (v * m) * m ≤ 17500000000000) (sym e) (omega (arith, c))

draw_small : (d : CapData) (closed : Bool) → IsCap d → cap_draw_of d closed ≤ 17500000000000
draw_small d true h = draw_most (nat_abs (cap_power d)) (nat_abs (cap_volts d)) d.phases (power_size d h) (volts_least d h) h.phases
draw_small d false h = omega arith

-- ---- what it adds

pub capacitor_settled : (m n size : ℕ) (d : CapData) (closed : Bool) (at : Ends) → IsCap d
    → IsSideOf n (node_count d.phases) at.first → All IsWithin (cap_list d closed at)
    → IsSettled m n size 0 (capacitor d closed at)
capacitor_settled m n size d closed at h side w = record {
  fits = fits_by (capacitor d closed at) w (All-nil (λ u. ¬ (IsPast u.load)));
  good = h;
  bounded = record {
    terms = contributions n 64 (cap_list d closed at) (cap_inside n d closed at (few_phases d.phases h.phases) side.below) (cap_is d closed at h).divided w;
    constants = All-nil (IsKnown (2 * n));
    few_constants = omega arith;
    loads = All-nil (IsServed m n size);
    few_loads = omega arith;
    draw = omega (arith, draw_small d closed h);
  };
}
