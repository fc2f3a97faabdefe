-- The devices of a network fit.
use Rattle.std.proofs.Common.{◌≡◌, ℕ, ◌*◌, ◌<◌, ◌≤◌, ◌^◌, List, [], ◌∷◌, map, nat_abs, nat_lt, arith, ⊎_elim}
use Rattle.std.specs.List.{All, flat_map}
use Rattle.std.proofs.lemmas.Bool.Decides.{Decides-ltb, Decides-or}
use Rattle.std.proofs.lemmas.List.Elements.{All-cons, All-nil, All-weaker}
use Rattle.dss_ready.specs.fd_arith.declared.terms.Term.{Term}
use Rattle.dss_ready.proofs.CallerLemmas.dss_layout.{both_parts}
use Rattle.fd_devices.specs.fd_elements.fd_load.Current.{IsLoadPhase, IsPast, power_sum}
use Rattle.fd_devices.specs.fd_system.Contributions.{IsWithin}
use Rattle.fd_devices.specs.fd_system.System.{StampView}
use Rattle.fd_devices.specs.fd_system.declared.loads.LoadAt.{LoadAt}
use Rattle.fd_devices.specs.fd_system.declared.loads.LoadPhase.{LoadPhase}
use Rattle.fd_equations.specs.fd_pattern.Conditions.{IsLinear, IsNetwork, IsServed}
use Rattle.fd_equations.specs.fd_pattern.Views.{network_of}
use Rattle.fd_equations.specs.fd_pattern.declared.layout.Layout.{Layout}
use Rattle.fd_devices.specs.Building.{DeviceFits}
use Rattle.fd_devices.specs.Devices.{Device, device_stamp, stamp_of_all}
use Rattle.fd_devices.proofs.CallerLemmas.{fits_by}

-- a load phase isn't past its limit
not_past : (w : LoadPhase) → IsLoadPhase w → ¬ (IsPast w)
not_past w h past =
    let power = h.power in
    let admittance = h.admittance in
    let most = 2 ^ 12 * (nat_abs w.vlo * nat_abs w.vlo) in
    ⊎_elim (λ p. absurd (omega (arith, p, power))) (λ p. absurd (omega (arith, p, admittance)))
    ((Decides-or (nat_lt (10 ^ 11) (power_sum w)) (nat_lt most (power_sum w * 10 ^ 9)) (Decides-ltb (10 ^ 11) (power_sum w))
    (Decides-ltb most (power_sum w * 10 ^ 9))).0 past)

module _ (nodes complexes size : ℕ) where
  one_fits : (d : Device) → All (IsLinear size) (device_stamp d).terms → All (IsServed nodes complexes size) (device_stamp d).loads
      → DeviceFits d
  one_fits d terms loads =
      fits_by d (All-weaker (IsLinear size) IsWithin (λ t h. h.within) (device_stamp d).terms terms)
      (All-weaker (IsServed nodes complexes size) (λ u. ¬ (IsPast u.load)) (λ u h. not_past u.load h.phase) (device_stamp d).loads loads)

  all_fit : (ds : List Device) → All (IsLinear size) (stamp_of_all ds).terms → All (IsServed nodes complexes size) (stamp_of_all ds).loads
      → All DeviceFits ds
  all_fit [] terms loads = All-nil DeviceFits
  all_fit (d ∷ ds) terms loads =
      let t = both_parts (IsLinear size) (device_stamp d).terms (stamp_of_all ds).terms terms in
      let l = both_parts (IsServed nodes complexes size) (device_stamp d).loads (stamp_of_all ds).loads loads in
      All-cons DeviceFits d ds (one_fits d t.0 l.0) (all_fit ds t.1 l.1)

-- the devices whose stamps are a network fit
pub devices_fit : (counts : Layout) (ds : List Device) → IsNetwork (network_of counts (stamp_of_all ds)) → All DeviceFits ds
devices_fit counts ds h =
    let v = network_of counts (stamp_of_all ds) in
    all_fit v.nodes v.complexes v.size ds h.terms.each h.loads
