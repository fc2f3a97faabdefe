-- What the test of a device says of its contributions and its part loads.
use Rattle.std.proofs.Common.{◌≡◌, Bool, IsTrue, true, false, not}
use Rattle.std.specs.List.{All, list_all}
use Rattle.std.specs.Cmp.Derive.{both_true}
use Rattle.std.proofs.lemmas.Bool.{and_parts, false_from_ne_true, not_from_false}
use Rattle.std.proofs.lemmas.List.Elements.{All-weaker}
use Rattle.std.proofs.lemmas.List.Sums.{AllPass-from_list_all, list_all-from_AllPass}
use Rattle.dss_layout.specs.fd_arith.declared.terms.Term.{Term}
use Rattle.fd_xfmr.specs.fd_system.declared.loads.LoadAt.{LoadAt}
use Rattle.fd_xfmr.specs.fd_system.Contributions.{IsWithin, are_small, term_units}
use Rattle.fd_elements.specs.fd_load.Current.{IsPast, is_past}
use Rattle.fd_devices.specs.Building.{DeviceFits}
use Rattle.fd_devices.specs.Devices.{Device, device_stamp}

fails : (b : Bool) → not b ≡ true → ¬ (IsTrue b)
fails true h e = absurd cc
fails false h e = absurd cc

pub fits_by : (d : Device) → All IsWithin (device_stamp d).terms → All (λ u. ¬ (IsPast u.load)) (device_stamp d).loads → DeviceFits d
fits_by d terms loads =
    both_true (list_all-from_AllPass (λ (t : Term). are_small (term_units t)) (device_stamp d).terms terms)
    (list_all-from_AllPass (λ (u : LoadAt). not (is_past u.load)) (device_stamp d).loads
    (All-weaker (λ (u : LoadAt). ¬ (IsPast u.load)) (λ (u : LoadAt). not (is_past u.load) ≡ true)
    (λ u n. not_from_false (is_past u.load) (false_from_ne_true (is_past u.load) n)) (device_stamp d).loads loads))

pub fit_terms : (d : Device) → DeviceFits d → All IsWithin (device_stamp d).terms
fit_terms d h =
    let parts = and_parts (list_all (λ (t : Term). are_small (term_units t)) (device_stamp d).terms)
    (list_all (λ (u : LoadAt). not (is_past u.load)) (device_stamp d).loads) h in
    AllPass-from_list_all (λ (t : Term). are_small (term_units t)) (device_stamp d).terms parts.0

pub fit_loads : (d : Device) → DeviceFits d → All (λ u. ¬ (IsPast u.load)) (device_stamp d).loads
fit_loads d h =
    let parts = and_parts (list_all (λ (t : Term). are_small (term_units t)) (device_stamp d).terms)
    (list_all (λ (u : LoadAt). not (is_past u.load)) (device_stamp d).loads) h in
    All-weaker (λ (u : LoadAt). not (is_past u.load) ≡ true) (λ (u : LoadAt). ¬ (IsPast u.load)) (λ u. fails (is_past u.load)) (device_stamp d).loads
    (AllPass-from_list_all (λ (u : LoadAt). not (is_past u.load)) (device_stamp d).loads parts.1)
