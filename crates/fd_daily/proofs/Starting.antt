-- The positions and the network with which an hour starts.
use Rattle.std.proofs.Common.{◌≡◌, ◌∙◌, ℕ, List, ◌∷◌, None, ap, length, refl, sym, subst}
use Rattle.std.specs.Prelude.{All}
use Rattle.fd_settings.specs.dss_model.InRange.{ElementInRange}
use Rattle.fd_settings.specs.dss_circuit.Circuit.{CircuitView}
use Rattle.fd_settings.specs.fd_elements.declared.powers.LoadPower.{LoadPower}
use Rattle.fd_settings.specs.fd_pattern.Views.{NetworkView}
use Rattle.fd_settings.specs.fd_devices.Devices.{AgreesWith}
use Rattle.fd_settings.specs.Hours.{HoursLaw, hour_powers}
use Rattle.fd_settings.specs.Positions.{NextLaw, next_closed, next_taps}
use Rattle.fd_settings.specs.fd_devices.Scripted.{circuit_network, circuit_parts, devices_of}
use Rattle.fd_settings.specs.fd_devices.Settings.{AreSettings, settings_of}
use Rattle.fd_settings.specs.fd_devices.declared.fault.BuildFault.{BuildFault}
use Rattle.fd_settings.specs.fd_devices.declared.fault.BuildFault.TheVariants as build_fault
use Rattle.fd_settings.specs.fd_devices.declared.settings.Positions.{Positions as CodePositions}
use Rattle.fd_settings.specs.fd_devices.declared.settings.Powers.{Powers}
use Rattle.fd_settle.specs.fd_network.Built.{BuiltView, IsBuiltOf}
use Rattle.fd_settle.specs.fd_network.Faults.{IsFaultOf, range_blame}
use Rattle.fd_settings.specs.fd_xfmr.Leakage.{AreTaps}
use Rattle.fd_settle.specs.fd_queue.Controls.{Positions}
use Rattle.fd_settle.specs.fd_sample.Probes.{positions_in}
use Rattle.fd_settle.specs.Plant.{blame_at, network_at}
use Rattle.fd_settle.specs.Start.{ArePositions, IsNetworkAt}
use Rattle.fd_daily.specs.Underway.{IsRefusedAt, start_from}

-- ---- the first hour

module _ (c : CircuitView) (before : Positions) (at : CodePositions) (taps : at.taps ≡ next_taps c.solves c.elements before.taps)
    (closed : at.closed ≡ next_closed c.solves c.elements before.closed) where
  pub start_is : positions_in at ≡ start_from c before
  start_is = rw (taps, closed) refl

  pub first_settings : NextLaw → HoursLaw → (powers : Powers) (hour : ℕ) → powers.loads ≡ hour_powers c.elements hour
      → AreSettings c.elements (settings_of at powers)
  first_settings law hours powers hour loads =
      let counts = (law c.solves c.elements before.taps before.closed).counts in
      record {
        taps = ap length taps ∙ counts.taps;
        closed = ap length closed ∙ counts.closed;
        powers = ap length loads ∙ (hours c.elements).count hour;
      }

  pub first_taps : NextLaw → All (λ e. ElementInRange e.1) c.elements → All AreTaps before.taps → All AreTaps at.taps
  first_taps law elements there = subst (All AreTaps) (sym taps) ((law c.solves c.elements before.taps before.closed).within elements there)

-- ---- each hour

-- positions of a circuit have the counts of its elements with the powers of whatever hour
pub other_settings : (c : CircuitView) (at : CodePositions) (others : List LoadPower) (powers : Powers) (hour : ℕ)
    → powers.loads ≡ hour_powers c.elements hour
    → HoursLaw → ArePositions c others (positions_in at) → AreSettings c.elements (settings_of at powers)
other_settings c at others powers hour loads hours p = record {
  taps = p.counts.taps;
  closed = p.counts.closed;
  powers = ap length loads ∙ (hours c.elements).count hour;
}

module _ (c : CircuitView) (at : CodePositions) (powers : Powers) where
  pub network_there : (net : BuiltView) → IsBuiltOf net c → net.rows ≡ circuit_network c (settings_of at powers)
      → range_blame c.elements (devices_of c (settings_of at powers)) ≡ None
      → AgreesWith net.rows.stamp (circuit_parts c (settings_of at powers))
      → IsNetworkAt c powers.loads (positions_in at) net
  unfolding blame_at network_at
  network_there net built rows none agrees = record {
    built = built;
    rows = rows;
    in_range = none;
    agrees = subst (λ (v : NetworkView). AgreesWith v.stamp (circuit_parts c (settings_of at powers))) rows agrees;
  }

  blame_here : blame_at c powers.loads (positions_in at) ≡ range_blame c.elements (devices_of c (settings_of at powers))
  unfolding blame_at
  blame_here = refl

  -- a refused network is that of the first of these hours
  pub refused_at : (hour : ℕ) (more hours : List ℕ) (start : Positions) → positions_in at ≡ start → hours ≡ hour ∷ more
      → powers.loads ≡ hour_powers c.elements hour
      → (f : BuildFault) → IsFaultOf (range_blame c.elements (devices_of c (settings_of at powers))) f
      → IsRefusedAt c hours start f
  refused_at hour more hours start there first loads (build_fault.Range blame) h =
      subst (λ (hs : List ℕ). IsRefusedAt c hs start (build_fault.Range blame)) (sym first)
      (subst (λ (p : Positions). IsRefusedAt c (hour ∷ more) p (build_fault.Range blame)) there
      (ap (λ (x : List LoadPower). blame_at c x (positions_in at)) (sym loads) ∙ blame_here ∙ h))
  refused_at hour more hours start there first loads build_fault.NoMemory h = tt
