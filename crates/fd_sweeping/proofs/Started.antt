-- The network of a Solve of `ladder`, and what its sweep is beside a claim.
use Rattle.std.proofs.Common.{◌≡◌, ◌∙◌, ℕ, ◌*◌, ◌<◌, pos, length, Option, Some, None, Result, Ok, Err, refl, sym, ap}
use Rattle.std.proofs.Common.{subst, arith}
use Rattle.std.proofs.lemmas.List.Elements.{All-from_get_or}
use Rattle.fd_solving.specs.dss_model.declared.command.Blame.{Blame}
use Rattle.fd_solving.specs.dss_circuit.Circuit.{CircuitView}
use Rattle.fd_solving.specs.dss_layout.Layout.{layout_of, size_of}
use Rattle.fd_solving.specs.fd_certfile.Rounds.{IsClaimOf}
use Rattle.fd_solving.specs.fd_daily.Underway.{no_positions, start_from}
use Rattle.fd_solving.specs.fd_devices.Scripted.{circuit_network, devices_of}
use Rattle.fd_solving.specs.fd_devices.Settings.{settings_of}
use Rattle.fd_solving.specs.fd_devices.declared.fault.BuildFault.{BuildFault}
use Rattle.fd_solving.specs.fd_devices.declared.fault.BuildFault.TheVariants.{Range}
use Rattle.fd_solving.specs.fd_devices.declared.settings.Positions.{Positions as CodePositions}
use Rattle.fd_solving.specs.fd_devices.declared.settings.Powers.{Powers}
use Rattle.fd_solving.specs.fd_enclosure.Sound.{Claim, HasInverse, greatest_mismatch, number_at}
use Rattle.fd_solving.specs.fd_exact.States.{part}
use Rattle.fd_solving.specs.fd_network.Built.{BuiltView, IsBuilt, IsBuiltOf}
use Rattle.fd_solving.specs.fd_network.Faults.{IsFaultOf, range_blame}
use Rattle.fd_solving.specs.fd_pattern.Conditions.{IsPart}
use Rattle.fd_solving.specs.fd_pattern.Views.{NetworkView}
use Rattle.fd_solving.specs.fd_queue.Controls.{Positions}
use Rattle.fd_solving.specs.fd_report.declared.ladders.Ladder.{Ladder}
use Rattle.fd_solving.specs.fd_sample.Probes.{positions_in}
use Rattle.fd_solving.specs.fd_settings.Hours.{hour_powers}
use Rattle.fd_solving.specs.fd_settings.Positions.{next_closed, next_taps}
use Rattle.fd_solving.specs.fd_settle.Plant.{blame_at, network_at}
use Rattle.fd_sweep.specs.Ladders.{ladder_of as ladder_at}
use Rattle.fd_sweep.specs.Sweep.{sweep_of, sweep_result, swept_unless}
use Rattle.fd_sweep.specs.fd_ladder.Radial.{first_offending}
use Rattle.fd_sweep.specs.fd_rungs.declared.swept.Swept.{Swept}
use Rattle.fd_sweep.specs.fd_rungs.declared.swept.Swept.TheVariants.{Settled, NotConverged, OutOfRange}
use Rattle.fd_sweeping.specs.Beside.{ladder_of}
use Rattle.fd_sweeping.specs.Pages.{blame, ladder_in, network, script_at, sweep, swept_beside, unless_refused}
use Rattle.fd_sweeping.specs.Stepping.{IsClaimed, IsLayoutOf, IsPointIfSettled}
use Rattle.fd_sweeping.proofs.Points.{settled_point, within}

-- ---- a network that was built

module _ (net : BuiltView) (c : CircuitView) (is : IsBuilt net) (built : IsBuiltOf net c) where
  pub stands : IsLayoutOf net.layout net.rows
  stands =
      let nodes : net.rows.nodes ≡ length net.layout.nodes = ap (λ (v : NetworkView). v.nodes) is.rows in
      let size = is.size in
      record { size = sym is.size; nodes = sym nodes; few = omega (arith, nodes, size) }

  pub claimed : (m : Claim) → IsClaimOf (size_of (layout_of c.elements)) m
      → length m.boxes ≡ size_of (layout_of c.elements)
      → IsClaimed net.rows m
  claimed m h boxes =
      let size : size_of (layout_of c.elements) ≡ net.rows.size = sym (is.size ∙ ap size_of built.layout) in
      record {
        point = record {
          centre = record {
            long = h.centre_long ∙ size;
            parts = All-from_get_or IsPart m.centre (pos 0)
                (λ i lt. within (part m.centre i) (h.centre i (subst (λ n. i < n) h.centre_long lt)));
          };
          inverse = subst (λ n. HasInverse n m.support) size h.inverse;
        };
        boxes_long = boxes ∙ size;
        mismatches_long = h.mismatches_long ∙ size;
        mismatches_most = λ l lt. h.mismatches l (subst (λ n. l < n) (sym size) lt);
      }

-- ---- a sweep

pub settled_fits : (c : CircuitView) (at : CodePositions) (v : NetworkView) (most : ℕ) (w : Swept)
    → sweep_result c at v most ≡ Ok w → IsPointIfSettled v w
settled_fits c at v most w e = by (first_offending c.elements) w e
  where
    by : (first : Option ℕ) (w : Swept) → swept_unless first (sweep_of c at v most) ≡ Ok w → IsPointIfSettled v w
    by None (Settled x sweeps) is = settled_point v (ladder_at c at) v.stamp.loads v.nodes (10 * most) x sweeps (cc is)
    by None (NotConverged sweeps) is = tt
    by None (OutOfRange place sweep) is = tt
    by (Some number) w is = absurd (cc is)

-- ---- at the script's positions

module _ (c : CircuitView) (at before : CodePositions) (powers : Powers) (none : positions_in before ≡ no_positions)
    (taps : at.taps ≡ next_taps c.solves c.elements before.taps)
    (closed : at.closed ≡ next_closed c.solves c.elements before.closed)
    (loads : powers.loads ≡ hour_powers c.elements 0) where
  starts : positions_in at ≡ script_at c
  starts = (λ i. record { taps = taps i; closed = closed i }) ∙ ap (λ (p : Positions). start_from c p) none

  blame_is : range_blame c.elements (devices_of c (settings_of at powers)) ≡ blame c
  unfolding blame_at
  blame_is = λ i. blame_at c (loads i) (starts i)

  network_is : circuit_network c (settings_of at powers) ≡ network c
  unfolding network_at
  network_is = λ i. network_at c (loads i) (starts i)

  pub none_refused : (m : Claim) (f : BuildFault) (b : Blame) → f ≡ Range b
      → IsFaultOf (range_blame c.elements (devices_of c (settings_of at powers))) f → None ≡ swept_beside c m
  none_refused m f b is h =
      let refused = subst (IsFaultOf (range_blame c.elements (devices_of c (settings_of at powers)))) is h in
      λ i. unless_refused (ladder_in c m) ((sym refused ∙ blame_is) i) (sweep c)

  pub beside_is : (m : Claim) (v : NetworkView) → v ≡ circuit_network c (settings_of at powers)
      → range_blame c.elements (devices_of c (settings_of at powers)) ≡ None
      → unless_refused (ladder_of (layout_of c.elements) v m) None (sweep_result c at v c.options.maxiterations)
      ≡ swept_beside c m
  beside_is m v rows fine =
      let same = rows ∙ network_is in
      let no_blame = sym fine ∙ blame_is in
      λ i. unless_refused (ladder_of (layout_of c.elements) (same i) m) (no_blame i)
      (sweep_result c (record { taps = (starts i).taps; closed = (starts i).closed }) (same i) c.options.maxiterations)
