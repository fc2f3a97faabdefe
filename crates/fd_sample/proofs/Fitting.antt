-- The probe of a control of a circuit that passed the tests of Solve is in the ranges of the script profile, at places among the unknowns.
use Rattle.std.proofs.Common.{◌≤◌, ◌+◌, ◌*◌, ◌-◌, ◌==◌, ℕ, Bool, true, false, slice_get, sym, subst, arith}
use Rattle.std.specs.Prelude.{All}
use Rattle.std.proofs.Math.Nat.{div-le_self, le-div_iff_mul-le}
use Rattle.std.proofs.lemmas.Int.{ints}
use Rattle.fd_regctl.specs.fd_arith.declared.terms.Ends.{Ends}
use Rattle.fd_network.specs.fd_elements.Connections.{conn_of}
use Rattle.fd_network.proofs.CallerLemmas.fd_system.{phase_volts_between}
use Rattle.fd_network.specs.dss_model.InRange.{ElementInRange, RegControlInRange, TransformerInRange, WindingInRange}
use Rattle.fd_network.specs.dss_model.declared.capcontrol.CapControl.{CapControl}
use Rattle.fd_network.specs.dss_model.declared.element.Element.TheVariants as the
use Rattle.fd_network.specs.dss_model.declared.names.Class.TheVariants as class
use Rattle.fd_network.specs.dss_model.declared.regcontrol.RegControl.{RegControl}
use Rattle.fd_network.specs.dss_model.declared.transformer.Transformer.{Transformer}
use Rattle.fd_network.specs.dss_model.declared.transformer.Winding.{Winding}
use Rattle.fd_network.specs.dss_circuit.Circuit.{CircuitView}
use Rattle.fd_network.specs.dss_circuit.WellFormed.{IsEntry}
use Rattle.fd_network.specs.dss_layout.Layout.{complex_count, ends_of, layout_of, size_of}
use Rattle.fd_network.specs.dss_ready.Ready.{HasPassed}
use Rattle.fd_sample.specs.declared.probe.CapProbe.{CapProbe}
use Rattle.fd_sample.specs.declared.probe.RegProbe.{RegProbe}
use Rattle.fd_sample.specs.Banks.{IsCapProbe}
use Rattle.fd_sample.specs.Circuits.{IsCapControlIn, IsCapProbeIn, IsRegControlIn, IsRegProbeIn, banks_before, transformers_before}
use Rattle.fd_sample.specs.Regulators.{AreRegSettings, IsRegProbe}
use Rattle.fd_sample.specs.Scripted.{reg_probe, step_of, winding_of}
use Rattle.fd_sample.proofs.Named.{found_at}
use Rattle.fd_sample.proofs.Signed.{size_between, size_within}
use Rattle.fd_sample.proofs.Sites.{cap_places, reg_places}
use Rattle.fd_sample.proofs.Standing.{entry_of, line_at, xfmr_in}

-- ---- settings

step_least : (w : Winding) → WindingInRange w → w.mintap + w.numtaps ≤ w.maxtap → 1 ≤ step_of w
step_least w h step = (le-div_iff_mul-le (omega (arith, h.numtaps.least))).1 (omega (arith, step))

step_most : (w : Winding) → WindingInRange w → step_of w ≤ 200000
step_most w h = omega (arith, div-le_self (w.maxtap - w.mintap) w.numtaps, h.maxtap.most)

step_within : (t : Bool) (xfmr : Transformer) → TransformerInRange xfmr
    → xfmr.first.mintap + xfmr.first.numtaps ≤ xfmr.first.maxtap →
    xfmr.second.mintap + xfmr.second.numtaps ≤ xfmr.second.maxtap → (1 ≤ step_of (winding_of t xfmr)) × (step_of (winding_of t xfmr) ≤ 200000)
step_within true xfmr h first second = (step_least xfmr.second h.second second, step_most xfmr.second h.second)
step_within false xfmr h first second = (step_least xfmr.first h.first first, step_most xfmr.first h.first)

reg_settings : (control : RegControl) (t : Transformer) (at : Ends) (number : ℕ) → RegControlInRange control
    → TransformerInRange t →
    t.first.mintap + t.first.numtaps ≤ t.first.maxtap → t.second.mintap + t.second.numtaps ≤ t.second.maxtap →
    AreRegSettings (reg_probe control t at number)
reg_settings control t at number own range first second =
    let volts1 = phase_volts_between t.phases (conn_of t.first.conn) t.first.kv range.first.kv in
    let volts2 = phase_volts_between t.phases (conn_of t.second.conn) t.second.kv range.second.kv in
    let step = step_within (control.winding == 2) t range first second in
    let vreg = size_between (1 * 1_000_000_000) (1_000_000 * 1_000_000_000) control.vreg own.vreg in
    let band = size_between 1_000_000 (1000 * 1_000_000_000) control.band own.band in
    let ptratio = size_between 1_000_000 (1_000_000 * 1_000_000_000) control.ptratio own.ptratio in
    let ctprim = size_between 1_000_000 (1_000_000 * 1_000_000_000) control.ctprim own.ctprim in
    record {
      first_volts_least = omega (arith, ints, volts1.least);
      first_volts_most = omega (arith, ints, volts1.least, volts1.most);
      second_volts_most = omega (arith, ints, volts2.least, volts2.most);
      tap_step_least = step.0;
      tap_step_most = step.1;
      vreg = vreg.1;
      band = band.1;
      ptratio_least = ptratio.0;
      ptratio_most = ptratio.1;
      ctprim_least = ctprim.0;
      ctprim_most = ctprim.1;
      r = size_within (1000 * 1_000_000_000) control.r own.r;
      x = size_within (1000 * 1_000_000_000) control.x own.x;
      most = own.maxtapchange.most;
    }

-- ---- places

module _ (circuit : CircuitView) (h : HasPassed circuit) (range : All (λ e. ElementInRange e.1) circuit.elements)
    (keys : All IsEntry circuit.elements) where
  pub reg_fit : (control : RegControl) (p : RegProbe) → IsRegControlIn circuit.elements control
      → IsRegProbeIn circuit.elements control p →
      IsRegProbe (size_of (layout_of circuit.elements)) p
  reg_fit control p c r =
      let es = circuit.elements in
      let layout = layout_of es in
      let t = r.transformer in
      let at = ends_of layout r.place (the.Transformer t) in
      let number = transformers_before es r.place in
      let entry = entry_of (slice_get es r.place) (the.Transformer t) r.there in
      let xfmr = xfmr_in circuit h range control c r.place entry.name t entry.is (found_at es class.Transformer control.transformer r.place keys r.found) in
      let settings = reg_settings control t at number c.in_range xfmr.in_range xfmr.first_step xfmr.second_step in
      reg_places control t at number (complex_count layout) (size_of layout) p r.probe (subst AreRegSettings (sym r.probe) settings) xfmr.phase xfmr.stands

  pub cap_fit : (control : CapControl) (p : CapProbe) → IsCapControlIn circuit.elements control
      → IsCapProbeIn circuit.elements control p →
      IsCapProbe (size_of (layout_of circuit.elements)) p
  cap_fit control p c r =
      let es = circuit.elements in
      let layout = layout_of es in
      let at = ends_of layout r.place (the.Line r.line) in
      let entry = entry_of (slice_get es r.place) (the.Line r.line) r.there in
      let line = line_at circuit h range control c r.place entry.name r.line entry.is (found_at es class.Line control.element r.place keys r.found) in
      cap_places control r.line at (banks_before es r.bank) (complex_count layout) (size_of layout) p r.probe
      c.in_range line.in_range.phases.most line.current_phase line.stands
