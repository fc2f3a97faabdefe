use Rattle.std.proofs.Common.{◌≡◌, ◌≤◌, ◌∙◌, ap, sym, subst, ℕ, ◌+◌, ◌*◌, ◌^◌, ℤ, pos, neg_ℤ, ◌≤ℤ◌, nat_eq, cond, to_z, of_z, arith}
use Rattle.std.specs.Int.{w32}
use Rattle.std.specs.Prelude.{nat_abs}
use Rattle.std.proofs.lemmas.Int.{ints}
use Rattle.fd_network.specs.fd_xfmr.declared.data.XfmrData.{XfmrData}
use Rattle.fd_network.specs.fd_xfmr.declared.terms.PhaseAt.{PhaseAt}
use Rattle.fd_network.specs.fd_xfmr.Transformer.{phase_at}
use Rattle.fd_network.specs.fd_xfmr.Windings.{first_volts, second_volts}
use Rattle.fd_network.specs.fd_devices.Data.{xfmr_data_of}
use Rattle.fd_sample.specs.Scripted.{phase_index, step_of}
use Rattle.fd_sample.proofs.Signed.{back, back_narrow, size_between, size_within}
use Rattle.fd_sample.proofs.Sites.{reg_places}
use Rattle.fd_sample.proofs.scripted.regulator_probe.Goals as goal

pub phase_at-requires-clause-k_in : goal.phase_at-requires-clause-k_in
phase_at-requires-clause-k_in c =
    let p = c.args.control.now.ptphase in
    let same : to_z w32 (of_z w32 p) ≡ p =
    back_narrow (neg_ℤ (pos 1_000_000_000)) (pos 1_000_000_000) p c.requires.control.ptphase (omega (arith, ints))
    (omega (arith, ints)) in
    let count : c.xfmr_data-data.result.phases ≡ c.args.xfmr.now.phases = ap (λ (d : XfmrData). d.phases) c.xfmr_data-data.ensures.value in
    let most : p ≤ℤ pos c.args.xfmr.now.phases = c.requires.phase.most in
    c.phase_index-k.ensures.below c.xfmr_data-data.result.phases (rw (same, count) most)

pub returns-clause-probe : goal.returns-clause-probe
returns-clause-probe c =
    let s = c.args.control.now in
    let t = nat_eq s.winding 2 in
    let same : to_z w32 (of_z w32 s.ptphase) ≡ s.ptphase =
    back_narrow (neg_ℤ (pos 1_000_000_000)) (pos 1_000_000_000) s.ptphase c.requires.control.ptphase
    (omega (arith, ints)) (omega (arith, ints)) in
    let k : c.phase_index-k.result ≡ phase_index s.ptphase = c.phase_index-k.ensures.value ∙ ap phase_index same in
    let d = c.xfmr_data-data.ensures.value in
    let place : c.phase_at.result ≡ phase_at (xfmr_data_of c.args.xfmr.now) c.args.at.now (phase_index s.ptphase) =
    c.phase_at.ensures.place ∙ (λ i. phase_at (d i) c.args.at.now (k i)) in
    let nodes = c.own_nodes.ensures ∙ ap (λ (p : PhaseAt). cond t p.winding2 p.winding1) place in
    let first = c.first_volts.ensures.value ∙ ap (λ (e : XfmrData). nat_abs (first_volts e)) d in
    let second = c.second_volts.ensures.value ∙ ap (λ (e : XfmrData). nat_abs (second_volts e)) d in
    let w = c.own_winding-winding.ensures.winding in
    let step = c.tap_step.ensures.value ∙ ap step_of w in
    let vreg = c.natural.ensures
    ∙ ap nat_abs (back (pos (1 * 1_000_000_000)) (pos (1_000_000 * 1_000_000_000)) s.vreg c.requires.control.vreg
    (omega (arith, ints)) (omega (arith, ints))) in
    let band = c.natural-2.ensures
    ∙ ap nat_abs (back (pos 1_000_000) (pos (1000 * 1_000_000_000)) s.band c.requires.control.band
    (omega (arith, ints)) (omega (arith, ints))) in
    let ptratio = c.natural-3.ensures
    ∙ ap nat_abs (back (pos 1_000_000) (pos (1_000_000 * 1_000_000_000)) s.ptratio c.requires.control.ptratio
    (omega (arith, ints)) (omega (arith, ints))) in
    let ctprim = c.natural-4.ensures
    ∙ ap nat_abs (back (pos 1_000_000) (pos (1_000_000 * 1_000_000_000)) s.ctprim c.requires.control.ctprim
    (omega (arith, ints)) (omega (arith, ints))) in
    let r = back (neg_ℤ (pos (1000 * 1_000_000_000))) (pos (1000 * 1_000_000_000)) s.r c.requires.control.r (omega (arith, ints)) (omega (arith, ints)) in
    let x = back (neg_ℤ (pos (1000 * 1_000_000_000))) (pos (1000 * 1_000_000_000)) s.x c.requires.control.x (omega (arith, ints)) (omega (arith, ints)) in
    λ i. record {
      transformer = c.args.transformer;
      is_second = t;
      nodes = nodes i;
      branch = c.args.at.now.branch + k i;
      first_volts = first i;
      second_volts = second i;
      tap_step = step i;
      min_tap = (w i).mintap;
      max_tap = (w i).maxtap;
      vreg = vreg i;
      band = band i;
      ptratio = ptratio i;
      ctprim = ctprim i;
      r = r i;
      x = x i;
      maxtapchange = s.maxtapchange;
      delay = s.delay;
      tapdelay = s.tapdelay;
    }

pub returns-clause-settings : goal.returns-clause-settings
returns-clause-settings c =
    let s = c.args.control.now in
    let vreg = c.natural.ensures
    ∙ ap nat_abs (back (pos (1 * 1_000_000_000)) (pos (1_000_000 * 1_000_000_000)) s.vreg c.requires.control.vreg
    (omega (arith, ints)) (omega (arith, ints))) in
    let band = c.natural-2.ensures
    ∙ ap nat_abs (back (pos 1_000_000) (pos (1000 * 1_000_000_000)) s.band c.requires.control.band
    (omega (arith, ints)) (omega (arith, ints))) in
    let ptratio = c.natural-3.ensures
    ∙ ap nat_abs (back (pos 1_000_000) (pos (1_000_000 * 1_000_000_000)) s.ptratio c.requires.control.ptratio
    (omega (arith, ints)) (omega (arith, ints))) in
    let ctprim = c.natural-4.ensures
    ∙ ap nat_abs (back (pos 1_000_000) (pos (1_000_000 * 1_000_000_000)) s.ctprim c.requires.control.ctprim
    (omega (arith, ints)) (omega (arith, ints))) in
    let r = back (neg_ℤ (pos (1000 * 1_000_000_000))) (pos (1000 * 1_000_000_000)) s.r c.requires.control.r (omega (arith, ints)) (omega (arith, ints)) in
    let x = back (neg_ℤ (pos (1000 * 1_000_000_000))) (pos (1000 * 1_000_000_000)) s.x c.requires.control.x (omega (arith, ints)) (omega (arith, ints)) in
    let vreg_in = size_between (1 * 1_000_000_000) (1_000_000 * 1_000_000_000) s.vreg c.requires.control.vreg in
    let band_in = size_between 1_000_000 (1000 * 1_000_000_000) s.band c.requires.control.band in
    let ptratio_in = size_between 1_000_000 (1_000_000 * 1_000_000_000) s.ptratio c.requires.control.ptratio in
    let ctprim_in = size_between 1_000_000 (1_000_000 * 1_000_000_000) s.ctprim c.requires.control.ctprim in
    let r_in : nat_abs s.r ≤ 10 ^ 12 = size_within (1000 * 1_000_000_000) s.r c.requires.control.r in
    let x_in : nat_abs s.x ≤ 10 ^ 12 = size_within (1000 * 1_000_000_000) s.x c.requires.control.x in
    record {
      first_volts_least = c.first_volts.ensures.least;
      first_volts_most = c.first_volts.ensures.most;
      second_volts_most = c.second_volts.ensures.most;
      tap_step_least = c.tap_step.ensures.least;
      tap_step_most = c.tap_step.ensures.most;
      vreg = subst (λ (n : ℕ). n ≤ 10 ^ 15) (sym vreg) vreg_in.1;
      band = subst (λ (n : ℕ). n ≤ 10 ^ 12) (sym band) band_in.1;
      ptratio_least = subst (λ (n : ℕ). 10 ^ 6 ≤ n) (sym ptratio) ptratio_in.0;
      ptratio_most = subst (λ (n : ℕ). n ≤ 10 ^ 15) (sym ptratio) ptratio_in.1;
      ctprim_least = subst (λ (n : ℕ). 10 ^ 6 ≤ n) (sym ctprim) ctprim_in.0;
      ctprim_most = subst (λ (n : ℕ). n ≤ 10 ^ 15) (sym ctprim) ctprim_in.1;
      r = subst (λ (z : ℤ). nat_abs z ≤ 10 ^ 12) (sym r) r_in;
      x = subst (λ (z : ℤ). nat_abs z ≤ 10 ^ 12) (sym x) x_in;
      most = c.requires.control.maxtapchange.most;
    }

pub returns-clause-places : goal.returns-clause-places
returns-clause-places c = λ n places h.
    reg_places c.args.control.now c.args.xfmr.now c.args.at.now c.args.transformer n places _ (returns-clause-probe c)
    (returns-clause-settings c) c.requires.phase h
