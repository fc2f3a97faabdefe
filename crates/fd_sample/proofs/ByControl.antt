-- The sample of a control by what it controls.
use Rattle.std.proofs.Common.{ℕ, ℤ, Bool, List}
use Rattle.std.specs.Prelude.{IsSome}
use Rattle.fd_regctl.specs.fd_arith.declared.terms.TapPair.{TapPair}
use Rattle.fd_regctl.specs.fd_queue.Controls.{Positions, pair_at, is_closed}
use Rattle.fd_regctl.specs.fd_queue.declared.verdict.Verdict.{Verdict}
use Rattle.fd_sample.specs.declared.probe.CapProbe.{CapProbe}
use Rattle.fd_sample.specs.declared.probe.RegProbe.{RegProbe}
use Rattle.fd_sample.specs.declared.probe.Probe.{Probe}
use Rattle.fd_sample.specs.declared.probe.Probe.TheVariants as probe
use Rattle.fd_sample.specs.Regulators.{IsOfEveryState, reg_decision, reg_edge, reg_interval}
use Rattle.fd_sample.specs.Banks.{AgreesAtEveryState, IsCapSample, cap_decision, cap_edge, cap_interval, greatest_of, kind_of, least_of}
use Rattle.fd_sample.specs.Samples.{IsRootSample, TellsEdge, greatest_root, least_root}
use Rattle.fd_sample.specs.Probes.{IsOfEachState, IsSampleOf, TellsChange, interval_over, switch_of}

pub record IsRegSample (p : RegProbe) (t : TapPair) (c : List ℤ) (r : List ℕ) (v : Verdict) : Type 0 where
  pub sample : IsRootSample (reg_decision p t) (reg_edge p t) (reg_interval p t c r) v
  pub edge : TellsEdge (reg_decision p t) (least_root (reg_interval p t c r)) (greatest_root (reg_interval p t c r)) v
  pub every_state : IsOfEveryState p t c r v

pub record IsBankSample (p : CapProbe) (closed : Bool) (c : List ℤ) (r : List ℕ) (v : Verdict) : Type 0 where
  pub sample : IsCapSample (kind_of p.measured) (cap_decision p closed) (cap_edge p closed) (cap_interval p.measured c r) v
  pub edge : IsSome (cap_interval p.measured c r)
      → TellsEdge (cap_decision p closed) (least_of (kind_of p.measured) (cap_interval p.measured c r))
      (greatest_of (kind_of p.measured) (cap_interval p.measured c r)) v
  pub every_state : AgreesAtEveryState p closed c r v

pub record IsSampledAt (at : Positions) (c : List ℤ) (r : List ℕ) (v : Verdict) (p : Probe) : Type 0 where
  pub sample : IsSampleOf p at (interval_over p at c r) v
  pub edge : TellsChange p at (interval_over p at c r) v
  pub each : IsOfEachState p at c r v

pub of_regulator : (at : Positions) (c : List ℤ) (r : List ℕ) (v : Verdict) (p : RegProbe)
    → IsRegSample p (pair_at at p.transformer) c r v →
    IsSampledAt at c r v (probe.Regulator p)
of_regulator at c r v p h = record { sample = h.sample; edge = h.edge; each = h.every_state }

pub of_bank : (at : Positions) (c : List ℤ) (r : List ℕ) (v : Verdict) (p : CapProbe)
    → IsBankSample p (is_closed at (switch_of p)) c r v →
    IsSampledAt at c r v (probe.Bank p)
of_bank at c r v p h = record { sample = h.sample; edge = h.edge; each = h.every_state }
