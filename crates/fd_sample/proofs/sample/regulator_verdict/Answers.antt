use Rattle.std.proofs.Common.{ℕ, ◌∙◌, sym, subst}
use Rattle.fd_regctl.specs.fd_arith.Interval.{Bounds}
use Rattle.fd_sample.specs.Regulators.{wanted_at, edge_at, own_tap}
use Rattle.fd_sample.specs.Samples.{IsRootSample, TellsEdge, least_root, greatest_root}
use Rattle.fd_sample.proofs.Regulators.{reg_of_all}
use Rattle.fd_sample.proofs.sample.regulator_verdict.Goals as goal

pub returns : goal.returns
returns c =
    let p = c.args.probe.now in
    let t = c.args.taps in
    let sample = subst (λ (s : Bounds). IsRootSample (wanted_at p (own_tap p t)) (edge_at p (own_tap p t)) s c.over.result) c.squares.ensures
    (subst (λ (n : ℕ). IsRootSample (wanted_at p n) (edge_at p n) c.squares.result c.over.result) c.own_tap-tap.ensures c.over.ensures.sample) in
    record {
      sample = sample;
      edge =
          subst (λ (s : Bounds). TellsEdge (wanted_at p (own_tap p t)) (least_root s) (greatest_root s) c.over.result)
          c.squares.ensures
          (subst (λ (n : ℕ).
          TellsEdge (wanted_at p n) (least_root c.squares.result) (greatest_root c.squares.result) c.over.result)
          c.own_tap-tap.ensures c.over.ensures.edge);
      every_state = λ x d b e. reg_of_all p t c.args.centre.now c.args.radii.now x d c.requires.probe c.requires.taps b (sym sample.decides ∙ e);
    }
