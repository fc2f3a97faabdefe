use Rattle.std.proofs.Common.{rules, ◌≡◌, ◌∙◌, ◌^◌, to_z, of_z, ap, lit<}
use Rattle.std.specs.Int.{w128}
use Rattle.dss_model.specs.fd_exact.ReadBack.{read_back}
use Rattle.fd_elements.specs.Loads.{current_shares, impedance_shares, nominal_of, power_shares}
use Rattle.fd_elements.specs.Volts.{part_of}
use Rattle.fd_elements.proofs.loads.zip_phase.Goals as goal

pub returns-clause-phase : goal.returns-clause-phase
returns-clause-phase c =
    let load = c.args.load.now in
    let p = read_back c.args.power.now.p (10 ^ 17) c.requires.p (lit< tt) in
    let q = read_back c.args.power.now.q (10 ^ 17) c.requires.q (lit< tt) in
    let shares = c.shares_of-shares.ensures.value in
    let vn : to_z w128 (of_z w128 c.phase_volts-vn.result) ≡ nominal_of load = search rules in
    let vlo : to_z w128 (of_z w128 c.low.result) ≡ part_of load.vminpu (nominal_of load) = search rules in
    let vhi : to_z w128 (of_z w128 c.high.result) ≡ part_of load.vmaxpu (nominal_of load) = search rules in
    λ i. record {
      p = p i;
      q = q i;
      impedance = (c.impedance_shares.ensures.value ∙ ap impedance_shares shares) i;
      current = (c.current_shares.ensures.value ∙ ap current_shares shares) i;
      power = (c.power_shares.ensures.value ∙ ap power_shares shares) i;
      vn = vn i;
      vlo = vlo i;
      vhi = vhi i;
    }

pub returns-clause-fit : goal.returns-clause-fit
returns-clause-fit c = record {
  p = search rules;
  q = search rules;
  impedance = c.impedance_shares.ensures.small;
  current = c.current_shares.ensures.small;
  power = c.power_shares.ensures.small;
  voltages = λ model shares. search rules;
}
