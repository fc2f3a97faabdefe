-- In controlmode time the hour of a circuit is that of the clock.
use Rattle.std.proofs.Common.{◌≡◌, ℕ, List, Result, ap, map, subst}
use Rattle.fd_daily.specs.fd_settings.dss_model.declared.words.ControlMode.{ControlMode}
use Rattle.fd_daily.specs.fd_settings.dss_circuit.Circuit.{CircuitView}
use Rattle.fd_daily.specs.fd_settings.fd_elements.declared.powers.LoadPower.{LoadPower}
use Rattle.fd_daily.specs.fd_settings.Hours.{hour_powers}
use Rattle.fd_daily.specs.fd_pattern.Views.{NetworkView}
use Rattle.fd_daily.specs.fd_enclosure.Sound.{Claim}
use Rattle.fd_daily.specs.fd_queue.Machine.{Machine, hour_begun, rule_of}
use Rattle.fd_daily.specs.fd_sample.Circuits.{probes_of}
use Rattle.fd_daily.specs.fd_sample.Probes.{control_of}
use Rattle.fd_daily.specs.fd_settle.Contract.{CallsAs, EndsAs}
use Rattle.fd_daily.specs.fd_settle.Plant.{Plant, blame_at, network_at, taking_part, timing_of}
use Rattle.fd_daily.specs.fd_settle.Rounds.{AtEach, acts_in, claims_in, settled}
use Rattle.fd_daily.specs.fd_settle.Sampling.{look_over}
use Rattle.fd_daily.specs.fd_settle.Start.{IsSoundAt}
use Rattle.fd_daily.specs.fd_settle.declared.fault.SettleFault.{SettleFault}
use Rattle.fd_daily.specs.fd_settle.declared.round.Round.{Round}
use Rattle.fd_daily.specs.Day.{DayView, begun_hour, hour_in}
use Rattle.fd_daily.specs.Hours.{hours_of, time_of}
use Rattle.fd_daily.specs.Run.{day_of}
use Rattle.fd_daily.specs.Underway.{plant_at}
use Rattle.fd_timeq.specs.Timed.{IsInTimeMode, carried, timed, timed_plant}

module _ (c : CircuitView) (e : IsInTimeMode c) where
  pub plant_there : (hour : ℕ) → plant_at c hour ≡ timed_plant c hour
  plant_there hour = ap (λ (mode : ControlMode). record {
    setup = record {
      rule = rule_of (timing_of mode);
      controls = map control_of (taking_part mode (probes_of c.elements));
      limit = c.options.maxcontroliter;
    };
    look = look_over (taking_part mode (probes_of c.elements));
    network = network_at c (hour_powers c.elements hour);
    blame = blame_at c (hour_powers c.elements hour);
  }) e

  pub begun_there : (d : DayView) (m : Machine) → begun_hour c d m ≡ carried (hour_in d) m
  begun_there d m = ap (λ (mode : ControlMode). hour_begun (timing_of mode) (time_of (hour_in d)) m) e

  pub day_there : {C : Type 0} (at_hour : ℕ → C) → day_of at_hour c ≡ map (timed at_hour c) (hours_of c.options)
  day_there {C} at_hour = ap (λ (mode : ControlMode). map (λ (hour : ℕ). record {
    circuit = at_hour hour;
    setup = record {
      rule = rule_of (timing_of mode);
      controls = map control_of (taking_part mode (probes_of c.elements));
      limit = c.options.maxcontroliter;
    };
    start = hour_begun (timing_of mode) (time_of hour);
  }) (hours_of c.options)) e

-- these rounds are those of a settle from a machine on, which leaves another
pub record IsSettled {V T F : Type 0} (gives : V → NetworkView → Result Claim F → V → Type 0) (c : CircuitView)
    (loads : List LoadPower) (p : Plant) (v w : V) (m n : Machine) (rounds : List Round) (result : Result T (SettleFault F)) : Type 0 where
  pub acts : acts_in rounds ≡ (settled p m rounds).rounds
  pub machine : n ≡ (settled p m rounds).machine
  pub ends : EndsAs p result (settled p m rounds).end (settled p m rounds).machine
  pub calls : CallsAs gives p v m rounds result w
  pub sound : AtEach (IsSoundAt c loads) p m (claims_in rounds)

pub settled_there : {V T F : Type 0} (gives : V → NetworkView → Result Claim F → V → Type 0) (c : CircuitView)
    (loads : List LoadPower) (p q : Plant) (v w : V) (m k n : Machine) (rounds : List Round)
    (result : Result T (SettleFault F)) → p ≡ q → m ≡ k → IsSettled gives c loads p v w m n rounds result
    → IsSettled gives c loads q v w k n rounds result
settled_there gives c loads p q v w m k n rounds result plant machine h =
    subst (λ (x : Plant). IsSettled gives c loads x v w k n rounds result) plant
    (subst (λ (x : Machine). IsSettled gives c loads p v w x n rounds result) machine h)
