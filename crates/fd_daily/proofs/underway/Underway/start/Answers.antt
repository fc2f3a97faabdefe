use Rattle.std.proofs.Common.{◌≡◌, ◌∙◌, ℕ, List, ◌∷◌, Option, Some, None, Err, ap, arith, length, refl, rules, sym, subst}
use Rattle.std.proofs.lemmas.List.{length-replicate}
use Rattle.std.specs.Prelude.{All, IsSome}
use Rattle.std.specs.Option.{unwrap_or}
use Rattle.fd_settings.specs.Hours.{hour_powers}
use Rattle.fd_settings.specs.fd_devices.Settings.{bank_count}
use Rattle.fd_settle.specs.fd_exact.Sums.{list_n}
use Rattle.fd_settle.specs.fd_capctl.CapState.{IsEarly}
use Rattle.fd_settle.specs.fd_queue.Machine.{Machine}
use Rattle.fd_settle.specs.fd_sample.Probes.{positions_in}
use Rattle.fd_settle.specs.Controls.{machine_of}
use Rattle.fd_settle.specs.Plant.{started}
use Rattle.fd_settle.specs.Start.{ArePositions, IsClock}
use Rattle.fd_settle.proofs.CallerLemmas.{none_early}
use Rattle.fd_settings.specs.fd_devices.declared.fault.BuildFault.TheVariants as build_fault
use Rattle.fd_daily.specs.Day.{before_first}
use Rattle.fd_daily.specs.Hours.{hours_of}
use Rattle.fd_daily.specs.Underway.{start_from}
use Rattle.fd_daily.proofs.CallerLemmas.{hours_behind, next_first}
use Rattle.fd_daily.proofs.Settles.{first_clock}
use Rattle.fd_daily.proofs.Starting.{first_settings, first_taps, network_there, refused_at, start_is}
use Rattle.fd_daily.proofs.underway.Underway.start.Goals.{In_ok-controls}
use Rattle.fd_daily.proofs.underway.Underway.start.Goals as goal

pub build-requires-clause-settings : goal.build-requires-clause-settings
build-requires-clause-settings g c =
    first_settings c.args.circuit.now (positions_in c.args.at.now) c.in_ok-start.start c.in_ok-start.ensures.taps c.in_ok-start.ensures.closed
    c.next_law.ensures c.hours_law.ensures c.in_ok-powers.powers c.unwrap-hour.result c.in_ok-powers.ensures.powers

pub build-requires-clause-within : goal.build-requires-clause-within
build-requires-clause-within g c =
    first_taps c.args.circuit.now (positions_in c.args.at.now) c.in_ok-start.start c.in_ok-start.ensures.taps c.in_ok-start.ensures.closed
    c.next_law.ensures c.elements-elements.ensures.in_range c.requires.taps

pub start-requires-clause-clock : goal.start-requires-clause-clock
start-requires-clause-clock g c =
    first_clock c.args.circuit.now (record { now = 0; opened = c.in_ok-opened.opened }) refl c.in_ok-opened.ensures

positions : (g : _) (c : In_ok-controls g) → ArePositions c.args.circuit.now c.in_ok-powers.powers.loads (positions_in c.in_ok-start.start)
positions g c =
    let circuit = c.args.circuit.now in
    let before = positions_in c.args.at.now in
    let taps = c.in_ok-start.ensures.taps in
    let closed = c.in_ok-start.ensures.closed in
    record {
      counts = first_settings circuit before c.in_ok-start.start taps closed c.next_law.ensures c.hours_law.ensures
          c.in_ok-powers.powers c.unwrap-hour.result c.in_ok-powers.ensures.powers;
      taps = first_taps circuit before c.in_ok-start.start taps closed c.next_law.ensures c.elements-elements.ensures.in_range c.requires.taps;
    }

machine : (g : _) (c : In_ok-controls g) → machine_of c.in_ok-start.start (record { now = 0; opened = c.in_ok-opened.opened }) c.in_ok-controls.controls
    ≡ before_first c.args.circuit.now (positions_in c.in_ok-start.start)
machine g c =
    c.in_ok-controls.ensures.machine c.in_ok-start.start
    ∙ ap (λ (o : List (Option ℕ)). started c.args.circuit.now (positions_in c.in_ok-start.start) 0 o) c.in_ok-opened.ensures

pub returns-clause-start : goal.returns-clause-start
returns-clause-start g c =
    start_is c.args.circuit.now (positions_in c.args.at.now) c.in_ok-start.start c.in_ok-start.ensures.taps c.in_ok-start.ensures.closed

pub returns-clause-machine : goal.returns-clause-machine
returns-clause-machine g c = machine g (goal.at.returns-clause-machine g c).In_ok-controls

pub returns-clause-underway : goal.returns-clause-underway
returns-clause-underway g c =
    let d = (goal.at.returns-clause-underway g c).In_ok-controls in
    let circuit = c.args.circuit.now in
    let loads = c.in_ok-powers.ensures.powers in
    let some : c.start-day.result.hour ≡ Some c.unwrap-hour.result = sym c.next_hour.ensures ∙ c.unwrap-hour.ensures in
    let none = ap (λ (m : Machine). m.next) (machine g d) in
    record {
      positions = positions g d;
      powers = loads ∙ ap (λ (o : Option ℕ). hour_powers circuit.elements (unwrap_or o 0)) (sym some);
      modest = c.in_ok-powers.ensures.modest;
      loads = c.in_ok-loads.ensures;
      probes = c.in_ok-probes.ensures.probes;
      day = c.start-day.ensures.day;
      hour = subst IsSome (sym some) refl;
      network = network_there circuit c.in_ok-start.start c.in_ok-powers.powers c.in-Ok.net c.in-Ok.ensures.built
          c.in-Ok.ensures.network c.in-Ok.ensures.no_blame c.in-Ok.ensures.agrees;
      work = c.in_ok-controls.ensures.work c.in_ok-start.start c.in_ok-powers.powers.loads (positions g d);
      numbers = omega (arith, none);
    }

pub returns-in-Err-clause-refused : goal.returns-in-Err-clause-refused
returns-in-Err-clause-refused g c =
    let circuit = c.args.circuit.now in
    let before = positions_in c.args.at.now in
    let day = c.start-day.result in
    let hour = c.unwrap-hour.result in
    let some : day.hour ≡ Some hour = sym c.next_hour.ensures ∙ c.unwrap-hour.ensures in
    let first : hours_of circuit.options ≡ hour ∷ hours_behind day =
    sym c.start-day.ensures.left ∙ next_first day c.start-day.ensures.day (subst IsSome (sym some) refl)
    ∙ ap (λ (o : Option ℕ). unwrap_or o 0 ∷ hours_behind day) some in
    refused_at circuit c.in_ok-start.start c.in_ok-powers.powers hour (hours_behind day) (hours_of circuit.options) (start_from circuit before)
    (start_is circuit before c.in_ok-start.start c.in_ok-start.ensures.taps c.in_ok-start.ensures.closed) first c.in_ok-powers.ensures.powers
    c.in-Err.fault c.in-Err.ensures.fault

pub returns-in_err-opened-clause-refused : goal.returns-in_err-opened-clause-refused
returns-in_err-opened-clause-refused g c =
    let memory : c.from_residual-in_err-opened.result ≡ Err build_fault.NoMemory = search (rules, c.from_residual-in_err-opened.ensures) in
    rw memory tt

pub returns-in_err-controls-clause-refused : goal.returns-in_err-controls-clause-refused
returns-in_err-controls-clause-refused g c =
    let memory : c.from_residual-in_err-controls.result ≡ Err build_fault.NoMemory = search (rules, c.from_residual-in_err-controls.ensures) in
    rw memory tt
