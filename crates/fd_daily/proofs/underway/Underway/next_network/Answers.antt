use Rattle.std.proofs.Common.{◌∙◌, ◌∷◌, ap, refl, sym}
use Rattle.fd_settings.specs.Hours.{hour_powers}
use Rattle.fd_settle.specs.fd_sample.Probes.{positions_in}
use Rattle.fd_daily.specs.Day.{hours_left}
use Rattle.fd_daily.proofs.CallerLemmas.{hours_behind, next_first}
use Rattle.fd_daily.proofs.Starting.{network_there, other_settings, refused_at}
use Rattle.fd_daily.proofs.underway.Underway.next_network.Goals as goal

pub update-requires-clause-settings : goal.update-requires-clause-settings
update-requires-clause-settings g c =
    other_settings c.args.circuit.now c.args.at.now c.args.self.now.powers.loads c.in_ok-powers.powers c.hour-hour.result c.in_ok-powers.ensures.powers
    c.hours_law.ensures c.requires.after_hour.positions

pub returns-in-Ok-clause-underway : goal.returns-in-Ok-clause-underway
returns-in-Ok-clause-underway g c =
    let circuit = c.args.circuit.now in
    let loads = c.in_ok-powers.ensures.powers in
    record {
      positions = record {
        counts = other_settings circuit c.args.at.now c.args.self.now.powers.loads c.in_ok-powers.powers
            c.hour-hour.result loads c.hours_law.ensures c.requires.after_hour.positions;
        taps = c.requires.after_hour.positions.taps;
      };
      powers = loads ∙ ap (hour_powers circuit.elements) c.hour-hour.ensures;
      modest = c.in_ok-powers.ensures.modest;
      loads = c.requires.after_hour.loads;
      probes = c.requires.after_hour.probes;
      day = c.requires.after_hour.day;
      hour = c.requires.hour;
      network = network_there circuit c.args.at.now c.in_ok-powers.powers c.update.new.self c.in-Ok.ensures.built
          c.in-Ok.ensures.network c.in-Ok.ensures.no_blame c.in-Ok.ensures.agrees;
      work = c.requires.after_hour.work;
      numbers = c.requires.numbers;
    }

pub returns-in-Err-clause-refused : goal.returns-in-Err-clause-refused
returns-in-Err-clause-refused g c =
    let circuit = c.args.circuit.now in
    let day = c.args.self.now.day in
    refused_at circuit c.args.at.now c.in_ok-powers.powers c.hour-hour.result (hours_behind day) (hours_left day) (positions_in c.args.at.now) refl
    (next_first day c.requires.after_hour.day c.requires.hour ∙ ap (λ k. k ∷ hours_behind day) (sym c.hour-hour.ensures)) c.in_ok-powers.ensures.powers
    c.in-Err.fault c.in-Err.ensures.fault
