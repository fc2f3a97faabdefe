-- What a settle says of the hour that it settles.
use Rattle.std.proofs.Common.{◌≡◌, ◌∙◌, ℕ, List, [], None, Result, ap, arith, length, subst, sym}
use Rattle.std.specs.Prelude.{All}
use Rattle.std.proofs.lemmas.List.{length-replicate}
use Rattle.fd_settings.specs.dss_circuit.Circuit.{CircuitView}
use Rattle.fd_settings.specs.fd_elements.declared.powers.LoadPower.{LoadPower}
use Rattle.fd_settings.specs.fd_pattern.Views.{NetworkView}
use Rattle.fd_settle.specs.fd_enclosure.Sound.{Claim}
use Rattle.fd_settings.specs.fd_devices.Settings.{bank_count}
use Rattle.fd_settle.specs.fd_exact.Sums.{list_n}
use Rattle.fd_settle.specs.fd_capctl.CapState.{IsEarly}
use Rattle.fd_settle.specs.fd_queue.Machine.{Machine, hour_begun}
use Rattle.fd_settle.specs.fd_queue.declared.timing.Timing.{Timing}
use Rattle.fd_settings.specs.Hours.{hour_powers}
use Rattle.fd_settle.specs.Contract.{HasSettled, IsSettled}
use Rattle.fd_settle.specs.Plant.{timing_of}
use Rattle.fd_settle.specs.Start.{IsClock}
use Rattle.fd_settle.specs.declared.clock.Clock.{Clock}
use Rattle.fd_settle.specs.declared.fault.SettleFault.{SettleFault}
use Rattle.fd_settle.specs.declared.round.Round.{Round}
use Rattle.fd_settle.proofs.CallerLemmas.{none_early}
use Rattle.fd_daily.specs.Day.{DayView, begun_hour, hour_in, no_openings}
use Rattle.fd_daily.specs.Hours.{time_of}
use Rattle.fd_daily.specs.Underway.{HasSettledHour}

-- the same machine and powers by other names, with a journal that held no round before
pub settled_there : {V T F K : Type 0} (gives : V → NetworkView → Result Claim F → V → Type 0) (holds : K → List Round → Type 0)
    (c : CircuitView) (d : DayView) (loads : List LoadPower) (v w : V) (m before n : Machine) (old new : K)
    (result : Result T (SettleFault F))
    → loads ≡ hour_powers c.elements (hour_in d) → m ≡ begun_hour c d before → holds old []
    → HasSettled gives holds c loads v w m n old new result
    → HasSettledHour gives holds c d v w before n new result
settled_there gives holds c d loads v w m before n old new result powers machine none h = record {
  made = h.made;
  held = h.kept [] none;
  settled = subst (λ (x : Machine). IsSettled gives c (hour_powers c.elements (hour_in d)) v w x n result h.made) machine
      (subst (λ (x : List LoadPower). IsSettled gives c x v w m n result h.made) powers h.settled);
}

-- the machine with which the next hour begins
pub begun_there : (c : CircuitView) (d : DayView) (before m : Machine) (t : Timing) (now hour : ℕ)
    → m ≡ hour_begun t now before → t ≡ timing_of c.options.controlmode → now ≡ time_of hour → hour ≡ hour_in d
    → m ≡ begun_hour c d before
begun_there c d before m t now hour machine timing time is =
    machine
    ∙ ap (λ (x : Timing). hour_begun x now before) timing
    ∙ ap (λ (k : ℕ). hour_begun (timing_of c.options.controlmode) k before) (time ∙ ap time_of is)

-- the clock before the first hour of a Solve
pub first_clock : (c : CircuitView) (clock : Clock) → clock.now ≡ 0 → clock.opened.items ≡ no_openings c → IsClock c clock
first_clock c clock now opened =
    let count = list_n (λ e. bank_count e.1) c.elements in
    record {
      now = omega (arith, now);
      each = ap length opened ∙ length-replicate count None;
      early = subst (All IsEarly) (sym opened) (none_early count);
    }
