-- How the check of a Solve goes from hour to hour.
use Rattle.std.proofs.Common.{◌≡◌, ◌∙◌, ℕ, ◌+◌, List, [], ◌∷◌, Option, Result, Ok, Err, sym, ap, subst}
use Rattle.std.specs.Prelude.{IfErr, IsSome, OnOk}
use Rattle.dss_commands.specs.dss_circuit.Circuit.{CircuitView}
use Rattle.fd_daily.specs.fd_devices.declared.fault.BuildFault.{BuildFault}
use Rattle.fd_daily.specs.fd_devices.declared.fault.BuildFault.TheVariants as build_fault
use Rattle.fd_daily.specs.fd_devices.declared.settings.Positions.{Positions as CodePositions}
use Rattle.fd_daily.specs.fd_queue.Controls.{Positions}
use Rattle.fd_daily.specs.fd_queue.Machine.{Machine}
use Rattle.fd_daily.specs.fd_sample.Probes.{positions_in}
use Rattle.fd_daily.specs.Day.{DayView, IsDay, before_first, hour_in, hours_left, resumed}
use Rattle.fd_daily.specs.Hours.{hours_of}
use Rattle.fd_daily.specs.Underway.{IsRefusedAt, plant_at, start_from}
use Rattle.fd_daily.proofs.CallerLemmas.{begun_at, hours_behind, next_first}
use Rattle.fd_certfile.specs.Laws.{CertificateLaw}
use Rattle.fd_certfile.specs.Reader.{ReaderView}
use Rattle.fd_check.specs.Checking.{Checking, Settling, due_in, open_hours, open_solves, under_way}
use Rattle.fd_check.specs.Comes.{Comes, LeadsForAll, Tells, TellsForAll}
use Rattle.fd_check.specs.Faults.{by_network}
use Rattle.fd_check.specs.Hours.{behind_hour, hour_open, hours_open, solves_open}
use Rattle.fd_check.specs.declared.fault.CheckFault.{CheckFault}
use Rattle.fd_check.proofs.Commands.{tells_before}
use Rattle.fd_check.proofs.Told.{stopped_there}

-- ---- a result with whatever comes behind

pub each_ok : {T F X : Type 0} (result : Result T F) (P : X → Type 0) → ((x : X) → OnOk result (P x))
    → OnOk result ((x : X) → P x)
each_ok (Ok t) P h = h
each_ok (Err f) P h = tt

pub each_err : {T F X : Type 0} (result : Result T F) (P : X → F → Type 0) → ((x : X) → IfErr result (P x))
    → IfErr result (λ f. (x : X) → P x f)
each_err (Ok t) P h = tt
each_err (Err f) P h = h

-- ---- a network that is refused

-- before hours of which the first has a network that is refused
pub refused_first : CertificateLaw
    → (now : ReaderView) (c : CircuitView) (more : List CircuitView) (hours : List ℕ) (m : Machine)
    (n : ℕ) (behind : Positions → ℕ → Checking) (f : BuildFault)
    → IsRefusedAt c hours m.at f → Tells (by_network f) (Comes now (open_hours c more hours m n behind))
refused_first law now c more [] m n behind (build_fault.Range blame) h = absurd (cc h)
refused_first law now c more (hour ∷ hours) m n behind (build_fault.Range blame) h =
    let s : Settling = record {
      circuit = c;
      hour = hour;
      hours = hours;
      more = more;
      number = n + 1;
      round = 0;
      machine = resumed c hour m;
    } in
    stopped_there law now (under_way s) blame (ap (λ (at : Positions). due_in s ((plant_at c hour).blame at)) (begun_at c hour m) ∙ ap (due_in s) h)
refused_first law now c more hours m n behind build_fault.NoMemory h = tt

-- ---- from hour to hour

opened_by : (c : CircuitView) (more : List CircuitView) (d : DayView) (m : Machine) (n : ℕ) (hours : List ℕ)
    → hours_left d ≡ hour_in d ∷ hours
    → hours_open c d m n more ≡ hour_open c d m (n + 1) hours more
opened_by c more d m n hours h = ap (λ (l : List ℕ). open_hours c more l m n (λ left count. open_solves more left count)) h

module _ (c : CircuitView) (r : ReaderView) (s : List CircuitView → Checking) where
  -- whatever the certificate comes to from where the hours now stand, it comes to from the first
  pub record IsWay (now : ReaderView) (d : DayView) (m : Machine) (n : ℕ) : Type 0 where
    pub leads : LeadsForAll r s now (hours_open c d m n)

  -- behind an hour
  pub way_on : (now : ReaderView) (d : DayView) (m : Machine) (n : ℕ) → IsWay now d m n
      → (next : ReaderView) (left : Machine) (e : DayView) → hours_left d ≡ hour_in d ∷ hours_left e
      → ((hours : List ℕ) → LeadsForAll now (hour_open c d m (n + 1) hours) next (behind_hour c left (n + 1) hours))
      → IsWay next e left (n + 1)
  way_on now d m n way next left e first goes = record {
    leads = λ more answer h. way.leads more answer
        (subst (λ (x : Checking). Comes now x answer) (sym (opened_by c more d m n (hours_left e) first)) (goes (hours_left e) more answer h));
  }

  -- in an hour that is refused
  pub way_refused : (now : ReaderView) (d : DayView) (m : Machine) (n : ℕ) → IsWay now d m n → IsDay d
      → IsSome d.hour → (e : CheckFault)
      → ((hours : List ℕ) → TellsForAll now (hour_open c d m (n + 1) hours) e) → TellsForAll r s e
  way_refused now d m n way is some e h more =
      tells_before r now (s more) (hours_open c d m n more) e (way.leads more)
      (subst (λ (x : Checking). Tells e (Comes now x)) (sym (opened_by c more d m n (hours_behind d) (next_first d is some))) (h (hours_behind d) more))

  -- before an hour whose network is refused
  pub way_range : CertificateLaw → (now : ReaderView) (d : DayView) (m : Machine) (n : ℕ) → IsWay now d m n
      → (f : BuildFault)
      → IsRefusedAt c (hours_left d) m.at f → TellsForAll r s (by_network f)
  way_range law now d m n way f h more =
      tells_before r now (s more) (hours_open c d m n more) (by_network f) (way.leads more)
      (refused_first law now c more (hours_left d) m n (λ left count. open_solves more left count) f h)

  -- behind the last hour
  pub way_done : (now : ReaderView) (at : CodePositions) (d : DayView) (m : Machine) (n : ℕ) → positions_in at ≡ m.at
      → IsWay now d m n → hours_left d ≡ []
      → LeadsForAll r s now (solves_open [] at n)
  way_done now at d m n there way none more answer h =
      way.leads more answer (subst (λ (l : List ℕ).
      Comes now (open_hours c more l m n (λ left count. open_solves more left count)) answer)
      (sym none) (subst (λ (p : Positions). Comes now (open_solves more p n) answer) there h))

-- ---- the first hour

module _ (c : CircuitView) (before at : CodePositions) (there : positions_in at ≡ start_from c (positions_in before)) (d : DayView)
    (m : Machine) (n : ℕ) (left : hours_left d ≡ hours_of c.options) (machine : m ≡ before_first c (positions_in at)) where
  -- a Solve opens with its first hour
  pub solve_open : hours_open c d m n ≡ solves_open (c ∷ []) before n
  solve_open =
      let behind : List CircuitView → Positions → ℕ → Checking = λ more left count. open_solves more left count in
      let by_hours : List ℕ → List CircuitView → Checking = λ hours more. open_hours c more hours m n (behind more) in
      let by_machine : Machine → List CircuitView → Checking = λ k more. open_hours c more (hours_of c.options) k n (behind more) in
      let by_positions : Positions → List CircuitView → Checking = λ p more. open_hours c more (hours_of c.options) (before_first c p) n (behind more) in
      ap by_hours left ∙ ap by_machine machine ∙ ap by_positions there
