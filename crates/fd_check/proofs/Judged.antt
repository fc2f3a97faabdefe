-- What the code finds of an hour, and of a certificate's end.
use Rattle.std.proofs.Common.{◌≡◌, ◌∙◌, ℕ, ◌+◌, ◌≤◌, true, List, [], ◌∷◌, Option, Some, None, Result, Ok, Err, refl, sym, ap, subst, arith, drop, length, map}
use Rattle.std.specs.Prelude.{IfErr, OnOk, is_ok}
use Rattle.dss_commands.specs.dss_model.declared.command.Blame.{Blame}
use Rattle.fd_daily.specs.fd_cert.declared.rule.Rule.{Rule}
use Rattle.fd_daily.specs.fd_queue.Controls.{Positions}
use Rattle.fd_daily.specs.fd_queue.Machine.{Machine}
use Rattle.fd_daily.specs.fd_settle.Calls.{AreCalls}
use Rattle.fd_daily.specs.fd_settle.Contract.{CallsAs, EndsAs}
use Rattle.fd_daily.specs.fd_settle.Plant.{Plant}
use Rattle.fd_daily.specs.fd_settle.Rounds.{acts_in, claims_in, settled}
use Rattle.fd_daily.specs.fd_settle.Settle.{End, Open, Limited, Undecidable}
use Rattle.fd_daily.specs.fd_settle.declared.fault.SettleFault.{SettleFault}
use Rattle.fd_daily.specs.fd_settle.declared.fault.SettleFault.TheVariants as settle
use Rattle.fd_daily.specs.fd_settle.declared.round.Round.{Round}
use Rattle.fd_certfile.specs.Laws.{CertificateLaw}
use Rattle.fd_certfile.specs.Reader.{IsFinished, ReaderView, finish_of}
use Rattle.fd_certfile.specs.SolvingLaws.{answer_of}
use Rattle.fd_certfile.specs.Verdict.{Answer, refused, stopped}
use Rattle.fd_certfile.specs.declared.fault.CertFileFault.{CertFileFault}
use Rattle.fd_certfile.specs.declared.fault.CertFileFault.TheVariants as file
use Rattle.fd_certfile.proofs.CallerLemmas.{given_law, solving_law}
use Rattle.fd_check.specs.Checking.{Checking, Settling, after, done, due, open_hours, open_solves, under_way}
use Rattle.fd_check.specs.Comes.{Comes, Leads, Refuses, Tells}
use Rattle.fd_check.specs.Comparing.{acts_made, first_unlike, hour_told, with_acts}
use Rattle.fd_check.specs.Faults.{by_reader}
use Rattle.fd_check.specs.Given.{AreGiven}
use Rattle.fd_check.specs.declared.fault.CheckFault.{CheckFault}
use Rattle.fd_check.specs.declared.fault.CheckFault.TheVariants as fault
use Rattle.fd_check.proofs.Told.{HourSays, given_count, hour_says}
use Rattle.fd_check.proofs.Walks.{gives_solved, plant_in}

-- ---- an hour that ran

-- as the code ran it, on a plant and from a machine
pub record IsRun (p : Plant) (m : Machine) (rounds : List Round) (ended : Result (Unit {0}) (SettleFault CertFileFault))
    (r w : ReaderView) : Type 0 where
  pub acts : acts_in rounds ≡ (settled p m rounds).rounds
  pub ends : EndsAs p ended (settled p m rounds).end (settled p m rounds).machine
  pub calls : CallsAs gives_solved p r m rounds ended w

-- a settle that doesn't stay open had a round
closed_rounds : (p : Plant) (m : Machine) (rounds : List Round) (end : End) → (settled p m rounds).end ≡ end
    → (Open ≡ end → ⊥) → 1 ≤ length rounds
closed_rounds p m [] end h open_not = absurd (open_not h)
closed_rounds p m (x ∷ rounds) end h open_not = omega arith

not_undecided : (k : ℕ) (u : _) → Open ≡ Undecidable k u → ⊥
not_undecided k u h = cc

not_limited : Open ≡ Limited → ⊥
not_limited h = cc

-- where an hour came to its end well its settle did
well_told : (r : ReaderView) (ended : Result (Unit {0}) (SettleFault CertFileFault)) (o : Option ℕ) (t : Unit {0})
    → Ok t ≡ hour_told r ended o → is_ok ended ≡ true
well_told r (Ok u) o t h = refl
well_told r (Err (settle.Undecided control low high edge)) None t h = absurd (let no : ⊥ = cc in no)
well_told r (Err (settle.Undecided control low high edge)) (Some line) t h = absurd (let no : ⊥ = cc in no)
well_told r (Err (settle.ControlLimit n)) None t h = absurd (let no : ⊥ = cc in no)
well_told r (Err (settle.ControlLimit n)) (Some line) t h = absurd (let no : ⊥ = cc in no)
well_told r (Err (settle.Range blame)) None t h = absurd (let no : ⊥ = cc in no)
well_told r (Err (settle.Range blame)) (Some line) t h = absurd (let no : ⊥ = cc in no)
well_told r (Err (settle.Solver (file.Refused line k))) None t h = absurd (let no : ⊥ = cc in no)
well_told r (Err (settle.Solver (file.Refused line k))) (Some other) t h = absurd (let no : ⊥ = cc in no)
well_told r (Err (settle.Solver file.NoMemory)) o t h = absurd (let no : ⊥ = cc in no)
well_told r (Err settle.NoMemory) o t h = absurd (let no : ⊥ = cc in no)

-- P of what follows, where the result is well
pub on_well : (r : ReaderView) (ended : Result (Unit {0}) (SettleFault CertFileFault)) (o : Option ℕ) (result : Result (Unit {0}) CheckFault) (P : Type 0)
    → result ≡ hour_told r ended o → (is_ok ended ≡ true → P) → OnOk result P
on_well r ended o (Ok t) P h f = f (well_told r ended o t h)
on_well r ended o (Err e) P h f = tt

-- a reader that was told which settle comes next
same_reader : (r begun : ReaderView) (number hour : ℕ) → begun ≡ record r { number = number; hour = hour; round = 0 }
    → (s : Checking) (answer : Answer Blame) → Comes begun s answer → Comes r s answer
same_reader r begun number hour same s answer h =
    let k : Comes (record r { number = number; hour = hour; round = 0 }) s answer = subst (λ (x : ReaderView). Comes x s answer) same h in
    record { certificate = k.certificate; reads = k.reads; answer_is = k.answer_is }

same_fault : (r begun : ReaderView) (number hour : ℕ) → begun ≡ record r { number = number; hour = hour; round = 0 }
    → (s : Checking) (e : CheckFault) → Tells e (λ answer. Comes begun s answer) → Tells e (λ answer. Comes r s answer)
same_fault r begun number hour same s (fault.Refused line k) h = same_reader r begun number hour same s (refused line k) h
same_fault r begun number hour same s (fault.Range blame) h = same_reader r begun number hour same s (stopped blame) h
same_fault r begun number hour same s fault.NoMemory h = tt

module _ (law : CertificateLaw) (s : Settling) (r begun w : ReaderView)
    (same : begun ≡ record r { number = s.number; hour = s.hour; round = 0 }) (first : s.round ≡ 0)
    (rounds : List Round) (ended : Result (Unit {0}) (SettleFault CertFileFault))
    (run : IsRun (plant_in s) s.machine rounds ended begun w) where
  abbrev left : Machine
  left = (settled (plant_in s) s.machine rounds).machine

  numbered : begun.number ≡ s.number
  numbered = ap (λ (k : ReaderView). k.number) same

  timed : begun.hour ≡ s.hour
  timed = ap (λ (k : ReaderView). k.hour) same

  in_round : begun.round ≡ s.round
  in_round = ap (λ (k : ReaderView). k.round) same ∙ sym first

  said : HourSays s begun w left (hour_told w ended (first_unlike (map acts_made (with_acts ended rounds)) (drop (length begun.given) w.given)))
  said = hour_says law given_law (solving_law due after) s begun numbered timed in_round rounds run.acts ended w run.calls run.ends

  abbrev Next : Machine → Checking
  Next n = open_hours s.circuit s.more s.hours n s.number (λ more count. open_solves s.more more count)

  module _ (result : Result (Unit {0}) CheckFault)
      (is : result ≡ hour_told w ended (first_unlike (map acts_made (with_acts ended rounds)) (drop (length begun.given) w.given))) where
    told : HourSays s begun w left result
    told = subst (HourSays s begun w left) (sym is) said

    pub hour_goes : (n : Machine) → n ≡ left → OnOk result (Leads r (under_way s) w (Next n))
    hour_goes n is_left = by result told
      where
        by : (x : Result (Unit {0}) CheckFault) → HourSays s begun w left x
            → OnOk x (Leads r (under_way s) w (Next n))
        by (Ok t) h = λ answer k.
            same_reader r begun s.number s.hour same (under_way s) answer
            (h answer (subst (λ (x : Machine). Comes w (Next x) answer) is_left k))
        by (Err e) h = tt

    pub hour_refused : IfErr result (λ fault. Tells fault (λ answer. Comes r (under_way s) answer))
    hour_refused = by result told
      where
        by : (x : Result (Unit {0}) CheckFault) → HourSays s begun w left x
            → IfErr x (λ fault. Tells fault (λ answer. Comes r (under_way s) answer))
        by (Ok t) h = tt
        by (Err e) h = same_fault r begun s.number s.hour same (under_way s) e h

-- ---- the blocks that an hour was given

module _ (law : CertificateLaw) (s : Settling) (r w : ReaderView) (number : r.number ≡ s.number)
    (hour : r.hour ≡ s.hour) (round : r.round ≡ s.round) (rounds : List Round) where
  counted : acts_in rounds ≡ (settled (plant_in s) s.machine rounds).rounds
      → AreCalls gives_solved (plant_in s) r s.machine (claims_in rounds) w
      → length r.given + length rounds ≤ length w.given
  counted acts calls = omega (arith, given_count law given_law (solving_law due after) s r number hour round rounds acts w calls)

  pub are_given : (ended : Result (Unit {0}) (SettleFault CertFileFault))
      → IsRun (plant_in s) s.machine rounds ended r w → AreGiven ended (length r.given) (length rounds) (length w.given)
  are_given (Ok t) run = counted run.acts run.calls
  are_given (Err (settle.Undecided control low high edge)) run =
      (counted run.acts run.calls, closed_rounds (plant_in s) s.machine rounds _ run.ends (not_undecided control _))
  are_given (Err (settle.ControlLimit n)) run = (counted run.acts run.calls, closed_rounds (plant_in s) s.machine rounds _ run.ends.0 not_limited)
  are_given (Err (settle.Range blame)) run = counted run.acts run.calls
  are_given (Err (settle.Solver (file.Refused line k))) run =
      counted run.acts
      (subst (λ (x : ReaderView). AreCalls gives_solved (plant_in s) r s.machine (claims_in rounds) x)
      (sym run.calls.last.1) run.calls.calls)
  are_given (Err (settle.Solver file.NoMemory)) run = tt
  are_given (Err settle.NoMemory) run = tt

-- ---- the end of a certificate

pub certificate_end : CertificateLaw → (r : ReaderView) (x : Result ℕ (ℕ × Rule)) → finish_of r ≡ x
    → Comes r done (answer_of x)
certificate_end law r x h =
    let some = law.some r.version r.lines in
    record { certificate = some.0; reads = some.1; answer_is = ap answer_of (sym h) ∙ sym ((solving_law due after).finishes r some.0 done some.1 refl) }

pub end_refused : CertificateLaw → (r : ReaderView) (f : CertFileFault) → IsFinished (Err f) (finish_of r)
    → Refuses (by_reader f) (λ answer. Comes r done answer)
end_refused law r (file.Refused line k) h = certificate_end law r (Err (line, k)) h
end_refused law r file.NoMemory h = absurd h
