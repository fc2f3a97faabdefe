-- The computation of a settle ends as a run can tell, and its rounds are no more than the options allow acts, and one.
use Rattle.std.proofs.Common.{◌≡◌, ◌≤◌, ◌+◌, List, [], ◌∷◌, length, Err, ap, refl, sym, subst, arith}
use Rattle.fd_daily.specs.fd_enclosure.Sound.{Claim}
use Rattle.fd_daily.specs.fd_inject.Procedure.{solution_of}
use Rattle.fd_daily.specs.fd_inject.declared.fault.SolveFault.{SolveFault}
use Rattle.fd_daily.specs.fd_inject.declared.fault.SolveFault.TheVariants as solving
use Rattle.fd_daily.specs.fd_inject.declared.limits.Limits.{Limits}
use Rattle.fd_daily.specs.fd_pattern.Views.{NetworkView}
use Rattle.fd_daily.specs.fd_queue.Machine.{Act, Machine, Setup, Step, Quiet, AtLimit, Acts, step_of}
use Rattle.fd_daily.specs.fd_queue.MachineLaws.{IsCounted}
use Rattle.fd_daily.proofs.CallerLemmas.fd_settle.{its_fault, round_counted}
use Rattle.fd_daily.specs.fd_settle.Compute.{computed_of, procedure, uncertified}
use Rattle.fd_daily.specs.fd_settle.Computed.{Answering, Ending, Follows, IsComputedFrom, ended, range, stopped}
use Rattle.fd_daily.specs.fd_settle.Plant.{Plant}
use Rattle.fd_daily.specs.fd_settle.Sampling.{Sampling, Decided, Unclear}
use Rattle.fd_daily.specs.fd_settle.Settle.{Open, Outcome, Ends, Moves, outcome_after, outcome_of}
use Rattle.fd_solving.proofs.Unsolved.{never_memory}

-- a settle isn't left open, and the procedure's definition gives no want of memory
abbrev pub IsTold : Ending → Type 0
IsTold (ended Open) = ⊥
IsTold (stopped (procedure solving.NoMemory)) = ⊥
IsTold other = Unit {0}

told_of_procedure : (v : NetworkView) (limits : Limits) (f : SolveFault) → solution_of v limits ≡ Err f
    → IsTold (stopped (procedure f))
told_of_procedure v limits (solving.NoInverse column stop) is = tt
told_of_procedure v limits (solving.OutOfRange place step) is = tt
told_of_procedure v limits (solving.NotConverged place steps update) is = tt
told_of_procedure v limits solving.NoMemory is = never_memory v limits is

-- an outcome that ends a settle doesn't leave it open
abbrev IsEndedBy : Outcome → Type 0
IsEndedBy (Ends end m) = IsTold (ended end)
IsEndedBy (Moves acts m) = Unit {0}

ended_after : (step : Step) → IsEndedBy (outcome_after step)
ended_after (Quiet m) = tt
ended_after (AtLimit m) = tt
ended_after (Acts m acts) = tt

ended_by : (s : Setup) (m : Machine) (w : Sampling) → IsEndedBy (outcome_of s m w)
ended_by s m (Decided ds) = ended_after (step_of s ds m)
ended_by s m (Unclear k u) = tt

told_behind : (o : Outcome) (acts : List Act) (rest : List (Claim × List Act)) (ending : Ending) (n : Machine)
    (P : Machine → Type 0)
    → IsEndedBy o → ((k : Machine) → P k → IsTold ending) → Follows o acts rest ending n P → IsTold ending
told_behind (Ends end k) acts rest ending n P told go h = subst IsTold (sym h.1.1.0) told
told_behind (Moves made k) acts rest ending n P told go h = go k h.1

pub is_told : (limits : Limits) (p : Plant) (m : Machine) (rounds : List (Claim × List Act)) (ending : Ending)
    (n : Machine)
    → IsComputedFrom (computed_of limits) p m rounds ending n → IsTold ending
is_told limits p m [] (ended end) n h = absurd h
is_told limits p m [] (range blame) n h = tt
is_told limits p m [] (stopped (procedure f)) n h =
    told_of_procedure (p.network m.at) limits f (its_fault limits (p.network m.at) f h.1.0)
is_told limits p m [] (stopped (uncertified r)) n h = tt
is_told limits p m (r ∷ rest) ending n h =
    told_behind (outcome_of p.setup m (p.look m.at r.0)) r.1 rest ending n
    (λ k. IsComputedFrom (computed_of limits) p k rest ending n) (ended_by p.setup m (p.look m.at r.0))
    (λ k later. is_told limits p k rest ending n later) h.1.1

-- ---- how many rounds there are

module _ (answer : Answering) (p : Plant) where
  few_behind : (m : Machine) (o : Outcome) (acts : List Act) (rest : List (Claim × List Act)) (ending : Ending)
      (n : Machine)
      → ((made : List Act) (k : Machine) → o ≡ Moves made k → IsCounted p.setup m k) → m.made ≤ p.setup.limit →
      ((k : Machine) → k.made ≤ p.setup.limit → IsComputedFrom answer p k rest ending n
      → length rest + k.made ≤ p.setup.limit + 1) →
      Follows o acts rest ending n (λ k. IsComputedFrom answer p k rest ending n)
      → length rest + (m.made + 1) ≤ p.setup.limit + 1
  few_behind m (Ends end k) acts rest ending n counted within go h = omega (arith, within, ap length h.1.0)
  few_behind m (Moves made k) acts rest ending n counted within go h =
      let count = counted made k refl in
      let more = count.one_more in
      let allowed = count.allowed in
      let later = go k (omega (arith, more, allowed)) h.1 in
      omega (arith, later, more)

  pub few_rounds : (m : Machine) (rounds : List (Claim × List Act)) (ending : Ending) (n : Machine)
      → m.made ≤ p.setup.limit → IsComputedFrom answer p m rounds ending n → length rounds + m.made ≤ p.setup.limit + 1
  few_rounds m [] ending n within h = omega (arith, within)
  few_rounds m (r ∷ rest) ending n within h =
      let behind = few_behind m (outcome_of p.setup m (p.look m.at r.0)) r.1 rest ending n
      (λ made k is. round_counted p.setup m (p.look m.at r.0) made k is) within
      (λ k allowed later. few_rounds k rest ending n allowed later) h.1.1 in
      omega (arith, behind)
