-- Where a settle ends well nothing is due.
use Rattle.std.proofs.Common.{◌≡◌, List, [], ◌∷◌, subst}
use Rattle.fd_sample.specs.fd_queue.Controls.{Positions}
use Rattle.fd_sample.specs.fd_queue.Decisions.{Decision}
use Rattle.fd_sample.specs.fd_queue.Machine.{Machine, Setup, Step, Quiet, AtLimit, Acts, step_of}
use Rattle.fd_sample.specs.fd_queue.MachineLaws.{IsQuiet}
use Rattle.fd_sample.proofs.CallerLemmas.fd_queue.{quiet}
use Rattle.fd_settle.specs.Laws.{NothingDue}
use Rattle.fd_settle.specs.Sampling.{Sampling, Decided, Unclear}
use Rattle.fd_settle.specs.Settle.{Settled, Outcome, Ends, Moves, Settle, before_rest, outcome_after, outcome_of, settle_of}

step_ends : (s : Setup) (n : Machine) (step : Step) → IsQuiet s step → outcome_after step ≡ Ends Settled n → NothingDue s n
step_ends s n (Quiet m) h e =
    let same : m ≡ n = cc e in
    subst (NothingDue s) same h
step_ends s n (AtLimit m) h e = absurd (let no : ⊥ = cc e in no)
step_ends s n (Acts m acts) h e = absurd (let no : ⊥ = cc e in no)

-- where a round ends its settle well
pub nothing_due : (s : Setup) (m n : Machine) (w : Sampling) → outcome_of s m w ≡ Ends Settled n → NothingDue s n
nothing_due s m n (Decided ds) e = step_ends s n (step_of s ds m) (quiet s ds m) e
nothing_due s m n (Unclear k u) e = absurd (let no : ⊥ = cc e in no)

module _ {X : Type 0} (s : Setup) (look : Positions → X → Sampling) where
  abbrev IsAtRest : Settle → Type 0
  IsAtRest t = t.end ≡ Settled → NothingDue s t.machine

  pub ended : (m : Machine) (xs : List X) → IsAtRest (settle_of s look m xs)
  ended m [] e = absurd (let no : ⊥ = cc e in no)
  ended m (x ∷ xs) e = by (outcome_of s m (look m.at x)) (λ n is. nothing_due s m n (look m.at x) is) (λ n. ended n xs) e
    where
      by : (o : Outcome) → ((n : Machine) → o ≡ Ends Settled n → NothingDue s n)
          → ((n : Machine) → IsAtRest (settle_of s look n xs)) → IsAtRest (before_rest o (λ n. settle_of s look n xs))
      by (Ends end n) last more e = last n (cc e)
      by (Moves acts n) last more e = more n e
