-- What the rounds of a run come to.
use Rattle.std.specs.Prelude.{◌≡◌, ◌≤◌, ◌+◌, ◌*◌, ◌^◌, ℕ, Bool, List, length, max}
use Rattle.std.specs.List.{fold}
use Rattle.fd_pages.specs.dss_layout.Layout.{complex_count, layout_of}
use Rattle.fd_pages.specs.fd_outcome.Calls.{Style}
use Rattle.fd_pages.specs.fd_outcome.Events.{Event, settle}
use Rattle.fd_pages.specs.fd_outcome.Parts.{GoesOn}
use Rattle.fd_pages.specs.fd_outcome.Settles.{Round}
use Rattle.fd_pages.specs.fd_outcome.Work.{Step}
use Rattle.fd_solving.specs.declared.tally.Tally.{Tally}

abbrev pub no_rounds : Tally
no_rounds = record { unknowns = 0; solutions = 0; greatest = 0 }

-- the greatest mismatch of a round, or what was so far
abbrev pub with_greatest : ℕ → Round → ℕ
with_greatest so_far r = fold max so_far r.mismatches

abbrev pub with_rounds : Tally → ℕ → List Round → Tally
with_rounds t unknowns rounds = record {
  unknowns = unknowns;
  solutions = t.solutions + length rounds;
  greatest = fold with_greatest t.greatest rounds;
}

-- a settle adds its rounds, and its circuit is the last that was solved
abbrev pub tallied : Tally → Event → Tally
tallied t (settle s) = with_rounds t (complex_count (layout_of s.circuit.elements)) s.rounds
tallied t other = t

abbrev pub tally_of : Tally → List Event → Tally
tally_of t events = fold tallied t events

-- ---- at work

-- a number of 64 bits has room for the rounds of so many settles
abbrev pub HasRoom : Tally → ℕ → Type 0
HasRoom t settled = t.solutions ≤ 2 ^ 32 * settled

-- the step goes on, and its rounds are added to those before
pub record GoesOnTallied {T S : Type 0} (style : Style) (is_step : Step T → Type 0) (state : T)
    (taken : S → List ℕ) (calls : S → ℕ) (old new : S) (begun now : Bool) (before after : Tally) : Type 0 where
  pub on : GoesOn style is_step state taken calls old new begun now
  pub added : after ≡ tally_of before on.events
