-- The way that a run has gone: the invariant of the loop over a script's commands.
use Rattle.std.specs.Prelude.{ℕ, List, Option, None}
use Rattle.fd_certfile.specs.fd_outside.Answers.{Answer}
use Rattle.fd_report.specs.dss_model.declared.command.Command.{Command}
use Rattle.fd_outcome.specs.Events.{Event, History}
use Rattle.fd_outcome.specs.Work.{Step}
use Rattle.fd_outcome.specs.History.{Point, LeadsTo}
use Rattle.fd_outcome.specs.Calls.{Call, Style, so_far}
use Rattle.fd_outcome.specs.Done.{Made, Sees}

abbrev pub whole : List Call → Made
whole calls = record { calls = calls; torn = None }

module _ {T : Type 0} (is_step : Command → T → Step T → Type 0) (last_name : T → Option (List ℕ))
    (is_last : T → Option (List ℕ) → History → Type 0)
    (held : List ℕ → Option (List ℕ))
    {L S : Type 0} (answers : L → List Answer) (taken : S → List ℕ) (calls : S → ℕ) (style : Style) where
  -- These events lead from the first point to where the run stands: whatever follows here, it is the history of the
  -- rest behind them. The outside has seen them whole: each name was asked and each text written, in order, and nothing
  -- else.
  pub record Way (first : Point T) (lib_first : L) (out_first : S) (now : Point T) (lib_now : L)
      (out_now : S) : Type 0 where
    pub events : List Event
    pub leads : LeadsTo is_step last_name is_last held first events now
    pub seen : Sees answers taken calls lib_first lib_now out_first out_now (whole (so_far style events))
