-- What a script's Solves ask of a certificate, block by block.
use Rattle.std.specs.Prelude.{ℕ, ◌+◌, pos, List, [], ◌∷◌, map, nat_abs, Option, Some, None}
use Rattle.dss_commands.specs.dss_model.declared.command.Blame.{Blame}
use Rattle.dss_commands.specs.dss_circuit.Circuit.{CircuitView}
use Rattle.fd_daily.specs.fd_queue.Controls.{Positions}
use Rattle.fd_daily.specs.fd_queue.Machine.{Act, Machine}
use Rattle.fd_daily.specs.fd_sample.Decided.{sample_over}
use Rattle.fd_daily.specs.fd_settle.Plant.{controls_in, setup_of}
use Rattle.fd_daily.specs.fd_settle.Sampling.{Sampling, sampling_of}
use Rattle.fd_daily.specs.fd_settle.Settle.{Open, Settled, Limited, Undecidable, Outcome, Ends, Moves, outcome_of}
use Rattle.fd_daily.specs.Day.{before_first, resumed}
use Rattle.fd_daily.specs.Hours.{hours_of}
use Rattle.fd_daily.specs.Underway.{plant_at, start_from}
use Rattle.fd_certfile.specs.Blocks.{Block}
use Rattle.fd_certfile.specs.Blocks as blocks
use Rattle.fd_certfile.specs.Judging.{judge_of}
use Rattle.fd_certfile.specs.Rules.{Ball, Sampled, at_limit, ball_of, moves, undecided}
use Rattle.fd_certfile.specs.Verdict.{Due, asks, complete, stops}

-- ---- what comes of a block's ball

-- the samples of the controls over a ball, at these positions
abbrev pub sampling_in : CircuitView → Positions → Ball → Sampling
sampling_in c at ball = sampling_of 0 (map (λ p. sample_over p at ball.centre (map nat_abs ball.radii)) (controls_in c))

-- what a round with this ball comes to
abbrev pub outcome_in : CircuitView → Machine → Ball → Outcome
outcome_in c m ball = outcome_of (setup_of c) m (sampling_in c m.at ball)

-- an act, as a block claims it
abbrev pub act_due : Act → blocks.Act
act_due a = record { time = pos a.time; control = pos a.control; steps = a.steps }

-- (no round leaves a settle open)
abbrev pub sampled_by : Outcome → Sampled
sampled_by (Moves acts m) = moves (map act_due acts)
sampled_by (Ends Settled m) = moves []
sampled_by (Ends Limited m) = at_limit
sampled_by (Ends (Undecidable k u) m) = undecided
sampled_by (Ends Open m) = undecided

-- ---- where the check of a script's Solves stands

-- before a round of a settle
pub record Settling : Type 0 where
  pub circuit : CircuitView
  pub hour : ℕ
  -- the hours that are left of the Solve behind this one, and the circuits of the Solves behind it
  pub hours : List ℕ
  pub more : List CircuitView
  -- the settle's number in the run, and the round's in the settle
  pub number : ℕ
  pub round : ℕ
  -- what the acts so far left
  pub machine : Machine

pub data Checking : Type 0 where
  -- no Solve is left
  done : Checking
  under_way : Settling → Checking

-- The first round of the next hour of a Solve, where the hour before left this machine, behind so many settles; where no
-- hour is left, what comes behind the Solve.
abbrev pub open_hours : CircuitView → List CircuitView → List ℕ → Machine → ℕ
    → (Positions → ℕ → Checking) → Checking
open_hours c more [] m n behind = behind m.at n
open_hours c more (hour ∷ hours) m n behind = under_way (record {
  circuit = c;
  hour = hour;
  hours = hours;
  more = more;
  number = n + 1;
  round = 0;
  machine = resumed c hour m;
})

-- the first round of the next Solve, where the Solves so far left these positions and had so many settles
abbrev pub open_solves : List CircuitView → Positions → ℕ → Checking
open_solves [] at n = done
open_solves (c ∷ more) at n = open_hours c more (hours_of c.options) (before_first c (start_from c at)) n (λ left count. open_solves more left count)

-- ---- what is due

-- where the network is in range a block, judged there; else the fault of the script
abbrev pub due_in : Settling → Option Blame → Due Blame
due_in s None =
    asks (judge_of ((plant_at s.circuit s.hour).network s.machine.at) s.number s.hour s.round
    (λ ball. sampled_by (outcome_in s.circuit s.machine ball)))
due_in s (Some blame) = stops blame

abbrev pub due : Checking → Due Blame
due done = complete
due (under_way s) = due_in s ((plant_at s.circuit s.hour).blame s.machine.at)

-- ---- what a block leads to

-- behind acts the next round, and else the next hour, which begins by what the acts left
abbrev pub behind_round : Settling → Outcome → Checking
behind_round s (Moves acts m) = under_way (record s { round = s.round + 1; machine = m })
behind_round s (Ends end m) = open_hours s.circuit s.more s.hours m s.number (λ left count. open_solves s.more left count)

abbrev pub after : Checking → Block → Checking
after done b = done
after (under_way s) b = behind_round s (outcome_in s.circuit s.machine (ball_of b))
