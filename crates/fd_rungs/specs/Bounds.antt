-- What keeps the numbers of a sweep small.
use Rattle.std.specs.Prelude.{ℕ, ◌≤◌, ◌<◌, ◌^◌, ℤ, List, length, map, All, Result, Ok, Err}
use Rattle.fd_rungs.specs.declared.iterate.Made.{Made}
use Rattle.fd_rungs.specs.declared.iterate.Made.TheVariants as made
use Rattle.fd_rungs.specs.declared.branch.Branch.{Branch}
use Rattle.fd_rungs.specs.declared.branch.Rung.{Rung}
use Rattle.fd_rungs.specs.declared.branch.Shunt.{Shunt}
use Rattle.fd_rungs.specs.declared.branch.Ladder.{Ladder}
use Rattle.fd_rungs.specs.Branches.{IsBranch, IsShunt}
use Rattle.fd_rungs.specs.Numbers.{SizedBy}
use Rattle.fd_rungs.specs.Sweeps.{LadderView}

abbrev pub branches_in : Rung → List Branch
branches_in r = r.branches.items

abbrev pub ladder_in : Ladder → LadderView
ladder_in l = record { rungs = map branches_in l.rungs.items; shunts = l.shunts.items }

-- at most three branches, each in its range
pub record IsRung (r : Rung) : Type 0 where
  pub few : length r.branches.items ≤ 3
  pub each : All IsBranch r.branches.items

pub record AreRungs (rs : List Rung) : Type 0 where
  pub few : length rs < 2 ^ 20
  pub each : All IsRung rs

pub record AreShunts (ss : List Shunt) : Type 0 where
  pub few : length ss < 2 ^ 24
  pub each : All IsShunt ss

pub record IsLadder (l : Ladder) : Type 0 where
  pub rungs : AreRungs l.rungs.items
  pub shunts : AreShunts l.shunts.items

-- what is made, and that its parts are at most 2^40 in size
abbrev pub made_in : Made → Result (List ℤ) ℕ
made_in (made.State x) = Ok x.items
made_in (made.Past place) = Err place

abbrev pub IsMade : Made → Type 0
IsMade (made.State x) = SizedBy (2 ^ 40) x.items
IsMade (made.Past place) = Unit {0}
