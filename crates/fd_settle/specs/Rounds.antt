-- Rounds of a settle as contracts see them, and what holds of each.
use Rattle.std.specs.Prelude.{List, [], ◌∷◌, map}
use Rattle.fd_cert.specs.fd_enclosure.Sound.{Claim}
use Rattle.fd_cert.specs.Claims.{claim_in}
use Rattle.fd_sample.specs.fd_queue.Controls.{Positions}
use Rattle.fd_sample.specs.fd_queue.Machine.{Machine, Act}
use Rattle.fd_settle.specs.declared.round.Act.{Act as Made}
use Rattle.fd_settle.specs.declared.round.Round.{Round}
use Rattle.fd_settle.specs.Settle.{Outcome, Ends, Moves, Settle, outcome_of, settle_of}
use Rattle.fd_settle.specs.Plant.{Plant}

-- an act, and those of a list of rounds
abbrev pub seen : Made → Act
seen a = record { time = a.time; control = a.control; steps = a.steps; after = a.after }

abbrev pub acts_in : List Round → List (List Act)
acts_in rounds = map (λ r. map seen r.acts.items) rounds

-- what the certified states of rounds claim
abbrev pub claims_in : List Round → List Claim
claims_in rounds = map (λ r. claim_in r.certified.value) rounds

-- the settle over the certified states of rounds
abbrev pub settled : Plant → Machine → List Round → Settle
settled p m rounds = settle_of p.setup p.look m (claims_in rounds)

-- what a round leaves
abbrev pub left_by : Outcome → Machine
left_by (Ends end m) = m
left_by (Moves acts m) = m

abbrev pub after_round : Plant → Machine → Claim → Machine
after_round p m c = left_by (outcome_of p.setup m (p.look m.at c))

-- P of each claim, with the positions at which it was made
abbrev pub AtEach : (Positions → Claim → Type 0) → Plant → Machine → List Claim → Type 0
AtEach P p m [] = Unit {0}
AtEach P p m (c ∷ cs) = P m.at c × AtEach P p (after_round p m c) cs
