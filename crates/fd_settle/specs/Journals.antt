-- What journals keep of rounds.
use Rattle.std.specs.Prelude.{◌≡◌, List, map}
use Rattle.std.specs.declared.alloc.Global.{Global}
use Rattle.std.specs.declared.vec.Vec.{Vec}
use Rattle.fd_settle.specs.declared.round.Round.{Round}
use Rattle.fd_settle.specs.declared.journal.ActJournal.{ActJournal}

-- the rounds whole
abbrev pub HoldsAll : Vec Round Global → List Round → Type 0
HoldsAll v rounds = v.items ≡ rounds

-- their acts
abbrev pub HoldsActs : ActJournal → List Round → Type 0
HoldsActs j rounds = j.acts.items ≡ map (λ r. r.acts) rounds
