-- The solver's calls in a settle.
use Rattle.std.specs.Prelude.{◌≡◌, List, [], ◌∷◌, None, Result, Ok, Err}
use Rattle.std.specs.declared.alloc.Global.{Global}
use Rattle.std.specs.declared.rc.Rc.{Rc}
use Rattle.fd_inject.specs.fd_pattern.Views.{NetworkView}
use Rattle.fd_cert.specs.fd_enclosure.Sound.{Claim}
use Rattle.fd_cert.specs.Claims.{claim_in}
use Rattle.fd_cert.specs.declared.ball.Certified.{Certified}
use Rattle.fd_sample.specs.fd_queue.Machine.{Machine}
use Rattle.fd_settle.specs.declared.round.Round.{Round}
use Rattle.fd_settle.specs.Plant.{Plant}
use Rattle.fd_settle.specs.Rounds.{after_round, claims_in, settled}

-- an answer, by what its certified state claims
abbrev pub answer_in : {F : Type 0} → Result (Rc Certified Global) F → Result Claim F
answer_in (Ok m) = Ok (claim_in m.value)
answer_in (Err f) = Err f

-- The solver answered these claims in order, each call made on the solver that the call before left, with the network
-- at the positions that the acts before left, which is in range.
abbrev pub AreCalls : {V F : Type 0} → (V → NetworkView → Result Claim F → V → Type 0) → Plant → V → Machine
    → List Claim → V → Type 0
AreCalls gives p v m [] w = w ≡ v
AreCalls {V} gives p v m (c ∷ cs) w = (u : V) × ((p.blame m.at ≡ None) × (gives v (p.network m.at) (Ok c) u × AreCalls gives p u (after_round p m c) cs w))

-- one call more, which answered so
pub record IsLast {V F : Type 0} (gives : V → NetworkView → Result Claim F → V → Type 0) (p : Plant) (v : V)
    (m : Machine) (rounds : List Round) (answer : Result Claim F) (w : V) : Type 0 where
  pub before : V
  pub calls : AreCalls gives p v m (claims_in rounds) before
  pub in_range : p.blame (settled p m rounds).machine.at ≡ None
  pub last : gives before (p.network (settled p m rounds).machine.at) answer w

-- the same, for some state that was not kept
pub record IsMissing {V F : Type 0} (gives : V → NetworkView → Result Claim F → V → Type 0) (p : Plant) (v : V)
    (m : Machine) (rounds : List Round) (w : V) : Type 0 where
  pub missing : Claim
  pub call : IsLast gives p v m rounds (Ok missing) w
