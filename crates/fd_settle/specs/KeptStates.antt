-- Certified states that were computed before.
use Rattle.std.specs.Prelude.{◌≡◌, ℕ, ◌+◌, ◌*◌, ◌^◌, ◌<◌, ◌≤◌, max, List, [], ◌∷◌, ◌++◌, drop, get_or, length, Ok}
use Rattle.fd_inject.specs.fd_exact.Sums.{list_n}
use Rattle.fd_inject.specs.fd_equations.Copies.{copy_bytes}
use Rattle.fd_inject.specs.fd_pattern.Views.{NetworkView}
use Rattle.fd_inject.specs.declared.kept.KeptPair.{KeptPair}
use Rattle.fd_inject.specs.declared.limits.Limits.{Limits}
use Rattle.fd_cert.specs.fd_enclosure.Sound.{Claim, IsSound}
use Rattle.fd_cert.specs.Claims.{claim_in}
use Rattle.fd_settle.specs.Compute.{ComputeGives}
use Rattle.fd_settle.specs.declared.kept_states.KeptState.{KeptState}

-- what the solver that computes keeps: start matrices with their inverses, and certified states
pub record ComputeView : Type 0 where
  pub pairs : List KeptPair
  pub states : List KeptState

-- it was computed for its network and its limits, and is sound there
pub record IsCertified (k : KeptState) : Type 0 where
  pub gives : ComputeGives k.limits k.network (Ok (claim_in k.certified.value))
  pub sound : IsSound k.network (claim_in k.certified.value)

-- the bytes that the state of a network counts: those of the network's lists, 8 for each entry of the inverse and 64 for
-- the four numbers of each unknown; but 2^16 at least, so that there are never more than 2^10 states to look through
abbrev pub bytes_of : NetworkView → ℕ
bytes_of v = max (2 ^ 16) (copy_bytes v + 8 * (v.size * v.size) + 64 * v.size)

abbrev pub bytes_in : List KeptState → ℕ
bytes_in ks = list_n (λ (k : KeptState). bytes_of k.network) ks

-- a state for these limits and this network stands at this place
pub record IsKeptStateAt (limits : Limits) (v : NetworkView) (ks : List KeptState) (place : ℕ) : Type 0 where
  pub inside : place < length ks
  pub limits_are : (k : KeptState) → (get_or ks place k).limits ≡ limits
  pub network_is : (k : KeptState) → (get_or ks place k).network ≡ v

-- a state for these limits and this network is among these
abbrev pub IsKeptState : Limits → NetworkView → List KeptState → Type 0
IsKeptState limits v ks = (place : ℕ) × IsKeptStateAt limits v ks place

-- the oldest are gone, no more of them than it takes to have 2^26 bytes at most
pub record IsTrimmed (all new : List KeptState) : Type 0 where
  pub gone : ℕ
  pub new_is : new ≡ drop gone all
  pub within : bytes_in new ≤ 2 ^ 26
  pub needed : (n : ℕ) → n < gone → 2 ^ 26 < bytes_in (drop n all)

-- a state was put behind the others with its limits and its network, and the oldest are gone that are too many then
pub record IsStored (limits : Limits) (v : NetworkView) (m : Claim) (old new : List KeptState) : Type 0 where
  pub state : KeptState
  pub limits_are : state.limits ≡ limits
  pub network_is : state.network ≡ v
  pub claim_is : claim_in state.certified.value ≡ m
  pub new_is : IsTrimmed (old ++ state ∷ []) new
