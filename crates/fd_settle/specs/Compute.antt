-- What the solver that computes may answer.
use Rattle.std.specs.Prelude.{◌≡◌, ℕ, ℤ, List, Result, Ok, Err}
use Rattle.fd_inject.specs.fd_pattern.Views.{NetworkView}
use Rattle.fd_inject.specs.Faults.{IsInside, UnlessMemory}
use Rattle.fd_inject.specs.Procedure.{solution_of}
use Rattle.fd_inject.specs.declared.fault.SolveFault.{SolveFault}
use Rattle.fd_inject.specs.declared.limits.Limits.{Limits}
use Rattle.fd_inject.specs.fd_pattern.Conditions.{IsPoint}
use Rattle.fd_cert.specs.fd_enclosure.Sound.{Claim, IsInverse, Refusal, certificate_of, inverse_in}
use Rattle.fd_cert.specs.Claims.{Refuses}
use Rattle.fd_cert.specs.Claims as claims
use Rattle.fd_cert.specs.declared.fault.CertFault.{CertFault}
use Rattle.fd_settle.specs.declared.compute.ComputeFault.{ComputeFault}
use Rattle.fd_settle.specs.declared.compute.ComputeFault.TheVariants as fault

-- why a network is given no certified state: the procedure gives no point, or its point has no certificate
pub data Stop : Type 0 where
  procedure : SolveFault → Stop
  uncertified : Refusal → Stop

-- the certificate of a point
abbrev pub unless_refused : Result Claim Refusal → Result Claim Stop
unless_refused (Ok m) = Ok m
unless_refused (Err r) = Err (uncertified r)

abbrev pub certified : NetworkView → Result (List ℤ × List (List ℤ)) SolveFault → Result Claim Stop
certified v (Ok point) = unless_refused (certificate_of v point.0 point.1)
certified v (Err f) = Err (procedure f)

-- what the procedure gives, certified
unfoldable pub computed_of : Limits → NetworkView → Result Claim Stop
computed_of limits v = certified v (solution_of v limits)

-- the procedure reaches a point, which is certified so
abbrev pub IsComputed : Limits → NetworkView → Claim → Type 0
IsComputed limits v m = computed_of limits v ≡ Ok m

-- the point that it reaches is the claim's, and the claim is its certificate
pub record IsCertificate (limits : Limits) (v : NetworkView) (m : Claim) : Type 0 where
  pub point : solution_of v limits ≡ Ok (m.centre, inverse_in m.support)
  pub certificate : certificate_of v m.centre (inverse_in m.support) ≡ Ok m

-- the procedure reaches a point, which has no certificate, for this reason
pub record IsUncertified (limits : Limits) (v : NetworkView) (f : CertFault) : Type 0 where
  pub centre : List ℤ
  pub inverse : List (List ℤ)
  pub point : solution_of v limits ≡ Ok (centre, inverse)
  pub parts : IsPoint v centre
  pub entries : IsInverse v.size inverse
  pub reason : Refuses v centre inverse f

-- a fault names a place of the network
abbrev pub IsPlaced : ℕ → ComputeFault → Type 0
IsPlaced n (fault.Solve f) = IsInside n f
IsPlaced n (fault.Cert f) = claims.IsInside n f

abbrev pub ComputeGives : Limits → NetworkView → Result Claim ComputeFault → Type 0
ComputeGives limits v (Ok m) = IsComputed limits v m
ComputeGives limits v (Err (fault.Solve f)) = UnlessMemory f (solution_of v limits ≡ Err f) × IsInside v.size f
ComputeGives limits v (Err (fault.Cert f)) = IsUncertified limits v f × claims.IsInside v.size f
