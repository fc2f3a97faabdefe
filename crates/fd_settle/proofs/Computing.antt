-- What the procedure and its certificate give of a network.
use Rattle.std.proofs.Common.{◌≡◌, ◌∙◌, ℤ, List, Result, Ok, Err, ap, refl, sym}
use Rattle.fd_inject.specs.fd_pattern.Views.{NetworkView}
use Rattle.fd_inject.specs.Procedure.{solution_of}
use Rattle.fd_inject.specs.declared.fault.SolveFault.{SolveFault}
use Rattle.fd_inject.specs.declared.limits.Limits.{Limits}
use Rattle.fd_cert.specs.fd_enclosure.Sound.{Claim, Refusal, certificate_of, claim_of, inverse_in}
use Rattle.fd_cert.proofs.CallerLemmas.fd_enclosure.{claim_is}
use Rattle.fd_settle.specs.Compute.{IsCertificate, IsComputed, Stop, certified, computed_of, procedure, uncertified, unless_refused}

-- ---- from its parts

module _ (limits : Limits) (v : NetworkView) where
  pub no_point : (f : SolveFault) → solution_of v limits ≡ Err f → computed_of limits v ≡ Err (procedure f)
  unfolding computed_of
  no_point f e = ap (certified v) e

  module _ (x : List ℤ) (inverse : List (List ℤ)) (reached : solution_of v limits ≡ Ok (x, inverse)) where
    pub no_certificate : (r : Refusal) → certificate_of v x inverse ≡ Err r → computed_of limits v ≡ Err (uncertified r)
    unfolding computed_of
    no_certificate r e = ap (certified v) reached ∙ ap unless_refused e

    pub one_certificate : (m : Claim) → certificate_of v x inverse ≡ Ok m → computed_of limits v ≡ Ok m
    unfolding computed_of
    one_certificate m e = ap (certified v) reached ∙ ap unless_refused e

-- ---- its parts

by_claim : (limits : Limits) (v : NetworkView) (x : List ℤ) (inverse : List (List ℤ)) (m : Claim)
    → solution_of v limits ≡ Ok (x, inverse) → certificate_of v x inverse ≡ Ok m → IsCertificate limits v m
by_claim limits v x inverse m reached certified =
    let what : claim_of v x inverse ≡ m = claim_is v x inverse m certified in
    record {
      point = reached ∙ ap (λ (k : Claim). Ok (k.centre, inverse_in k.support)) what;
      certificate = sym (ap (λ (k : Claim). certificate_of v k.centre (inverse_in k.support)) what) ∙ certified;
    }

by_refusal : (limits : Limits) (v : NetworkView) (x : List ℤ) (inverse : List (List ℤ)) (m : Claim) (r : Result Claim Refusal)
    → solution_of v limits ≡ Ok (x, inverse) → certificate_of v x inverse ≡ r → unless_refused r ≡ Ok m
    → IsCertificate limits v m
by_refusal limits v x inverse m (Ok k) reached e h = by_claim limits v x inverse m reached (let same : k ≡ m = cc h in e ∙ ap Ok same)
by_refusal limits v x inverse m (Err r) reached e h = absurd (cc h)

by_solution : (limits : Limits) (v : NetworkView) (m : Claim) (r : Result (List ℤ × List (List ℤ)) SolveFault)
    → solution_of v limits ≡ r → certified v r ≡ Ok m → IsCertificate limits v m
by_solution limits v m (Ok point) e h =
    by_refusal limits v point.0 point.1 m (certificate_of v point.0 point.1) e refl h
by_solution limits v m (Err f) e h = absurd (cc h)

pub its_certificate : (limits : Limits) (v : NetworkView) (m : Claim) → IsComputed limits v m → IsCertificate limits v m
unfolding computed_of
its_certificate limits v m h = by_solution limits v m (solution_of v limits) refl h

stopped_by : (v : NetworkView) (r : Result (List ℤ × List (List ℤ)) SolveFault) (f : SolveFault)
    → certified v r ≡ Err (procedure f) → r ≡ Err f
stopped_by v (Err g) f h = let same : g ≡ f = cc h in ap Err same
stopped_by v (Ok point) f h = absurd (refused (certificate_of v point.0 point.1) h)
  where
    refused : (r : Result Claim Refusal) → unless_refused r ≡ Err (procedure f) → ⊥
    refused (Ok m) e = cc e
    refused (Err r) e = cc e

-- it reached none
pub its_fault : (limits : Limits) (v : NetworkView) (f : SolveFault) → computed_of limits v ≡ Err (procedure f)
    → solution_of v limits ≡ Err f
unfolding computed_of
its_fault limits v f h = stopped_by v (solution_of v limits) f h
