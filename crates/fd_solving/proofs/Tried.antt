-- A state that has no certificate, as it is printed.
use Rattle.std.proofs.Common.{◌≡◌, ◌∙◌, ◌<◌, ◌≤◌, ◌^◌, ℕ, ℤ, nat_abs, nat_lt, Bool, true, List, [], length, Option}
use Rattle.std.proofs.Common.{Some, None, is_some, Result, Ok, Err, ap, refl, sym, subst, arith}
use Rattle.std.specs.Prelude.{All, pos}
use Rattle.std.proofs.lemmas.Bool.{false_from_ne_true, ltb-false}
use Rattle.std.proofs.lemmas.List.Elements.{All-get_or}
use Rattle.std.proofs.lemmas.List.FromFn.{get_or-map-range_with_len, length-map-range_with_len}
use Rattle.dss_commands.specs.fd_exact.First.{first_place}
use Rattle.dss_commands.specs.fd_exact.FirstLaws.{found}
use Rattle.dss_commands.specs.fd_exact.States.{part}
use Rattle.fd_pages.specs.dss_layout.Layout.{layout_of, size_of}
use Rattle.dss_commands.specs.dss_circuit.Circuit.{CircuitView}
use Rattle.fd_daily.specs.fd_cert.Claims.{claim_in, tried_claim}
use Rattle.fd_daily.specs.fd_cert.declared.ball.Certified.{Certified}
use Rattle.fd_daily.specs.fd_cert.declared.fault.CertFault.TheVariants as cert
use Rattle.fd_pages.specs.fd_certfile.Rounds.{IsClaimOf}
use Rattle.fd_daily.specs.fd_settings.Hours.{hour_powers}
use Rattle.fd_daily.specs.fd_enclosure.Sound.{Claim, IsByInverse, IsInverse}
use Rattle.fd_daily.specs.fd_enclosure.Sound.{certificate_of, first_loose, greatest_mismatch}
use Rattle.fd_daily.specs.fd_enclosure.Sound.{mismatch_at, mismatches_of, number_at, uncertain, unless_loose}
use Rattle.fd_daily.proofs.CallerLemmas.fd_enclosure.{sound_inverse}
use Rattle.fd_daily.specs.fd_pattern.Conditions.{IsPart, IsPoint}
use Rattle.fd_daily.specs.fd_pattern.Views.{NetworkView}
use Rattle.fd_daily.specs.fd_inject.declared.fault.SolveFault.{SolveFault}
use Rattle.fd_daily.specs.fd_inject.declared.limits.Limits.{Limits}
use Rattle.fd_daily.specs.fd_queue.Controls.{Positions}
use Rattle.fd_daily.specs.fd_queue.Machine.{Machine}
use Rattle.fd_daily.specs.fd_settle.Compute.{ComputeGives, IsUncertified}
use Rattle.fd_daily.specs.fd_settle.Contract.{CallsAs, limits_of}
use Rattle.fd_daily.specs.fd_settle.Plant.{Plant, network_at}
use Rattle.fd_daily.specs.fd_settle.Rounds.{settled}
use Rattle.fd_daily.specs.fd_settle.Start.{IsSoundAt}
use Rattle.fd_daily.specs.fd_settle.declared.compute.ComputeFault.{ComputeFault}
use Rattle.fd_daily.specs.fd_settle.declared.compute.ComputeFault.TheVariants as compute
use Rattle.fd_daily.specs.fd_settle.declared.fault.SettleFault.{SettleFault}
use Rattle.fd_daily.specs.fd_settle.declared.fault.SettleFault.TheVariants as fault
use Rattle.fd_daily.specs.fd_settle.declared.round.Round.{Round as Made}
use Rattle.fd_pages.specs.fd_report.declared.faults.Fault.{Fault}
use Rattle.fd_pages.specs.fd_outcome.Settles.{failed, round_of}
use Rattle.fd_pages.specs.Hours.{IsTriedOf, end_with}
use Rattle.fd_solving.specs.Endings.{IsTried, IsTriedAt, end_by, tried_at, tried_in}
use Rattle.fd_solving.specs.declared.faults.Failure.{Failure}
use Rattle.fd_daily.specs.Underway.{plant_at}
use Rattle.fd_solving.specs.Solving.{point_or_nothing, tried_by, tried_round}
use Rattle.fd_solving.proofs.Solutions.{network_size, part_size}

-- ---- the numbers of a claim

centre_small : (x : List ℤ) (i n : ℕ) → length x ≡ n → All IsPart x → i < n → nat_abs (part x i) ≤ 2 ^ 40
centre_small x i n long parts h =
    part_size (part x i) (All-get_or IsPart x i (pos 0) (subst (λ k. i < k) (sym long) h) parts)

-- a sound claim by an inverse can be printed
pub sound_claim : (c : CircuitView) (hour : ℕ) (at : Positions) (m : Claim) → IsByInverse m.support
    → IsSoundAt c (hour_powers c.elements hour) at m → IsClaimOf (size_of (layout_of c.elements)) m
sound_claim c hour at m inverse here = subst (λ n. IsClaimOf n m) (network_size c (hour_powers c.elements hour) at) (record {
  centre_long = here.sound.centre.long;
  radii_long = here.sound.radii_long;
  mismatches_long = here.sound.mismatches_long;
  inverse = sound_inverse (network_at c (hour_powers c.elements hour) at) m inverse here.sound;
  centre = λ i h. centre_small m.centre i _ here.sound.centre.long here.sound.centre.parts h;
  radii = here.sound.radii_most;
  mismatches = here.sound.mismatches_most;
})

module _ (v : NetworkView) (x : List ℤ) (c : List (List ℤ)) (place : ℕ) (sum : Option ℤ) where
  none_loose : (o : Option ℕ) → unless_loose v x c o ≡ Err (uncertain place sum) → o ≡ None
  none_loose None h = refl
  none_loose (Some row) h = absurd (cc h)

  not_loose : certificate_of v x c ≡ Err (uncertain place sum) → first_loose v x ≡ None
  unfolding certificate_of
  not_loose h = none_loose (first_loose v x) h

  tight_by : first_loose v x ≡ None → (l : ℕ) → l < v.size → mismatch_at v x l ≤ greatest_mismatch
  unfolding first_loose
  tight_by none l h =
      let p : ℕ → Bool = λ k. nat_lt greatest_mismatch (mismatch_at v x k) in
      ltb-false greatest_mismatch (mismatch_at v x l) (false_from_ne_true (p l) (λ t.
      let s : is_some (first_place p v.size) ≡ true = found p v.size l h t in let no : ⊥ = cc in no))

  own_mismatch : (l : ℕ) → l < v.size → number_at (mismatches_of v x) l ≡ mismatch_at v x l
  unfolding mismatches_of
  own_mismatch l h = get_or-map-range_with_len (mismatch_at v x) 0 v.size l l 0 h (omega arith)

  mismatches_long : length (mismatches_of v x) ≡ v.size
  unfolding mismatches_of
  mismatches_long = length-map-range_with_len (mismatch_at v x) 0 v.size

  own_radius : (i : ℕ) → i < v.size → number_at (tried_claim v x c).radii i ≡ 0
  own_radius i h = get_or-map-range_with_len (λ _. 0) 0 v.size i i 0 h (omega arith)

  own_claim : IsPoint v x → IsInverse v.size c → certificate_of v x c ≡ Err (uncertain place sum)
      → IsClaimOf v.size (tried_claim v x c)
  own_claim point inverse refused = record {
    centre_long = point.long;
    radii_long = length-map-range_with_len (λ _. 0) 0 v.size;
    mismatches_long = mismatches_long;
    inverse = inverse;
    centre = λ i h. centre_small x i v.size point.long point.parts h;
    radii = λ i h. let e = own_radius i h in omega (arith, e);
    mismatches = λ i h. let e = own_mismatch i h in let t = tight_by (not_loose refused) i h in omega (arith, e, t);
  }

-- a state without a certificate can be printed
claimed : (limits : Limits) (v : NetworkView) (place : ℕ) (sum : Option ℤ) (tried : Certified)
    → IsUncertified limits v (cert.NotCertified place sum tried) → IsClaimOf v.size (claim_in tried)
claimed limits v place sum tried h =
    subst (IsClaimOf v.size) (sym h.reason.tried)
    (own_claim v h.centre h.inverse place sum h.parts h.entries h.reason.refusal)

-- it is the one that the procedure reaches
pub tried_is : (limits : Limits) (v : NetworkView) (place : ℕ) (sum : Option ℤ) (tried : Certified)
    → IsUncertified limits v (cert.NotCertified place sum tried) → round_of (claim_in tried) [] ≡ tried_round v limits
tried_is limits v place sum tried h =
    ap (λ m. round_of m []) h.reason.tried
    ∙ sym (ap (λ (r : Result (List ℤ × List (List ℤ)) SolveFault). tried_by v (point_or_nothing r)) h.point)

-- an hour that failed without a state
pub end_failed : (x : Failure) (f : Fault) → x.fault ≡ f → x.tried ≡ None → end_by (Some x) ≡ failed f
end_failed x f fault_is none = ap (λ (t : Option Certified). end_with x.fault t) none ∙ ap failed fault_is

-- ---- what the solver's last call tells

abbrev pub IsTriedBy : {T : Type 0} → Limits → Plant → Result T (SettleFault ComputeFault) → Machine → Type 0
IsTriedBy limits p (Ok t) n = Unit {0}
IsTriedBy limits p (Err (fault.Solver f)) n = IsTried limits (p.network n.at) f
IsTriedBy limits p (Err (fault.Range blame)) n = Unit {0}
IsTriedBy limits p (Err (fault.Undecided control low high edge)) n = Unit {0}
IsTriedBy limits p (Err (fault.ControlLimit acts)) n = Unit {0}
IsTriedBy limits p (Err fault.NoMemory) n = Unit {0}

tried_by_solver : (limits : Limits) (v : NetworkView) (f : ComputeFault) → ComputeGives limits v (Err f)
    → IsTried limits v f
tried_by_solver limits v (compute.Solve f) h = tt
tried_by_solver limits v (compute.Cert f) h = h.0

pub tried_by_calls : {V : Type 0} (limits : Limits) (p : Plant) (v : V) (m : Machine) (rs : List Made)
    (result : Result (Unit {0}) (SettleFault ComputeFault)) (w : V)
    → CallsAs {V = V} {T = Unit {0}} (λ u net answer x. ComputeGives limits net answer) p v m rs result w
    → IsTriedBy limits p result (settled p m rs).machine
tried_by_calls limits p v m rs (Ok t) w h = tt
tried_by_calls limits p v m rs (Err (fault.Solver f)) w h =
    tried_by_solver limits (p.network (settled p m rs).machine.at) f h.last
tried_by_calls limits p v m rs (Err (fault.Range blame)) w h = tt
tried_by_calls limits p v m rs (Err (fault.Undecided control low high edge)) w h = tt
tried_by_calls limits p v m rs (Err (fault.ControlLimit acts)) w h = tt
tried_by_calls limits p v m rs (Err fault.NoMemory) w h = tt

-- ---- an hour

module _ (c : CircuitView) (hour : ℕ) where
  pub tried_as : (e : SettleFault ComputeFault) (n : Machine)
      → IsTriedBy {T = Unit {0}} (limits_of c.options) (plant_at c hour) (Err e) n → IsTriedAt c hour e n
  tried_as (fault.Solver f) n h = h
  tried_as (fault.Range blame) n h = tt
  tried_as (fault.Undecided control low high edge) n h = tt
  tried_as (fault.ControlLimit acts) n h = tt
  tried_as fault.NoMemory n h = tt

  claims_by_solver : (at : Positions) (f : ComputeFault)
      → IsTried (limits_of c.options) (network_at c (hour_powers c.elements hour) at) f
      → IsTriedOf (size_of (layout_of c.elements)) (tried_in f)
  claims_by_solver at (compute.Solve f) h = tt
  claims_by_solver at (compute.Cert (cert.Loose row mismatch)) h = tt
  claims_by_solver at (compute.Cert (cert.NotCertified place sum tried)) h =
      subst (λ n. IsClaimOf n (claim_in tried)) (network_size c (hour_powers c.elements hour) at)
      (claimed (limits_of c.options) (network_at c (hour_powers c.elements hour) at) place sum tried h)
  claims_by_solver at (compute.Cert cert.NoMemory) h = tt

  pub tried_claims : (e : SettleFault ComputeFault) (n : Machine) → IsTriedAt c hour e n
      → IsTriedOf (size_of (layout_of c.elements)) (tried_at e)
  tried_claims (fault.Solver f) n h = claims_by_solver n.at f h
  tried_claims (fault.Range blame) n h = tt
  tried_claims (fault.Undecided control low high edge) n h = tt
  tried_claims (fault.ControlLimit acts) n h = tt
  tried_claims fault.NoMemory n h = tt
