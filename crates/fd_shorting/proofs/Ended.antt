-- What the end of a script comes to, by the tests and the circuit of the short circuit.
use Rattle.std.proofs.Common.{◌≡◌, ◌∙◌, ℕ, Bool, true, false, [], ◌∷◌, Option, Some, None, IsSome, Ok, Err, refl, sym}
use Rattle.std.proofs.Common.{ap, subst}
use Rattle.fd_fault.specs.dss_model.declared.command.Blame.{Blame}
use Rattle.fd_fault.specs.dss_model.declared.fault.ModelFault.TheVariants as model
use Rattle.fd_fault.specs.dss_circuit.Circuit.{CircuitView, Elements, has_circuit}
use Rattle.fd_fault.specs.dss_layout.Layout.{first_too_many}
use Rattle.fd_fault.specs.dss_ready.Ready.{HasPassed, IsToBlame}
use Rattle.fd_fault.specs.declared.fault.CircuitFault.{CircuitFault}
use Rattle.fd_fault.specs.declared.fault.CircuitFault.TheVariants as circuit
use Rattle.fd_fault.specs.FaultCircuit.{IsCircuitFault, IsFaultCircuit, fault_elements, first_missing}
use Rattle.fd_fault.specs.ShortNames.{IsShortName}
use Rattle.fd_fault.proofs.CallerLemmas.{first_is}
use Rattle.fd_solving.specs.fd_report.declared.faults.Cause.TheVariants as cause
use Rattle.fd_solving.specs.fd_report.declared.faults.Fault.{Fault}
use Rattle.fd_solving.specs.fd_report.declared.faults.Fault.TheVariants as fault
use Rattle.fd_solving.specs.fd_outcome.Events.{History, ended}
use Rattle.fd_solving.specs.Answered.{IsOfCommand}
use Rattle.fd_shorting.specs.Placed.{IsEndWith, IsTestedAs, IsUnplaced}
use Rattle.fd_shorting.specs.Shorting.{IsAsked, IsByCircuit, IsPlaced, IsSolvedOnce, IsWithin, ShortingView, at_master}
use Rattle.fd_shorting.specs.Shorting.{snapshot, too_many}

-- ---- the tests

no_circuit : (es : Elements) → es ≡ [] → has_circuit es ≡ false
no_circuit es e = ap has_circuit e

pub some_circuit : (es : Elements) → (es ≡ [] → ⊥) → has_circuit es ≡ true
some_circuit [] some = absurd (some refl)
some_circuit (e ∷ es) some = refl

of_command : (f g : Fault) → f ≡ g → IsOfCommand g → IsOfCommand f
of_command f g e h = subst IsOfCommand (sym e) h

end_as : (s : ShortingView) (f g : Fault) → f ≡ g → IsEndWith s g → IsEndWith s f
end_as s f g e h = subst (IsEndWith s) (sym e) h

pub no_circuit_end : (s : ShortingView) (f : Fault) → s.circuit.elements ≡ []
    → f ≡ fault.Script (at_master s) (cause.Model model.NoCircuit) → IsEndWith s f
no_circuit_end s f none e =
    end_as s f _ e (record {
      right = subst
          (λ (b : Bool). IsByCircuit s b (ended [] (fault.Script (at_master s) (cause.Model model.NoCircuit))))
          (sym (no_circuit s.circuit.elements none)) refl;
      of_command = tt;
    })

pub blamed_end : (s : ShortingView) (blame : Blame) → has_circuit s.circuit.elements ≡ true → IsToBlame s.circuit blame
    → IsEndWith s (fault.Script blame.place (cause.Model blame.cause))
blamed_end s blame has right = record {
  right = subst (λ (b : Bool). IsByCircuit s b (ended [] (fault.Script blame.place (cause.Model blame.cause))))
      (sym has)
      (record { answer = Err blame; right = right; then_is = refl });
  of_command = tt;
}

-- no fault was found in the tests
pub no_fault : (s : ShortingView) (found : Option Fault) → IsTestedAs s found → ((f : Fault) → found ≡ Some f → ⊥)
    → (has_circuit s.circuit.elements ≡ true) × HasPassed s.circuit
no_fault s None tested none = tested
no_fault s (Some f) tested none = absurd (none f refl)

-- ---- the circuit of the short circuit

module _ (s : ShortingView) (has : has_circuit s.circuit.elements ≡ true) (passed : HasPassed s.circuit) where
  by_tests : (h : History) → IsAsked s (first_missing s.circuit.elements s.bus s.kind) h
      → IsByCircuit s (has_circuit s.circuit.elements) h
  by_tests h is =
      subst (λ (b : Bool). IsByCircuit s b h) (sym has) (record { answer = Ok tt; right = passed; then_is = is })

  by_missing : (missing : Option ℕ) (h : History) → first_missing s.circuit.elements s.bus s.kind ≡ missing
      → IsAsked s missing h
      → IsByCircuit s (has_circuit s.circuit.elements) h
  by_missing missing h e is = by_tests h (subst (λ (o : Option ℕ). IsAsked s o h) (sym e) is)

  by_name : (k : ℕ) (past : Option ℕ) (h : History) → first_missing s.circuit.elements s.bus s.kind ≡ None
      → IsShortName s.circuit.elements k → first_too_many (fault_elements s.circuit.elements s.bus s.kind k) ≡ past
      → IsWithin s k past h → IsByCircuit s (has_circuit s.circuit.elements) h
  by_name k past h there name e is =
      by_missing None h there
      (subst (λ (o : Option ℕ). IsPlaced s o h) (sym (first_is s.circuit.elements k name))
      (subst (λ (o : Option ℕ). IsWithin s k o h) (sym e) is))

  past_by : (k : ℕ) (past : Option ℕ) → first_missing s.circuit.elements s.bus s.kind ≡ None
      → IsShortName s.circuit.elements k
      → first_too_many (fault_elements s.circuit.elements s.bus s.kind k) ≡ past → IsSome past
      → IsByCircuit s (has_circuit s.circuit.elements) (ended [] (too_many s))
  past_by k None there name e some = absurd (cc some)
  past_by k (Some place) there name e some = by_name k (Some place) (ended [] (too_many s)) there name e refl

  pub unplaced_end : (why : CircuitFault) (f : Fault) → IsCircuitFault s.circuit s.bus s.kind why → IsUnplaced s why f
      → IsEndWith s f
  unplaced_end (circuit.NoNode number) f is e =
      end_as s f (fault.NoSuchNode (record { bus = s.bus; number = number })) e
      (record { right = by_missing (Some number) _ is refl; of_command = tt })
  unplaced_end circuit.TooMany f is e =
      end_as s f (too_many s) e (record {
        right = past_by is.number
            (first_too_many (fault_elements s.circuit.elements s.bus s.kind is.number)) is.nodes is.name refl is.past;
        of_command = tt;
      })
  unplaced_end circuit.NoMemory f is e = absurd e

  pub placed_well : (made c : CircuitView) → IsFaultCircuit s.circuit s.bus s.kind made → HasPassed made
      → c ≡ snapshot made
      → HasPassed c × ((h : History) → IsSolvedOnce c h → IsByCircuit s (has_circuit s.circuit.elements) h)
  placed_well made c is ready e = (
    subst HasPassed (sym e) (record { no_own = ready.no_own; not_many = ready.not_many; all_fed = ready.all_fed }),
    λ h solved.
        by_name is.number None h is.nodes is.name
        (sym (ap (λ (x : CircuitView). first_too_many x.elements) is.is) ∙ ready.not_many)
        (subst (λ (x : CircuitView). IsSolvedOnce x h) (e ∙ ap snapshot is.is) solved),
  )
