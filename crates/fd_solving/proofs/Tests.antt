-- A command comes to exactly one thing, as the tests of Solve have exactly one answer.
use Rattle.std.proofs.Common.{◌≡◌, ◌<◌, ◌+◌, ◌∙◌, ℕ, zero, suc, Bool, true, false, List, [], ◌∷◌, take, length, Option}
use Rattle.std.proofs.Common.{Some, None, Result, Ok, Err, refl, sym, ap, subst, inl, inr, nat_abs, arith}
use Rattle.std.specs.Prelude.{slice_get, option_map, get_or, All}
use Rattle.std.proofs.lemmas.Bool.{cases_order}
use Rattle.std.proofs.lemmas.Option.{slice_get_within, slice_get-get_or, get_or_from_slice_get}
use Rattle.std.proofs.lemmas.List.{get_or-take, length-take, take_all}
use Rattle.std.proofs.lemmas.List.Elements.{All-contains, All-nil}
use Rattle.dss_commands.specs.dss_model.declared.fault.ModelFault.{ModelFault}
use Rattle.dss_commands.specs.dss_model.declared.fault.ModelFault.TheVariants as fault
use Rattle.dss_commands.specs.dss_model.declared.command.Blame.{Blame}
use Rattle.dss_commands.specs.dss_model.declared.command.Command.{Command}
use Rattle.dss_commands.specs.dss_model.declared.element.Element.{Element}
use Rattle.dss_commands.specs.dss_model.declared.names.ElementName.{ElementName}
use Rattle.fd_pages.specs.dss_layout.Layout.{first_too_many, nodes_of}
use Rattle.fd_pages.specs.dss_layout.Terminals.{mentions}
use Rattle.fd_daily.specs.dss_ready.Feeding.{Fed, IsFed, IsIsolated, IsFirstIsolated, FirstIsolated}
use Rattle.fd_daily.specs.dss_ready.Labels.{labels_of, mentions_apart}
use Rattle.fd_daily.specs.dss_ready.Ready.{HasPassed, IsToBlame, for_own, for_many, for_isolated, blame_at, blame_on}
use Rattle.fd_daily.specs.dss_ready.Ready.{own_blame}
use Rattle.fd_daily.proofs.CallerLemmas.dss_ready.{fed_up_to, first_isolated_at, too_many_within}
use Rattle.dss_commands.specs.dss_circuit.Circuit.{CircuitView, Elements}
use Rattle.fd_daily.specs.fd_enclosure.Sound.{loose, uncertain}
use Rattle.fd_daily.specs.fd_inject.declared.fault.SolveFault.TheVariants as solving
use Rattle.fd_daily.specs.fd_queue.Controls.{Positions}
use Rattle.fd_daily.specs.fd_queue.Machine.{Machine}
use Rattle.fd_pages.specs.fd_report.declared.faults.Cause.TheVariants as cause
use Rattle.fd_pages.specs.fd_report.declared.faults.Fault.TheVariants as run
use Rattle.fd_daily.specs.fd_settle.Compute.{computed_of, procedure, uncertified}
use Rattle.fd_daily.specs.fd_settle.Computed.{Computation, Ending, HasOneComputation, ended, range, stopped}
use Rattle.fd_daily.specs.fd_settle.Contract.{limits_of}
use Rattle.fd_daily.proofs.CallerLemmas.fd_settle.{has_one_computation}
use Rattle.fd_daily.specs.fd_settle.Settle.{Open, Settled, Limited, Undecidable}
use Rattle.fd_daily.specs.Hours.{hours_of}
use Rattle.fd_pages.specs.fd_outcome.Events.{settle, waits}
use Rattle.fd_pages.specs.fd_outcome.Settles.{Settle, SettleEnd, settled, failed, without_certificate}
use Rattle.fd_pages.specs.fd_outcome.Work.{Step, ExactlyOne, goes, ends}
use Rattle.fd_pages.proofs.CallerLemmas.fd_outcome.{exactly_this}
use Rattle.fd_pages.specs.Bases.{base_events}
use Rattle.fd_solving.specs.Commands.{Applied, bases_left, nothing_left, solve_left, refused_at, IsByTests, IsStep}
use Rattle.fd_solving.specs.Commands.{IsStepOf, IsTested, tried}
use Rattle.fd_daily.specs.Underway.{plant_at}
use Rattle.fd_pages.specs.Hours.{Kept, hour_settle}
use Rattle.fd_daily.proofs.CallerLemmas.{begun_made}
use Rattle.fd_solving.specs.Solving.{IsBehind, IsEndBy, IsHour, IsHourStep, IsHoursStep, IsSolutionStep, begun_by}
use Rattle.fd_solving.specs.Solving.{kept_by, kept_first, rounds_of, tried_round, undecided_at, unknown_of}
use Rattle.fd_solving.specs.Steps.{StandingView, behind_events, changes, refuses, standing}
use Rattle.fd_solving.proofs.Computations.{IsTold, is_told}

-- ---- the tests of Solve have one answer

all_at : {X : Type 0} (P : X → Type 0) (xs : List X) (i : ℕ) (x : X) → All P xs → slice_get xs i ≡ Some x → P x
all_at P xs i x all is = subst P (get_or_from_slice_get xs i x x is) (all i x (slice_get_within xs i x is))

-- an element before the place up to which each is so
all_before : {X : Type 0} (P : X → Type 0) (xs : List X) (i k : ℕ) (x : X) → All P (take k xs) → slice_get xs i ≡ Some x
    → i < k → P x
all_before P xs i k x all is lt =
    let inside : i < length xs = slice_get_within xs i x is in
    let within : i < length (take k xs) = omega (arith, length-take k xs, inside, lt) in
    subst P (get_or-take k xs i x lt ∙ get_or_from_slice_get xs i x x is) (all i x within)

not_fed : (elements : Elements) (e : ElementName × Element) → IsFed elements e → IsIsolated elements e → ⊥
not_fed elements e fed isolated =
    isolated.is_not_fed (All-contains (Fed elements) (mentions e.1) isolated.node fed isolated.is_mentioned)

none_isolated : (elements : Elements) (place : ℕ) → FirstIsolated elements None → IsFirstIsolated elements place → ⊥
none_isolated elements place fed first =
    not_fed elements first.element (all_at (IsFed elements) elements place first.element fed first.at_place)
    first.is_isolated

isolated_later : (elements : Elements) (i k : ℕ) → IsFirstIsolated elements i → IsFirstIsolated elements k → i < k → ⊥
isolated_later elements i k a b lt =
    not_fed elements a.element (all_before (IsFed elements) elements i k a.element b.before a.at_place lt) a.is_isolated

isolated_once : (elements : Elements) (i k : ℕ) → IsFirstIsolated elements i → IsFirstIsolated elements k → i ≡ k
isolated_once elements i k a b = elim (cases_order i k) [
  | inl same ↦ same
  | inr differs ↦ elim differs [
    | inl lt ↦ absurd (isolated_later elements i k a b lt)
    | inr gt ↦ absurd (isolated_later elements k i b a gt)
  ]
]

same_blame : {A : Type 0} (x y : Option A) (a b : A) → x ≡ y → x ≡ Some a → y ≡ Some b → a ≡ b
same_blame x y a b e h k = let f : Some a ≡ Some b = sym h ∙ e ∙ k in cc f

same_place : (place other : ℕ) (x : Option ℕ) → x ≡ Some place → x ≡ Some other → place ≡ other
same_place place other x h k = let f : Some place ≡ Some other = sym h ∙ k in cc f

own_and_none : {A B : Type 0} (own : Result A B) (a : A) (b : B) → own ≡ Ok a → own ≡ Err b → ⊥
own_and_none own a b h k = let f = sym h ∙ k in cc f

module _ (circuit : CircuitView) where
  blame_once : (a b : Blame) → IsToBlame circuit a → IsToBlame circuit b → a ≡ b
  blame_once a b (for_own x h) (for_own y k) = let f = sym h ∙ k in cc f
  blame_once a b (for_own x h) (for_many y p k m e) = absurd (own_and_none (own_blame circuit) tt x k h)
  blame_once a b (for_own x h) (for_isolated y p k n i e) = absurd (own_and_none (own_blame circuit) tt x k h)
  blame_once a b (for_many x p h m e) (for_own y k) = absurd (own_and_none (own_blame circuit) tt y h k)
  blame_once a b (for_many x p h m e) (for_many y q k n g) =
      same_blame _ _ x y (ap (λ i. blame_at fault.TooMany circuit.elements i) (same_place p q _ m n)) e g
  blame_once a b (for_many x p h m e) (for_isolated y q k n i g) = let f : Some p ≡ None = sym m ∙ n in cc f
  blame_once a b (for_isolated x p h m i e) (for_own y k) = absurd (own_and_none (own_blame circuit) tt y h k)
  blame_once a b (for_isolated x p h m i e) (for_many y q k n g) = let f : Some q ≡ None = sym n ∙ m in cc f
  blame_once a b (for_isolated x p h m i e) (for_isolated y q k n j g) =
      same_blame _ _ x y
      (ap (λ l. blame_at fault.IsolatedNode circuit.elements l) (isolated_once circuit.elements p q i j)) e g

  ready_or_blame : (a : Blame) → HasPassed circuit → IsToBlame circuit a → ⊥
  ready_or_blame a ready (for_own x h) = own_and_none (own_blame circuit) tt x ready.no_own h
  ready_or_blame a ready (for_many x p h m e) = let f : Some p ≡ None = sym m ∙ ready.not_many in cc f
  ready_or_blame a ready (for_isolated x p h m i e) = none_isolated circuit.elements p ready.all_fed i

  pub test_once : (a b : Result Unit Blame) → IsTested circuit a → IsTested circuit b → a ≡ b
  test_once (Ok x) (Ok y) h k = refl
  test_once (Ok x) (Err y) h k = absurd (ready_or_blame y h k)
  test_once (Err x) (Ok y) h k = absurd (ready_or_blame x k h)
  test_once (Err x) (Err y) h k = ap Err (blame_once x y h k)

-- ---- the tests of Solve have an answer

-- what stands at a place of a list
record HasElement {X : Type 0} (xs : List X) (i : ℕ) : Type 0 where
  element : X
  at_place : slice_get xs i ≡ Some element

element_at : {X : Type 0} (xs : List X) (i : ℕ) → i < length xs → HasElement xs i
element_at [] i h = absurd (omega (arith, h))
element_at (x ∷ xs) i h = record { element = get_or (x ∷ xs) i x; at_place = slice_get-get_or (x ∷ xs) i x h }

-- the first element that isn't fed, or none
record IsSearched (elements : Elements) : Type 0 where
  place : Option ℕ
  right : FirstIsolated elements place

module _ (elements : Elements) where
  -- the element at this place is the first that isn't fed, or it is fed and the search goes on
  search_at : (k : ℕ) (name : ElementName) (e : Element) (b : Bool) → slice_get elements k ≡ Some (name, e)
      → b ≡ mentions_apart (nodes_of elements) (labels_of (nodes_of elements) elements) e
      → All (IsFed elements) (take k elements)
      → (All (IsFed elements) (take (k + 1) elements) → IsSearched elements) → IsSearched elements
  search_at k name e true here test fed go = record {
    place = Some k;
    right = first_isolated_at elements k name e (nodes_of elements)
        (labels_of (nodes_of elements) elements) true here refl refl test refl fed;
  }
  search_at k name e false here test fed go =
      go (fed_up_to elements k name e (nodes_of elements) (labels_of (nodes_of elements) elements) false here refl
      refl test refl fed)

  -- the search goes on with so many elements, where those before them are fed
  search_from : (n k : ℕ) → n + k ≡ length elements → All (IsFed elements) (take k elements) → IsSearched elements
  search_from zero k h fed =
      record { place = None; right = subst (All (IsFed elements)) (take_all k elements (omega (arith, h))) fed }
  search_from (suc n) k h fed =
      let here = element_at elements k (omega (arith, h)) in
      search_at k here.element.0 here.element.1 _ here.at_place refl fed
      (λ more. search_from n (k + 1) (omega (arith, h)) more)

  searched : IsSearched elements
  searched = search_from (length elements) 0 (omega arith) (All-nil (IsFed elements))

-- who is to blame at a place
record HasBlame (cause : ModelFault) (elements : Elements) (place : ℕ) : Type 0 where
  blame : Blame
  is : blame_at cause elements place ≡ Some blame

blame_for : (cause : ModelFault) (elements : Elements) (place : ℕ) (entry : ElementName × Element)
    → slice_get elements place ≡ Some entry → HasBlame cause elements place
blame_for cause elements place entry here =
    record { blame = blame_on cause entry; is = ap (option_map (blame_on cause)) here }

pub record HasAnswer (circuit : CircuitView) : Type 0 where
  pub answer : Result Unit Blame
  pub right : IsTested circuit answer

module _ (circuit : CircuitView) where
  answer_by_feeding : own_blame circuit ≡ Ok tt → first_too_many circuit.elements ≡ None → (found : Option ℕ)
      → FirstIsolated circuit.elements found → HasAnswer circuit
  answer_by_feeding own few None fed =
      record { answer = Ok tt; right = record { no_own = own; not_many = few; all_fed = fed } }
  answer_by_feeding own few (Some k) first =
      let by = blame_for fault.IsolatedNode circuit.elements k first.element first.at_place in
      record { answer = Err by.blame; right = for_isolated by.blame k own few first by.is }

  answer_by_limits : own_blame circuit ≡ Ok tt → (past : Option ℕ) → first_too_many circuit.elements ≡ past
      → HasAnswer circuit
  answer_by_limits own None is = let s = searched circuit.elements in answer_by_feeding own is s.place s.right
  answer_by_limits own (Some k) is =
      let here = element_at circuit.elements k (too_many_within circuit.elements k is) in
      let by = blame_for fault.TooMany circuit.elements k here.element here.at_place in
      record { answer = Err by.blame; right = for_many by.blame k own is by.is }

  answer_of_tests : (own : Result Unit Blame) → own_blame circuit ≡ own → HasAnswer circuit
  answer_of_tests (Err blame) is = record { answer = Err blame; right = for_own blame is }
  answer_of_tests (Ok x) is = answer_by_limits is (first_too_many circuit.elements) refl

pub tests_answer : (circuit : CircuitView) → HasAnswer circuit
tests_answer circuit = answer_of_tests circuit (own_blame circuit) refl

-- ---- a Solve

one_end : (c : CircuitView) (hour : ℕ) (ending : Ending) (n : Machine) → IsTold ending
    → ExactlyOne (IsEndBy c hour ending n)
one_end c hour (ended Open) n told = absurd told
one_end c hour (ended Settled) n told = exactly_this settled
one_end c hour (ended Limited) n told = exactly_this (failed (run.ControlLimit n.made))
one_end c hour (ended (Undecidable k u)) n told = exactly_this (failed (undecided_at c k u))
one_end c hour (range blame) n told = exactly_this (failed (run.Script blame.place (cause.Model blame.cause)))
one_end c hour (stopped (procedure (solving.NoInverse column stop))) n told =
    exactly_this (failed (run.NoInverse (unknown_of c column) stop))
one_end c hour (stopped (procedure (solving.OutOfRange place k))) n told =
    exactly_this (failed (run.OutOfRange (unknown_of c place) k))
one_end c hour (stopped (procedure (solving.NotConverged place steps update))) n told =
    exactly_this (failed (run.NotConverged (unknown_of c place) steps update))
one_end c hour (stopped (procedure solving.NoMemory)) n told = absurd told
one_end c hour (stopped (uncertified (loose row mismatch))) n told =
    exactly_this (failed (run.Loose (unknown_of c row) mismatch))
one_end c hour (stopped (uncertified (uncertain place bound))) n told =
    exactly_this (without_certificate (tried_round ((plant_at c hour).network n.at) (limits_of c.options))
    (run.NotCertified (unknown_of c place) (option_map nat_abs bound)))

-- what comes behind a settle
one_behind : (x : Settle) (end : SettleEnd) (rest : Step StandingView → Type 0) → ExactlyOne rest
    → ExactlyOne (IsBehind x end rest)
one_behind x settled rest one = record {
  some = behind_events (settle x ∷ []) one.some;
  is = record { more = one.some; right = one.is; step_is = refl };
  only = λ step is. is.step_is ∙ ap (behind_events (settle x ∷ [])) (one.only is.more is.right);
}
one_behind x (failed f) rest one = exactly_this (ends (settle x ∷ []) f)
one_behind x (without_certificate r f) rest one = exactly_this (ends (settle x ∷ []) f)

module _ (c : CircuitView) (hour : ℕ) (l : Kept)
    (one : HasOneComputation (computed_of (limits_of c.options)) (plant_at c hour) (begun_by c hour l).machine) where
  abbrev only_end : ExactlyOne (IsEndBy c hour one.some.ending one.some.machine)
  only_end =
      one_end c hour one.some.ending one.some.machine (is_told (limits_of c.options) (plant_at c hour)
      (begun_by c hour l).machine one.some.rounds one.some.ending one.some.machine one.is)

  abbrev only_settle : Settle
  only_settle = hour_settle c hour (begun_by c hour l) (rounds_of one.some.rounds) only_end.some one.some.machine.at

  abbrev only_kept : Kept
  only_kept = kept_by l one.some.machine

  is_hour : IsHour c hour l only_settle only_kept
  is_hour = record {
    rounds = one.some.rounds;
    ending = one.some.ending;
    machine = one.some.machine;
    computed = one.is;
    end = only_end.some;
    end_is = only_end.is;
    settle_is = refl;
    kept = refl;
  }

  module _ (x : Settle) (k : Kept) (h : IsHour c hour l x k) where
    abbrev made : Computation
    made = record { rounds = h.rounds; ending = h.ending; machine = h.machine }

    same : made ≡ one.some
    same = one.only made h.computed

    same_end : h.end ≡ only_end.some
    same_end = only_end.only h.end (subst (λ (m : Computation). IsEndBy c hour m.ending m.machine h.end) same h.end_is)

    same_settle : x ≡ only_settle
    same_settle =
        h.settle_is
        ∙ ap (λ (m : Computation). hour_settle c hour (begun_by c hour l) (rounds_of m.rounds) h.end m.machine.at) same
        ∙ ap
        (λ (e : SettleEnd). hour_settle c hour (begun_by c hour l)
        (rounds_of one.some.rounds) e one.some.machine.at) same_end

    same_kept : k ≡ only_kept
    same_kept = h.kept ∙ ap (λ (m : Computation). kept_by l m.machine) same

  one_hour : (rest : Kept → Step StandingView → Type 0) → ((k : Kept) → ExactlyOne (rest k))
      → ExactlyOne (IsHourStep c hour l rest)
  one_hour rest one_rest =
      let by = one_behind only_settle only_end.some (rest only_kept) (one_rest only_kept) in
      record {
        some = by.some;
        is = record { made = only_settle; kept = only_kept; is = is_hour; goes_on = by.is };
        only = λ step h. by.only step
            (subst (λ (k : Kept). IsBehind only_settle only_settle.end (rest k) step) (same_kept h.made h.kept h.is)
            (subst (λ (x : Settle). IsBehind x x.end (rest h.kept) step) (same_settle h.made h.kept h.is) h.goes_on));
      }

-- the hours of a Solve come to exactly one thing
pub one_hours : (c : CircuitView) (hours : List ℕ) (l : Kept) → ExactlyOne (IsHoursStep c hours l)
one_hours c [] l = exactly_this (goes (waits c l.machine.queue ∷ []) (standing c l.machine.at l.settled))
one_hours c (hour ∷ hours) l =
    one_hour c hour l
    (has_one_computation (computed_of (limits_of c.options)) (plant_at c hour) (begun_by c hour l).machine
    (omega (arith, begun_made c hour l.machine)))
    (λ k step. IsHoursStep c hours k step) (λ k. one_hours c hours k)

pub one_solution : (s : StandingView) → ExactlyOne (IsSolutionStep s)
unfolding IsSolutionStep
one_solution s = one_hours s.circuit (hours_of s.circuit.options) (kept_first s)

one_by_tests : (s : StandingView) (answer : Result Unit Blame) → ExactlyOne (IsByTests s answer)
one_by_tests s (Ok done) = one_solution s
one_by_tests s (Err blame) = exactly_this (refuses blame.place (cause.Model blame.cause))

-- ---- a command

one_of : (at : Positions) (settled_so : ℕ) (left : Applied) → ExactlyOne (IsStepOf at settled_so left)
one_of at n (nothing_left circuit) = exactly_this (changes (standing circuit at n))
one_of at n (refused_at place c) = exactly_this (refuses place c)
one_of at n (bases_left circuit) = exactly_this (goes (base_events circuit) (standing circuit at n))
one_of at n (solve_left circuit) =
    let tests = tests_answer circuit in
    let one = one_by_tests (standing circuit at n) tests.answer in
    record {
      some = one.some;
      is = record { answer = tests.answer; right = tests.right; step_is = one.is };
      only = λ step is.
          one.only step (subst (λ a. IsByTests (standing circuit at n) a step)
          (test_once circuit is.answer tests.answer is.right tests.right) is.step_is);
    }

pub one_step : (command : Command) (s : StandingView) → ExactlyOne (IsStep command s)
one_step command s = one_of s.at s.settled (tried command s.circuit)
