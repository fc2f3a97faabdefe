-- A command adds no more elements and Solves than its room in the script pays for.
use Rattle.std.proofs.Common.{◌≡◌, ◌∙◌, ◌+◌, ◌≤◌, ◌&&◌, ℕ, Bool, true, false, List, [], ◌∷◌, length, Option, Some, None}
use Rattle.std.proofs.Common.{Result, Ok, Err, refl, sym, ap, subst, arith, cond, inl, inr, ◌⊎◌, nat_eq, nat_le}
use Rattle.std.proofs.Common.{if◌then◌else◌}
use Rattle.std.specs.Prelude.{codes}
use Rattle.std.specs.Char.{to_ascii_lowercase}
use Rattle.std.specs.Cmp.Lexicographic.{pointwise}
use Rattle.std.specs.List.{list_all}
use Rattle.std.specs.Map.{lookup}
use Rattle.std.proofs.lemmas.Bool.{leb-true}
use Rattle.std.proofs.lemmas.List.{length-map}
use Rattle.std.proofs.lemmas.Str.{encodes_same}
use Rattle.indexmap.specs.IndexMap.{insert_entry}
use Rattle.dss_commands.specs.dss_lexer.declared.pair.Pair.{Pair}
use Rattle.dss_commands.proofs.CallerLemmas.dss_lexer.{same_from}
use Rattle.dss_commands.specs.dss_model.Answers.{◌>>=◌, or_fault}
use Rattle.dss_commands.specs.dss_model.Names.{bytes, lower, named}
use Rattle.dss_commands.specs.dss_model.declared.fault.ModelFault.{ModelFault}
use Rattle.dss_commands.specs.dss_model.declared.fault.ModelFault.TheVariants as fault
use Rattle.dss_commands.specs.dss_model.Classes.{classes}
use Rattle.dss_commands.specs.dss_model.Defaults.{default_options}
use Rattle.dss_commands.specs.dss_profile.Options.{with_options}
use Rattle.dss_commands.specs.dss_model.declared.command.Command.{Command}
use Rattle.dss_commands.specs.dss_model.declared.command.Place.{Place}
use Rattle.dss_commands.specs.dss_model.declared.command.Verb.{Verb}
use Rattle.dss_commands.specs.dss_model.declared.command.Verb.TheVariants as verb
use Rattle.dss_commands.specs.dss_model.declared.element.Element.{Element}
use Rattle.dss_commands.specs.dss_model.declared.names.ElementName.{ElementName}
use Rattle.dss_commands.specs.dss_model.SameElement.{same_element}
use Rattle.dss_commands.specs.dss_model.declared.options.Options.{Options}
use Rattle.dss_commands.specs.dss_circuit.Circuit.{CircuitView, Elements, has_circuit, source_name}
use Rattle.dss_commands.specs.Commands.{applied, applied_verb, edit, make, make_where, put, set, solve, with_pairs}
use Rattle.dss_commands.proofs.CallerLemmas.{through}
use Rattle.dss_commands.specs.Keys.{edit_key, element_key, made_key, needed, new_key, written}
use Rattle.fd_pages.specs.dss_script.Sessions.{cost}
use Rattle.dss_commands.specs.dss_model.declared.command.Blame.{Blame}
use Rattle.fd_pages.specs.fd_report.declared.faults.Cause.{Cause}
use Rattle.fd_pages.specs.fd_report.declared.faults.Cause.TheVariants as cause
use Rattle.fd_daily.specs.Hours.{hours_of}
use Rattle.fd_pages.specs.fd_outcome.Events.{Event, settle}
use Rattle.fd_pages.specs.fd_outcome.Settles.{Settle, SettleEnd, settled, failed, without_certificate}
use Rattle.fd_pages.specs.fd_outcome.Work.{Step, goes, ends}
use Rattle.fd_pages.specs.Bases.{base_events}
use Rattle.fd_pages.specs.Hours.{Kept}
use Rattle.fd_solving.specs.Answered.{solve_count}
use Rattle.fd_solving.specs.Commands.{Applied, bases_left, IsByTests, IsStep, IsStepOf, left_of, nothing_left}
use Rattle.fd_solving.specs.Commands.{refused_at, solve_left, tried}
use Rattle.fd_solving.specs.Solving.{IsBehind, IsHoursStep, IsSolutionStep, kept_first}
use Rattle.fd_solving.specs.Steps.{StandingView, behind_events, changes, refuses, standing}
use Rattle.fd_daily.specs.fd_queue.Controls.{Positions}
use Rattle.fd_solving.specs.Weights.{weight}

-- ---- a class of the profile has four letters or more

abbrev is_long : {T : Type 0} → List ℕ × T → Bool
is_long row = pointwise nat_eq (bytes row.0) row.0 && nat_le 4 (length row.0)

both : (a b : Bool) → (a && b) ≡ true → (a ≡ true) × (b ≡ true)
both true true h = (refl, refl)
both true false h = cc h
both false true h = cc h
both false false h = cc h

long_name : (name v : List ℕ) → pointwise nat_eq (bytes name) name ≡ true → nat_le 4 (length name) ≡ true
    → pointwise nat_eq name (bytes (lower v)) ≡ true → 4 ≤ length v
long_name name v plain long is =
    let same : name ≡ lower v =
    encodes_same name (lower v) (same_from (bytes name) name plain ∙ same_from name (bytes (lower v)) is) in
    let four : 4 ≤ length name = leb-true _ _ long in
    omega (arith, four, ap (λ xs. length xs) same, length-map v to_ascii_lowercase)

named_long : {T : Type 0} (table : List (List ℕ × T)) (v : List ℕ) (found : T) → list_all is_long table ≡ true
    → named table (bytes (lower v)) ≡ Some found → 4 ≤ length v
named_long [] v found h is = cc is
named_long {T} (row ∷ rows) v found h is =
    let fits = both (is_long row) (list_all is_long rows) h in
    cases fits (λ e. named_long rows v found fits.1 e) (pointwise nat_eq row.0 (bytes (lower v))) refl is
  where
    cases : ((is_long row ≡ true) × (list_all is_long rows ≡ true))
        → (named rows (bytes (lower v)) ≡ Some found → 4 ≤ length v) → (b : Bool)
        → pointwise nat_eq row.0 (bytes (lower v)) ≡ b
        → (if b then Some row.1 else named rows (bytes (lower v))) ≡ Some found → 4 ≤ length v
    cases fits rest true e is =
        let row_fits = both (pointwise nat_eq (bytes row.0) row.0) (nat_le 4 (length row.0)) fits.0 in
        long_name row.0 v row_fits.0 row_fits.1 e
    cases fits rest false e is = rest is

-- ---- what follows where nothing is refused

found_named : {A : Type 0} (e : ModelFault) (o : Option A) (a : A) → or_fault e o ≡ Ok a → o ≡ Some a
found_named e None a h = cc h
found_named e (Some x) a h = let f : x ≡ a = cc h in ap Some f

long_key : (kind name : List ℕ) (begun : Bool) (key : ElementName)
    → element_key (bytes (lower kind)) name begun ≡ Ok key → 4 ≤ length kind
unfolding lib.Utf8.encode
long_key kind name begun key h =
    let t = through _ _ key h in
    named_long classes kind t.value refl (found_named fault.UnknownClass _ t.value t.first)

long_made : (kind name : List ℕ) (begun : Bool) (key : ElementName) → made_key (bytes (lower kind)) name begun ≡ Ok key
    → 4 ≤ length kind
unfolding lib.Utf8.encode
long_made kind name begun key h = cases (pointwise nat_eq (bytes (lower kind)) (codes "circuit")) refl h
  where
    cases : (b : Bool) → pointwise nat_eq (bytes (lower kind)) (codes "circuit") ≡ b
        → (if b then Ok source_name else element_key (bytes (lower kind)) name begun) ≡ Ok key → 4 ≤ length kind
    cases true e is =
        let turned : codes "circuit" ≡ bytes (lower kind) = sym (same_from (bytes (lower kind)) (codes "circuit") e) in
        let plain : bytes (codes "circuit") ≡ codes "circuit" = refl in
        let same : codes "circuit" ≡ lower kind = encodes_same (codes "circuit") (lower kind) (plain ∙ turned) in
        let seven : length (codes "circuit") ≡ 7 = refl in
        omega (arith, seven, ap (λ xs. length xs) same, length-map kind to_ascii_lowercase)
    cases false e is = long_key kind name begun key is

long_new : (kind name : List ℕ) (begun : Bool) (key : ElementName) → new_key kind name begun ≡ Ok key → 4 ≤ length kind
long_new kind name begun key h =
    let t = through (written kind name) (λ done. made_key (bytes (lower kind)) name begun) key h in
    long_made kind name begun key t.next

-- ---- elements are as many, or one more

inserted : (elements : Elements) (name : ElementName) (element : Element)
    → length (insert_entry same_element elements name element) ≤ 1 + length elements
inserted [] name element = omega arith
inserted (e ∷ es) name element = cases (same_element name e.0) (inserted es name element)
  where
    cases : (b : Bool) → length (insert_entry same_element es name element) ≤ 1 + length es
        → length (if b then (e.0, element) ∷ es else e ∷ insert_entry same_element es name element) ≤ 1 + length
        (e ∷ es)
    cases true rest = omega arith
    cases false rest = omega (arith, rest)

replaced : (elements : Elements) (name : ElementName) (element there : Element)
    → lookup (same_element name) elements ≡ Some there
    → length (insert_entry same_element elements name element) ≤ length elements
replaced [] name element there is = cc is
replaced (e ∷ es) name element there is = cases (same_element name e.0) (replaced es name element there) is
  where
    cases : (b : Bool)
        → (lookup (same_element name) es ≡ Some there → length (insert_entry same_element es name element) ≤ length es)
        → cond b (Some e.1) (lookup (same_element name) es) ≡ Some there
        → length (if b then (e.0, element) ∷ es else e ∷ insert_entry same_element es name element) ≤ length (e ∷ es)
    cases true rest h = omega arith
    cases false rest h = omega (arith, rest h)

-- what a circuit with these elements is
abbrev with_elements : CircuitView → Elements → CircuitView
with_elements circuit elements = record circuit { elements = elements }

-- the elements are at most so many more, and the Solves as many as before
record Grows (most : ℕ) (circuit new : CircuitView) : Type 0 where
  elements : length new.elements ≤ most + length circuit.elements
  count : circuit.solves ≡ new.solves

grown : (most : ℕ) (circuit new : CircuitView) (elements : Elements) → with_elements circuit elements ≡ new
    → length elements ≤ most + length circuit.elements → Grows most circuit new
grown most circuit new elements is few =
    let same : length elements ≡ length new.elements = ap (λ (c : CircuitView). length c.elements) is in
    record { elements = omega (arith, same, few); count = ap (λ (c : CircuitView). c.solves) is }

put_more : (name : ElementName) (element : Element) (pairs : List Pair) (circuit new : CircuitView)
    → put name element pairs circuit ≡ Ok new → Grows 1 circuit new
unfolding put
put_more name element pairs circuit new h =
    let es = circuit.elements in
    let t = through (with_pairs circuit.solves es name.class pairs element)
    (λ e. Ok (with_elements circuit (insert_entry same_element es name e))) new h in
    grown 1 circuit new (insert_entry same_element es name t.value) (cc t.next) (inserted es name t.value)

put_same : (name : ElementName) (element there : Element) (pairs : List Pair) (circuit new : CircuitView)
    → lookup (same_element name) circuit.elements ≡ Some there → put name element pairs circuit ≡ Ok new
    → Grows 0 circuit new
unfolding put
put_same name element there pairs circuit new found h =
    let es = circuit.elements in
    let t = through (with_pairs circuit.solves es name.class pairs element)
    (λ e. Ok (with_elements circuit (insert_entry same_element es name e))) new h in
    grown 0 circuit new (insert_entry same_element es name t.value) (cc t.next)
    (omega (arith, replaced es name t.value there found))

make_where_more : (there : Option Element) (place : Place) (name : ElementName) (pairs : List Pair)
    (circuit new : CircuitView)
    → make_where there place name pairs circuit ≡ Ok new → Grows 1 circuit new
make_where_more None place name pairs circuit new h = put_more name _ pairs circuit new h
make_where_more (Some there) place name pairs circuit new h = cc h

make_more : (place : Place) (name : ElementName) (pairs : List Pair) (circuit new : CircuitView)
    → make place name pairs circuit ≡ Ok new → Grows 1 circuit new
unfolding make
make_more place name pairs circuit new h =
    make_where_more (lookup (same_element name) circuit.elements) place name pairs circuit new h

edit_same : (name : ElementName) (pairs : List Pair) (circuit new : CircuitView) → edit name pairs circuit ≡ Ok new
    → Grows 0 circuit new
unfolding edit
edit_same name pairs circuit new h =
    let t = through _ _ new h in
    put_same name t.value t.value pairs circuit new (found_named fault.UnknownName _ t.value t.first) t.next

-- ---- a command that is applied takes its room

-- a command takes its room, and counts a Solve
pub record Takes (v : Verb) (circuit new : CircuitView) : Type 0 where
  pub room : weight new ≤ weight circuit + cost v
  pub count : circuit.solves + solve_count v ≤ new.solves

set_takes : (place : Place) (pairs : List Pair) (circuit new : CircuitView) → set pairs circuit ≡ Ok new
    → Takes (verb.Set pairs) circuit new
unfolding set
set_takes place pairs circuit new h =
    let t = through (with_options pairs circuit.options) (λ o. Ok (record circuit { options = o })) new h in
    let is : record circuit { options = t.value } ≡ new = cc t.next in
    let elements : length circuit.elements ≡ length new.elements = ap (λ (c : CircuitView). length c.elements) is in
    let count : circuit.solves ≡ new.solves = ap (λ (c : CircuitView). c.solves) is in
    record { room = omega (arith, elements, count); count = omega (arith, count) }

solve_takes : (place : Place) (pairs : List Pair) (circuit new : CircuitView) → solve pairs circuit ≡ Ok new
    → Takes (verb.Solve pairs) circuit new
unfolding solve
solve_takes place pairs circuit new h =
    let keep : Options → Result CircuitView ModelFault =
    λ o. Ok (record circuit { options = o; solves = circuit.solves + 1 }) in
    let t = through (needed (has_circuit circuit.elements))
    (λ done. with_options pairs circuit.options >>= keep) new h in
    let u = through (with_options pairs circuit.options) keep new t.next in
    let is : record circuit { options = u.value; solves = circuit.solves + 1 } ≡ new = cc u.next in
    let elements : length circuit.elements ≡ length new.elements = ap (λ (c : CircuitView). length c.elements) is in
    let count : circuit.solves + 1 ≡ new.solves = ap (λ (c : CircuitView). c.solves) is in
    record { room = omega (arith, elements, count); count = omega (arith, count) }

pub verb_takes : (place : Place) (v : Verb) (circuit new : CircuitView) → applied_verb place v circuit ≡ Ok new
    → Takes v circuit new
verb_takes place (verb.New kind name pairs) circuit new h =
    let t = through (new_key kind name (has_circuit circuit.elements)) (λ key. make place key pairs circuit) new h in
    let long = long_new kind name (has_circuit circuit.elements) t.value t.first in
    let more = make_more place t.value pairs circuit new t.next in
    record { room = omega (arith, long, more.elements, more.count); count = omega (arith, more.count) }
verb_takes place (verb.Edit kind name pairs) circuit new h =
    let t = through (edit_key kind name (has_circuit circuit.elements)) (λ key. edit key pairs circuit) new h in
    let more = edit_same t.value pairs circuit new t.next in
    record { room = omega (arith, more.elements, more.count); count = omega (arith, more.count) }
verb_takes place (verb.Set pairs) circuit new h = set_takes place pairs circuit new h
verb_takes place (verb.Solve pairs) circuit new h = solve_takes place pairs circuit new h
verb_takes place verb.Clear circuit new h =
    let is : record circuit { elements = []; options = default_options } ≡ new = cc h in
    let elements : 0 ≡ length new.elements = ap (λ c. length c.elements) is in
    let count : circuit.solves ≡ new.solves = ap (λ c. c.solves) is in
    record { room = omega (arith, elements, count); count = omega (arith, count) }
verb_takes place verb.Bases circuit new h =
    let t = through (needed (has_circuit circuit.elements)) (λ done. Ok circuit) new h in
    let is : circuit ≡ new = cc t.next in
    let elements : length circuit.elements ≡ length new.elements = ap (λ c. length c.elements) is in
    let count : circuit.solves ≡ new.solves = ap (λ c. c.solves) is in
    record { room = omega (arith, elements, count); count = omega (arith, count) }

-- ---- so does a command after which the run goes on

abbrev pub Reaches : Applied → CircuitView → Type 0
Reaches left now = (left ≡ nothing_left now) ⊎ ((left ≡ solve_left now) ⊎ (left ≡ bases_left now))

solve_reaches : (circuit now : CircuitView) → Reaches (solve_left circuit) now → circuit ≡ now
solve_reaches circuit now h = elim h [ inl is ↦ cc is | inr more ↦ elim more [ inl is ↦ cc is | inr is ↦ cc is ] ]

bases_reaches : (circuit now : CircuitView) → Reaches (bases_left circuit) now → circuit ≡ now
bases_reaches circuit now h = elim h [ inl is ↦ cc is | inr more ↦ elim more [ inl is ↦ cc is | inr is ↦ cc is ] ]

refused_reaches : (place : Place) (c : Cause) (now : CircuitView) → Reaches (refused_at place c) now → ⊥
refused_reaches place c now h = elim h [ inl is ↦ cc is | inr more ↦ elim more [ inl is ↦ cc is | inr is ↦ cc is ] ]

nothing_reaches : (circuit now : CircuitView) → Reaches (nothing_left circuit) now → circuit ≡ now
nothing_reaches circuit now h = elim h [ inl is ↦ cc is | inr more ↦ elim more [ inl is ↦ cc is | inr is ↦ cc is ] ]

left_reaches : (place : Place) (v : Verb) (r : Result CircuitView ModelFault) (now : CircuitView)
    → Reaches (left_of place v r) now → r ≡ Ok now
left_reaches place v (Err f) now h = absurd (refused_reaches place (cause.Model f) now h)
left_reaches place verb.Bases (Ok circuit) now h = ap Ok (bases_reaches circuit now h)
left_reaches place (verb.Solve pairs) (Ok circuit) now h = ap Ok (solve_reaches circuit now h)
left_reaches place (verb.New kind name pairs) (Ok circuit) now h = ap Ok (nothing_reaches circuit now h)
left_reaches place (verb.Edit kind name pairs) (Ok circuit) now h = ap Ok (nothing_reaches circuit now h)
left_reaches place (verb.Set pairs) (Ok circuit) now h = ap Ok (nothing_reaches circuit now h)
left_reaches place verb.Clear (Ok circuit) now h = ap Ok (nothing_reaches circuit now h)

-- the circuit that stands behind a step after which the run goes on
abbrev Leaves : Step StandingView → CircuitView → Type 0
Leaves (goes events s) now = s.circuit ≡ now
Leaves (ends events f) now = ⊥

-- a step that is this one leaves what it leaves
left_by : (now : CircuitView) (step other : Step StandingView) → step ≡ other → Leaves step now → Leaves other now
left_by now step other is leaves = subst (λ s. Leaves s now) is leaves

-- events before a step leave what it leaves
behind_leaves : (now : CircuitView) (events : List Event) (step : Step StandingView)
    → Leaves (behind_events events step) now → Leaves step now
behind_leaves now events (goes more s) h = h
behind_leaves now events (ends more f) h = h

hour_leaves : (c now : CircuitView) (x : Settle) (end : SettleEnd) (rest : Step StandingView → Type 0)
    (step : Step StandingView)
    → ((more : Step StandingView) → rest more → Leaves more now → c ≡ now) → IsBehind x end rest step → Leaves step now
    → c ≡ now
hour_leaves c now x settled rest step go is h =
    go is.more is.right (behind_leaves now (settle x ∷ []) is.more (left_by now step _ is.step_is h))
hour_leaves c now x (failed f) rest step go is h = absurd (left_by now step _ is h)
hour_leaves c now x (without_certificate r f) rest step go is h = absurd (left_by now step _ is h)

hours_leave : (c now : CircuitView) (hours : List ℕ) (l : Kept) (step : Step StandingView) → IsHoursStep c hours l step
    → Leaves step now → c ≡ now
hours_leave c now [] l step is h = left_by now step _ is h
hours_leave c now (hour ∷ hours) l step is h =
    hour_leaves c now is.made is.made.end (λ s. IsHoursStep c hours is.kept s) step
    (λ more right later. hours_leave c now hours is.kept more right later) is.goes_on h

solution_leaves : (s : StandingView) (now : CircuitView) (step : Step StandingView) → IsSolutionStep s step
    → Leaves step now → s.circuit ≡ now
unfolding IsSolutionStep
solution_leaves s now step is h = hours_leave s.circuit now (hours_of s.circuit.options) (kept_first s) step is h

tests_leave : (s : StandingView) (now : CircuitView) (r : Result Unit Blame) (step : Step StandingView)
    → IsByTests s r step → Leaves step now → s.circuit ≡ now
tests_leave s now (Ok done) step is h = solution_leaves s now step is h
tests_leave s now (Err blame) step is h = absurd (left_by now step _ is h)

step_reaches : (at : Positions) (n : ℕ) (left : Applied) (step : Step StandingView) (now : CircuitView)
    → IsStepOf at n left step → Leaves step now → Reaches left now
step_reaches at n (nothing_left circuit) step now is leaves =
    inl (ap nothing_left (left_by now step (changes (standing circuit at n)) is leaves))
step_reaches at n (refused_at place c) step now is leaves = absurd (left_by now step (refuses place c) is leaves)
step_reaches at n (solve_left circuit) step now is leaves =
    inr (inl (ap solve_left (tests_leave (standing circuit at n) now is.answer step is.step_is leaves)))
step_reaches at n (bases_left circuit) step now is leaves =
    inr (inr (ap bases_left (left_by now step (goes (base_events circuit) (standing circuit at n)) is leaves)))

pub reached_takes : (command : Command) (circuit now : CircuitView) → Reaches (tried command circuit) now
    → weight now ≤ weight circuit + cost command.verb
reached_takes command circuit now reached =
    (verb_takes command.place command.verb circuit now
    (left_reaches command.place command.verb (applied command circuit) now reached)).room

pub command_takes : (command : Command) (s now : StandingView) (events : List Event)
    → IsStep command s (goes events now) → weight now.circuit ≤ weight s.circuit + cost command.verb
command_takes command s now events is =
    reached_takes command s.circuit now.circuit
    (step_reaches s.at s.settled (tried command s.circuit) (goes events now) now.circuit is refl)
