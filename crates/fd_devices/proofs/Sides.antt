-- How many nodes an element whose terminals have no fault has at each bus.
use Rattle.std.proofs.Common.{◌≡◌, ℕ, ◌==◌, ◌≤◌, nat_le, Bool, true, false, ◌&&◌, inl, inr, if◌then◌else◌, List, [], ◌∷◌, length, take, Option, Some, None, Result, Ok, Err, refl, sym, ap, subst, ◌∙◌}
use Rattle.std.proofs.lemmas.Bool.{eqb-true}
use Rattle.std.proofs.lemmas.List.{length-map, length-take-le}
use Rattle.fd_xfmr.specs.fd_system.Terminals.{node_count}
use Rattle.dss_layout.specs.dss_model.declared.bus.Bus.{Bus}
use Rattle.dss_layout.specs.dss_model.declared.words.Connection.{Connection}
use Rattle.dss_layout.specs.dss_model.declared.words.Connection.TheVariants.{Wye, Delta}
use Rattle.dss_layout.specs.dss_model.Ranges.{IsOneOf}
use Rattle.dss_layout.specs.dss_model.InRange.{ElementInRange}
use Rattle.dss_layout.specs.dss_model.declared.element.Element.{Element}
use Rattle.dss_layout.specs.dss_model.declared.element.Element.TheVariants as the
use Rattle.dss_layout.specs.declared.terminals.Terminals.{Terminals}
use Rattle.dss_layout.specs.declared.numbers.TerminalFault.{TerminalFault}
use Rattle.dss_layout.specs.declared.numbers.TerminalFault.TheVariants.{WrongCount, Unsupported}
use Rattle.dss_layout.specs.Terminals.{three_phase_numbers, one_phase_numbers, phase_numbers, one_source_number, source_numbers, line_numbers, bus_numbers, at_one_bus, at_two_buses, terminal_numbers, tested, first_bus, second_bus, named_at, nodes_by, terminals_of}

-- ---- the numbers of one bus

-- whatever is given, a rule that has no fault gives m numbers
abbrev Counts : (List ℕ → Result (List ℕ) TerminalFault) → ℕ → Type 0
Counts rule m = (given numbers : List ℕ) → rule given ≡ Ok numbers → length numbers ≡ m

-- the numbers in an answer
counted : (ms numbers : List ℕ) (m : ℕ) → ◌≡◌ {A = Result (List ℕ) TerminalFault} (Ok ms) (Ok numbers) → length ms ≡ m → length numbers ≡ m
counted ms numbers m h l = let e : ms ≡ numbers = cc in sym (ap length e) ∙ l

counted_if : (b : Bool) (ms numbers : List ℕ) (m : ℕ) (fault : TerminalFault)
    → ◌≡◌ {A = Result (List ℕ) TerminalFault} (if b then Ok ms else Err fault) (Ok numbers) → length ms ≡ m → length numbers ≡ m
counted_if true ms numbers m fault h l = counted ms numbers m h l
counted_if false ms numbers m fault h l = cc

three_counts : Counts three_phase_numbers 3
three_counts [] numbers h = counted (1 ∷ 2 ∷ 3 ∷ []) numbers 3 h refl
three_counts (a ∷ []) numbers h = cc
three_counts (a ∷ b ∷ []) numbers h = cc
three_counts (a ∷ b ∷ c ∷ []) numbers h = counted (a ∷ b ∷ c ∷ []) numbers 3 h refl
three_counts (a ∷ b ∷ c ∷ d ∷ []) numbers h = counted_if (d == 0) (a ∷ b ∷ c ∷ []) numbers 3 Unsupported h refl
three_counts (a ∷ b ∷ c ∷ d ∷ e ∷ more) numbers h = cc

one_counts : (connection : Connection) → Counts (one_phase_numbers connection) 2
one_counts Wye [] numbers h = counted (1 ∷ 0 ∷ []) numbers 2 h refl
one_counts Wye (a ∷ []) numbers h = counted (a ∷ 0 ∷ []) numbers 2 h refl
one_counts Wye (a ∷ b ∷ []) numbers h = counted (a ∷ b ∷ []) numbers 2 h refl
one_counts Wye (a ∷ b ∷ c ∷ more) numbers h = cc
one_counts Delta [] numbers h = counted (1 ∷ 2 ∷ []) numbers 2 h refl
one_counts Delta (a ∷ []) numbers h = cc
one_counts Delta (a ∷ b ∷ []) numbers h = counted (a ∷ b ∷ []) numbers 2 h refl
one_counts Delta (a ∷ b ∷ c ∷ more) numbers h = cc

phase_counts : (phases : ℕ) (connection : Connection) → IsOneOf (1 ∷ 3 ∷ []) phases → Counts (phase_numbers phases connection) (node_count phases)
phase_counts phases connection (inl h) = subst (λ n. Counts (phase_numbers n connection) (node_count n)) (sym h) (one_counts connection)
phase_counts phases connection (inr h) = subst (λ n. Counts (phase_numbers n connection) (node_count n)) (sym h) three_counts

one_source_counts : Counts one_source_number 1
one_source_counts [] numbers h = counted (1 ∷ []) numbers 1 h refl
one_source_counts (a ∷ []) numbers h = counted (a ∷ []) numbers 1 h refl
one_source_counts (a ∷ b ∷ []) numbers h = counted_if (b == 0) (a ∷ []) numbers 1 Unsupported h refl
one_source_counts (a ∷ b ∷ c ∷ more) numbers h = cc

source_counts : (phases : ℕ) → IsOneOf (1 ∷ 3 ∷ []) phases → Counts (source_numbers phases) phases
source_counts phases (inl h) = subst (λ n. Counts (source_numbers n) n) (sym h) one_source_counts
source_counts phases (inr h) = subst (λ n. Counts (source_numbers n) n) (sym h) three_counts

line_counts : (phases : ℕ) → phases ≤ 3 → Counts (line_numbers phases) phases
line_counts phases few [] numbers h = counted (take phases (1 ∷ 2 ∷ 3 ∷ [])) numbers phases h (length-take-le phases (1 ∷ 2 ∷ 3 ∷ []) few)
line_counts phases few (a ∷ given) numbers h = by (length (a ∷ given) == phases) (nat_le phases 3) refl h
  where
    by : (b c : Bool) → (length (a ∷ given) == phases) ≡ b
        → ◌≡◌ {A = Result (List ℕ) TerminalFault} (if b && c then Ok (a ∷ given) else Err WrongCount) (Ok numbers) → length numbers ≡ phases
    by true c is g = counted_if c (a ∷ given) numbers phases WrongCount g (eqb-true (length (a ∷ given)) phases is)
    by false c is g = cc

-- ---- both buses

-- this many nodes at the first bus and at the second
pub record HasCounts (first second : ℕ) (t : Terminals) : Type 0 where
  pub at_first : length t.first ≡ first
  pub at_second : length t.second ≡ second

length-named_at : (bus : Bus) (given : Option Bus) (numbers : List ℕ) (m : ℕ) → given ≡ Some bus → length numbers ≡ m → length (named_at given numbers) ≡ m
length-named_at bus given numbers m is l = ap (λ b. length (named_at b numbers)) is ∙ length-map numbers _ ∙ l

module _ (e : Element) where
  one_side : (rule : List ℕ → Result (List ℕ) TerminalFault) (bus : Option Bus) (m : ℕ) → first_bus e ≡ bus → second_bus e ≡ None → Counts rule m
      → tested (at_one_bus (bus_numbers rule bus)) ≡ Ok tt
      → HasCounts m 0 (nodes_by e (at_one_bus (bus_numbers rule bus)))
  one_side rule None m first second counts h = cc
  one_side rule (Some bus) m first second counts h = by (rule bus.nodes) refl h
    where
      by : (answer : Result (List ℕ) TerminalFault) → rule bus.nodes ≡ answer → tested (at_one_bus answer) ≡ Ok tt
          → HasCounts m 0 (nodes_by e (at_one_bus answer))
      by (Ok numbers) is g = record {
        at_first = length-named_at bus (first_bus e) numbers m first (counts bus.nodes numbers is);
        at_second = ap (λ b. length (named_at b [])) second;
      }
      by (Err fault) is g = cc

  two_sides : (rule also : List ℕ → Result (List ℕ) TerminalFault) (bus other : Option Bus) (m : ℕ) → first_bus e ≡ bus → second_bus e ≡ other
      → Counts rule m → Counts also m
      → tested (at_two_buses (bus_numbers rule bus) (bus_numbers also other)) ≡ Ok tt
      → HasCounts m m (nodes_by e (at_two_buses (bus_numbers rule bus) (bus_numbers also other)))
  two_sides rule also None other m first second counts also_counts h = refused (bus_numbers also other) h
    where
      refused : (answer : Result (List ℕ) TerminalFault) → tested (at_two_buses (Err WrongCount) answer) ≡ Ok tt
          → HasCounts m m (nodes_by e (at_two_buses (Err WrongCount) answer))
      refused (Ok numbers) g = cc
      refused (Err fault) g = cc
  two_sides rule also (Some bus) None m first second counts also_counts h = refused (rule bus.nodes) h
    where
      refused : (answer : Result (List ℕ) TerminalFault) → tested (at_two_buses answer (Err WrongCount)) ≡ Ok tt
          → HasCounts m m (nodes_by e (at_two_buses answer (Err WrongCount)))
      refused (Ok numbers) g = cc
      refused (Err WrongCount) g = cc
      refused (Err Unsupported) g = cc
  two_sides rule also (Some bus) (Some other) m first second counts also_counts h = by (rule bus.nodes) (also other.nodes) refl refl h
    where
      by : (answer other_answer : Result (List ℕ) TerminalFault) → rule bus.nodes ≡ answer → also other.nodes ≡ other_answer
          → tested (at_two_buses answer other_answer) ≡ Ok tt → HasCounts m m (nodes_by e (at_two_buses answer other_answer))
      by (Ok numbers) (Ok more) is also_is g = record {
        at_first = length-named_at bus (first_bus e) numbers m first (counts bus.nodes numbers is);
        at_second = length-named_at other (second_bus e) more m second (also_counts other.nodes more also_is);
      }
      by (Ok numbers) (Err fault) is also_is g = cc
      by (Err WrongCount) (Ok more) is also_is g = cc
      by (Err WrongCount) (Err fault) is also_is g = cc
      by (Err Unsupported) (Ok more) is also_is g = cc
      by (Err Unsupported) (Err WrongCount) is also_is g = cc
      by (Err Unsupported) (Err Unsupported) is also_is g = cc

-- ---- elements

-- how many nodes an element has at its first bus
abbrev pub first_count : Element → ℕ
first_count (the.Vsource v) = v.phases
first_count (the.Line l) = l.phases
first_count (the.Transformer t) = node_count t.phases
first_count (the.Capacitor c) = node_count c.phases
first_count (the.Load l) = node_count l.phases
first_count other = 0

-- and at its second bus
abbrev pub second_count : Element → ℕ
second_count (the.Line l) = l.phases
second_count (the.Transformer t) = node_count t.phases
second_count other = 0

pub side_counts : (e : Element) → ElementInRange e → tested (terminal_numbers e) ≡ Ok tt → HasCounts (first_count e) (second_count e) (terminals_of e)
side_counts (the.Vsource v) r h = one_side (the.Vsource v) (source_numbers v.phases) (Some v.bus1) v.phases refl refl (source_counts v.phases r.phases) h
side_counts (the.Line l) r h =
    let counts = line_counts l.phases r.phases.most in
    two_sides (the.Line l) (line_numbers l.phases) (line_numbers l.phases) l.bus1 l.bus2 l.phases refl refl counts counts h
side_counts (the.Transformer t) r h =
    two_sides (the.Transformer t) (phase_numbers t.phases t.first.conn) (phase_numbers t.phases t.second.conn)
    t.first.bus t.second.bus (node_count t.phases) refl refl
    (phase_counts t.phases t.first.conn r.phases) (phase_counts t.phases t.second.conn r.phases) h
side_counts (the.Capacitor c) r h =
    one_side (the.Capacitor c) (phase_numbers c.phases c.conn) c.bus1 (node_count c.phases) refl refl (phase_counts c.phases c.conn r.phases) h
side_counts (the.Load l) r h =
    one_side (the.Load l) (phase_numbers l.phases l.conn) l.bus1 (node_count l.phases) refl refl (phase_counts l.phases l.conn r.phases) h
side_counts e r h = record { at_first = refl; at_second = refl }
