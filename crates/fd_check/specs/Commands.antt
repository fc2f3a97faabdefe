-- A script's commands, each accepted by the circuit that those before it made.
use Rattle.std.specs.Prelude.{ℕ, ◌<◌, ◌-◌, ◌^◌, ◌==◌, Bool, true, false, List, [], ◌∷◌, ◌++◌, length, Result, Ok, Err, if◌then◌else◌}
use Rattle.dss_commands.specs.dss_circuit.Circuit.{CircuitView}
use Rattle.dss_commands.specs.Commands.{applied}
use Rattle.dss_commands.specs.dss_circuit.Limits.{most_elements}
use Rattle.dss_commands.specs.dss_model.declared.command.Command.{Command}
use Rattle.dss_commands.specs.dss_model.declared.command.Verb.{Verb}
use Rattle.dss_commands.specs.dss_model.declared.command.Verb.TheVariants as verb
use Rattle.fd_daily.specs.dss_ready.Ready.{HasPassed}
use Rattle.dss_commands.specs.dss_model.declared.fault.ModelFault.{ModelFault}

-- the most Solves of a script; one of 1,048,576 bytes has fewer
abbrev pub most_solves : ℕ
most_solves = 262144

-- a circuit that a further command can be applied to
pub record HasRoom (c : CircuitView) : Type 0 where
  pub solves : c.solves < 2 ^ 32 - 1
  pub elements : length c.elements < most_elements

-- the circuit behind a command, which a refusal leaves as it was
abbrev pub circuit_by : Result CircuitView ModelFault → CircuitView → CircuitView
circuit_by (Ok next) c = next
circuit_by (Err f) c = c

abbrev pub behind_one : Command → CircuitView → CircuitView
behind_one command c = circuit_by (applied command c) c

abbrev pub behind_all : CircuitView → List Command → CircuitView
behind_all c [] = c
behind_all c (command ∷ commands) = behind_all (behind_one command c) commands

-- the circuit of a Solve
abbrev pub solve_by : Verb → CircuitView → List CircuitView
solve_by (verb.Solve pairs) c = c ∷ []
solve_by other c = []

abbrev pub solve_in : Command → CircuitView → List CircuitView
solve_in command c = solve_by command.verb (behind_one command c)

-- the circuits of their Solves, in order
abbrev pub solves_in : CircuitView → List Command → List CircuitView
solves_in c [] = []
solves_in c (command ∷ commands) = solve_in command c ++ solves_in (behind_one command c) commands

abbrev pub is_solve : Verb → Bool
is_solve (verb.Solve pairs) = true
is_solve other = false

-- the last of the commands is a Solve, and the only one
abbrev pub solves_last : List Command → Bool
solves_last [] = false
solves_last (command ∷ commands) = if is_solve command.verb then length commands == 0 else solves_last commands

-- it is accepted, and the circuit of a Solve passes the tests
abbrev pub IsAcceptedBy : Verb → Result CircuitView ModelFault → Type 0
IsAcceptedBy v (Err f) = ⊥
IsAcceptedBy (verb.Solve pairs) (Ok next) = HasPassed next
IsAcceptedBy other (Ok next) = Unit {0}

-- each is accepted by the circuit that those before it made, which has room for it
abbrev pub AreAccepted : CircuitView → List Command → Type 0
AreAccepted c [] = Unit {0}
AreAccepted c (command ∷ commands) = HasRoom c × IsAcceptedBy command.verb (applied command c) × AreAccepted (behind_one command c) commands
