-- The Solves of a script, as the circuits that they solve.
use Rattle.std.specs.Prelude.{List, [], ◌∷◌}
use Rattle.fd_checking.specs.dss_circuit.Circuit.{CircuitView, empty_circuit}
use Rattle.fd_checking.specs.dss_script.Said.{Part, Said, name, command}
use Rattle.fd_checking.specs.fd_solving.Commands.{Applied, nothing_left, solve_left, bases_left, refused_at, tried}

-- the circuit of a command that is a Solve, and those that come behind it; none behind a refusal
abbrev pub behind_command : Applied → (CircuitView → List CircuitView) → List CircuitView
behind_command (nothing_left circuit) more = more circuit
behind_command (solve_left circuit) more = circuit ∷ more circuit
behind_command (bases_left circuit) more = more circuit
behind_command (refused_at place c) more = []

-- the circuit of each Solve in order, from a circuit on
abbrev pub solves_from : List Said → CircuitView → List CircuitView
solves_from [] circuit = []
solves_from (name n ∷ more) circuit = solves_from more circuit
solves_from (command c ∷ more) circuit = behind_command (tried c circuit) (λ next. solves_from more next)

-- those of a script, which begins with no circuit
abbrev pub solves_of : Part → List CircuitView
solves_of p = solves_from p.said empty_circuit
