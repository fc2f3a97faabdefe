-- How many commands a session gives, whatever the library answers.
use Rattle.std.specs.Prelude.{◌+◌, ◌^◌, ◌≤◌, ◌<◌, ℕ, nat_lt, List, [], ◌∷◌, length, if◌then◌else◌}
use Rattle.dss_model.specs.declared.command.Verb.{Verb}
use Rattle.dss_model.specs.declared.command.Verb.TheVariants as verb
use Rattle.dss_script.specs.Sessions.{State, room, cost, start}

-- a session from which these commands were given one after another: each took its room
pub data Gives : State → List Verb → State → Type 0 where
  none : (s t : State) → room t ≤ room s → Gives s [] t
  one : (s t u : State) (v : Verb) (vs : List Verb) → room t + cost v ≤ room s → Gives t vs u → Gives s (v ∷ vs) u

-- a New whose class has four letters at least, as Circuit and each class of the profile
abbrev pub news : List Verb → ℕ
news [] = 0
news (verb.New class name pairs ∷ vs) = (if nat_lt 3 (length class) then 1 else 0) + news vs
news (v ∷ vs) = news vs

abbrev pub solves : List Verb → ℕ
solves [] = 0
solves (verb.Solve pairs ∷ vs) = 1 + solves vs
solves (v ∷ vs) = solves vs

pub record AreFew (vs : List Verb) : Type 0 where
  pub commands : length vs ≤ 1_048_576
  pub elements : news vs < 95_326
  pub solutions : solves vs < 2 ^ 18

abbrev pub CommandsAreFew : Type 0
CommandsAreFew = (master : List ℕ) (vs : List Verb) (now : State) → Gives (start master) vs now → AreFew vs
