-- Steps that may fail, one after another.
use Rattle.std.specs.Prelude.{Result, Ok, Err}

-- a step, and what comes after it unless it is refused
abbrev pub and_then : {A B E : Type 0} → Result A E → (A → Result B E) → Result B E
and_then (Ok a) f = f a
and_then (Err e) f = Err e

infixl 10 ◌>>=◌
abbrev pub ◌>>=◌ : {A B E : Type 0} → Result A E → (A → Result B E) → Result B E
r >>= f = and_then r f
