-- Commands that take their room are few.
use Rattle.std.proofs.Common.{◌≡◌, ℕ, ◌+◌, ◌*◌, ◌<◌, ◌≤◌, List, [], ◌∷◌, length, Bool, true, false, refl, arith, nat_lt, max, if◌then◌else◌}
use Rattle.std.proofs.lemmas.Bool.{ltb-true}
use Rattle.dss_model.specs.declared.command.Verb.{Verb}
use Rattle.dss_model.specs.declared.command.Verb.TheVariants as verb
use Rattle.dss_script.specs.Sessions.{State, room, cost, start}
use Rattle.dss_script.specs.Bounds.{Gives, none, one, news, solves, CommandsAreFew}

total : List Verb → ℕ
total [] = 0
total (v ∷ vs) = cost v + total vs

spent : (s t : State) (vs : List Verb) → Gives s vs t → total vs + room t ≤ room s
unfolding total
spent s t [] (none _ _ h) = omega (arith, h)
spent s u (v ∷ vs) (one _ t _ _ _ h rest) = omega (arith, h, spent t u vs rest)

each_two : (vs : List Verb) → 2 * length vs ≤ total vs
unfolding total
each_two [] = omega arith
each_two (verb.New class name pairs ∷ vs) = omega (arith, each_two vs)
each_two (verb.Edit class name pairs ∷ vs) = omega (arith, each_two vs)
each_two (verb.Set pairs ∷ vs) = omega (arith, each_two vs)
each_two (verb.Solve pairs ∷ vs) = omega (arith, each_two vs)
each_two (verb.Clear ∷ vs) = omega (arith, each_two vs)
each_two (verb.Bases ∷ vs) = omega (arith, each_two vs)

long_class : (n m : ℕ) → 11 * (if nat_lt 3 n then 1 else 0) ≤ 6 + (n + max m 1)
long_class n m = cases (nat_lt 3 n) refl
  where
    cases : (b : Bool) → nat_lt 3 n ≡ b → 11 * (if b then 1 else 0) ≤ 6 + (n + max m 1)
    cases true h = let long : 3 < n = ltb-true _ _ h in omega arith
    cases false h = omega arith

each_new : (vs : List Verb) → 11 * news vs ≤ total vs
unfolding total
each_new [] = omega arith
each_new (verb.New class name pairs ∷ vs) = omega (arith, each_new vs, long_class (length class) (length name))
each_new (verb.Edit class name pairs ∷ vs) = omega (arith, each_new vs)
each_new (verb.Set pairs ∷ vs) = omega (arith, each_new vs)
each_new (verb.Solve pairs ∷ vs) = omega (arith, each_new vs)
each_new (verb.Clear ∷ vs) = omega (arith, each_new vs)
each_new (verb.Bases ∷ vs) = omega (arith, each_new vs)

each_solve : (vs : List Verb) → 6 * solves vs ≤ total vs
unfolding total
each_solve [] = omega arith
each_solve (verb.New class name pairs ∷ vs) = omega (arith, each_solve vs)
each_solve (verb.Edit class name pairs ∷ vs) = omega (arith, each_solve vs)
each_solve (verb.Set pairs ∷ vs) = omega (arith, each_solve vs)
each_solve (verb.Solve pairs ∷ vs) = omega (arith, each_solve vs)
each_solve (verb.Clear ∷ vs) = omega (arith, each_solve vs)
each_solve (verb.Bases ∷ vs) = omega (arith, each_solve vs)

pub commands_are_few : CommandsAreFew
commands_are_few master vs now h =
    let all = spent (start master) now vs h in
    record {
      commands = omega (arith, all, each_two vs);
      elements = omega (arith, all, each_new vs);
      solutions = omega (arith, all, each_solve vs);
    }
