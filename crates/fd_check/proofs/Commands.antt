-- The commands of a script that are left.
use Rattle.std.proofs.Common.{◌≡◌, ◌∙◌, ◌+◌, ◌<◌, ℕ, suc, true, false, List, [], ◌∷◌, ◌++◌, drop, length, inl, inr, Result, Ok, Err, ap, arith, refl, subst, sym, true≢false}
use Rattle.std.specs.Prelude.{get_or, nat_eq}
use Rattle.std.proofs.lemmas.Bool.{cases_Bool, cond-false, cond-true, ne_eqb}
use Rattle.std.proofs.lemmas.List.{drop_more}
use Rattle.dss_commands.specs.dss_circuit.Circuit.{CircuitView, empty_circuit}
use Rattle.dss_commands.specs.Commands.{applied}
use Rattle.dss_commands.specs.dss_model.declared.command.Command.{Command}
use Rattle.dss_commands.specs.dss_model.declared.command.Verb.{Verb}
use Rattle.dss_commands.specs.dss_model.declared.command.Verb.TheVariants as verb
use Rattle.dss_commands.specs.dss_lexer.declared.pair.Pair.{Pair}
use Rattle.dss_commands.specs.dss_model.declared.fault.ModelFault.{ModelFault}
use Rattle.fd_certfile.specs.Verdict.{Answer}
use Rattle.dss_commands.specs.dss_model.declared.command.Blame.{Blame}
use Rattle.fd_certfile.specs.Reader.{ReaderView}
use Rattle.fd_check.specs.Checking.{Checking, open_solves}
use Rattle.fd_check.specs.Hours.{script_open}
use Rattle.fd_daily.specs.Underway.{no_positions}
use Rattle.fd_check.specs.Commands.{AreAccepted, IsAcceptedBy, behind_all, behind_one, circuit_by, is_solve, solve_by, solve_in, solves_in, solves_last}
use Rattle.fd_daily.specs.dss_ready.Ready.{HasPassed}
use Rattle.fd_check.specs.Comes.{Comes, Leads, Refuses, Tells}
use Rattle.fd_check.specs.declared.fault.CheckFault.{CheckFault}
use Rattle.fd_check.specs.declared.fault.CheckFault.TheVariants as fault

-- a fault that tells of one place tells of another that it leads to
pub tells_before : (r w : ReaderView) (s t : Checking) (e : CheckFault) → Leads r s w t → Tells e (Comes w t)
    → Tells e (Comes r s)
tells_before r w s t (fault.Refused line rule) leads h = leads _ h
tells_before r w s t (fault.Range blame) leads h = leads _ h
tells_before r w s t fault.NoMemory leads h = tt

-- ---- a command that was done

-- the circuit behind it
pub behind_is : (x : Command) (old new : CircuitView) → applied x old ≡ Ok new → behind_one x old ≡ new
behind_is x old new is = ap (λ (r : Result CircuitView ModelFault). circuit_by r old) is

-- a Solve's circuit is the only one
pub solve_alone : (x : Command) (old new : CircuitView) (pairs : List Pair) → x.verb ≡ verb.Solve pairs
    → applied x old ≡ Ok new → solve_in x old ≡ new ∷ []
solve_alone x old new pairs is done = ap (λ (v : Verb). solve_by v (behind_one x old)) is ∙ ap (λ (c : CircuitView). c ∷ []) (behind_is x old new done)

-- ---- the commands that are left begin with the next

all_behind : (c : CircuitView) (more : List Command) (x : Command) → AreAccepted c (x ∷ more)
    → AreAccepted (behind_one x c) more
all_behind c more x (room, is, all) = all

pub accepted_behind : (c : CircuitView) (left more : List Command) (x : Command) → left ≡ x ∷ more → AreAccepted c left
    → AreAccepted (behind_one x c) more
accepted_behind c left more x is h = all_behind c more x (subst (AreAccepted c) is h)

pub left_solves : (c : CircuitView) (left more : List Command) (x : Command) → left ≡ x ∷ more
    → solves_in c left ≡ solve_in x c ++ solves_in (behind_one x c) more
left_solves c left more x is = ap (solves_in c) is

-- the item of a loop
pub next_item : (commands : List Command) (i : ℕ) (x : Command) → i < length commands → x ≡ get_or commands i x
    → drop i commands ≡ x ∷ drop (i + 1) commands
next_item commands i x within is = drop_more commands i x within ∙ ap (λ (y : Command). y ∷ drop (i + 1) commands) (sym is)

-- ---- a Solve that is the last command, and the only one

solve_first : (x : Command) (more : List Command) → is_solve x.verb ≡ true
    → solves_last (x ∷ more) ≡ nat_eq (length more) 0
solve_first x more is = cond-true (is_solve x.verb) _ _ is

other_first : (x : Command) (more : List Command) → is_solve x.verb ≡ false → solves_last (x ∷ more) ≡ solves_last more
other_first x more isnt = cond-false (is_solve x.verb) _ _ isnt

pub last_here : (all rest more : List Command) (x : Command) (left : ℕ) → rest ≡ x ∷ more
    → solves_last rest ≡ solves_last all → is_solve x.verb ≡ true → left ≡ length more → nat_eq left 0 ≡ solves_last all
last_here all rest more x left is same solve long =
    ap (λ (n : ℕ). nat_eq n 0) long ∙ sym (solve_first x more solve) ∙ sym (ap solves_last is) ∙ same

pub last_later : (all rest more : List Command) (x : Command) → rest ≡ x ∷ more → solves_last rest ≡ solves_last all
    → is_solve x.verb ≡ false → solves_last more ≡ solves_last all
last_later all rest more x is same other = sym (other_first x more other) ∙ sym (ap solves_last is) ∙ same

pub last_never : (all rest : List Command) → rest ≡ [] → solves_last rest ≡ solves_last all → false ≡ solves_last all
last_never all rest is same = sym (ap solves_last is) ∙ same

passed : (v : Verb) (r : Result CircuitView ModelFault) (c : CircuitView) → is_solve v ≡ true → IsAcceptedBy v r
    → HasPassed (circuit_by r c)
passed v (Err f) c is h = absurd h
passed (verb.Solve pairs) (Ok next) c is h = h
passed (verb.New a b d) (Ok next) c is h = absurd cc
passed (verb.Edit a b d) (Ok next) c is h = absurd cc
passed (verb.Set a) (Ok next) c is h = absurd cc
passed verb.Clear (Ok next) c is h = absurd cc
passed verb.Bases (Ok next) c is h = absurd cc

solve_only : (v : Verb) (c : CircuitView) → is_solve v ≡ true → solve_by v c ≡ c ∷ []
solve_only (verb.Solve pairs) c is = refl
solve_only (verb.New a b d) c is = absurd cc
solve_only (verb.Edit a b d) c is = absurd cc
solve_only (verb.Set a) c is = absurd cc
solve_only verb.Clear c is = absurd cc
solve_only verb.Bases c is = absurd cc

solve_none : (v : Verb) (c : CircuitView) → is_solve v ≡ false → solve_by v c ≡ []
solve_none (verb.Solve pairs) c is = absurd cc
solve_none (verb.New a b d) c is = refl
solve_none (verb.Edit a b d) c is = refl
solve_none (verb.Set a) c is = refl
solve_none verb.Clear c is = refl
solve_none verb.Bases c is = refl

-- the circuit of the Solve is the one that all commands made, and it passed the tests
pub record IsOnlySolve (c : CircuitView) (commands : List Command) : Type 0 where
  pub solves : solves_in c commands ≡ behind_all c commands ∷ []
  pub passed : HasPassed (behind_all c commands)

pub only_solve : (c : CircuitView) (commands : List Command) → solves_last commands ≡ true → AreAccepted c commands
    → IsOnlySolve c commands
only_solve c [] last h = absurd cc
only_solve c (x ∷ []) last h = elim (cases_Bool (is_solve x.verb)) [
  | inl is ↦ record {
    solves = ap (λ (l : List CircuitView). l ++ []) (solve_only x.verb (behind_one x c) is);
    passed = passed x.verb (applied x c) c is h.1;
  }
  | inr isnt ↦ absurd (true≢false (sym last ∙ other_first x [] isnt))
]
only_solve c (x ∷ y ∷ more) last h = elim (cases_Bool (is_solve x.verb)) [
  | inl is ↦
      let not_last = solve_first x (y ∷ more) is ∙ ne_eqb (suc (length more)) 0 (λ e. omega (arith, e)) in
      absurd (true≢false (sym last ∙ not_last))
  | inr isnt ↦
      let later = only_solve (behind_one x c) (y ∷ more) (sym (other_first x (y ∷ more) isnt) ∙ last) h.2 in
      record {
        solves =
            ap (λ (l : List CircuitView). l ++ solves_in (behind_one x c) (y ∷ more))
            (solve_none x.verb (behind_one x c) isnt)
            ∙ later.solves;
        passed = later.passed;
      }
]

-- so that is where the check of the Solves begins
pub only_open : (c : CircuitView) (commands : List Command) → solves_last commands ≡ true
    → AreAccepted empty_circuit commands → c ≡ behind_all empty_circuit commands
    → open_solves (c ∷ []) no_positions 0 ≡ script_open commands
only_open c commands last h made =
    ap (λ (l : List CircuitView). open_solves l no_positions 0)
    (ap (λ (k : CircuitView). k ∷ []) made ∙ sym (only_solve empty_circuit commands last h).solves)

-- ---- a refusal at the end

pub refuses_tells : (e : CheckFault) (P : Answer Blame → Type 0) → Refuses e P → Tells e P
refuses_tells (fault.Refused line rule) P h = h
refuses_tells (fault.Range blame) P h = absurd h
refuses_tells fault.NoMemory P h = absurd h
