-- The list says what the chain says.
use Rattle.std.proofs.Common.{◌≡◌, ◌∙◌, ℕ, suc, zero, ◌+◌, Bool, true, false, List, [], ◌∷◌, ◌++◌, length, map, Option, Some, None, Result, Ok, Err, refl, sym, ap}
use Rattle.std.specs.Prelude.{nat_lt, if◌then◌else◌}
use Rattle.std.specs.Str.Lines.{lines}
use Rattle.dss_model.specs.dss_lexer.declared.pair.Pair.{Pair}
use Rattle.dss_model.specs.dss_lexer.declared.fault.LineFault.{LineFault}
use Rattle.dss_script.specs.Cutting.{pairs_of}
use Rattle.dss_model.specs.Names.{bytes}
use Rattle.dss_model.specs.declared.command.Place.{Place}
use Rattle.dss_model.specs.declared.command.Command.{Command}
use Rattle.dss_model.specs.declared.command.Verb.{Verb}
use Rattle.fd_outside.specs.Files.{Files, held}
use Rattle.dss_script.specs.declared.fault.ScriptCause.{ScriptCause}
use Rattle.dss_script.specs.declared.fault.ScriptCause.TheVariants as cause
use Rattle.dss_script.specs.declared.meaning.Meaning.{Meaning}
use Rattle.dss_script.specs.declared.meaning.Meaning.TheVariants as the
use Rattle.dss_script.specs.Meaning.{meaning_of, target_after}
use Rattle.dss_script.specs.Paths.{folder_of, joined}
use Rattle.dss_script.specs.Script.{Script, finished, refused, asks, gives, asks_each, given, command_says, Standing, Then, Reader, meaning_says, line_says, lines_say, found_says, file_says, script_of, names_first, after_names}
use Rattle.dss_script.specs.Said.{Said, name, command, Part, stops, says, by_left, File, by_command, by_filled, by_meaning, by_line, by_lines, by_found, by_file, said_of, chained, goes_on, chain_of, ended_by, said_in, end_in}
use Rattle.dss_script.specs.SaidLaws.{SaidLaw}
use Rattle.dss_script.specs.Shapes.{verb_filled}

abbrev told : Part → Then → Script
told p go = chained p.said (goes_on p.left go)

chained-append : (a b : List Said) (rest : Script) → chained (a ++ b) rest ≡ chained a (chained b rest)
chained-append [] b rest = refl
chained-append (name n ∷ a) b rest = ap (asks n) (chained-append a b rest)
chained-append (command c ∷ a) b rest = ap (gives c) (chained-append a b rest)

behind : (said : List Said) (left : Result Standing (Place × ScriptCause)) (next : Standing → Part) (go far : Then)
    → ((s : Standing) → far s ≡ told (next s) go) → chained said (goes_on left far) ≡ told (by_left said left next) go
behind said (Ok s) next go far same = ap (chained said) (same s) ∙ sym (chained-append said (next s).said (goes_on (next s).left go))
behind said (Err refusal) next go far same = refl

names_same : (names : List (List ℕ)) (p : Part) (go : Then)
    → asks_each names (told p go) ≡ told (says (map name names) p) go
names_same [] p go = refl
names_same (n ∷ names) p go = ap (asks n) (names_same names p go)

given_same : (place : Place) (filled : Result Verb ScriptCause) (s : Standing) (go : Then)
    → given place filled (go s) ≡ told (by_filled place filled s) go
given_same place (Ok verb) s go = refl
given_same place (Err c) s go = refl

command_same : (files : Files) (folder : List ℕ) (c : Command) (s : Standing) (go : Then)
    → command_says files folder c (go s) ≡ told (by_command files folder c s) go
command_same files folder c s go =
    let f = verb_filled files folder c.verb in
    ap (asks_each f.names) (given_same c.place f.filled s go) ∙ names_same f.names (by_filled c.place f.filled s) go

module _ (files : Files) (file : File) (reader : Reader)
    (same : (place : Place) (n : List ℕ) (s : Standing) (go : Then) → reader place n s go ≡ told (file place n s) go)
    (folder : List ℕ) where
  meaning_same : (place : Place) (m : Meaning) (s : Standing) (go : Then)
      → meaning_says files reader folder place m s go ≡ told (by_meaning files file folder place m s) go
  meaning_same place the.Nothing s go = refl
  meaning_same place (the.Refused c) s go = refl
  meaning_same place (the.Reads named) s go = same place (joined folder named) s go
  meaning_same place (the.Does verb change) s go =
      command_same files folder (record { place = place; verb = verb }) (record { target = target_after s.target change; read = s.read }) go

  line_same : (place : Place) (r : Result (List Pair) LineFault) (s : Standing) (go : Then)
      → line_says files reader folder place r s go ≡ told (by_line files file folder place r s) go
  line_same place (Err e) s go = refl
  line_same place (Ok pairs) s go = meaning_same place (meaning_of s.target pairs) s go

  lines_same : (at : List ℕ) (n : ℕ) (ls : List (List ℕ)) (s : Standing) (go : Then)
      → lines_say files reader folder at n ls s go ≡ told (by_lines files file folder at n ls s) go
  lines_same at n [] s go = refl
  lines_same at n (line ∷ rest) s go =
      let place : Place = record { file = at; line = n + 1 } in
      let p = by_line files file folder place (pairs_of line) s in
      line_same place (pairs_of line) s (λ t. lines_say files reader folder at (n + 1) rest t go)
      ∙ behind p.said p.left (λ t. by_lines files file folder at (n + 1) rest t) go
      (λ t. lines_say files reader folder at (n + 1) rest t go) (λ t. lines_same at (n + 1) rest t go)

  within_same : (b : Bool) (place : Place) (ours : Part) (theirs : Script) (go : Then) → theirs ≡ told ours go
      → (if b then refused place cause.TooLong else theirs) ≡ told (if b then stops place cause.TooLong else ours) go
  within_same true place ours theirs go e = refl
  within_same false place ours theirs go e = e

  found_same : (o : Option (List ℕ)) (place : Place) (at : List ℕ) (s : Standing) (go : Then)
      → found_says files reader folder o place at s go ≡ told (by_found files file folder o place at s) go
  found_same None place at s go = refl
  found_same (Some bs) place at s go =
      let t : Standing = record { target = s.target; read = s.read + length bs } in
      within_same (nat_lt 1_048_576 (s.read + length bs)) place (by_lines files file folder at 0 (lines bs) t)
      (lines_say files reader folder at 0 (lines bs) t go) go (lines_same at 0 (lines bs) t go)

file_same : (files : Files) (folder : List ℕ) (depth : ℕ) (place : Place) (at : List ℕ) (s : Standing) (go : Then)
    → file_says files folder depth place at s go ≡ told (by_file files folder depth place at s) go
file_same files folder zero place at s go = refl
file_same files folder (suc depth) place at s go =
    ap (asks at) (found_same files (λ p n t. by_file files folder depth p n t) (λ p n t g. file_says files folder depth p n t g)
    (λ p n t g. file_same files folder depth p n t g) folder (held files (bytes at)) place at s go)

chain_same : (files : Files) (master : List ℕ) → script_of files master ≡ chain_of (said_of files master)
chain_same files master = file_same files (folder_of master) 9 (record { file = master; line = 0 }) master (record { target = None; read = 0 }) (λ s. finished)

-- ---- back

said_again : (said : List Said) (left : Result Standing (Place × ScriptCause))
    → said_in (chained said (goes_on left (λ s. finished))) ≡ said
said_again [] (Ok standing) = refl
said_again [] (Err refusal) = refl
said_again (name n ∷ said) left = ap (λ (l : List Said). name n ∷ l) (said_again said left)
said_again (command c ∷ said) left = ap (λ (l : List Said). command c ∷ l) (said_again said left)

end_again : (said : List Said) (left : Result Standing (Place × ScriptCause))
    → end_in (chained said (goes_on left (λ s. finished))) ≡ ended_by left
end_again [] (Ok standing) = refl
end_again [] (Err refusal) = refl
end_again (name n ∷ said) left = end_again said left
end_again (command c ∷ said) left = end_again said left

-- ---- the next command

next_said : (script : Script) → said_in script ≡ map name (names_first script) ++ said_in (after_names script)
next_said finished = refl
next_said (refused place c) = refl
next_said (asks n rest) = ap (λ (l : List Said). name n ∷ l) (next_said rest)
next_said (gives c rest) = refl

next_end : (script : Script) → end_in (after_names script) ≡ end_in script
next_end finished = refl
next_end (refused place c) = refl
next_end (asks n rest) = next_end rest
next_end (gives c rest) = refl

pub said_same : SaidLaw
said_same = record {
  chain = chain_same;
  said = λ files master. ap said_in (chain_same files master) ∙ said_again (said_of files master).said (said_of files master).left;
  end = λ files master. ap end_in (chain_same files master) ∙ end_again (said_of files master).said (said_of files master).left;
  names = next_said;
  after = next_end;
}
