-- A command within a call: the names of its files, and then itself with their numbers.
use Rattle.std.proofs.Common.{◌≡◌, ◌∙◌, ℕ, List, [], ◌∷◌, ◌++◌, Option, Result, Ok, Err, refl, sym, ap, subst, append_assoc, append-nil}
use Rattle.dss_model.specs.declared.command.Place.{Place}
use Rattle.dss_model.specs.declared.command.Command.{Command}
use Rattle.dss_model.specs.declared.command.Verb.{Verb}
use Rattle.fd_outside.specs.Files.{Files}
use Rattle.dss_script.specs.declared.fault.ScriptCause.{ScriptCause}
use Rattle.dss_script.specs.declared.fault.SessionFault.{SessionFault}
use Rattle.dss_script.specs.declared.fault.SessionFault.TheVariants as fault
use Rattle.dss_script.specs.Fills.{Fills}
use Rattle.dss_script.specs.Script.{Script, refused, gives, asks_each, given, command_says, names_first, after_names}
use Rattle.dss_script.specs.Sessions.{State, Asks, Grows, Reached, Tells}
use Rattle.dss_script.specs.Shapes.{verb_filled}
use Rattle.dss_script.proofs.Entering.{grows_more, reached_all}

each_after : (names : List (List ℕ)) (s : Script) → after_names (asks_each names s) ≡ after_names s
each_after [] s = refl
each_after (n ∷ names) s = each_after names s

each_first : (names : List (List ℕ)) (s : Script) → names_first (asks_each names s) ≡ names ++ names_first s
each_first [] s = refl
each_first (n ∷ names) s = ap (λ ns. n ∷ ns) (each_first names s)

given_first : (place : Place) (r : Result Verb ScriptCause) (rest : Script) → names_first (given place r rest) ≡ []
given_first place (Ok verb) rest = refl
given_first place (Err c) rest = refl

-- the names of a command's files stand first in what it says
command_first : (files : Files) (folder : List ℕ) (c : Command) (rest : Script)
    → names_first (command_says files folder c rest) ≡ (verb_filled files folder c.verb).names
command_first files folder c rest =
    let f = verb_filled files folder c.verb in
    each_first f.names (given c.place f.filled rest) ∙ ap (λ ns. f.names ++ ns) (given_first c.place f.filled rest) ∙ append-nil f.names

reached_given : (files : Files) (folder : List ℕ) (c : Command) (rest from now : Script) (r : Result Verb ScriptCause) (old mid new : List (List ℕ))
    → Reached from now old mid → now ≡ command_says files folder c rest → (verb_filled files folder c.verb).filled ≡ r
    → Grows mid new (verb_filled files folder c.verb).names
    → Reached from (given c.place r rest) old new
reached_given files folder c rest from now r old mid new reached e h g =
    let f = verb_filled files folder c.verb in
    record {
      names = reached.names ++ f.names;
      first = reached.first
          ∙ ap (λ s. reached.names ++ names_first s) e
          ∙ ap (λ ns. reached.names ++ ns) (each_first f.names (given c.place f.filled rest))
          ∙ ap (λ q. reached.names ++ (f.names ++ names_first (given c.place q rest))) h
          ∙ sym (append_assoc reached.names f.names (names_first (given c.place r rest)));
      said = reached.said ∙ ap after_names e ∙ each_after f.names (given c.place f.filled rest) ∙ ap (λ q. after_names (given c.place q rest)) h;
      grown = grows_more old mid new reached.names f.names reached.grown g;
    }

pub reached_command : (files : Files) (folder : List ℕ) (c : Command) (rest from now : Script) (v : Verb) (old mid new : List (List ℕ))
    → Reached from now old mid → now ≡ command_says files folder c rest
    → Fills c.place (verb_filled files folder c.verb) mid new (Ok v)
    → Reached from (gives (record { place = c.place; verb = v }) rest) old new
reached_command files folder c rest from now v old mid new reached e f = reached_given files folder c rest from now (Ok v) old mid new reached e f.0 f.1

-- the names that the rest of a call asks for, of which the first are those of a command
split : (files : Files) (folder : List ℕ) (c : Command) (rest from now : Script) (old mid : List (List ℕ))
    → (reached : Reached from now old mid) → now ≡ command_says files folder c rest
    → names_first from ≡ reached.names ++ (verb_filled files folder c.verb).names
split files folder c rest from now old mid reached e =
    reached.first
    ∙ ap (λ s. reached.names ++ names_first s) e
    ∙ ap (λ ns. reached.names ++ ns) (command_first files folder c rest)

pub fails_filling : (files : Files) (folder : List ℕ) (c : Command) (rest from now : Script) (s : State)
    (e : SessionFault) (old mid new : List (List ℕ))
    → Reached from now old mid → now ≡ command_says files folder c rest
    → Fills {X = Verb} c.place (verb_filled files folder c.verb) mid new (Err e)
    → Tells files (after_names from) s (Err e)
fails_filling files folder c rest from now s (fault.Script at why) old mid new reached e f =
    (reached_given files folder c rest from now (Err why) old mid new reached e f.1 f.2).said ∙ ap (λ p. refused p why) (sym f.0)
fails_filling files folder c rest from now s (fault.Read name) old mid new reached e f = tt
fails_filling files folder c rest from now s fault.NoMemory old mid new reached e f = tt
fails_filling files folder c rest from now s fault.Ended old mid new reached e f = tt

pub asks_filling : (files : Files) (folder : List ℕ) (c : Command) (rest from now : Script) (e : SessionFault) (old mid new : List (List ℕ))
    → Reached from now old mid → now ≡ command_says files folder c rest
    → Fills {X = Verb} c.place (verb_filled files folder c.verb) mid new (Err e)
    → Asks {X = Option Command} old new (names_first from) (Err e)
asks_filling files folder c rest from now (fault.Script at why) old mid new reached e f =
    let further = reached_given files folder c rest from now (Err why) old mid new reached e f.1 f.2 in
    reached_all from _ (refused c.place why) old new further refl refl
asks_filling files folder c rest from now (fault.Read name) old mid new reached e f = record {
  front = reached.names ++ f.front;
  rest = f.rest;
  parts = split files folder c rest from now old mid reached e
      ∙ ap (λ ns. reached.names ++ ns) f.parts
      ∙ sym (append_assoc reached.names f.front (name ∷ f.rest));
  grown =
      let N : List (List ℕ) → Type 0 = λ names. Grows old new names in
      subst N (sym (append_assoc reached.names f.front (name ∷ []))) (grows_more old mid new reached.names (f.front ++ (name ∷ [])) reached.grown f.grown);
}
asks_filling files folder c rest from now fault.NoMemory old mid new reached e f = record {
  front = reached.names ++ f.front;
  rest = f.rest;
  parts = split files folder c rest from now old mid reached e ∙ ap (λ ns. reached.names ++ ns) f.parts ∙ sym (append_assoc reached.names f.front f.rest);
  grown = grows_more old mid new reached.names f.front reached.grown f.grown;
}
asks_filling files folder c rest from now fault.Ended old mid new reached e f = absurd f
