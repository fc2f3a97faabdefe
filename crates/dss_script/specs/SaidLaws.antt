-- The list says what the chain says.
use Rattle.std.specs.Prelude.{◌≡◌, ◌++◌, ℕ, List, map}
use Rattle.fd_outside.specs.Files.{Files}
use Rattle.dss_script.specs.Script.{Script, script_of, names_first, after_names}
use Rattle.dss_script.specs.Said.{name, said_of, chain_of, ended_by, said_in, end_in}

pub record SaidLaw : Type 0 where
  pub chain : (files : Files) (master : List ℕ) → script_of files master ≡ chain_of (said_of files master)
  -- and back: the chain says what the list says, and ends as it ends
  pub said : (files : Files) (master : List ℕ) → said_in (script_of files master) ≡ (said_of files master).said
  pub end : (files : Files) (master : List ℕ) → end_in (script_of files master) ≡ ended_by (said_of files master).left
  -- the names that are asked for before the next command stand first in what a chain says
  pub names : (script : Script) → said_in script ≡ map name (names_first script) ++ said_in (after_names script)
  pub after : (script : Script) → end_in (after_names script) ≡ end_in script
