use Rattle.std.proofs.Common.{◌≡◌, ◌++◌, map, take}
use Rattle.dss_script.specs.Paths.{slashed}
use Rattle.dss_script.proofs.path.name_within.Given as goal

abbrev pub invariant-loop-character : goal.invariant-loop-character
invariant-loop-character l = l.characters.items ≡ l.folder ++ map slashed (take l.character-index l.character-items)
