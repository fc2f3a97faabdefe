-- The file that a pair of a load shape names.
use Rattle.std.specs.Prelude.{ℕ, ◌&&◌, List, codes, drop, nat_eq, Option, Some, None, if◌then◌else◌}
use Rattle.std.specs.Cmp.Lexicographic.{pointwise}
use Rattle.std.specs.List.{starts_with}
use Rattle.dss_model.specs.dss_lexer.declared.pair.Pair.{Pair}
use Rattle.dss_model.specs.Names.{bytes, lower}

-- the name of the file that holds the factors, as in `mult=file=NAME`: its numbers take the place of the value before
-- the pair is set
abbrev pub file_named : Pair → Option (List ℕ)
file_named pair =
    if pointwise nat_eq (bytes (lower pair.name)) (codes "mult")
    && starts_with nat_eq (bytes (lower pair.value)) (codes "file=")
    then Some (drop 5 pair.value)
    else None
