use Rattle.std.proofs.Common.{◌≡◌, map, take}
use Rattle.std.specs.List.{flat_map}
use Rattle.dss_lexer.specs.Arrays.{word_in}
use Rattle.dss_lexer.proofs.arrays.words.Given as goal

abbrev pub invariant-loop-part : goal.invariant-loop-part
invariant-loop-part l = map (λ word. word.now) l.words.items ≡ flat_map word_in (map (λ part. part.now) (take l.part-index l.part-items))
