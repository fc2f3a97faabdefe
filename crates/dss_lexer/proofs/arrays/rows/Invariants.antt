use Rattle.std.proofs.Common.{◌≡◌, map, drop}
use Rattle.dss_lexer.specs.Answers.{each}
use Rattle.dss_lexer.specs.Arrays.{row_of}
use Rattle.dss_lexer.proofs.Each.{after}
use Rattle.dss_lexer.proofs.arrays.rows.Given as goal

abbrev pub invariant-loop-part : goal.invariant-loop-part
invariant-loop-part l = after l.rows.items (each row_of (map (λ part. part.now) (drop l.part-index l.parts))) ≡ each row_of (map (λ part. part.now) l.parts)
