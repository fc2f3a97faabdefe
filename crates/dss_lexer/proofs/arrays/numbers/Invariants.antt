use Rattle.std.proofs.Common.{◌≡◌, map, drop}
use Rattle.dss_lexer.specs.Answers.{each}
use Rattle.dss_lexer.specs.Number.{number_of}
use Rattle.dss_lexer.proofs.Each.{after}
use Rattle.dss_lexer.proofs.arrays.numbers.Given as goal

abbrev pub invariant-loop-word : goal.invariant-loop-word
invariant-loop-word l =
    after l.numbers.items (each number_of (map (λ word. word.now) (drop l.word-index l.words)))
    ≡ each number_of (map (λ word. word.now) l.words)
