use Rattle.std.proofs.Common.{◌≡◌, map, drop, reverse, []}
use Rattle.dss_lexer.specs.Postfix.{value_after}
use Rattle.dss_lexer.proofs.expressions.value_of_words.Given as goal

abbrev pub invariant-loop-word : goal.invariant-loop-word
invariant-loop-word l =
    value_after (reverse l.stack.items) (map (λ word. word.now) (drop l.word-index l.words))
    ≡ value_after [] (map (λ word. word.now) l.words)
