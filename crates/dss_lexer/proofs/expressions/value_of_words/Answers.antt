use Rattle.std.proofs.Common.{◌∙◌, arith, ap, sym, Ok, [], map, reverse}
use Rattle.std.proofs.lemmas.Int.{ints}
use Rattle.std.proofs.lemmas.Result.{err_from_is_err_and}
use Rattle.dss_lexer.specs.Postfix.{sole, value_after}
use Rattle.dss_lexer.proofs.Each.{fails_further}
use Rattle.dss_lexer.proofs.Stacks.{read_more, read_fault, read_end}
use Rattle.dss_lexer.proofs.expressions.value_of_words.Goals as goal

pub returns-in_err-take_word : goal.returns-in_err-take_word
returns-in_err-take_word c =
    let p = err_from_is_err_and c.from_residual.result c.from_residual.ensures.1 in
    rw (p.1, p.2)
    (fails_further c.in_err-take_word.field-0.0 _ (value_after [] (map (λ word. word.now) c.args.words.now))
    (λ fault was. sym c.loop-word.invariant
    ∙ read_fault (λ word. word.now) c.args.words.now c.loop-word.word-index _
    (reverse c.loop-word.stack.items) c.loop-word-test.true fault was)
    c.in_err-take_word.ensures)

pub loop-word-preserved : goal.loop-word-preserved
loop-word-preserved c =
    read_more (λ word. word.now) c.args.words.now c.loop-word.word-index _ (reverse c.loop-word.stack.items) c.loop-word-test.true _ c.in_ok-take_word.ensures
    ∙ c.loop-word.invariant

pub returns : goal.returns
returns c =
    sym c.loop-word.invariant
    ∙ read_end (λ word. word.now) c.args.words.now c.loop-word.word-index (record { ref_ptr = (0, 0); now = [] })
    (reverse c.loop-word.stack.items) c.loop-word-test.false
    ∙ ap (λ s. sole (reverse s)) (sym c.deref.ensures.value)
    ∙ sym c.in_ok-sole_operand.ensures
    ∙ ap Ok (omega (arith, ints))
