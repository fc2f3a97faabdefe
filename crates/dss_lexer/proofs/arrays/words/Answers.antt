use Rattle.std.proofs.Common.{ap, map}
use Rattle.dss_lexer.proofs.PartWords.{words_more, words_whole}
use Rattle.dss_lexer.proofs.arrays.words.Goals as goal

pub loop-part-init : goal.loop-part-init
loop-part-init c = ap (map (λ word. word.now)) c.new-words.ensures.items

pub loop-part-preserved : goal.loop-part-preserved
loop-part-preserved c =
    words_more c.deref-part-items.result.now c.loop-part.words.items c.push_word.new.words.items
    c.loop-part.part-index _ c.loop-part-test.true c.in_ok-push_word.ensures c.loop-part.invariant

pub returns : goal.returns
returns c =
    words_whole c.args.text.now c.deref-part-items.result.now c.in_ok-parts.parts.items c.loop-part.words.items
    c.loop-part.part-index c.loop-part-test.false c.deref-part-items.ensures.value c.in_ok-parts.ensures
    c.loop-part.invariant
