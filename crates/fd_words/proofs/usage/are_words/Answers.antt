use Rattle.std.proofs.Common.{rules, tests, ◌∙◌, ◌&&◌, Bool, ap, is_some, string_bytes, sym}
use Rattle.std.proofs.lemmas.Iterator.{YieldsList-from_slice, YieldsList-from_zip}
use Rattle.std.proofs.lemmas.Iterator.Search.{all_from_yields_List}
use Rattle.std.specs.List.{list_all, zip}
use Rattle.fd_words.specs.Words.{value_as}
use Rattle.fd_words.proofs.Fitting.{same_count}
use Rattle.fd_words.proofs.usage.are_words.Goals as goal

pub returns-then-kinds-words : goal.returns-then-kinds-words
returns-then-kinds-words c =
    all_from_yields_List (λ pair. is_some (value_as pair.0 (string_bytes pair.1))) c.all.new.self _ c.all.result c.all.ensures.ran
    (YieldsList-from_zip (YieldsList-from_slice c.args.kinds.now cc) (YieldsList-from_slice c.args.words.now cc))
    (λ x b q k. search (rules, tests))
    ∙ ap (λ (b : Bool). b && list_all (λ pair. is_some (value_as pair.0 (string_bytes pair.1))) (zip c.args.kinds.now c.args.words.now))
    (sym (same_count _ _ c.if-kinds-words.true))
