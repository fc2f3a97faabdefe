use Rattle.std.proofs.Common.{◌≡◌, ◌-◌, length}
use Rattle.dss_script.specs.Cutting.{items_of}
use Rattle.dss_model.proofs.CallerLemmas.dss_lexer.{after}
use Rattle.dss_script.proofs.cutting.items.Given as goal

abbrev pub invariant-loop : goal.invariant-loop
invariant-loop l = after l.found.items (items_of (length l.text - l.counter) l.rest) ≡ items_of (length l.text) l.text
