use Rattle.std.proofs.Common.{◌∙◌}
use Rattle.dss_commands.proofs.KeyNames.{edit_key_is, new_key_is}
use Rattle.dss_commands.proofs.fold.apply.Goals as goal

pub make_element-requires-clause-key : goal.make_element-requires-clause-key
make_element-requires-clause-key c = (new_key_is _ _ _ _ c.in_ok-key-in-New.ensures).0

pub make_element-requires-clause-source : goal.make_element-requires-clause-source
make_element-requires-clause-source c = λ none. (new_key_is _ _ _ _ c.in_ok-key-in-New.ensures).1 (c.is_begun.ensures ∙ none)

pub edit_element-requires-clause-key : goal.edit_element-requires-clause-key
edit_element-requires-clause-key c = edit_key_is _ _ _ _ c.in_ok-key-in-Edit.ensures
