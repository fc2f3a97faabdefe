use Rattle.dss_values.specs.dss_model.InRange.{ElementInRange}
use Rattle.dss_profile.proofs.ElementRanges.{becomes_made, draft_in_range, named_in_range}
use Rattle.dss_profile.proofs.element.set_pair.Goals as goal

pub returns-clause-in_range : goal.returns-clause-in_range
returns-clause-in_range c = λ f h. draft_in_range ElementInRange _ _ _ (becomes_made _ _ _ _ c.set_named.ensures) (named_in_range _ _ _ _ _ f h)
