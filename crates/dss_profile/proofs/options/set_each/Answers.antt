use Rattle.std.proofs.Common.{◌≡◌, Ok, sym, ◌∙◌, arith}
use Rattle.std.proofs.lemmas.List.{at_drop_all}
use Rattle.std.proofs.lemmas.Result.{IfOk-at_ok}
use Rattle.dss_values.specs.dss_model.InRange.{OptionsInRange}
use Rattle.dss_profile.specs.Options.{with_options}
use Rattle.dss_profile.proofs.ElementRanges.{options_in_range}
use Rattle.dss_profile.proofs.options.set_each.Goals as goal

pub returns-clause-in_range : goal.returns-clause-in_range
returns-clause-in_range c =
    let rest = at_drop_all (λ pairs. with_options pairs c.loop-pair.options) c.args.pairs.now c.loop-pair.pair-index (omega arith) in
    let all_set : with_options c.args.pairs.now c.args.options.now ≡ Ok c.loop-pair.options = sym c.loop-pair.invariant ∙ rest in
    λ h. IfOk-at_ok OptionsInRange all_set (options_in_range c.args.pairs.now c.args.options.now h)
