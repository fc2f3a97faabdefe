use Rattle.std.proofs.Common.{◌≡◌, drop}
use Rattle.dss_profile.specs.Options.{with_options}
use Rattle.dss_profile.proofs.options.set_each.Given as goal

abbrev pub invariant-loop-pair : goal.invariant-loop-pair
invariant-loop-pair l = with_options (drop l.pair-index l.pairs) l.options ≡ with_options l.pairs l.initial.options
