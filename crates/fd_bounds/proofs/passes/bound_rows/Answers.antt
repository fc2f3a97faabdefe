use Rattle.std.proofs.Common.{◌≡◌, ◌∙◌, Some, None, length, sym}
use Rattle.fd_substitution.specs.fd_derived.fd_factors.fd_exact.FirstLaws.{place_below}
use Rattle.fd_bounds.specs.Passes.{row_past}
use Rattle.fd_bounds.proofs.Ending.{ended_past, has_ended, in_range}
use Rattle.fd_bounds.proofs.Stands.{makes_claim}
use Rattle.fd_bounds.proofs.passes.bound_rows.Goals as goal

pub unknown_of-requires : goal.unknown_of-requires
unknown_of-requires c =
    let past : row_past c.args.equations.now c.args.rows.now ≡ Some c.in-Some.row = sym c.in_ok-row.ensures ∙ c.in-Some.is in
    place_below _ (length c.args.rows.now) c.in-Some.row past

pub returns-in-Some-clause-exact : goal.returns-in-Some-clause-exact
returns-in-Some-clause-exact c =
    let past : row_past c.args.equations.now c.args.rows.now ≡ Some c.in-Some.row = sym c.in_ok-row.ensures ∙ c.in-Some.is in
    ended_past c.args.equations.now c.args.rows.now c.in-Some.row c.unknown_of.result past c.unknown_of.ensures

pub defects_of-requires-clause-range : goal.defects_of-requires-clause-range
defects_of-requires-clause-range c =
    let none : row_past c.args.equations.now c.args.rows.now ≡ None = sym c.in_ok-row.ensures ∙ c.in_default.is in
    in_range c.args.equations.now c.args.rows.now none

pub returns-in-Ok-clause-exact : goal.returns-in-Ok-clause-exact
returns-in-Ok-clause-exact c =
    let none : row_past c.args.equations.now c.args.rows.now ≡ None = sym c.in_ok-row.ensures ∙ c.in_default.is in
    record { range = none; first = c.in-Ok.ensures; bounding = c.in_ok-bounding.ensures }

pub returns-in-Ok-clause-accepted : goal.returns-in-Ok-clause-accepted
returns-in-Ok-clause-accepted c =
    let none : row_past c.args.equations.now c.args.rows.now ≡ None = sym c.in_ok-row.ensures ∙ c.in_default.is in
    makes_claim c.args.equations.now c.args.rows.now
    (record { heights = c.in-Ok.pass.heights; bounding = c.in_ok-bounding.bounding; bounds = c.in-Ok.pass.bounds }) c.requires
    (record { range = none; first = c.in-Ok.ensures; bounding = c.in_ok-bounding.ensures })

pub returns-clause-exact : goal.returns-clause-exact
returns-clause-exact c =
    let none : row_past c.args.equations.now c.args.rows.now ≡ None = sym c.in_ok-row.ensures ∙ c.in_default.is in
    has_ended c.args.equations.now c.args.rows.now c.in-Err.fault none c.in-Err.ensures
