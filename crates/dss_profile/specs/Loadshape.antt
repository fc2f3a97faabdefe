-- The properties of a Loadshape: the form and range of each, and the field that it sets.
use Rattle.std.specs.Prelude.{ℕ, List, [], ◌∷◌, codes, pos, Result, Ok}
use Rattle.dss_values.specs.dss_lexer.declared.pair.Pair.{Pair}
use Rattle.dss_values.specs.dss_model.declared.fault.ModelFault.{ModelFault}
use Rattle.dss_values.specs.dss_model.declared.command.Place.{Place}
use Rattle.dss_values.specs.dss_model.declared.loadshape.Loadshape.{Loadshape}
use Rattle.dss_profile.specs.declared.loadshape.LoadshapeProperty.{LoadshapeProperty}
use Rattle.dss_profile.specs.declared.loadshape.LoadshapeProperty.TheVariants as the
use Rattle.dss_values.specs.dss_model.Answers.{◌>>=◌}
use Rattle.dss_values.specs.dss_model.Ranges.{ones}
use Rattle.dss_values.specs.Forms.{whole_between, supported_among, numbers_between}

abbrev pub loadshape_properties : List (List ℕ × LoadshapeProperty)
loadshape_properties =
    (codes "npts", the.Npts)
    ∷ (codes "interval", the.Interval)
    ∷ (codes "mult", the.Mult)
    ∷ []

abbrev pub with_loadshape : LoadshapeProperty → Pair → Loadshape → Result Loadshape ModelFault
with_loadshape the.Npts pair shape = whole_between 0 8760 pair >>= λ n. Ok (record shape { npts = n })
with_loadshape the.Interval pair shape = supported_among (1 ∷ []) pair >>= λ n. Ok (record shape { interval = n })
with_loadshape the.Mult pair shape = numbers_between (pos 0) (ones 1000) pair >>= λ ns. Ok (record shape { mult = ns })
