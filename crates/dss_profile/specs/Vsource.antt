-- The properties of a Vsource: the form and range of each, and the field that it sets.
use Rattle.std.specs.Prelude.{ℕ, List, [], ◌∷◌, codes, pos, Some, None, Result, Ok}
use Rattle.dss_values.specs.dss_lexer.declared.pair.Pair.{Pair}
use Rattle.dss_values.specs.dss_model.declared.fault.ModelFault.{ModelFault}
use Rattle.dss_values.specs.dss_model.declared.command.Place.{Place}
use Rattle.dss_values.specs.dss_model.declared.vsource.Vsource.{Vsource}
use Rattle.dss_profile.specs.declared.vsource.VsourceProperty.{VsourceProperty}
use Rattle.dss_profile.specs.declared.vsource.VsourceProperty.TheVariants as the
use Rattle.dss_values.specs.dss_model.declared.words.SourceForm.TheVariants as source_form
use Rattle.dss_values.specs.dss_model.Answers.{◌>>=◌}
use Rattle.dss_values.specs.dss_model.Ranges.{ones}
use Rattle.dss_values.specs.Forms.{number_in, number_between, whole_among, ratio_in, angle_in, bus_in}

abbrev pub vsource_properties : List (List ℕ × VsourceProperty)
vsource_properties =
    (codes "bus1", the.Bus1)
    ∷ (codes "phases", the.Phases)
    ∷ (codes "basekv", the.Basekv)
    ∷ (codes "pu", the.Pu)
    ∷ (codes "angle", the.Angle)
    ∷ (codes "mvasc3", the.Mvasc3)
    ∷ (codes "mvasc1", the.Mvasc1)
    ∷ (codes "x1r1", the.X1r1)
    ∷ (codes "x0r0", the.X0r0)
    ∷ (codes "r1", the.R1)
    ∷ (codes "x1", the.X1)
    ∷ (codes "r0", the.R0)
    ∷ (codes "x0", the.X0)
    ∷ (codes "basefreq", the.Basefreq)
    ∷ []

-- any of r1, x1, r0 and x0 puts the source in ohms, and a short-circuit power puts it back
abbrev pub with_vsource : VsourceProperty → Pair → Vsource → Result Vsource ModelFault
with_vsource the.Bus1 pair source = bus_in pair >>= λ b. Ok (record source { bus1 = b })
with_vsource the.Phases pair source = whole_among (1 ∷ 3 ∷ []) pair >>= λ n. Ok (record source { phases = n })
with_vsource the.Basekv pair source = number_between (pos 1_000_000) (ones 1000) pair >>= λ n. Ok (record source { basekv = n })
with_vsource the.Pu pair source = number_between (pos 0) (ones 2) pair >>= λ n. Ok (record source { pu = n })
with_vsource the.Angle pair source = angle_in pair >>= λ n. Ok (record source { angle = n })
with_vsource the.Mvasc3 pair source =
    number_between (pos 1_000_000) (ones 1_000_000) pair
    >>= λ n. Ok (record source { mvasc3 = n; form = source_form.ShortCircuit })
with_vsource the.Mvasc1 pair source =
    number_between (pos 1_000_000) (ones 1_000_000) pair
    >>= λ n. Ok (record source { mvasc1 = n; form = source_form.ShortCircuit })
with_vsource the.X1r1 pair source = ratio_in pair >>= λ n. Ok (record source { x1r1 = n })
with_vsource the.X0r0 pair source = ratio_in pair >>= λ n. Ok (record source { x0r0 = n })
with_vsource the.R1 pair source = number_between (pos 0) (ones 10_000) pair >>= λ n. Ok (record source { r1 = Some n; form = source_form.Ohms })
with_vsource the.X1 pair source = number_between (pos 0) (ones 10_000) pair >>= λ n. Ok (record source { x1 = Some n; form = source_form.Ohms })
with_vsource the.R0 pair source = number_between (pos 0) (ones 10_000) pair >>= λ n. Ok (record source { r0 = Some n; form = source_form.Ohms })
with_vsource the.X0 pair source = number_between (pos 0) (ones 10_000) pair >>= λ n. Ok (record source { x0 = Some n; form = source_form.Ohms })
with_vsource the.Basefreq pair source = number_in pair >>= λ n. Ok (record source { basefreq = Some n })
