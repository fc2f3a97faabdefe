-- A number that stands without a group is read without memory.
use Rattle.std.specs.Prelude.{◌≡◌, false, Result, IfErr}
use Rattle.dss_model.specs.dss_lexer.declared.pair.Pair.{Pair}
use Rattle.dss_model.specs.declared.fault.ModelError.{ModelError}
use Rattle.dss_model.specs.declared.fault.ModelError.TheVariants.{NoMemory}

-- want of memory isn't the answer for a value without a group
abbrev pub IsReadWhereBare : {X : Type 0} → Pair → Result X ModelError → Type 0
IsReadWhereBare pair result = pair.grouped ≡ false → IfErr result (λ e. e ≡ NoMemory → ⊥)
