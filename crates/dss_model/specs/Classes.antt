-- The words of the classes.
use Rattle.std.specs.Prelude.{ℕ, List, [], ◌∷◌, codes, map}
use Rattle.dss_model.specs.declared.names.Class.{Class}
use Rattle.dss_model.specs.declared.names.Class.TheVariants as the

-- a class, as it is written in lower case
abbrev pub class_word : Class → List ℕ
class_word the.Vsource = codes "vsource"
class_word the.Linecode = codes "linecode"
class_word the.Line = codes "line"
class_word the.Transformer = codes "transformer"
class_word the.Capacitor = codes "capacitor"
class_word the.Load = codes "load"
class_word the.RegControl = codes "regcontrol"
class_word the.CapControl = codes "capcontrol"
class_word the.Loadshape = codes "loadshape"

-- the classes by their words
abbrev pub classes : List (List ℕ × Class)
classes =
    map (λ class. (class_word class, class)) (the.Vsource ∷ the.Linecode ∷ the.Line ∷ the.Transformer ∷ the.Capacitor
    ∷ the.Load ∷ the.RegControl ∷ the.CapControl ∷ the.Loadshape ∷ [])
