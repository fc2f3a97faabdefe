-- When two elements are the same.
use Rattle.std.specs.Prelude.{◌≡◌, ◌↔◌, ℕ, ◌==◌, ◌&&◌, Bool, IsTrue}
use Rattle.dss_lexer.specs.Texts.{text_eq}
use Rattle.dss_model.specs.declared.names.Class.{Class}
use Rattle.dss_model.specs.declared.names.Class.TheVariants as the
use Rattle.dss_model.specs.declared.names.ElementName.{ElementName}

-- the place of a class in their order
abbrev pub class_number : Class → ℕ
class_number the.Vsource = 0
class_number the.Linecode = 1
class_number the.Line = 2
class_number the.Transformer = 3
class_number the.Capacitor = 4
class_number the.Load = 5
class_number the.RegControl = 6
class_number the.CapControl = 7
class_number the.Loadshape = 8

-- the same class and the same name
abbrev pub same_element : ElementName → ElementName → Bool
same_element a b = (class_number a.class == class_number b.class) && text_eq a.name b.name

-- two elements are the same exactly where they are equal
abbrev pub SameElementIsEqual : Type 0
SameElementIsEqual = (a b : ElementName) → IsTrue (same_element a b) ↔ a ≡ b
