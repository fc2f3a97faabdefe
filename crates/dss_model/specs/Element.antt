-- Elements of all classes: their classes, their places and their defaults.
use Rattle.std.specs.Prelude.{ℕ}
use Rattle.dss_model.specs.declared.command.Place.{Place}
use Rattle.dss_model.specs.declared.element.Element.{Element}
use Rattle.dss_model.specs.declared.element.Element.TheVariants as the
use Rattle.dss_model.specs.declared.names.Class.{Class}
use Rattle.dss_model.specs.declared.names.Class.TheVariants as class
use Rattle.dss_model.specs.Defaults.{fresh_vsource, fresh_linecode, fresh_line, fresh_transformer, fresh_capacitor, fresh_load, fresh_regcontrol, fresh_capcontrol, fresh_loadshape}

abbrev pub class_of : Element → Class
class_of (the.Vsource source) = class.Vsource
class_of (the.Linecode code) = class.Linecode
class_of (the.Line line) = class.Line
class_of (the.Transformer xfmr) = class.Transformer
class_of (the.Capacitor bank) = class.Capacitor
class_of (the.Load load) = class.Load
class_of (the.RegControl control) = class.RegControl
class_of (the.CapControl control) = class.CapControl
class_of (the.Loadshape shape) = class.Loadshape

abbrev pub place_of : Element → Place
place_of (the.Vsource source) = source.place
place_of (the.Linecode code) = code.place
place_of (the.Line line) = line.place
place_of (the.Transformer xfmr) = xfmr.place
place_of (the.Capacitor bank) = bank.place
place_of (the.Load load) = load.place
place_of (the.RegControl control) = control.place
place_of (the.CapControl control) = control.place
place_of (the.Loadshape shape) = shape.place

-- an element of a class with its defaults; `solves` is the number of Solves that were applied so far
abbrev pub fresh : ℕ → Class → Place → Element
fresh solves class.Vsource place = the.Vsource (fresh_vsource place)
fresh solves class.Linecode place = the.Linecode (fresh_linecode place)
fresh solves class.Line place = the.Line (fresh_line place)
fresh solves class.Transformer place = the.Transformer (fresh_transformer solves place)
fresh solves class.Capacitor place = the.Capacitor (fresh_capacitor solves place)
fresh solves class.Load place = the.Load (fresh_load place)
fresh solves class.RegControl place = the.RegControl (fresh_regcontrol place)
fresh solves class.CapControl place = the.CapControl (fresh_capcontrol place)
fresh solves class.Loadshape place = the.Loadshape (fresh_loadshape place)
