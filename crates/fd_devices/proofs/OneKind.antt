-- What holds of the elements of one class.
use Rattle.std.proofs.Common.{◌≡◌, [], length, refl}
use Rattle.std.specs.List.{All}
use Rattle.std.proofs.lemmas.List.Elements.{All-cons, All-nil}
use Rattle.dss_layout.specs.dss_model.Element.{class_of}
use Rattle.dss_layout.specs.dss_model.InRange.{ElementInRange, TransformerInRange}
use Rattle.dss_layout.specs.dss_model.declared.element.Element.{Element}
use Rattle.dss_layout.specs.dss_model.declared.element.Element.TheVariants as the
use Rattle.dss_layout.specs.dss_model.declared.names.Class.TheVariants as class
use Rattle.fd_devices.specs.Kinds.{banks_in, transformers_in}

-- the transformer that an element in range is, is in range
pub transformers_in_range : (e : Element) → ElementInRange e → All TransformerInRange (transformers_in e)
transformers_in_range (the.Transformer t) h = All-cons TransformerInRange t [] h (All-nil TransformerInRange)
transformers_in_range e h = All-nil TransformerInRange

-- an element of the class is one
pub one_transformer : (e : Element) → class.Transformer ≡ class_of e → length (transformers_in e) ≡ 1
one_transformer (the.Transformer t) h = refl
one_transformer e h = absurd (cc)

pub one_bank : (e : Element) → class.Capacitor ≡ class_of e → length (banks_in e) ≡ 1
one_bank (the.Capacitor c) h = refl
one_bank e h = absurd (cc)
