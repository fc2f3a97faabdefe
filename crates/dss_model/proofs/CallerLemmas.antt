-- What a caller needs to know of the names and the classes of elements.
use Rattle.std.proofs.Common.{◌≡◌, ℕ, ◌&&◌, ◌==◌, eqb, IsTrue, [], ◌∷◌, slice_index_or, refl, sym, ap, ◌∙◌}
use Rattle.std.specs.Cmp.Lexicographic.{bytes_decides}
use Rattle.std.proofs.lemmas.Bool.{and_from, and_parts, eqb-true, eq-eqb}
use denote.Enum.Declared.{tag_of}
use Rattle.dss_lexer.specs.Texts.{text_eq}
use Rattle.dss_model.specs.declared.names.Class.{Class}
use Rattle.dss_model.specs.declared.names.Class.TheVariants as the
use Rattle.dss_model.specs.declared.names.ElementName.{ElementName}
use Rattle.dss_model.specs.contracts.names.Class.{the_type}
use Rattle.dss_model.specs.contracts.names.ElementNamePartialEq.TheImpl.{eq-value}
use Rattle.dss_model.specs.SameElement.{class_number, same_element, SameElementIsEqual}
use Rattle.dss_model.specs.declared.command.Place.{Place}
use Rattle.dss_model.specs.Element.{class_of, fresh}
pub use Rattle.dss_lexer.proofs.CallerLemmas as dss_lexer

numbered : (a : Class) → tag_of the_type a ≡ class_number a
numbered the.Vsource = refl
numbered the.Linecode = refl
numbered the.Line = refl
numbered the.Transformer = refl
numbered the.Capacitor = refl
numbered the.Load = refl
numbered the.RegControl = refl
numbered the.CapControl = refl
numbered the.Loadshape = refl

-- `==` is the same class and the same name
pub compares : eq-value.it ≡ same_element
compares = λ i a b. eqb (numbered a.class i) (numbered b.class i) && text_eq a.name b.name

abbrev class_at : ℕ → Class
class_at n =
    slice_index_or (the.Vsource ∷ the.Linecode
    ∷ the.Line ∷ the.Transformer ∷ the.Capacitor ∷ the.Load ∷ the.RegControl ∷ the.CapControl ∷ the.Loadshape ∷ [])
    n the.Vsource

found : (a : Class) → class_at (class_number a) ≡ a
found the.Vsource = refl
found the.Linecode = refl
found the.Line = refl
found the.Transformer = refl
found the.Capacitor = refl
found the.Load = refl
found the.RegControl = refl
found the.CapControl = refl
found the.Loadshape = refl

one_class : (a b : Class) → class_number a ≡ class_number b → a ≡ b
one_class a b e = sym (found a) ∙ ap class_at e ∙ found b

-- the same element is an equal one
pub equal : SameElementIsEqual
equal a b = (
  same,
  λ e.
      and_from _ _ (eq-eqb _ _ (ap (λ (x : ElementName). class_number x.class) e))
      ((bytes_decides a.name b.name).1 (ap (λ (x : ElementName). x.name) e)),
)
  where
    same : IsTrue (same_element a b) → a ≡ b
    same h =
        let parts = and_parts (class_number a.class == class_number b.class) (text_eq a.name b.name) h in
        let classes = one_class a.class b.class (eqb-true (class_number a.class) (class_number b.class) parts.0) in
        let names = (bytes_decides a.name b.name).0 parts.1 in
        λ i. record { class = classes i; name = names i }

-- an element with its defaults is of the class that was asked for
pub fresh_class : (solves : ℕ) (class : Class) (place : Place) → class_of (fresh solves class place) ≡ class
fresh_class solves the.Vsource place = refl
fresh_class solves the.Linecode place = refl
fresh_class solves the.Line place = refl
fresh_class solves the.Transformer place = refl
fresh_class solves the.Capacitor place = refl
fresh_class solves the.Load place = refl
fresh_class solves the.RegControl place = refl
fresh_class solves the.CapControl place = refl
fresh_class solves the.Loadshape place = refl
