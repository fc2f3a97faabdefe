-- What a caller needs to know of the answers that a pair's steps give.
use Rattle.std.proofs.Common.{◌≡◌, ℕ, Bool, true, false, List, Option, is_some, Ok, Err, IfOk, if◌then◌else◌, refl}
use Rattle.std.proofs.lemmas.Result.{IfOk-at_ok}
use Rattle.dss_values.specs.dss_lexer.Texts.{is_empty, text_eq}
use Rattle.dss_values.specs.dss_model.declared.names.Class.{Class}
use Rattle.dss_values.specs.dss_model.declared.names.Class.TheVariants as the
use Rattle.dss_values.specs.dss_lexer.declared.pair.Pair.{Pair}
use Rattle.dss_values.specs.dss_model.declared.fault.ModelFault.TheVariants as fault
use Rattle.dss_values.specs.dss_model.Names.{bytes, lower}
use Rattle.dss_values.specs.dss_model.declared.command.Place.{Place}
use Rattle.dss_values.specs.dss_model.declared.element.Element.{Element}
use Rattle.dss_values.specs.dss_model.declared.element.Element.TheVariants as the_element
use Rattle.dss_values.specs.dss_model.Element.{class_of, fresh}
use Rattle.dss_profile.specs.Element.{code_found, with_named, with_pair}
use Rattle.dss_profile.specs.Vsource.{with_vsource}
use Rattle.dss_profile.specs.Linecode.{with_linecode}
use Rattle.dss_profile.specs.Line.{with_line}
use Rattle.dss_profile.specs.Transformer.{with_transformer}
use Rattle.dss_profile.specs.Capacitor.{with_capacitor}
use Rattle.dss_profile.specs.Load.{with_load}
use Rattle.dss_profile.specs.RegControl.{with_regcontrol}
use Rattle.dss_profile.specs.CapControl.{with_capcontrol}
use Rattle.dss_profile.specs.Loadshape.{with_loadshape}
pub use Rattle.dss_profile.proofs.ElementRanges.{options_in_range, pair_in_range}
pub use Rattle.dss_profile.proofs.FormRanges.{then_ok, any_ok, made_ok, kept_ok, found_ok}

-- ---- classes

-- an element of this class
abbrev IsOf : Class → Element → Type 0
IsOf class e = class_of e ≡ class

named_class : (solves : ℕ) (found : Option Element) (name : List ℕ) (pair : Pair) (e : Element)
    → IfOk (with_named solves found name pair e) (IsOf (class_of e))
unfolding with_named
named_class solves found name pair (the_element.Vsource source) =
    any_ok (IsOf the.Vsource) _ _ (λ p.
    kept_ok (IsOf the.Vsource) (with_vsource p pair source) the_element.Vsource (λ x. refl))
named_class solves found name pair (the_element.Linecode code) =
    any_ok (IsOf the.Linecode) _ _ (λ p.
    kept_ok (IsOf the.Linecode) (with_linecode p pair code) the_element.Linecode (λ x. refl))
named_class solves found name pair (the_element.Line line) =
    any_ok (IsOf the.Line) _ _ (λ p.
    kept_ok (IsOf the.Line) (with_line (code_found found) p pair line) the_element.Line (λ x. refl))
named_class solves found name pair (the_element.Transformer xfmr) =
    any_ok (IsOf the.Transformer) _ _ (λ p.
    kept_ok (IsOf the.Transformer) (with_transformer solves p pair xfmr) the_element.Transformer (λ x. refl))
named_class solves found name pair (the_element.Capacitor bank) =
    any_ok (IsOf the.Capacitor) _ _ (λ p.
    kept_ok (IsOf the.Capacitor) (with_capacitor solves p pair bank) the_element.Capacitor (λ x. refl))
named_class solves found name pair (the_element.Load load) =
    any_ok (IsOf the.Load) _ _ (λ p.
    kept_ok (IsOf the.Load) (with_load (is_some found) p pair load) the_element.Load (λ x. refl))
named_class solves found name pair (the_element.RegControl control) =
    any_ok (IsOf the.RegControl) _ _ (λ p.
    kept_ok (IsOf the.RegControl) (with_regcontrol (is_some found) p pair control) the_element.RegControl (λ x. refl))
named_class solves found name pair (the_element.CapControl control) =
    any_ok (IsOf the.CapControl) _ _ (λ p.
    kept_ok (IsOf the.CapControl) (with_capcontrol (is_some found) p pair control) the_element.CapControl (λ x. refl))
named_class solves found name pair (the_element.Loadshape shape) =
    any_ok (IsOf the.Loadshape) _ _ (λ p.
    kept_ok (IsOf the.Loadshape) (with_loadshape p pair shape) the_element.Loadshape (λ x. refl))

-- a pair keeps an element's class
pub class_kept : (solves : ℕ) (found : Option Element) (pair : Pair) (e new : Element)
    → with_pair solves found pair e ≡ Ok new → class_of new ≡ class_of e
unfolding with_pair
class_kept solves found pair e new h = by (is_empty pair.name) h
  where
    by : (b : Bool)
        → (if b then Err fault.Unsupported else with_named solves found (bytes (lower pair.name)) pair e) ≡ Ok new
        → class_of new ≡ class_of e
    by true h = cc h
    by false h = IfOk-at_ok (IsOf (class_of e)) h (named_class solves found (bytes (lower pair.name)) pair e)
