-- Pairs keep the values of elements and options in range.
use Rattle.std.proofs.Common.{◌≡◌, ℕ, ◌≤◌, Bool, true, false, if◌then◌else◌, List, [], ◌∷◌, Option, Some, None, is_some, IfSome, Result, Ok, Err, IfOk, OnOk, refl}
use Rattle.std.proofs.lemmas.Result.{IfOk-at_ok, IfOk-weaker}
use Rattle.dss_values.specs.dss_lexer.Texts.{is_empty}
use Rattle.dss_values.specs.dss_lexer.declared.pair.Pair.{Pair}
use Rattle.dss_values.specs.dss_model.declared.fault.ModelError.{ModelError}
use Rattle.dss_values.specs.dss_model.declared.fault.ModelFault.{ModelFault}
use Rattle.dss_values.specs.dss_model.declared.fault.ModelFault.TheVariants as fault
use Rattle.dss_values.specs.dss_model.Names.{bytes, lower}
use Rattle.dss_values.specs.dss_model.Answers.{Makes}
use Rattle.dss_values.specs.Forms.{whole_between}
use Rattle.dss_values.specs.dss_model.declared.element.Element.{Element}
use Rattle.dss_values.specs.dss_model.declared.element.Element.TheVariants as the
use Rattle.dss_values.specs.dss_model.declared.options.Options.{Options}
use Rattle.dss_profile.specs.declared.options.OptionName.{OptionName}
use Rattle.dss_profile.specs.declared.options.OptionName.TheVariants as option
use Rattle.dss_values.specs.dss_model.declared.words.Mode.{Mode}
use Rattle.dss_values.specs.dss_model.declared.words.Mode.TheVariants as mode
use Rattle.dss_values.specs.dss_model.Changes.{Becomes}
use Rattle.dss_values.specs.dss_model.InRange.{LinecodeInRange, ElementInRange, OptionsInRange}
use Rattle.dss_values.specs.dss_model.Ranges.{IsCountBetween}
use Rattle.dss_profile.specs.Element.{code_found, with_named, with_pair}
use Rattle.dss_profile.specs.Options.{in_mode, with_option, with_named_option, with_options}
use Rattle.dss_profile.proofs.FormRanges.{count_by_test, then_ok, any_ok, made_ok, kept_ok, number_ok, whole_ok, numbers_ok, supported_ok}
use Rattle.dss_profile.proofs.ClassRanges.{vsource_in_range, linecode_in_range, line_in_range, transformer_in_range, capacitor_in_range, load_in_range, regcontrol_in_range, capcontrol_in_range, loadshape_in_range}

-- what a draft has become is in range where what is said is
pub draft_in_range : {X : Type 0} (P : X → Type 0) (new : X) (r : Result Unit ModelError) (said : Result X ModelFault)
    → Makes new r said → IfOk said P → OnOk r (P new)
draft_in_range P new (Ok done) said m h = IfOk-at_ok P m h
draft_in_range P new (Err e) said m h = tt

-- a value that has become what is said is a draft that has
pub becomes_made : {X : Type 0} (old new : X) (r : Result Unit ModelError) (said : Result X ModelFault)
    → Becomes old new r said → Makes new r said
becomes_made old new (Ok done) said h = h
becomes_made old new (Err e) said h = h.0

-- ---- elements

code_found_in_range : (found : Option Element) → IfSome found ElementInRange → IfSome (code_found found) LinecodeInRange
code_found_in_range None h = tt
code_found_in_range (Some (the.Linecode code)) h = h
code_found_in_range (Some (the.Vsource source)) h = tt
code_found_in_range (Some (the.Line line)) h = tt
code_found_in_range (Some (the.Transformer xfmr)) h = tt
code_found_in_range (Some (the.Capacitor bank)) h = tt
code_found_in_range (Some (the.Load load)) h = tt
code_found_in_range (Some (the.RegControl control)) h = tt
code_found_in_range (Some (the.CapControl control)) h = tt
code_found_in_range (Some (the.Loadshape shape)) h = tt

pub named_in_range : (solves : ℕ) (found : Option Element) (name : List ℕ) (pair : Pair) (element : Element)
    → IfSome found ElementInRange → ElementInRange element
    → IfOk (with_named solves found name pair element) ElementInRange
unfolding with_named
named_in_range solves found name pair (the.Vsource source) f h =
    any_ok ElementInRange _ _ (λ p.
    made_ok _ ElementInRange _ the.Vsource (vsource_in_range p pair source h) (λ x r. r))
named_in_range solves found name pair (the.Linecode code) f h =
    any_ok ElementInRange _ _ (λ p.
    made_ok _ ElementInRange _ the.Linecode (linecode_in_range p pair code h) (λ x r. r))
named_in_range solves found name pair (the.Line line) f h =
    any_ok ElementInRange _ _ (λ p.
    made_ok _ ElementInRange _ the.Line (line_in_range (code_found found) p pair line (code_found_in_range found f) h)
    (λ x r. r))
named_in_range solves found name pair (the.Transformer xfmr) f h =
    any_ok ElementInRange _ _ (λ p.
    made_ok _ ElementInRange _ the.Transformer (transformer_in_range solves p pair xfmr h) (λ x r. r))
named_in_range solves found name pair (the.Capacitor bank) f h =
    any_ok ElementInRange _ _ (λ p.
    made_ok _ ElementInRange _ the.Capacitor (capacitor_in_range solves p pair bank h) (λ x r. r))
named_in_range solves found name pair (the.Load load) f h =
    any_ok ElementInRange _ _ (λ p.
    made_ok _ ElementInRange _ the.Load (load_in_range (is_some found) p pair load h) (λ x r. r))
named_in_range solves found name pair (the.RegControl control) f h =
    any_ok ElementInRange _ _ (λ p. made_ok _ ElementInRange _ the.RegControl (regcontrol_in_range (is_some found) p pair control h) (λ x r. r))
named_in_range solves found name pair (the.CapControl control) f h =
    any_ok ElementInRange _ _ (λ p. made_ok _ ElementInRange _ the.CapControl (capcontrol_in_range (is_some found) p pair control h) (λ x r. r))
named_in_range solves found name pair (the.Loadshape shape) f h =
    any_ok ElementInRange _ _ (λ p.
    made_ok _ ElementInRange _ the.Loadshape (loadshape_in_range p pair shape h) (λ x r. r))

-- ---- options

mode_in_range : (m : Mode) (options : Options) → OptionsInRange options → OptionsInRange (in_mode m options)
mode_in_range mode.Snapshot options h = assumption h
mode_in_range mode.Daily options h =
    let day : IsCountBetween 1 8760 24 = count_by_test _ _ _ refl in
    assumption (h, day)

at_most : (high : ℕ) (pair : Pair) → IfOk (whole_between 0 high pair) (λ n. n ≤ high)
at_most high pair = IfOk-weaker (whole_between 0 high pair) _ _ (λ n r. r.most) (whole_ok 0 high pair)

option_in_range : (name : OptionName) (pair : Pair) (options : Options) → OptionsInRange options
    → IfOk (with_option name pair options) OptionsInRange
option_in_range option.Mode pair options h = kept_ok OptionsInRange _ _ (λ m. mode_in_range m options h)
option_in_range option.Number pair options h = made_ok _ OptionsInRange _ _ (whole_ok _ _ pair) (λ v r. assumption (h, r))
option_in_range option.Stepsize pair options h = kept_ok OptionsInRange _ _ (λ v. assumption h)
option_in_range option.Maxiterations pair options h = made_ok _ OptionsInRange _ _ (whole_ok _ _ pair) (λ v r. assumption (h, r))
option_in_range option.Tolerance pair options h = made_ok _ OptionsInRange _ _ (number_ok _ _ pair) (λ v r. assumption (h, r))
option_in_range option.Maxcontroliter pair options h = made_ok _ OptionsInRange _ _ (at_most _ pair) (λ v r. assumption (h, r))
option_in_range option.Controlmode pair options h = kept_ok OptionsInRange _ _ (λ v. assumption h)
option_in_range option.Voltagebases pair options h = made_ok _ OptionsInRange _ _ (numbers_ok _ _ pair) (λ v r. assumption (h, r))
option_in_range option.Defaultbasefrequency pair options h = made_ok _ OptionsInRange _ _ (supported_ok _ pair) (λ v r. assumption (h, r))

named_option_in_range : (pair : Pair) (options : Options) → OptionsInRange options
    → IfOk (with_named_option pair options) OptionsInRange
unfolding with_named_option
named_option_in_range pair options h = any_ok OptionsInRange _ _ (λ name. option_in_range name pair options h)

pub options_in_range : (pairs : List Pair) (options : Options) → OptionsInRange options
    → IfOk (with_options pairs options) OptionsInRange
options_in_range [] options h = h
options_in_range (p ∷ ps) options h =
    then_ok _ OptionsInRange (with_named_option p options) (with_options ps) (named_option_in_range p options h)
    (options_in_range ps)

-- a pair keeps an element in range
pub pair_in_range : (solves : ℕ) (found : Option Element) (pair : Pair) (e new : Element) → IfSome found ElementInRange
    → ElementInRange e → with_pair solves found pair e ≡ Ok new → ElementInRange new
unfolding with_pair
pair_in_range solves found pair e new f h is = by (is_empty pair.name) is
  where
    by : (b : Bool)
        → (if b then Err fault.Unsupported else with_named solves found (bytes (lower pair.name)) pair e) ≡ Ok new
        → ElementInRange new
    by true is = cc is
    by false is = IfOk-at_ok ElementInRange is (named_in_range solves found (bytes (lower pair.name)) pair e f h)
