-- What stays where the classes of loads, capacitors and controls are dropped one after the other.
use Rattle.std.proofs.Common.{◌≡◌, ◌≢◌, ◌⊎◌, inr, ◌==◌, ◌∙◌, ℕ, Bool, true, false, cond, not, List, [], ◌∷◌, ◌++◌, Option, Some, None, OnSome, All, refl, sym, ap, subst, if◌then◌else◌, slice_index_or, length, ◌≤◌, arith}
use Rattle.std.specs.Map.{lookup}
use Rattle.std.proofs.lemmas.Bool.{false≢true}
use Rattle.std.proofs.lemmas.List.Elements.{All-filter, All-head, All-tail, filter_passes}
use Rattle.indexmap.specs.IndexMap.{insert_entry}
use Rattle.dss_ready.specs.dss_model.declared.element.Element.{Element}
use Rattle.dss_ready.specs.dss_model.declared.element.Element.TheVariants as the
use Rattle.dss_ready.specs.dss_model.declared.names.Class.{Class}
use Rattle.dss_ready.specs.dss_model.declared.names.Class.TheVariants as class
use Rattle.dss_ready.specs.dss_model.declared.names.ElementName.{ElementName}
use Rattle.dss_ready.specs.dss_model.Element.{class_of}
use Rattle.dss_ready.specs.dss_model.SameElement.{class_number, same_element}
use Rattle.dss_ready.specs.dss_circuit.Circuit.{Elements, has_circuit}
use Rattle.dss_ready.specs.dss_circuit.WellFormed.{BeginsWithSource, IsEntry}
use Rattle.dss_ready.specs.dss_circuit.Without.{NamesNone, OthersNameNone, is_of_other, without}
use Rattle.fd_fault.specs.declared.kind.Kind.{Kind}
use Rattle.fd_fault.specs.declared.kind.Kind.TheVariants as kind
use Rattle.fd_fault.specs.FaultCircuit.{first_missing, stays, stripped}

pub given_or_not : {X P : Type 0} (o : Option X) → P → OnSome o P
given_or_not None p = tt
given_or_not (Some x) p = p

-- an element that isn't a CapControl names no Capacitor
names_no_bank : (name : ElementName) (x : Element) → IsEntry (name, x) → is_of_other class.CapControl (name, x) ≡ true
    → (name.class ≡ class.Capacitor) ⊎ NamesNone class.Capacitor x
names_no_bank name (the.CapControl control) h t =
    let gone : is_of_other class.CapControl (name, the.CapControl control) ≡ false =
    ap (λ (c : Class). not (class_number c == class_number class.CapControl)) h.class in
    absurd (false≢true (sym gone ∙ t))
names_no_bank name (the.Line line) h t =
    let other : class.Capacitor ≢ class.Linecode = λ e. cc e in inr (given_or_not line.linecode other)
names_no_bank name (the.Load load) h t =
    let other : class.Capacitor ≢ class.Loadshape = λ e. cc e in inr (given_or_not load.daily other)
names_no_bank name (the.RegControl control) h t =
    let other : class.Capacitor ≢ class.Transformer = λ e. cc e in inr (given_or_not control.transformer other)
names_no_bank name (the.Vsource source) h t = inr tt
names_no_bank name (the.Linecode code) h t = inr tt
names_no_bank name (the.Transformer xfmr) h t = inr tt
names_no_bank name (the.Capacitor bank) h t = inr tt
names_no_bank name (the.Loadshape shape) h t = inr tt

abbrev IsOther : ElementName × Element → Type 0
IsOther e = is_of_other class.CapControl e ≡ true

abbrev pub without_controls : Elements → Elements
without_controls es = without class.RegControl (without class.CapControl es)

pub no_bank_named : (es : Elements) → All IsEntry es → OthersNameNone class.Capacitor (without_controls es)
no_bank_named es h =
    let inner = without class.CapControl es in
    let entries = All-filter (is_of_other class.RegControl) IsEntry inner (All-filter (is_of_other class.CapControl) IsEntry es h) in
    let others = All-filter (is_of_other class.RegControl) IsOther inner (filter_passes (is_of_other class.CapControl) es) in
    λ k d within.
    let e = slice_index_or (without_controls es) k d in
    names_no_bank e.0 e.1 (entries k d within) (others k d within)

-- ---- the chain is one filter

abbrev pub without_all : Elements → Elements
without_all es = without class.Load (without class.Capacitor (without_controls es))

with_class : (n : List ℕ) (x : Element) (es : Elements)
    → without_all ((record { class = class_of x; name = n }, x) ∷ es)
    ≡ cond (stays x) ((record { class = class_of x; name = n }, x) ∷ without_all es) (without_all es)
with_class n (the.Vsource source) es = refl
with_class n (the.Linecode code) es = refl
with_class n (the.Line line) es = refl
with_class n (the.Transformer xfmr) es = refl
with_class n (the.Capacitor bank) es = refl
with_class n (the.Load load) es = refl
with_class n (the.RegControl control) es = refl
with_class n (the.CapControl control) es = refl
with_class n (the.Loadshape shape) es = refl

pub chained : (es : Elements) → All IsEntry es → without_all es ≡ stripped es
chained [] h = refl
chained (e ∷ es) h =
    let own = All-head IsEntry e es h in
    subst (λ (c : Class). without_all ((record { class = c; name = e.0.name }, e.1) ∷ es)
    ≡ cond (stays e.1) ((record { class = c; name = e.0.name }, e.1) ∷ without_all es) (without_all es)) (sym own.class) (with_class e.0.name e.1 es)
    ∙ ap (λ (rest : Elements). cond (stays e.1) (e ∷ rest) rest) (chained es (All-tail IsEntry e es h))

-- ---- what is found

-- a name that none has is not among those that stay
pub absent_still : (name : ElementName) (es : Elements) → lookup (same_element name) es ≡ None
    → lookup (same_element name) (stripped es) ≡ None
absent_still name [] h = refl
absent_still name (e ∷ es) h = by (same_element name e.0) refl (stays e.1) (absent_still name es)
  where
    behind : (b : Bool) → same_element name e.0 ≡ b
        → (if b then Some e.1 else lookup (same_element name) es) ≡ None
    behind b t = ap (λ (b : Bool). if b then Some e.1 else lookup (same_element name) es) (sym t) ∙ h

    by : (b : Bool) → same_element name e.0 ≡ b → (s : Bool)
        → (lookup (same_element name) es ≡ None → lookup (same_element name) (stripped es) ≡ None)
        → lookup (same_element name) (cond s (e ∷ stripped es) (stripped es)) ≡ None
    by true t s rest = cc (behind true t)
    by false t true rest =
        ap (λ (b : Bool). if b then Some e.1 else lookup (same_element name) (stripped es)) t ∙ rest (behind false t)
    by false t false rest = rest (behind false t)

-- a new name stands last
pub put_last : (es : Elements) (name : ElementName) (x : Element) → lookup (same_element name) es ≡ None
    → insert_entry same_element es name x ≡ es ++ (name, x) ∷ []
put_last [] name x h = refl
put_last (e ∷ es) name x h = by (same_element name e.0) refl (put_last es name x)
  where
    behind : (b : Bool) → same_element name e.0 ≡ b
        → (if b then Some e.1 else lookup (same_element name) es) ≡ None
    behind b t = ap (λ (b : Bool). if b then Some e.1 else lookup (same_element name) es) (sym t) ∙ h

    by : (b : Bool) → same_element name e.0 ≡ b
        → (lookup (same_element name) es ≡ None → insert_entry same_element es name x ≡ es ++ (name, x) ∷ [])
        → (if b then (e.0, x) ∷ es else e ∷ insert_entry same_element es name x) ≡ e ∷ (es ++ (name, x) ∷ [])
    by true t rest = cc (behind true t)
    by false t rest = ap (λ (es : Elements). e ∷ es) (rest (behind false t))

-- the source stays
pub begun_still : (es : Elements) → All IsEntry es → BeginsWithSource es → has_circuit es ≡ true
    → has_circuit (stripped es) ≡ true
begun_still [] h s b = b
begun_still ((name, x) ∷ es) h s b = by x (All-head IsEntry (name, x) es h)
  where
    apart : {P : Type 0} (y : Element) → IsEntry (name, y) → (class_number class.Vsource == class_number (class_of y)) ≡ false → P
    apart y own differs =
        absurd (false≢true (sym differs ∙ ap (λ (c : Class). class_number class.Vsource == class_number c)
        (sym own.class ∙ ap (λ (n : ElementName). n.class) s)))

    by : (y : Element) → IsEntry (name, y) → has_circuit (cond (stays y) ((name, y) ∷ stripped es) (stripped es)) ≡ true
    by (the.Vsource source) own = refl
    by (the.Linecode code) own = refl
    by (the.Line line) own = refl
    by (the.Transformer xfmr) own = refl
    by (the.Loadshape shape) own = refl
    by (the.Capacitor bank) own = apart (the.Capacitor bank) own refl
    by (the.Load load) own = apart (the.Load load) own refl
    by (the.RegControl control) own = apart (the.RegControl control) own refl
    by (the.CapControl control) own = apart (the.CapControl control) own refl

-- no more stay than there were
pub shorter : (es : Elements) → length (stripped es) ≤ length es
shorter [] = omega arith
shorter (e ∷ es) = by (stays e.1) (shorter es)
  where
    by : (s : Bool) → length (stripped es) ≤ length es → length (cond s (e ∷ stripped es) (stripped es)) ≤ length (e ∷ es)
    by true h = omega arith
    by false h = omega arith

-- where a node is there, so is a circuit
pub begun_where : (es : Elements) (bus : List ℕ) (kind : Kind) → first_missing es bus kind ≡ None → has_circuit es ≡ true
begun_where [] bus kind.Lll h = cc h
begun_where [] bus kind.Lg1 h = cc h
begun_where [] bus kind.Lg2 h = cc h
begun_where [] bus kind.Lg3 h = cc h
begun_where (e ∷ es) bus k h = refl
