-- The keys of commands are names of allowed characters in lower case.
use Rattle.std.proofs.Common.{◌≡◌, ℕ, Bool, true, false, ◌&&◌, if◌then◌else◌, List, [], ◌∷◌, length, IsTrue, Ok, Err, refl, sym, ap, subst, ◌∙◌, arith}
use Rattle.std.specs.List.{list_all}
use Rattle.std.specs.Prelude.{codes, nat_eq, nat_lt}
use Rattle.std.specs.Cmp.Lexicographic.{pointwise}
use Rattle.std.specs.Char.{to_ascii_lowercase}
use Rattle.std.proofs.lemmas.Bool.{and_from, and_parts}
use Rattle.std.proofs.lemmas.Bool.Decides.{nat_tests}
use Rattle.std.proofs.lemmas.List.{length-map}
use Rattle.std.proofs.lemmas.Str.Ascii.{lowercase-lowercase}
use Rattle.dss_circuit.specs.dss_lexer.Texts.{is_empty}
use Rattle.dss_circuit.specs.dss_model.declared.fault.ModelFault.TheVariants as fault
use Rattle.dss_circuit.specs.dss_model.declared.names.Class.{Class}
use Rattle.dss_circuit.specs.dss_model.declared.names.ElementName.{ElementName}
use Rattle.dss_circuit.specs.dss_model.Answers.{◌>>=◌, or_fault}
use Rattle.dss_circuit.specs.dss_model.Classes.{classes}
use Rattle.dss_circuit.specs.dss_model.Names.{bytes, is_name, is_name_character, lower, named}
use Rattle.dss_circuit.specs.Circuit.{source_name}
use Rattle.dss_circuit.specs.WellFormed.{IsKey}
use Rattle.dss_commands.specs.Keys.{edit_key, element_key, made_key, needed, new_key, written}
use Rattle.dss_commands.proofs.Steps.{through}

-- ---- names

name_stays : (c : ℕ) → is_name_character c ≡ true → is_name_character (to_ascii_lowercase c) ≡ true
name_stays c h = grind (arith, nat_tests, h)

all_stay : (cs : List ℕ) → list_all is_name_character cs ≡ true → list_all is_name_character (lower cs) ≡ true
all_stay [] h = refl
all_stay (c ∷ cs) h =
    let parts = and_parts (is_name_character c) (list_all is_name_character cs) h in
    λ i. name_stays c parts.0 i && all_stay cs parts.1 i

lower_lower : (cs : List ℕ) → lower (lower cs) ≡ lower cs
lower_lower [] = refl
lower_lower (c ∷ cs) = λ i. lowercase-lowercase c i ∷ lower_lower cs i

-- a name of allowed characters, put in lower case
key_of : (class : Class) (name : List ℕ) → IsTrue (is_name name) → IsKey (record { class = class; name = lower name })
unfolding is_name
key_of class name h =
    let parts = and_parts (nat_lt 0 (length name)) (list_all is_name_character name) h in
    record {
      legal = and_from (nat_lt 0 (length (lower name))) (list_all is_name_character (lower name))
          (ap (nat_lt 0) (length-map name to_ascii_lowercase) ∙ parts.0) (all_stay name parts.1);
      in_lower_case = lower_lower name;
    }

-- ---- keys

source_key : IsKey source_name
unfolding is_name
source_key = record { legal = refl; in_lower_case = refl }

-- a name is written as such
legal_by : (a b : Bool) (done : Unit {0})
    → (if a then Err fault.BadValue else (if b then Ok tt else Err fault.BadValue)) ≡ Ok done → b ≡ true
legal_by true b done h = cc h
legal_by false true done h = refl
legal_by false false done h = cc h

legal_name : (kind name : List ℕ) (done : Unit {0}) → written kind name ≡ Ok done → IsTrue (is_name name)
legal_name kind name done h = legal_by (is_empty kind) (is_name name) done h

begun_before : (begun : Bool) (done : Unit {0}) → needed begun ≡ Ok done → begun ≡ false → ⊥
begun_before true done h e = absurd (cc e)
begun_before false done h e = absurd (cc h)

element_key_is : (kind name : List ℕ) (begun : Bool) (key : ElementName) → IsTrue (is_name name)
    → element_key kind name begun ≡ Ok key → IsKey key × (begun ≡ false → key ≡ source_name)
element_key_is kind name begun key legal h =
    let t = through (or_fault fault.UnknownClass (named classes kind)) (λ c. needed begun >>= λ done. Ok (record { class = c; name = lower name })) key h in
    let u = through (needed begun) (λ done. Ok (record { class = t.value; name = lower name })) key t.next in
    let e : record { class = t.value; name = lower name } ≡ key = cc u.next in
    (subst IsKey e (key_of t.value name legal), λ none. absurd (begun_before begun u.value u.first none))

-- the key of an Edit
pub edit_key_is : (kind name : List ℕ) (begun : Bool) (key : ElementName) → edit_key kind name begun ≡ Ok key
    → IsKey key
edit_key_is kind name begun key h =
    let t = through (written kind name) (λ done. element_key (bytes (lower kind)) name begun) key h in
    (element_key_is (bytes (lower kind)) name begun key (legal_name kind name t.value t.first) t.next).0

made_key_is : (kind name : List ℕ) (begun : Bool) (key : ElementName) → IsTrue (is_name name)
    → made_key kind name begun ≡ Ok key → IsKey key × (begun ≡ false → key ≡ source_name)
made_key_is kind name begun key legal h = by (pointwise nat_eq kind (codes "circuit")) h
  where
    by : (b : Bool) → (if b then Ok source_name else element_key kind name begun) ≡ Ok key
        → IsKey key × (begun ≡ false → key ≡ source_name)
    by true h = let e : source_name ≡ key = cc h in (subst IsKey e source_key, λ none. sym e)
    by false h = element_key_is kind name begun key legal h

-- the key of a New, which is the source's where there is no circuit
pub new_key_is : (kind name : List ℕ) (begun : Bool) (key : ElementName) → new_key kind name begun ≡ Ok key
    → IsKey key × (begun ≡ false → key ≡ source_name)
new_key_is kind name begun key h =
    let t = through (written kind name) (λ done. made_key (bytes (lower kind)) name begun) key h in
    made_key_is (bytes (lower kind)) name begun key (legal_name kind name t.value t.first) t.next
