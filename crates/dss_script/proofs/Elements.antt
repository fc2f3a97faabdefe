-- The element that a New or an Edit names.
use Rattle.std.proofs.Common.{◌≡◌, ◌∙◌, ℕ, ◌+◌, ◌<◌, ◌≤◌, List, [], ◌∷◌, None, Some, Option, not, ◌||◌, refl, ap, arith, length, if◌then◌else◌, ⊎_elim}
use Rattle.std.specs.List.{position, before_first, position_or_len}
use Rattle.std.proofs.lemmas.Bool.{cases_lt, lt-ltb}
use Rattle.std.proofs.lemmas.List.{drop_all}
use Rattle.dss_model.specs.dss_lexer.Texts.{is_empty}
use Rattle.dss_model.specs.Names.{is_name}
use Rattle.dss_script.specs.declared.meaning.Target.{Target}
use Rattle.dss_script.specs.Meaning.{element_of, is_dot}

abbrev named_so : List ℕ → List ℕ → Option Target
named_so class name = if is_empty class || not (is_name name) then None else Some (record { class = class; name = name })

nameless : (class : List ℕ) → named_so class [] ≡ None
unfolding is_name
nameless [] = refl
nameless (c ∷ cs) = refl

-- without a dot there is no name
pub no_dot : (text : List ℕ) → position is_dot text ≡ None → element_of text ≡ None
no_dot text h =
    ⊎_elim (λ (found : position_or_len is_dot text < length text).
    let some : position is_dot text ≡ Some (position_or_len is_dot text) =
    ap (λ b. if b then Some (position_or_len is_dot text) else None) (lt-ltb _ _ found) in
    absurd (cc))
    (λ (none : length text ≤ position_or_len is_dot text).
    ap (named_so (before_first is_dot text)) (drop_all (position_or_len is_dot text + 1) text (omega arith))
    ∙ nameless (before_first is_dot text))
    (cases_lt (position_or_len is_dot text) (length text))
