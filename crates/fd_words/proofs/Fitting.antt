-- Whether words are a form, by the kinds of the row that their first word has.
use Rattle.std.proofs.Common.{Bor, ◌≡◌, ◌==◌, ◌&&◌, ◌∷◌, ◌∙◌, ℕ, List, Option, Some, None, Bool, true, false, [], String, Global, refl, sym, subst, ap, is_some, length, map, option_map, string_bytes, suc, nat_eq, arith}
use Rattle.std.specs.Cmp.Lexicographic.{pointwise}
use Rattle.std.proofs.lemmas.Bool.Decides.{nat_tests}
use Rattle.clap.proofs.WalkLemmas.{find-map}
use Rattle.std.specs.Prelude.{find, option_and_then}
use Rattle.std.specs.List.{list_all, zip}
use Rattle.std.specs.Option.{option_map_or}
use Rattle.clap.specs.Words.{Text}
use Rattle.fd_words.specs.declared.table.Kind.{Kind}
use Rattle.fd_words.specs.Words.{IsTable, Row, Takes, Value, form_of, form_with, line_in, line_of, row_of, rows, value_as}

abbrev pub Line : Type 0
Line = Bor (List ℕ) × Bor (List Kind)

-- whether there is a word of each kind
abbrev pub fit : List Kind → List (String Global) → Bool
fit kinds words = length kinds == length words && list_all (λ pair. is_some (value_as pair.0 (string_bytes pair.1))) (zip kinds words)

pub same_count : (m n : ℕ) → m ≡ n → nat_eq m n ≡ true
same_count m n h = grind (arith, nat_tests)

fit_where : (kinds : List Kind) (form : Takes kinds) (words : List (String Global)) → length kinds ≡ length words
    → list_all (λ pair. is_some (value_as pair.0 (string_bytes pair.1))) (zip kinds words) ≡ is_some (form_with kinds form (map string_bytes words))
fit_where [] form [] e = refl
fit_where [] form (word ∷ words) e = absurd (omega (arith, e))
fit_where (kind ∷ kinds) form [] e = absurd (omega (arith, e))
fit_where (kind ∷ kinds) form (word ∷ words) e = go (value_as kind (string_bytes word)) (λ v. fit_where kinds (form v) words (omega (arith, e)))
  where
    go : (o : Option (Value kind)) → ((v : Value kind) → list_all (λ pair. is_some (value_as pair.0 (string_bytes pair.1))) (zip kinds words)
        ≡ is_some (form_with kinds (form v) (map string_bytes words)))
        → (is_some o && list_all (λ pair. is_some (value_as pair.0 (string_bytes pair.1))) (zip kinds words))
        ≡ is_some (option_and_then (λ value. form_with kinds (form value) (map string_bytes words)) o)
    go None more = refl
    go (Some v) more = more v

none_where : (kinds : List Kind) (form : Takes kinds) (words : List (String Global)) → (length kinds ≡ length words → ⊥)
    → form_with kinds form (map string_bytes words) ≡ None
none_where [] form [] h = absurd (h refl)
none_where [] form (word ∷ words) h = refl
none_where (kind ∷ kinds) form [] h = refl
none_where (kind ∷ kinds) form (word ∷ words) h = go (value_as kind (string_bytes word)) (λ v. none_where kinds (form v) words (λ e. h (ap (λ n. suc n) e)))
  where
    go : (o : Option (Value kind)) → ((v : Value kind) → form_with kinds (form v) (map string_bytes words) ≡ None)
        → option_and_then (λ value. form_with kinds (form value) (map string_bytes words)) o ≡ None
    go None none = refl
    go (Some v) none = none v

fit_is : (kinds : List Kind) (form : Takes kinds) (words : List (String Global)) → fit kinds words ≡ is_some (form_with kinds form (map string_bytes words))
fit_is kinds form words = go (length kinds == length words) refl
  where
    go : (t : Bool) → nat_eq (length kinds) (length words) ≡ t
        → (t && list_all (λ pair. is_some (value_as pair.0 (string_bytes pair.1))) (zip kinds words)) ≡ is_some (form_with kinds form (map string_bytes words))
    go true e = fit_where kinds form words (grind (arith, nat_tests))
    go false e = sym (ap is_some (none_where kinds form words (λ same. let no : nat_eq (length kinds) (length words) ≡ true = same_count _ _ same in absurd (cc (sym no ∙ e)))))

fits : (word : Text) (words : List (String Global)) (o : Option (Text × List Kind)) → o ≡ option_map line_of (row_of word)
    → option_map_or (λ line. fit line.1 words) o false ≡ is_some (form_of (word ∷ map string_bytes words))
fits word words o e = subst (λ o. option_map_or (λ line. fit line.1 words) o false ≡ is_some (form_of (word ∷ map string_bytes words))) (sym e) (go (row_of word))
  where
    go : (o : Option Row) → option_map_or (λ line. fit line.1 words) (option_map line_of o) false
        ≡ is_some (option_and_then (λ row. form_with row.kinds row.form (map string_bytes words)) o)
    go None = refl
    go (Some row) = fit_is row.kinds row.form words

-- the same by the table of the code
pub fits_line : (table : List Line) (word : Text) (words : List (String Global)) (o : Option Line) → IsTable table
    → o ≡ find (λ line. pointwise nat_eq line.0.now word) table
    → option_map_or (λ line. fit line.1 words) (option_map line_in o) false ≡ is_some (form_of (word ∷ map string_bytes words))
fits_line table word words o same found =
    let has : Text × List Kind → Bool = λ l. pointwise nat_eq l.0 word in
    fits word words (option_map line_in o)
    (ap (option_map line_in) found ∙ find-map has line_in table ∙ ap (find has) same ∙ sym (find-map has line_of rows))
