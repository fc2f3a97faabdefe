-- A writer of records of any length writes each as one of records of one length does.
use Rattle.std.proofs.Common.{◌≡◌, ◌∙◌, ◌++◌, ◌∷◌, ◌==◌, ℕ, List, [], true, ap, refl, length, if◌then◌else◌}
use Rattle.csv.specs.Writing.{default_writer, end_text, escaped, field_text, fields_text, is_blank, needs_quotes, row_body, row_text, with_flexible}
use Rattle.csv.specs.declared.writer.WriterBuilder.{WriterBuilder}

abbrev pub any_length : WriterBuilder
any_length = with_flexible default_writer true

same_escaped : (field : List ℕ) → escaped any_length field ≡ escaped default_writer field
unfolding escaped
same_escaped [] = refl
same_escaped (b ∷ rest) = ap (λ text. if b == 34 then 34 ∷ b ∷ text else b ∷ text) (same_escaped rest)

same_field : (field : List ℕ) → field_text any_length field ≡ field_text default_writer field
same_field field = ap (λ text. if needs_quotes default_writer field then 34 ∷ (text ++ (34 ∷ [])) else field) (same_escaped field)

same_fields : (fields : List (List ℕ)) → fields_text any_length fields ≡ fields_text default_writer fields
unfolding fields_text
same_fields [] = refl
same_fields (field ∷ rest) =
    ap (λ text. 44 ∷ (text ++ fields_text any_length rest)) (same_field field)
    ∙ ap (λ text. 44 ∷ (field_text default_writer field ++ text)) (same_fields rest)

same_body : (fields : List (List ℕ)) → row_body any_length fields ≡ row_body default_writer fields
same_body [] = refl
same_body (field ∷ rest) =
    ap (λ text. text ++ fields_text any_length rest) (same_field field)
    ∙ ap (λ text. field_text default_writer field ++ text) (same_fields rest)

same_blank : (fields : List (List ℕ)) → is_blank any_length fields ≡ is_blank default_writer fields
unfolding is_blank
same_blank [] = refl
same_blank (field ∷ []) = ap (λ text. length text == 0) (same_field field)
same_blank (field ∷ next ∷ rest) = refl

pub same_row : (fields : List (List ℕ)) → row_text any_length fields ≡ row_text default_writer fields
same_row fields =
    ap (λ body. body ++ ((if is_blank any_length fields then 34 ∷ 34 ∷ [] else []) ++ end_text default_writer.terminator)) (same_body fields)
    ∙ ap (λ blank. row_body default_writer fields ++ ((if blank then 34 ∷ 34 ∷ [] else []) ++ end_text default_writer.terminator)) (same_blank fields)
