-- The text of a row.
use Rattle.std.proofs.Common.{◌≡◌, ℕ, ◌+◌, ◌<◌, ℤ, pos, List, [], ◌∷◌, ◌++◌, length, get_or, drop, ap, sym, ◌∙◌}
use Rattle.std.specs.Prelude.{codes, flat_map}
use Rattle.std.proofs.lemmas.List.{append_assoc, drop_more}
use Rattle.fd_derived.specs.Rows.{entries_of}
use Rattle.fd_derived.specs.declared.entries.Entry.{Entry}
use Rattle.fd_derived.specs.declared.entries.Row.{Row}
use Rattle.fd_lines.specs.Texts.{field_text, fields_text}
use Rattle.fd_lines.specs.WordLines.{line_bytes}
use Rattle.fd_lines.proofs.CallerLemmas.{fields_append, text_by_fields}
use Rattle.fd_rowfile.specs.Blocks.{list_fields, pair_fields, row_line}
use Rattle.fd_rowfile.specs.Written.{made_row}

-- the numbers of pairs, one pair behind another
abbrev pub numbers_of_pairs : List Entry → List ℤ
numbers_of_pairs es = flat_map pair_fields (entries_of es)

-- the pairs that are left
pub pairs_left : (base now next : List ℕ) (es : List Entry) (i : ℕ) (e : Entry)
    → now ++ fields_text (numbers_of_pairs (drop i es)) ≡ base ++ fields_text (list_fields (entries_of es))
    → next ≡ now ++ fields_text (pos (get_or es i e).place ∷ (get_or es i e).units ∷ []) → i < length es
    → next ++ fields_text (numbers_of_pairs (drop (i + 1) es)) ≡ base ++ fields_text (list_fields (entries_of es))
pairs_left base now next es i e so_far n l =
    let pair = pos (get_or es i e).place ∷ (get_or es i e).units ∷ [] in
    let others = numbers_of_pairs (drop (i + 1) es) in
    ap (λ (t : List ℕ). t ++ fields_text others) n
    ∙ append_assoc now (fields_text pair) (fields_text others)
    ∙ ap (λ (t : List ℕ). now ++ t) (sym (fields_append pair others))
    ∙ ap (λ (ds : List Entry). now ++ fields_text (numbers_of_pairs ds)) (sym (drop_more es i e l)) ∙ so_far

pub row_text : (place height : ℕ) (row : Row)
    → (((((codes "row" ++ field_text (pos place)) ++ field_text (pos height))
    ++ fields_text (list_fields (entries_of row.equations.items)))
    ++ fields_text (list_fields (entries_of row.others.items)))
    ++ fields_text (list_fields (entries_of row.left.items))) ++ 10 ∷ []
    ≡ line_bytes (row_line place (made_row (row, height)))
row_text place height row =
    let a = list_fields (entries_of row.equations.items) in
    let b = list_fields (entries_of row.others.items) in
    let c = list_fields (entries_of row.left.items) in
    let word = codes "row" in
    let front = (word ++ field_text (pos place)) ++ field_text (pos height) in
    ap (λ (t : List ℕ). t ++ 10 ∷ []) (
    append_assoc (front ++ fields_text a) (fields_text b) (fields_text c)
    ∙ append_assoc front (fields_text a) (fields_text b ++ fields_text c)
    ∙ ap (λ (t : List ℕ). front ++ (fields_text a ++ t)) (sym (fields_append b c))
    ∙ ap (λ (t : List ℕ). front ++ t) (sym (fields_append a (b ++ c)))
    ∙ append_assoc (word ++ field_text (pos place)) (field_text (pos height)) (fields_text (a ++ (b ++ c)))
    ∙ append_assoc word (field_text (pos place)) (field_text (pos height) ++ fields_text (a ++ (b ++ c)))
    ∙ text_by_fields word (pos place ∷ pos height ∷ (a ++ (b ++ c))))
