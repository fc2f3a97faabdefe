-- The text of a row in version 2, and of lines.
use Rattle.std.proofs.Common.{◌≡◌, ℕ, ◌+◌, ◌<◌, ℤ, pos, List, [], ◌∷◌, ◌++◌, length, get_or, drop, refl, ap, sym, ◌∙◌}
use Rattle.std.specs.Prelude.{count_by, codes, flat_map, map}
use Rattle.std.specs.List.{concat, enumerate_from}
use Rattle.std.proofs.lemmas.List.{append_assoc, drop_more}
use Rattle.fd_certfile.specs.Blocks.{Sparse, fields_of, is_entry, pair_of}
use Rattle.fd_certfile.specs.Lines.{Line, bytes_of, line_bytes, text_by}
use Rattle.fd_certfile.specs.Lines as line
use Rattle.fd_certfile.specs.Texts.{field_text, fields_text}
use Rattle.fd_lines.proofs.CallerLemmas.{fields_append, text_by_fields}
use Rattle.fd_certfile.proofs.RowForms.{pairs_from}

pub row_fields : (place : ℤ) (row : List ℤ)
    → (((codes "c" ++ field_text place) ++ field_text (pos (count_by is_entry row))) ++ fields_text (flat_map pair_of (enumerate_from 0 row))) ++ 10 ∷ []
    ≡ line_bytes (line.row (place ∷ fields_of Sparse row))
row_fields place row =
    let pairs = flat_map pair_of (enumerate_from 0 row) in
    let count = pos (count_by is_entry row) in
    ap (λ (t : List ℕ). t ++ 10 ∷ []) (
    append_assoc (codes "c" ++ field_text place) (field_text count) (fields_text pairs)
    ∙ append_assoc (codes "c") (field_text place) (field_text count ++ fields_text pairs)
    ∙ text_by_fields (codes "c") (place ∷ count ∷ pairs))

-- the entries that are left, of which the first has this place
pub entries_left : (base now next : List ℕ) (row : List ℤ) (i : ℕ) (e : ℤ)
    → now ++ fields_text (pairs_from i (drop i row)) ≡ base ++ fields_text (pairs_from 0 row)
    → next ≡ now ++ fields_text (pair_of (i, get_or row i e)) → i < length row
    → next ++ fields_text (pairs_from (i + 1) (drop (i + 1) row)) ≡ base ++ fields_text (pairs_from 0 row)
entries_left base now next row i e so_far n l =
    ap (λ (t : List ℕ). t ++ fields_text (pairs_from (i + 1) (drop (i + 1) row))) n
    ∙ append_assoc now (fields_text (pair_of (i, get_or row i e))) (fields_text (pairs_from (i + 1) (drop (i + 1) row)))
    ∙ ap (λ (t : List ℕ). now ++ t) (sym (fields_append (pair_of (i, get_or row i e)) (pairs_from (i + 1) (drop (i + 1) row))))
    ∙ ap (λ (ds : List ℤ). now ++ fields_text (pairs_from i ds)) (sym (drop_more row i e l)) ∙ so_far

pub concat_lines : (lines : List Line) → concat (map line_bytes lines) ≡ bytes_of lines
concat_lines [] = refl
concat_lines (line ∷ lines) = ap (λ (t : List ℕ). line_bytes line ++ t) (concat_lines lines)
