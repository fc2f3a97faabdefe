-- A place and an entry as text.
use Rattle.std.proofs.Common.{◌≡◌, ℕ, ◌≤◌, ℤ, pos, List, [], ◌∷◌, ◌++◌, length, drop, ap, ◌∙◌}
use Rattle.std.specs.Fmt.{decimal, signed_decimal}
use Rattle.std.proofs.lemmas.List.{drop_all}
use Rattle.fd_lines.specs.Texts.{fields_text}

-- a place and an entry at the end of a buffer
pub pair_text : (old buffer : List ℕ) (start place : ℕ) (entry : ℤ)
    → drop start buffer ≡ 32 ∷ (decimal place ++ 32 ∷ (signed_decimal entry ++ drop 48 old)) → length old ≤ 48
    → drop start buffer ≡ fields_text (pos place ∷ entry ∷ [])
pair_text old buffer start place entry e l =
    e ∙ ap (λ (t : List ℕ). 32 ∷ (decimal place ++ 32 ∷ (signed_decimal entry ++ t))) (drop_all 48 old l)
