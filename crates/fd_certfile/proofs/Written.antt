-- The bytes of a block are read as it.
use Rattle.std.proofs.Common.{◌≡◌, ℕ, ◌+◌, ◌^◌, ◌<◌, ℤ, pos, negsuc, List, [], ◌∷◌, ◌++◌, length, inl, inr, Ok, ap, ◌∙◌, arith}
use Rattle.std.specs.Prelude.{map}
use Rattle.std.specs.List.{AllByRecursion}
use Rattle.std.proofs.lemmas.Bool.{cases_Bool, cond-true, cond-false}
use Rattle.std.proofs.lemmas.List.Sums.{count_by-le-length}
use Rattle.fd_lines.specs.Numbers.{IsNumber}
use Rattle.fd_certfile.specs.Lines.{Line, lines_of, IsKnown, IsLine}
use Rattle.fd_certfile.specs.Blocks.{Version, Whole, Sparse, Part, Act, Block, count_of, is_zero, is_entry, fields_of, part_line, row_line, act_line, numbered_lines, block_lines, block_bytes, IsSized, IsWritable, IsBehindActs, block_at}
use Rattle.fd_certfile.specs.Laws.{TextLaw}
use Rattle.fd_certfile.proofs.Lines.{lines_again, lines_found}
use Rattle.fd_certfile.proofs.Blocks.{block_only, block_found}
use Rattle.fd_certfile.proofs.RowForms.{pairs_from}

pub all_append : {X : Type 0} (P : X → Type 0) (xs ys : List X) → AllByRecursion P xs → AllByRecursion P ys
    → AllByRecursion P (xs ++ ys)
all_append P [] ys h k = k
all_append P (x ∷ xs) ys h k = (h.0, all_append P xs ys h.1 k)

-- ---- known lines

known_numbered : {X : Type 0} (line : ℕ → X → Line) → ((i : ℕ) (x : X) → IsKnown (line i x)) → (i : ℕ) (xs : List X)
    → AllByRecursion IsKnown (numbered_lines line i xs)
known_numbered line h i [] = tt
known_numbered line h i (x ∷ xs) = (h i x, known_numbered line h (i + 1) xs)

known_acts : (acts : List Act) → AllByRecursion IsKnown (map act_line acts)
known_acts [] = tt
known_acts (a ∷ acts) = (tt, known_acts acts)

pub known_block : (v : Version) (b : Block) → AllByRecursion IsKnown (block_lines v b)
known_block v b = (
  tt,
  all_append IsKnown (numbered_lines part_line 0 b.parts) _ (known_numbered part_line (λ i p. tt) 0 b.parts)
      (all_append IsKnown (numbered_lines (row_line v) 0 b.inverse) _ (known_numbered (row_line v) (λ i r. tt) 0 b.inverse) (known_acts b.acts)),
)

-- ---- lines that can be written

fits_parts : (i : ℕ) (ps : List Part) → i + length ps < 2 ^ 127
    → AllByRecursion (λ p. AllByRecursion IsNumber (p.centre ∷ p.radius ∷ p.mismatch ∷ [])) ps
    → AllByRecursion IsLine (numbered_lines part_line i ps)
fits_parts i [] l h = tt
fits_parts i (p ∷ ps) l h = ((tt, (omega arith, h.0)), fits_parts (i + 1) ps (omega arith) h.1)

fits_pairs : (j : ℕ) (r : List ℤ) → j + length r < 2 ^ 127 → AllByRecursion IsNumber r
    → AllByRecursion IsNumber (pairs_from j r)
fits_pairs j [] l h = tt
fits_pairs j (e ∷ r) l h =
    let rest = fits_pairs (j + 1) r (omega arith) h.1 in
    elim (cases_Bool (is_zero e)) [
      | inl is ↦ rw (cond-true (is_zero e) [] (pos j ∷ e ∷ []) is) rest
      | inr isnt ↦ rw (cond-false (is_zero e) [] (pos j ∷ e ∷ []) isnt) (omega arith, (h.0, rest))
    ]

fits_fields : (v : Version) (r : List ℤ) → length r < 2 ^ 127 → AllByRecursion IsNumber r
    → AllByRecursion IsNumber (fields_of v r)
fits_fields Whole r l h = h
fits_fields Sparse r l h = (omega (arith, count_by-le-length is_entry r), fits_pairs 0 r (omega arith) h)

fits_rows : (v : Version) (n i : ℕ) (rs : List (List ℤ)) → n < 2 ^ 127 → i + length rs < 2 ^ 127
    → AllByRecursion (λ r. length r ≡ n) rs → AllByRecursion (AllByRecursion IsNumber) rs
    → AllByRecursion IsLine (numbered_lines (row_line v) i rs)
fits_rows v n i [] m l w h = tt
fits_rows v n i (r ∷ rs) m l w h = ((tt, (omega arith, fits_fields v r (omega (arith, w.0)) h.0)), fits_rows v n (i + 1) rs m (omega arith) w.1 h.1)

fits_acts : (acts : List Act) → AllByRecursion (λ a. AllByRecursion IsNumber (a.time ∷ a.control ∷ a.steps ∷ [])) acts
    → AllByRecursion IsLine (map act_line acts)
fits_acts [] h = tt
fits_acts (a ∷ acts) h = ((tt, h.0), fits_acts acts h.1)

count_fits : (z : ℤ) → IsNumber z → count_of z < 2 ^ 127
count_fits (pos n) h = h
count_fits (negsuc n) h = omega arith

pub fits_block : (v : Version) (b : Block) → IsSized b → IsWritable b → AllByRecursion IsLine (block_lines v b)
fits_block v b s w =
    let small = count_fits b.size w.due.1.1.1.0 in (
      (tt, w.due),
      all_append IsLine (numbered_lines part_line 0 b.parts) _
          (fits_parts 0 b.parts (omega (arith, s.parts, small)) w.parts)
          (all_append IsLine (numbered_lines (row_line v) 0 b.inverse) _
          (fits_rows v (count_of b.size) 0 b.inverse small (omega (arith, s.rows, small)) s.entries w.inverse)
          (fits_acts b.acts w.acts)),
    )

-- ---- bytes

text_again : (v : Version) (b : Block) (tail : List ℕ) → IsSized b → IsWritable b → IsBehindActs (lines_of tail)
    → block_at v (lines_of (block_bytes v b ++ tail)) ≡ Ok (b, lines_of tail)
text_again v b tail s w k = ap (block_at v) (lines_again (block_lines v b) tail (fits_block v b s w))
    ∙ block_only v b (lines_of tail) s k

text_found : (v : Version) (bytes : List ℕ) (b : Block) (rest : List Line) → block_at v (lines_of bytes) ≡ Ok (b, rest)
    → (tail : List ℕ) × (bytes ≡ block_bytes v b ++ tail) × (lines_of tail ≡ rest)
text_found v bytes b rest e =
    let k = block_found v (lines_of bytes) b rest e in
    let t = lines_found (block_lines v b) rest bytes (known_block v b) k.lines_are in
    (t.tail, t.whole, t.rest_is)

pub text_law : TextLaw
text_law = record { again = text_again; found = text_found }
