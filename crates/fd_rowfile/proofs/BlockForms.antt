-- A block has one list of lines, and its bytes are read as it.
use Rattle.std.proofs.Common.{◌≡◌, ℕ, ◌+◌, ℤ, List, [], ◌∷◌, ◌++◌, Result, Ok, refl, ap, sym, subst, ◌∙◌}
use Rattle.std.specs.Prelude.{codes, map}
use Rattle.std.specs.List.{AllByRecursion}
use Rattle.std.proofs.lemmas.List.{append_assoc, append-nil}
use Rattle.fd_lines.specs.Numbered.{count_of, numbered_at, numbered_lines}
use Rattle.fd_lines.specs.WordLines.{Line, line, lines_of}
use Rattle.fd_lines.proofs.CallerLemmas.{IsKnown, bind_ok, lines_again, lines_found, numbered_again, numbered_found}
use Rattle.fd_rowfile.specs.Blocks.{Act, Block, Bound, IsSized, Part, Row, act_line, acts_at, block_at, block_bytes, block_lines, block_with, bound_at, bound_line, box_in, first_at, head_in, lines_behind_rows, part_at, part_line, row_line, rows_at}
use Rattle.fd_rowfile.specs.Laws.{IsBehindActs, IsBehindRows, IsWritable, Spells, TextLaw}
use Rattle.fd_rowfile.proofs.BlockParts.{Head, behind_bounds, block_by, bounds_then, box_then, head_then, parts_then, rows_then}
use Rattle.fd_rowfile.proofs.LineForms.{Anything, acts_again, acts_found, anything, bound_again, bound_found, box_found, first_found, head_found, no_acts, part_again, part_found, rows_again, rows_found}

pub grouped : (ps rs bs acts rest : List Line) → (ps ++ (rs ++ (bs ++ acts))) ++ rest ≡ ps ++ (rs ++ (bs ++ (acts ++ rest)))
grouped ps rs bs acts rest = append_assoc ps (rs ++ (bs ++ acts)) rest
    ∙ ap (λ (ls : List Line). ps ++ ls) (append_assoc rs (bs ++ acts) rest ∙ ap (λ (ls : List Line). rs ++ ls) (append_assoc bs acts rest))

-- a block with the acts that follow it besides
abbrev pub with_acts : Block → List Line → Block × List Line
with_acts b rest = (record b { acts = b.acts ++ (acts_at rest).0 }, (acts_at rest).1)

pub block_again : (b : Block) (rest : List Line) → IsSized b → IsBehindRows (lines_behind_rows b ++ rest)
    → block_at (block_lines b ++ rest) ≡ Ok (with_acts b rest)
block_again b rest h k =
    let n = count_of b.size in
    let ps = numbered_lines part_line 0 b.parts in
    let rs = numbered_lines row_line 0 b.rows in
    let bs = numbered_lines bound_line 0 b.bounds in
    let acts = map act_line b.acts in
    let r3 : List Line = rs ++ (bs ++ (acts ++ rest)) in
    let r4 : List Line = bs ++ (acts ++ rest) in
    let r5 : List Line = acts ++ rest in
    let parts : numbered_at part_at n 0 ((ps ++ (rs ++ (bs ++ acts))) ++ rest) ≡ Ok (b.parts, r3) =
    ap (numbered_at part_at n 0) (grouped ps rs bs acts rest)
    ∙ subst (λ (m : ℕ). numbered_at part_at m 0 (ps ++ r3) ≡ Ok (b.parts, r3)) h.parts
    (numbered_again part_at part_line Anything part_again 0 b.parts r3 (anything b.parts)) in
    let rows : rows_at n 0 r3 ≡ Ok (b.rows, r4) =
    rows_again n 0 b.rows r4 h.rows (subst IsBehindRows (append_assoc bs acts rest) k) in
    let bounds : numbered_at bound_at n 0 r4 ≡ Ok (b.bounds, r5) =
    subst (λ (m : ℕ). numbered_at bound_at m 0 r4 ≡ Ok (b.bounds, r5)) h.bounds
    (numbered_again bound_at bound_line Anything bound_again 0 b.bounds r5 (anything b.bounds)) in
    behind_bounds (block_lines b ++ rest) (b.number, b.hour, b.round, b.size)
    (line (codes "box") (b.divisor ∷ []) ∷ ((ps ++ (rs ++ (bs ++ acts))) ++ rest)) refl b.divisor
    ((ps ++ (rs ++ (bs ++ acts))) ++ rest) refl b.parts r3 parts b.rows r4 rows b.bounds r5 bounds
    ∙ ap (λ (p : List Act × List Line). Ok (record b { acts = p.0 }, p.1)) (acts_again b.acts rest)

pub block_only : (b : Block) (rest : List Line) → IsSized b → IsBehindRows (lines_behind_rows b ++ rest) → IsBehindActs rest
    → block_at (block_lines b ++ rest) ≡ Ok (b, rest)
block_only b rest h k a =
    block_again b rest h k
    ∙ ap (λ (p : List Act × List Line). Ok (record b { acts = b.acts ++ p.0 }, p.1)) (no_acts rest a)
    ∙ ap (λ (acts : List Act). Ok (record b { acts = acts }, rest)) (append-nil b.acts)

ok_is : {X : Type 0} {x y : X} → ◌≡◌ {A = Result X (List Line)} (Ok x) (Ok y) → x ≡ y
ok_is e = cc

pub block_found : (lines : List Line) (b : Block) (rest : List Line) → block_at lines ≡ Ok (b, rest) → Spells lines b rest
block_found lines b rest e =
    let y : Block × List Line = (b, rest) in
    let hd = bind_ok (first_at head_in lines) head_then y (sym (block_by lines) ∙ e) in
    let h : Head = hd.0.0 in
    let n = count_of h.3 in
    let bx = bind_ok (first_at box_in hd.0.1) (box_then h) y hd.2 in
    let p = bind_ok (numbered_at part_at n 0 bx.0.1) (parts_then h bx.0.0) y bx.2 in
    let r = bind_ok (rows_at n 0 p.0.1) (rows_then h bx.0.0 p.0.0) y p.2 in
    let q = bind_ok (numbered_at bound_at n 0 r.0.1) (bounds_then h bx.0.0 p.0.0 r.0.0) y r.2 in
    let made : Block = block_with h bx.0.0 p.0.0 r.0.0 q.0.0 (acts_at q.0.1).0 in
    let same : (made, (acts_at q.0.1).1) ≡ y = ok_is q.2 in
    subst (λ (z : Block × List Line). Spells lines z.0 z.1) same
    (spelled lines hd.0 bx.0 p.0 r.0 q.0 hd.1 bx.1 p.1 r.1 q.1)
  where
    spelled : (lines : List Line) (h : Head × List Line) (d : ℤ × List Line) (p : List Part × List Line)
        (r : List Row × List Line) (q : List Bound × List Line) → first_at head_in lines ≡ Ok h → first_at box_in h.1 ≡ Ok d
        → numbered_at part_at (count_of h.0.3) 0 d.1 ≡ Ok p → rows_at (count_of h.0.3) 0 p.1 ≡ Ok r
        → numbered_at bound_at (count_of h.0.3) 0 r.1 ≡ Ok q
        → Spells lines (block_with h.0 d.0 p.0 r.0 q.0 (acts_at q.1).0) (acts_at q.1).1
    spelled lines h d p r q e1 e2 e3 e4 e5 =
        let n = count_of h.0.3 in
        let l1 = first_found head_in lines h e1 in
        let l2 = first_found box_in h.1 d e2 in
        let fp = numbered_found part_at part_line Anything part_found n 0 d.1 p e3 in
        let fr = rows_found n 0 p.1 r e4 in
        let fb = numbered_found bound_at bound_line Anything bound_found n 0 r.1 q e5 in
        let fa = acts_found q.1 in
        let ps = numbered_lines part_line 0 p.0 in
        let rs = numbered_lines row_line 0 r.0 in
        let bs = numbered_lines bound_line 0 q.0 in
        let acts = map act_line (acts_at q.1).0 in
        let rest = (acts_at q.1).1 in
        let behind : r.1 ≡ bs ++ (acts ++ rest) = fb.0 ∙ ap (λ (ls : List Line). bs ++ ls) fa.0 in
        record {
          lines_are = l1.1 ∙ ap (λ (m : Line). m ∷ h.1) (head_found l1.0 h.0 l1.2)
              ∙ ap (λ (ls : List Line). line (codes "solution") (h.0.0 ∷ h.0.1 ∷ h.0.2 ∷ h.0.3 ∷ []) ∷ ls)
              (l2.1 ∙ ap (λ (m : Line). m ∷ d.1) (box_found l2.0 d.0 l2.2)
              ∙ ap (λ (ls : List Line). line (codes "box") (d.0 ∷ []) ∷ ls)
              (fp.0 ∙ ap (λ (ls : List Line). ps ++ ls) (fr.lines_are ∙ ap (λ (ls : List Line). rs ++ ls) behind)
              ∙ sym (grouped ps rs bs acts rest)));
          sized = record { parts = fp.1; rows = fr.right; bounds = fb.1 };
          rows_end = subst IsBehindRows (behind ∙ sym (append_assoc bs acts rest)) fr.ends;
          acts_end = fa.1;
        }

-- ---- bytes

all_append : {X : Type 0} (P : X → Type 0) (xs ys : List X) → AllByRecursion P xs → AllByRecursion P ys
    → AllByRecursion P (xs ++ ys)
all_append P [] ys h k = k
all_append P (x ∷ xs) ys h k = (h.0, all_append P xs ys h.1 k)

known_numbered : {X : Type 0} (form : ℕ → X → Line) → ((i : ℕ) (x : X) → IsKnown (form i x)) → (i : ℕ) (xs : List X)
    → AllByRecursion IsKnown (numbered_lines form i xs)
known_numbered form h i [] = tt
known_numbered form h i (x ∷ xs) = (h i x, known_numbered form h (i + 1) xs)

known_acts : (acts : List Act) → AllByRecursion IsKnown (map act_line acts)
known_acts [] = tt
known_acts (a ∷ acts) = (tt, known_acts acts)

known_block : (b : Block) → AllByRecursion IsKnown (block_lines b)
known_block b = (
  tt,
  (
    tt,
    all_append IsKnown (numbered_lines part_line 0 b.parts) _ (known_numbered part_line (λ i p. tt) 0 b.parts)
        (all_append IsKnown (numbered_lines row_line 0 b.rows) _ (known_numbered row_line (λ i r. tt) 0 b.rows)
        (all_append IsKnown (numbered_lines bound_line 0 b.bounds) _ (known_numbered bound_line (λ i r. tt) 0 b.bounds) (known_acts b.acts))),
  ),
)

text_again : (b : Block) (tail : List ℕ) → IsSized b → IsWritable b → IsBehindRows (lines_behind_rows b ++ lines_of tail)
    → IsBehindActs (lines_of tail) → block_at (lines_of (block_bytes b ++ tail)) ≡ Ok (b, lines_of tail)
text_again b tail s w k a = ap block_at (lines_again (block_lines b) tail w) ∙ block_only b (lines_of tail) s k a

text_found : (bytes : List ℕ) (b : Block) (rest : List Line) → block_at (lines_of bytes) ≡ Ok (b, rest)
    → (tail : List ℕ) × (bytes ≡ block_bytes b ++ tail) × (lines_of tail ≡ rest)
text_found bytes b rest e =
    let k = block_found (lines_of bytes) b rest e in
    let t = lines_found (block_lines b) rest bytes (known_block b) k.lines_are in
    (t.tail, t.whole, t.rest_is)

pub text_law : TextLaw
text_law = record { again = text_again; found = text_found }
