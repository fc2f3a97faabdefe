-- A block has one list of lines in each version.
use Rattle.std.proofs.Common.{◌≡◌, ℕ, ◌+◌, Bool, true, false, ℤ, pos, List, [], ◌∷◌, ◌++◌, length, Option, Some, None, Result, Ok, refl, ap, sym, subst, ◌∙◌, arith}
use Rattle.std.specs.Prelude.{map, if◌then◌else◌}
use Rattle.std.specs.List.{AllByRecursion}
use Rattle.std.proofs.lemmas.Bool.{cond-true}
use Rattle.std.proofs.lemmas.List.{append_assoc, append-nil, length-map, length-append}
use Rattle.fd_certfile.specs.Lines.{Line, header, solution, state, row, act, end, other}
use Rattle.fd_certfile.specs.Blocks.{Version, Whole, Sparse, Part, Act, Block, count_of, is_place, part_line, row_line, act_line, numbered_lines, block_lines, IsSized, ◌>>=◌, row_of, part_at, row_at, numbered_at, acts_at, block_at, IsBehindActs, Spells}
use Rattle.fd_lines.proofs.CallerLemmas.{IsFound, ReadsAgain, bind_ok, length-numbered, let_through, numbered_again, numbered_found}
use Rattle.fd_certfile.proofs.RowForms.{is_place_self, place_is, row_again, row_found}

abbrev pub Anything : Part → Type 0
Anything p = Unit {0}

pub anything : (ps : List Part) → AllByRecursion Anything ps
anything [] = tt
anything (p ∷ ps) = (tt, anything ps)

pub part_again : ReadsAgain part_at part_line Anything
part_again i p h = cond-true (is_place i (pos i)) _ _ (is_place_self i)

pub part_found : IsFound part_at part_line Anything
part_found i (state p c r m) x e =
    let g = let_through (is_place i p) (record { centre = c; radius = r; mismatch = m }) x e in
    (ap (λ (q : ℤ). state q c r m) (place_is i p g.0) ∙ ap (part_line i) g.1, tt)
part_found i (header v) x e = absurd cc
part_found i (solution n h r s) x e = absurd cc
part_found i (row fields) x e = absurd cc
part_found i (act t c s) x e = absurd cc
part_found i end x e = absurd cc
part_found i other x e = absurd cc

abbrev pub IsWide : ℕ → List ℤ → Type 0
IsWide n r = length r ≡ n

pub row_line_again : (v : Version) (n : ℕ) → ReadsAgain (row_at v n) (row_line v) (IsWide n)
row_line_again v n i r h = cond-true (is_place i (pos i)) _ _ (is_place_self i) ∙ row_again v n r h

then_found : {A : Type 0} (b : Bool) (o : Option A) (y : A) → (if b then o else None) ≡ Some y
    → (b ≡ true) × (o ≡ Some y)
then_found true o y e = (refl, e)
then_found false o y e = absurd cc

pub row_line_found : (v : Version) (n : ℕ) → IsFound (row_at v n) (row_line v) (IsWide n)
row_line_found v n i (row []) x e = absurd cc
row_line_found v n i (row (p ∷ fields)) x e =
    let g = then_found (is_place i p) (row_of v n fields) x e in
    let f = row_found v n fields x g.1 in
    (ap (λ (q : ℤ). row (q ∷ fields)) (place_is i p g.0) ∙ ap (λ (fs : List ℤ). row (pos i ∷ fs)) f.1, f.0)
row_line_found v n i (state p c r m) x e = absurd cc
row_line_found v n i (header w) x e = absurd cc
row_line_found v n i (solution m h r s) x e = absurd cc
row_line_found v n i (act t c s) x e = absurd cc
row_line_found v n i end x e = absurd cc
row_line_found v n i other x e = absurd cc

-- ---- acts

acts_again : (acts : List Act) (rest : List Line)
    → acts_at (map act_line acts ++ rest) ≡ (acts ++ (acts_at rest).0, (acts_at rest).1)
acts_again [] rest = refl
acts_again (a ∷ acts) rest = ap (λ (p : List Act × List Line). (a ∷ p.0, p.1)) (acts_again acts rest)

acts_found : (lines : List Line)
    → (lines ≡ map act_line (acts_at lines).0 ++ (acts_at lines).1) × IsBehindActs (acts_at lines).1
acts_found (act t c s ∷ lines) = let rest = acts_found lines in (ap (λ (ls : List Line). act t c s ∷ ls) rest.0, rest.1)
acts_found [] = (refl, tt)
acts_found (header w ∷ lines) = (refl, tt)
acts_found (solution m h r s ∷ lines) = (refl, tt)
acts_found (state p c r m ∷ lines) = (refl, tt)
acts_found (row fields ∷ lines) = (refl, tt)
acts_found (end ∷ lines) = (refl, tt)
acts_found (other ∷ lines) = (refl, tt)

no_acts : (lines : List Line) → IsBehindActs lines → acts_at lines ≡ ([], lines)
no_acts (act t c s ∷ lines) h = absurd h
no_acts [] h = refl
no_acts (header w ∷ lines) h = refl
no_acts (solution m o r s ∷ lines) h = refl
no_acts (state p c r m ∷ lines) h = refl
no_acts (row fields ∷ lines) h = refl
no_acts (end ∷ lines) h = refl
no_acts (other ∷ lines) h = refl

-- ---- blocks

-- a block with the acts that follow it besides
abbrev pub with_acts : Block → List Line → Block × List Line
with_acts b rest = (record b { acts = b.acts ++ (acts_at rest).0 }, (acts_at rest).1)

lines_grouped : (parts rows acts rest : List Line)
    → (parts ++ (rows ++ acts)) ++ rest ≡ parts ++ (rows ++ (acts ++ rest))
lines_grouped parts rows acts rest = append_assoc parts (rows ++ acts) rest
    ∙ ap (λ (ls : List Line). parts ++ ls) (append_assoc rows acts rest)

pub block_again : (v : Version) (b : Block) (rest : List Line) → IsSized b
    → block_at v (block_lines v b ++ rest) ≡ Ok (with_acts b rest)
unfolding block_at
block_again v b rest h =
    let n = count_of b.size in
    let rows = numbered_lines (row_line v) 0 b.inverse in
    let parts :
    numbered_at part_at n 0 (numbered_lines part_line 0 b.parts ++ (rows ++ (map act_line b.acts ++ rest)))
    ≡ Ok (b.parts, rows ++ (map act_line b.acts ++ rest)) =
    subst (λ (m : ℕ).
    numbered_at part_at m 0 (numbered_lines part_line 0 b.parts ++ (rows ++ (map act_line b.acts ++ rest)))
    ≡ Ok (b.parts, rows ++ (map act_line b.acts ++ rest)))
    h.parts (numbered_again part_at part_line Anything part_again 0 b.parts (rows ++ (map act_line b.acts ++ rest))
    (anything b.parts)) in
    let inverse : numbered_at (row_at v n) n 0 (rows ++ (map act_line b.acts ++ rest))
    ≡ Ok (b.inverse, map act_line b.acts ++ rest) =
    subst (λ (m : ℕ). numbered_at (row_at v n) m 0 (rows ++ (map act_line b.acts ++ rest))
    ≡ Ok (b.inverse, map act_line b.acts ++ rest)) h.rows (numbered_again (row_at v n) (row_line v) (IsWide n)
    (row_line_again v n) 0 b.inverse (map act_line b.acts ++ rest) h.entries) in
    rw (lines_grouped (numbered_lines part_line 0 b.parts) rows (map act_line b.acts) rest, parts, inverse, acts_again b.acts rest) refl

pub block_only : (v : Version) (b : Block) (rest : List Line) → IsSized b → IsBehindActs rest
    → block_at v (block_lines v b ++ rest) ≡ Ok (b, rest)
block_only v b rest h k =
    block_again v b rest h
    ∙ ap (λ (p : List Act × List Line). Ok (record b { acts = b.acts ++ p.0 }, p.1)) (no_acts rest k)
    ∙ ap (λ (acts : List Act). Ok (record b { acts = acts }, rest)) (append-nil b.acts)

solution_found : (v : Version) (number hour round size : ℤ) (lines : List Line) (y : Block × List Line)
    → block_at v (solution number hour round size ∷ lines) ≡ Ok y
    → Spells v (solution number hour round size ∷ lines) y.0 y.1
unfolding block_at
solution_found v number hour round size lines y e =
    let n = count_of size in
    let rows_then : List Part → List (List ℤ) × List Line → Result (Block × List Line) (List Line) = λ parts rows.
    let acts = acts_at rows.1 in
    Ok (
      record {
        number = number;
        hour = hour;
        round = round;
        size = size;
        parts = parts;
        inverse = rows.0;
        acts = acts.0;
      },
      acts.1,
    ) in
    let a = bind_ok (numbered_at part_at n 0 lines) (λ parts. numbered_at (row_at v n) n 0 parts.1 >>= λ rows. rows_then parts.0 rows) y e in
    let b = bind_ok (numbered_at (row_at v n) n 0 a.0.1) (λ rows. rows_then a.0.0 rows) y a.2 in
    let parts = numbered_found part_at part_line Anything part_found n 0 lines a.0 a.1 in
    let rows = numbered_found (row_at v n) (row_line v) (IsWide n) (row_line_found v n) n 0 a.0.1 b.0 b.1 in
    let acts = acts_found b.0.1 in
    let made : Block = record { number = number; hour = hour; round = round; size = size; parts = a.0.0; inverse = b.0.0; acts = (acts_at b.0.1).0 } in
    let same : (made, (acts_at b.0.1).1) ≡ y = (let c = b.2 in cc) in
    let all : lines
    ≡ (numbered_lines part_line 0 a.0.0 ++ (numbered_lines (row_line v) 0 b.0.0 ++ map act_line (acts_at b.0.1).0))
    ++ (acts_at b.0.1).1 =
    parts.0
    ∙ ap (λ (ls : List Line). numbered_lines part_line 0 a.0.0 ++ ls)
    (rows.0 ∙ ap (λ (ls : List Line). numbered_lines (row_line v) 0 b.0.0 ++ ls) acts.0)
    ∙ sym (lines_grouped (numbered_lines part_line 0 a.0.0) (numbered_lines (row_line v) 0 b.0.0)
    (map act_line (acts_at b.0.1).0) (acts_at b.0.1).1) in
    subst (λ (z : Block × List Line). Spells v (solution number hour round size ∷ lines) z.0 z.1) same (record {
      lines_are = ap (λ (ls : List Line). solution number hour round size ∷ ls) all;
      sized = record { parts = parts.1; rows = rows.1; entries = rows.2 };
      behind = acts.1;
    })

pub block_found : (v : Version) (lines : List Line) (b : Block) (rest : List Line) → block_at v lines ≡ Ok (b, rest)
    → Spells v lines b rest
block_found v (solution m o r s ∷ lines) b rest e = solution_found v m o r s lines (b, rest) e
block_found v [] b rest e = absurd (unfold block_at in cc)
block_found v (act t c s ∷ lines) b rest e = absurd (unfold block_at in cc)
block_found v (header w ∷ lines) b rest e = absurd (unfold block_at in cc)
block_found v (state p c r m ∷ lines) b rest e = absurd (unfold block_at in cc)
block_found v (row fields ∷ lines) b rest e = absurd (unfold block_at in cc)
block_found v (end ∷ lines) b rest e = absurd (unfold block_at in cc)
block_found v (other ∷ lines) b rest e = absurd (unfold block_at in cc)

-- ---- the number of lines

pub length-block : (v : Version) (b : Block)
    → length (block_lines v b) ≡ 1 + (length b.parts + (length b.inverse + length b.acts))
length-block v b =
    let p = length-numbered part_line 0 b.parts in
    let r = length-numbered (row_line v) 0 b.inverse in
    let a = length-map b.acts act_line in
    let l = length-append (numbered_lines part_line 0 b.parts) (numbered_lines (row_line v) 0 b.inverse ++ map act_line b.acts) in
    let m = length-append (numbered_lines (row_line v) 0 b.inverse) (map act_line b.acts) in
    omega (arith, p, r, a, l, m)

pub as_long : (b : Block) → length (block_lines Whole b) ≡ length (block_lines Sparse b)
as_long b = length-block Whole b ∙ sym (length-block Sparse b)
