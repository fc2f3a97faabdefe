-- A refused line is the first with which no block begins.
use Rattle.std.proofs.Common.{◌≡◌, ℕ, ◌+◌, ◌-◌, ◌≤◌, ℤ, pos, List, [], ◌∷◌, ◌++◌, length, replicate, Result, Ok, Err, refl, ap, sym, subst, ◌∙◌, arith}
use Rattle.std.specs.List.{AllByRecursion}
use Rattle.std.proofs.lemmas.List.{append_assoc, length-append, length-replicate}
use Rattle.fd_certfile.specs.Lines.{Line, header, solution, state, row, act, end, other}
use Rattle.fd_certfile.specs.Blocks.{Version, Part, Block, count_of, part_line, row_line, numbered_lines, ◌>>=◌, part_at, row_at, numbered_at, acts_at, block_at, BeginNoBlock, with_first, BeginsBlock, Refuses}
use Rattle.fd_certfile.proofs.Blocks.{IsWide, Anything, anything, part_found, row_line_found, part_again, row_line_again, block_again}
use Rattle.fd_lines.proofs.CallerLemmas.{bind_err, enumerate-append, filled, made_ok, numbered_again, numbered_found, numbered_refused, right_append, right_replicate}

-- ---- a front that is filled up to a block

zeros : ℕ → List ℤ
zeros n = replicate n (pos 0)

nothing : Part
nothing = record { centre = pos 0; radius = pos 0; mismatch = pos 0 }

module _ (v : Version) (number hour round size : ℤ) where
  begins_with_parts : (ps : List Part) → length ps ≤ count_of size
      → BeginsBlock v (solution number hour round size ∷ numbered_lines part_line 0 ps)
  unfolding zeros
  begins_with_parts ps h =
      let n = count_of size in
      let others = replicate (n - length ps) nothing in
      let rows = replicate n (zeros n) in
      let tail = numbered_lines (row_line v) 0 rows ++ [] in
      record {
        block = record { number = number; hour = hour; round = round; size = size; parts = ps ++ others; inverse = rows; acts = [] };
        sized = record {
          parts = filled ps nothing n h;
          rows = length-replicate n (zeros n);
          entries = right_replicate (IsWide n) n (zeros n) (length-replicate n (pos 0));
        };
        more = numbered_lines part_line (0 + length ps) others ++ tail;
        lines_are = ap (λ (ls : List Line). solution number hour round size ∷ ls)
            (ap (λ (ls : List Line). ls ++ tail) (enumerate-append part_line 0 ps others)
            ∙ append_assoc (numbered_lines part_line 0 ps) (numbered_lines part_line (0 + length ps) others) tail);
      }

  begins_with_rows : (ps : List Part) (rs : List (List ℤ)) → length ps ≡ count_of size → length rs ≤ count_of size
      → AllByRecursion (IsWide (count_of size)) rs
      → BeginsBlock v (solution number hour round size ∷ (numbered_lines part_line 0 ps ++ numbered_lines (row_line v) 0 rs))
  unfolding zeros
  begins_with_rows ps rs e h right =
      let n = count_of size in
      let others = replicate (n - length rs) (zeros n) in
      let tail = numbered_lines (row_line v) (0 + length rs) others ++ [] in
      record {
        block = record { number = number; hour = hour; round = round; size = size; parts = ps; inverse = rs ++ others; acts = [] };
        sized = record {
          parts = e;
          rows = filled rs (zeros n) n h;
          entries = right_append (IsWide n) rs others right (right_replicate (IsWide n) (n - length rs) (zeros n) (length-replicate n (pos 0)));
        };
        more = tail;
        lines_are = ap (λ (ls : List Line). solution number hour round size ∷ ls)
            (ap (λ (ls : List Line). numbered_lines part_line 0 ps ++ (ls ++ [])) (enumerate-append (row_line v) 0 rs others)
            ∙ ap (λ (ls : List Line). numbered_lines part_line 0 ps ++ ls)
            (append_assoc (numbered_lines (row_line v) 0 rs) (numbered_lines (row_line v) (0 + length rs) others) [])
            ∙ sym (append_assoc (numbered_lines part_line 0 ps) (numbered_lines (row_line v) 0 rs) tail));
      }

-- ---- blocks

pub ok_err : {A : Type 0} {r : Result A (List Line)} {x : A} {d : List Line} → r ≡ Ok x → r ≡ Err d → ⊥
ok_err e f = cc

-- what is refused begins no block
refused_begins : (v : Version) (lines d : List Line) → block_at v lines ≡ Err d → BeginNoBlock v lines
refused_begins v lines d e b rest h same = ok_err (ap (block_at v) same ∙ block_again v b rest h) e

begins_nothing : (v : Version) → BeginsBlock v []
begins_nothing v = record {
  block = record { number = pos 0; hour = pos 0; round = pos 0; size = pos 0; parts = []; inverse = []; acts = [] };
  sized = record { parts = refl; rows = refl; entries = tt };
  more = solution (pos 0) (pos 0) (pos 0) (pos 0) ∷ [];
  lines_are = refl;
}

abbrev pub IsNoSolution : List Line → Type 0
IsNoSolution (solution number hour round size ∷ lines) = ⊥
IsNoSolution lines = Unit {0}

pub no_solution : (v : Version) (lines : List Line) → IsNoSolution lines → block_at v lines ≡ Err lines
unfolding block_at
no_solution v (solution m o r s ∷ lines) h = absurd h
no_solution v [] h = refl
no_solution v (act t c s ∷ lines) h = refl
no_solution v (header w ∷ lines) h = refl
no_solution v (state p c r m ∷ lines) h = refl
no_solution v (row fields ∷ lines) h = refl
no_solution v (end ∷ lines) h = refl
no_solution v (other ∷ lines) h = refl

first_no_solution : (lines more : List Line) → IsNoSolution lines → IsNoSolution (with_first lines more)
first_no_solution [] more h = tt
first_no_solution (solution m o r s ∷ lines) more h = absurd h
first_no_solution (act t c s ∷ lines) more h = tt
first_no_solution (header w ∷ lines) more h = tt
first_no_solution (state p c r m ∷ lines) more h = tt
first_no_solution (row fields ∷ lines) more h = tt
first_no_solution (end ∷ lines) more h = tt
first_no_solution (other ∷ lines) more h = tt

pub same_err : {A : Type 0} {r : Result A (List Line)} {c d : List Line} → r ≡ Err c → r ≡ Err d → c ≡ d
same_err e f = cc

at_once : (v : Version) (lines rest : List Line) → IsNoSolution lines → block_at v lines ≡ Err rest
    → Refuses v lines rest
at_once v lines rest h e =
    let same : lines ≡ rest = same_err (no_solution v lines h) e in
    record {
      front = [];
      lines_are = same;
      begins = begins_nothing v;
      refused = λ more. subst (λ (r : List Line). BeginNoBlock v (with_first r more)) same
          (refused_begins v (with_first lines more) (with_first lines more) (no_solution v (with_first lines more) (first_no_solution lines more h)));
    }

solution_refused : (v : Version) (number hour round size : ℤ) (lines rest : List Line)
    → block_at v (solution number hour round size ∷ lines) ≡ Err rest
    → Refuses v (solution number hour round size ∷ lines) rest
unfolding block_at
solution_refused v number hour round size lines rest e =
    let n = count_of size in
    let first = solution number hour round size in
    let rows_then : List Part → List (List ℤ) × List Line → Result (Block × List Line) (List Line) = λ parts rows. let
    acts = acts_at rows.1 in Ok
    (record { number = number; hour = hour; round = round; size = size; parts = parts; inverse = rows.0; acts = acts.0 }, acts.1)
    in
    bind_err (numbered_at part_at n 0 lines) (λ parts. numbered_at (row_at v n) n 0 parts.1 >>= λ rows. rows_then parts.0 rows) rest _ e
    (λ failed.
    let k = numbered_refused part_at part_line Anything part_again part_found n 0 lines rest failed in
    record {
      front = first ∷ numbered_lines part_line 0 k.xs;
      lines_are = ap (λ (ls : List Line). first ∷ ls) k.lines_are;
      begins = begins_with_parts v number hour round size k.xs (omega (arith, k.short));
      refused = λ more. refused_begins v _ (with_first rest more)
          (ap (λ r. r >>= λ parts. numbered_at (row_at v n) n 0 parts.1 >>= λ rows. rows_then parts.0 rows) (k.refused more));
    })
    (λ parts done f.
    let found = numbered_found part_at part_line Anything part_found n 0 lines parts done in
    bind_err (numbered_at (row_at v n) n 0 parts.1) (rows_then parts.0) rest _ f
    (λ failed.
    let k = numbered_refused (row_at v n) (row_line v) (IsWide n) (row_line_again v n) (row_line_found v n) n 0 parts.1 rest failed in
    let ps = numbered_lines part_line 0 parts.0 in
    let rs = numbered_lines (row_line v) 0 k.xs in
    record {
      front = first ∷ (ps ++ rs);
      lines_are = ap (λ (ls : List Line). first ∷ ls) (found.0 ∙ ap (λ (ls : List Line). ps ++ ls) k.lines_are ∙ sym (append_assoc ps rs rest));
      begins = begins_with_rows v number hour round size parts.0 k.xs found.1 (omega (arith, k.short)) k.right;
      refused = λ more. refused_begins v _ (with_first rest more)
          (ap (λ (ls : List Line). block_at v (first ∷ ls)) (append_assoc ps rs (with_first rest more))
          ∙ ap (λ r. r >>= λ p. numbered_at (row_at v n) n 0 p.1 >>= λ q. rows_then p.0 q)
          (subst (λ (m : ℕ). numbered_at part_at m 0 (ps ++ (rs ++ with_first rest more)) ≡ Ok (parts.0, rs ++ with_first rest more)) found.1
          (numbered_again part_at part_line Anything part_again 0 parts.0 (rs ++ with_first rest more) (anything parts.0)))
          ∙ ap (λ r. r >>= λ q. rows_then parts.0 q) (k.refused more));
    })
    (λ rows made g. made_ok _ rest _ g))

pub block_refused : (v : Version) (lines rest : List Line) → block_at v lines ≡ Err rest → Refuses v lines rest
block_refused v (solution m o r s ∷ lines) rest e = solution_refused v m o r s lines rest e
block_refused v [] rest e = at_once v [] rest tt e
block_refused v (act t c s ∷ lines) rest e = at_once v (act t c s ∷ lines) rest tt e
block_refused v (header w ∷ lines) rest e = at_once v (header w ∷ lines) rest tt e
block_refused v (state p c r m ∷ lines) rest e = at_once v (state p c r m ∷ lines) rest tt e
block_refused v (row fields ∷ lines) rest e = at_once v (row fields ∷ lines) rest tt e
block_refused v (end ∷ lines) rest e = at_once v (end ∷ lines) rest tt e
block_refused v (other ∷ lines) rest e = at_once v (other ∷ lines) rest tt e

-- ---- where a refused line stands

-- behind a solution line
pub solution_kept : (v : Version) (number hour round size : ℤ) (lines rest : List Line)
    → block_at v (solution number hour round size ∷ lines) ≡ Err rest → length rest ≤ length lines
unfolding block_at
solution_kept v number hour round size lines rest e =
    let n = count_of size in
    let rows_then : List Part → List (List ℤ) × List Line → Result (Block × List Line) (List Line) = λ parts rows.
    let acts = acts_at rows.1 in
    Ok (
      record {
        number = number;
        hour = hour;
        round = round;
        size = size;
        parts = parts;
        inverse = rows.0;
        acts = acts.0;
      },
      acts.1,
    ) in
    bind_err (numbered_at part_at n 0 lines)
    (λ parts. numbered_at (row_at v n) n 0 parts.1 >>= λ rows. rows_then parts.0 rows) rest _ e (λ failed.
    let k = numbered_refused part_at part_line Anything part_again part_found n 0 lines rest failed in
    omega (arith, ap length k.lines_are, length-append (numbered_lines part_line 0 k.xs) rest))
    (λ parts done f.
    let found = numbered_found part_at part_line Anything part_found n 0 lines parts done in
    bind_err (numbered_at (row_at v n) n 0 parts.1) (rows_then parts.0) rest _ f (λ failed.
    let k = numbered_refused (row_at v n) (row_line v) (IsWide n) (row_line_again v n) (row_line_found v n) n 0
    parts.1 rest failed in
    omega (
      arith,
      ap length found.0,
      length-append (numbered_lines part_line 0 parts.0) parts.1,
      ap length k.lines_are,
      length-append (numbered_lines (row_line v) 0 k.xs) rest,
    )) (λ rows made g. made_ok _ rest _ g))

-- else it is the first
pub first_kept : (v : Version) (lines rest : List Line) → IsNoSolution lines → block_at v lines ≡ Err rest
    → lines ≡ rest
first_kept v lines rest h e = same_err (no_solution v lines h) e
