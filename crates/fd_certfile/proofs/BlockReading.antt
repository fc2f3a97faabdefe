-- A block, part after part.
use Rattle.std.proofs.Common.{◌≡◌, ℕ, ◌+◌, ◌≤◌, ℤ, List, [], ◌∷◌, length, Some, None, Result, Ok, Err, refl, ap, sym, ◌∙◌, arith}
use Rattle.std.specs.Prelude.{map}
use Rattle.std.specs.List.{slice_split}
use Rattle.std.proofs.lemmas.List.{length-append}
use Rattle.std.proofs.lemmas.List.Splits.{length-slice_split}
use Rattle.std.proofs.lemmas.List.Sums.{count_by-le-length}
use Rattle.fd_certfile.specs.Lines.{Line, header, solution, state, row, act, end, other, is_feed, rest_of, lines_in, lines_of}
use Rattle.fd_certfile.specs.Blocks.{Version, Part, Act, Block, count_of, part_line, numbered_lines, part_at, row_at, ◌>>=◌, is_place, numbered_at, acts_at, block_at}
use Rattle.fd_certfile.proofs.Blocks.{Anything, part_found}
use Rattle.fd_lines.proofs.CallerLemmas.{length-numbered, numbered_found, numbered_long}
use Rattle.fd_certfile.proofs.Refused.{no_solution}
use Rattle.fd_certfile.specs.declared.fault.Stop.{Stop}
use Rattle.fd_certfile.specs.declared.fault.Stop.TheVariants as stop
use Rattle.fd_certfile.specs.Readings.{RefusedBehind, Fails, cells_of, due_in, kept, lines_before, moved}
use Rattle.fd_certfile.specs.Ahead.{IsAhead}
use Rattle.fd_certfile.specs.Views.{part}
use Rattle.fd_certfile.specs.declared.ahead.Ahead.{Ahead}

-- ---- how many lines there are

length-lines_in : (parts : List (List ℕ)) → length (lines_in parts) ≤ length parts
length-lines_in [] = omega arith
length-lines_in ([] ∷ []) = omega arith
length-lines_in ((c ∷ cs) ∷ []) = omega arith
length-lines_in (text ∷ next ∷ parts) = omega (arith, length-lines_in (next ∷ parts))

pub length-lines_of : (bytes : List ℕ) → length (lines_of bytes) ≤ length bytes + 1
unfolding lines_of
length-lines_of bytes = omega (arith, length-lines_in (slice_split is_feed bytes), length-slice_split is_feed bytes, count_by-le-length is_feed bytes)

pub before_fits : {Y : Type 0} (s : Stop) (bytes : List ℕ) (read : Result Y (List Line)) → Fails s (lines_of bytes) read
    → lines_before s ≤ length bytes + 1
before_fits stop.NoMemory bytes read f = omega arith
before_fits (stop.Refused behind) bytes read f = omega (arith, f.count, length-lines_of bytes)

-- ---- a block behind its solution line

module _ (v : Version) (number hour round size : ℤ) (lines : List Line) where
  first : Line
  first = solution number hour round size

  rows_then : List Part → List (List ℤ) × List Line → Result (Block × List Line) (List Line)
  rows_then parts rows = let acts = acts_at rows.1 in Ok
      (record { number = number; hour = hour; round = round; size = size; parts = parts; inverse = rows.0; acts = acts.0 }, acts.1)

  parts_then : List Part × List Line → Result (Block × List Line) (List Line)
  parts_then parts = numbered_at (row_at v (count_of size)) (count_of size) 0 parts.1 >>= λ rows. rows_then parts.0 rows

  block_by : block_at v (solution number hour round size ∷ lines) ≡ (numbered_at part_at (count_of size) 0 lines >>= λ parts. parts_then parts)
  unfolding block_at parts_then rows_then
  block_by = refl

  pub parts_fail : (s : Stop) → Fails s lines (numbered_at part_at (count_of size) 0 lines)
      → Fails (moved 1 s) (solution number hour round size ∷ lines) (block_at v (solution number hour round size ∷ lines))
  parts_fail stop.NoMemory f = tt
  parts_fail (stop.Refused behind) f = record {
    rest = f.rest;
    refused = block_by ∙ ap (λ r. r >>= λ parts. parts_then parts) f.refused;
    count = omega (arith, f.count);
  }

  module _ (parts : List Part) (mid : List Line)
      (read : numbered_at part_at (count_of size) 0 lines ≡ Ok (parts, mid)) where
    pub parts_lines : length lines ≡ count_of size + length mid
    parts_lines =
        let f = numbered_found part_at part_line Anything part_found (count_of size) 0 lines (parts, mid) read in
        omega (arith, ap length f.0, length-append (numbered_lines part_line 0 parts) mid, length-numbered part_line 0 parts, f.1)

    behind_parts : block_at v (solution number hour round size ∷ lines) ≡ parts_then (parts, mid)
    behind_parts = block_by ∙ ap (λ r. r >>= λ ps. parts_then ps) read

    pub rows_fail : (s : Stop) → Fails s mid (numbered_at (row_at v (count_of size)) (count_of size) 0 mid)
        → Fails (moved (1 + count_of size) s) (solution number hour round size ∷ lines) (block_at v (solution number hour round size ∷ lines))
    unfolding parts_then
    rows_fail stop.NoMemory f = tt
    rows_fail (stop.Refused behind) f = record {
      rest = f.rest;
      refused = behind_parts ∙ ap (λ r. r >>= λ rows. rows_then parts rows) f.refused;
      count = omega (arith, f.count, parts_lines);
    }

    pub all_read : (rows : List (List ℤ)) (more : List Line)
        → numbered_at (row_at v (count_of size)) (count_of size) 0 mid ≡ Ok (rows, more)
        → (acts : List Act) (rest : List Line) → acts_at more ≡ (acts, rest)
        → block_at v (solution number hour round size ∷ lines) ≡ Ok
        (record { number = number; hour = hour; round = round; size = size; parts = parts; inverse = rows; acts = acts }, rest)
    unfolding parts_then rows_then
    all_read rows more r acts rest a =
        behind_parts ∙ ap (λ x. x >>= λ ys. rows_then parts ys) r
        ∙ ap
        (λ (p : List Act × List Line). Ok (record { number = number; hour = hour; round = round; size = size; parts = parts; inverse = rows; acts = p.0 }, p.1))
        a

-- ---- no block

pub none_refused : (v : Version) (line : Line) (more : List Line) → None ≡ due_in line
    → RefusedBehind 0 (line ∷ more) (block_at v (line ∷ more))
none_refused v (solution m h r s) more e = absurd cc
none_refused v (header w) more e = record { rest = header w ∷ more; refused = no_solution v (header w ∷ more) tt; count = omega arith }
none_refused v (state p c r m) more e = record { rest = state p c r m ∷ more; refused = no_solution v (state p c r m ∷ more) tt; count = omega arith }
none_refused v (row fields) more e = record { rest = row fields ∷ more; refused = no_solution v (row fields ∷ more) tt; count = omega arith }
none_refused v (act t c s) more e = record { rest = act t c s ∷ more; refused = no_solution v (act t c s ∷ more) tt; count = omega arith }
none_refused v end more e = record { rest = end ∷ more; refused = no_solution v (end ∷ more) tt; count = omega arith }
none_refused v other more e = record { rest = other ∷ more; refused = no_solution v (other ∷ more) tt; count = omega arith }

pub rest_refused : (v : Version) (lines : List Line) (bytes : List ℕ) → lines ≡ rest_of bytes
    → RefusedBehind 0 lines (block_at v lines)
rest_refused v lines [] e = record
    { rest = lines; refused = ap (block_at v) e ∙ no_solution v [] tt ∙ ap (λ (ls : List Line). Err ls) (sym e); count = omega arith }
rest_refused v lines (c ∷ bytes) e = record
    { rest = lines; refused = ap (block_at v) e ∙ no_solution v (other ∷ []) tt ∙ ap (λ (ls : List Line). Err ls) (sym e); count = omega arith }

some_is : {X : Type 0} {x y : X} → Some x ≡ Some y → x ≡ y
some_is e = cc

-- the solution line that these numbers make
pub due_line : (line : Line) (n h r s : ℤ) → Some (n, h, r, s) ≡ due_in line → solution n h r s ≡ line
due_line (solution a b c d) n h r s e = ap (λ (p : ℤ × ℤ × ℤ × ℤ). solution p.0 p.1 p.2 p.3) (some_is e)
due_line (header w) n h r s e = absurd cc
due_line (state p c q m) n h r s e = absurd cc
due_line (row fields) n h r s e = absurd cc
due_line (act t c q) n h r s e = absurd cc
due_line end n h r s e = absurd cc
due_line other n h r s e = absurd cc

-- ---- a block that is kept where its size is due

module _ (v : Version) (due : ℕ) (x : Ahead) (lines : List Line) where
  pub ahead_is : (parts : List Part) (mid : List Line) (rows : List (List ℤ))
      → numbered_at part_at (count_of x.head.size) 0 lines ≡ Ok (parts, mid)
      → numbered_at (row_at v (count_of x.head.size)) (count_of x.head.size) 0 mid ≡ Ok (rows, lines_of x.acts.now)
      → (acts_at (lines_of x.acts.now)).1 ≡ lines_of x.rest.now
      → map part x.parts.items ≡ kept (is_place due x.head.size) parts
      → x.cells ≡ kept (is_place due x.head.size) (cells_of rows)
      → x.lines ≡ 1 + (count_of x.head.size + (count_of x.head.size + length (acts_at (lines_of x.acts.now)).0))
      → IsAhead v due (solution x.head.number x.head.hour x.head.round x.head.size ∷ lines) x
  ahead_is parts mid rows p r a ps cs n = record {
    block = record {
      number = x.head.number;
      hour = x.head.hour;
      round = x.head.round;
      size = x.head.size;
      parts = parts;
      inverse = rows;
      acts = (acts_at (lines_of x.acts.now)).0;
    };
    same = all_read v x.head.number x.head.hour x.head.round x.head.size lines parts mid p rows
        (lines_of x.acts.now) r (acts_at (lines_of x.acts.now)).0 (lines_of x.rest.now)
        (ap (λ (ls : List Line). ((acts_at (lines_of x.acts.now)).0, ls)) a);
    number = refl;
    hour = refl;
    round = refl;
    size = refl;
    parts = ps;
    cells = cs;
    acts = refl;
    count = omega (
      arith,
      n,
      numbered_long part_at (count_of x.head.size) 0 lines parts mid p,
      numbered_long (row_at v (count_of x.head.size)) (count_of x.head.size) 0 mid rows (lines_of x.acts.now) r,
    );
  }
