-- A refused line is the first with which no block begins.
use Rattle.std.proofs.Common.{◌≡◌, ℕ, suc, ◌+◌, ◌-◌, ◌≤◌, ℤ, pos, List, [], ◌∷◌, ◌++◌, length, replicate, Option, Some, None, Result, Ok, Err, refl, ap, sym, subst, ◌∙◌, arith, add-one}
use Rattle.std.specs.Prelude.{codes}
use Rattle.std.specs.List.{AllByRecursion}
use Rattle.std.proofs.lemmas.List.{append_assoc, length-replicate}
use Rattle.fd_lines.specs.Numbered.{count_of, numbered_at, numbered_lines, or_refused, with_first, ◌>>=◌}
use Rattle.fd_lines.specs.WordLines.{Line, line}
use Rattle.fd_lines.proofs.CallerLemmas.{bind_err, enumerate-append, filled, made_ok, numbered_again, numbered_found, numbered_refused}
use Rattle.fd_rowfile.specs.Blocks.{Bound, IsRow, Part, Row, block_at, block_with, bound_at, bound_line, box_in, first_at, head_in, if_some, part_at, part_line, placed_row, row_in, row_line, rows_at}
use Rattle.fd_rowfile.specs.Laws.{BeginNoBlock, BeginsBlock, IsBehindRows, Refuses}
use Rattle.fd_rowfile.proofs.BlockForms.{block_again}
use Rattle.fd_rowfile.proofs.BlockParts.{Head, behind_box, behind_parts, behind_rows, block_by, bounds_then, box_then, head_then, no_box, no_head, parts_then, rows_then}
use Rattle.fd_rowfile.proofs.LineForms.{Anything, anything, bound_again, bound_found, box_found, first_found, head_found, numbers_found, part_again, part_found, placed_found, row_line_again, rows_again, rows_found}

ok_err : {A : Type 0} {r : Result A (List Line)} {x : A} {d : List Line} → r ≡ Ok x → r ≡ Err d → ⊥
ok_err e f = cc

-- what is refused begins no block
refused_begins : (lines d : List Line) → block_at lines ≡ Err d → BeginNoBlock lines
refused_begins lines d e b rest h k same = ok_err (ap block_at same ∙ block_again b rest h k) e

-- ---- the first line

abbrev with_rest : {X : Type 0} → List Line → X → Result (X × List Line) (List Line)
with_rest lines x = Ok (x, lines)

-- a row, and then the others
abbrev rows_on : ℕ → ℕ → List Line → Row → Result (List Row × List Line) (List Line)
rows_on n i lines r = rows_at n (suc i) lines >>= λ rs. Ok (r ∷ rs.0, rs.1)

abbrev rows_by : ℕ → ℕ → Line → List Line → Option (List ℤ) → Result (List Row × List Line) (List Line)
rows_by n i l lines o = if_some o (Ok ([], l ∷ lines)) (λ zs. or_refused (l ∷ lines) (placed_row n i zs) >>= rows_on n i lines)

record FirstRefused {X : Type 0} (read : Line → Option X) (lines d : List Line) : Type 0 where
  same : lines ≡ d
  refused : (more : List Line) → first_at read (with_first d more) ≡ Err (with_first d more)

first_refused : {X : Type 0} (read : Line → Option X) (lines d : List Line) → first_at read lines ≡ Err d
    → FirstRefused read lines d
first_refused read [] d e =
    let same : [] ≡ d = cc in
    subst (FirstRefused read []) same (record { same = refl; refused = λ more. refl })
first_refused {X} read (l ∷ lines) d e = on (read l) refl e
  where
    on : (o : Option X) → read l ≡ o → (or_refused (l ∷ lines) o >>= with_rest lines) ≡ Err d
        → FirstRefused read (l ∷ lines) d
    on None f g =
        let same : l ∷ lines ≡ d = cc in
        subst (FirstRefused read (l ∷ lines)) same (record {
          same = refl;
          refused = λ more. ap (λ (o : Option X). or_refused (l ∷ more) o >>= with_rest more) f;
        })
    on (Some x) f g = absurd cc

-- ---- rows

record RowsCut (n i : ℕ) (lines rest : List Line) : Type 0 where
  rs : List Row
  lines_are : lines ≡ numbered_lines row_line i rs ++ rest
  right : AllByRecursion (IsRow n) rs
  refused : (more : List Line) → rows_at n i (numbered_lines row_line i rs ++ with_first rest more) ≡ Err (with_first rest more)

module _ (n : ℕ) where
  cut_more : (i : ℕ) (l : Line) (lines rest : List Line) (r : Row) → (l ≡ row_line i r) × IsRow n r
      → RowsCut n (suc i) lines rest → RowsCut n i (l ∷ lines) rest
  cut_more i l lines rest r first k = record {
    rs = r ∷ k.rs;
    lines_are = ap (λ (m : Line). m ∷ lines) first.0 ∙ ap (λ (ls : List Line). row_line i r ∷ ls) (rw add-one k.lines_are);
    right = (first.1, k.right);
    refused = λ more.
        let here = row_line_again n i r first.1 in
        let there : rows_at n (suc i) (numbered_lines row_line (suc i) k.rs ++ with_first rest more) ≡ Err (with_first rest more) = k.refused more in
        rw (here, add-one, there) refl;
  }

  by_row : (i : ℕ) (l : Line) (lines rest : List Line) (zs : List ℤ) → row_in l ≡ Some zs
      → ((d : List Line) → rows_at n (suc i) lines ≡ Err d → RowsCut n (suc i) lines d)
      → (o : Option Row) → placed_row n i zs ≡ o
      → (or_refused (l ∷ lines) o >>= rows_on n i lines) ≡ Err rest
      → RowsCut n i (l ∷ lines) rest
  by_row i l lines rest zs f others None p q =
      let same : l ∷ lines ≡ rest = cc in
      subst (RowsCut n i (l ∷ lines)) same (record {
        rs = [];
        lines_are = refl;
        right = tt;
        refused = λ more.
            ap (rows_by n i l more) f ∙ ap (λ (o : Option Row). or_refused (l ∷ more) o >>= rows_on n i more) p;
      })
  by_row i l lines rest zs f others (Some r) p q =
      bind_err (rows_at n (suc i) lines) (λ rs. Ok (r ∷ rs.0, rs.1)) rest _ q
      (λ failed.
      let placed = placed_found n i zs r p in
      cut_more i l lines rest r (numbers_found (codes "row") l zs f ∙ placed.0, placed.1) (others rest failed))
      (λ ys made h. made_ok (r ∷ ys.0, ys.1) rest _ h)

  rows_refused : (i : ℕ) (lines rest : List Line) → rows_at n i lines ≡ Err rest → RowsCut n i lines rest
  rows_refused i [] rest e = absurd cc
  rows_refused i (l ∷ lines) rest e = on (rows_refused (suc i) lines) (row_in l) refl e
    where
      on : ((d : List Line) → rows_at n (suc i) lines ≡ Err d → RowsCut n (suc i) lines d) → (o : Option (List ℤ)) → row_in l ≡ o
          → rows_by n i l lines o ≡ Err rest
          → RowsCut n i (l ∷ lines) rest
      on others None f g = absurd cc
      on others (Some zs) f g = by_row i l lines rest zs f others (placed_row n i zs) refl g

-- ---- a front that is filled up to a block

nothing : Part
nothing = record { centre = pos 0; radius = pos 0; mismatch = pos 0 }

no_bound : Bound
no_bound = record { row = pos 0; bound = pos 0 }

module _ (h : Head) (d : ℤ) where
  first : Line
  first = line (codes "solution") (h.0 ∷ h.1 ∷ h.2 ∷ h.3 ∷ [])

  second : Line
  second = line (codes "box") (d ∷ [])

  begins_with_parts : (ps : List Part) → length ps ≤ count_of h.3
      → BeginsBlock (first ∷ second ∷ numbered_lines part_line 0 ps)
  unfolding first second
  begins_with_parts ps l =
      let n = count_of h.3 in
      let others = replicate (n - length ps) nothing in
      let tail = numbered_lines bound_line 0 (replicate n no_bound) ++ [] in
      record {
        block = block_with h d (ps ++ others) [] (replicate n no_bound) [];
        sized = record { parts = filled ps nothing n l; rows = tt; bounds = length-replicate n no_bound };
        more = numbered_lines part_line (0 + length ps) others ++ tail;
        lines_are = ap (λ (ls : List Line). first ∷ second ∷ ls)
            (ap (λ (ls : List Line). ls ++ tail) (enumerate-append part_line 0 ps others)
            ∙ append_assoc (numbered_lines part_line 0 ps) (numbered_lines part_line (0 + length ps) others) tail);
      }

  begins_with_bounds : (ps : List Part) (rs : List Row) (bs : List Bound) → length ps ≡ count_of h.3
      → AllByRecursion (IsRow (count_of h.3)) rs → length bs ≤ count_of h.3
      → BeginsBlock (first ∷ second ∷ (numbered_lines part_line 0 ps ++ (numbered_lines row_line 0 rs ++ numbered_lines bound_line 0 bs)))
  unfolding first second
  begins_with_bounds ps rs bs e right l =
      let n = count_of h.3 in
      let others = replicate (n - length bs) no_bound in
      let pl = numbered_lines part_line 0 ps in
      let rl = numbered_lines row_line 0 rs in
      let bl = numbered_lines bound_line 0 bs in
      let ol = numbered_lines bound_line (0 + length bs) others in
      record {
        block = block_with h d ps rs (bs ++ others) [];
        sized = record { parts = e; rows = right; bounds = filled bs no_bound n l };
        more = ol ++ [];
        lines_are = ap (λ (ls : List Line). first ∷ second ∷ ls)
            (ap (λ (ls : List Line). pl ++ (rl ++ (ls ++ []))) (enumerate-append bound_line 0 bs others)
            ∙ ap (λ (ls : List Line). pl ++ (rl ++ ls)) (append_assoc bl ol [])
            ∙ ap (λ (ls : List Line). pl ++ ls) (sym (append_assoc rl bl (ol ++ [])))
            ∙ sym (append_assoc pl (rl ++ bl) (ol ++ [])));
      }

  begins_with_rows : (ps : List Part) (rs : List Row) → length ps ≡ count_of h.3
      → AllByRecursion (IsRow (count_of h.3)) rs
      → BeginsBlock (first ∷ second ∷ (numbered_lines part_line 0 ps ++ numbered_lines row_line 0 rs))
  unfolding first second
  begins_with_rows ps rs e right =
      let n = count_of h.3 in
      let pl = numbered_lines part_line 0 ps in
      let rl = numbered_lines row_line 0 rs in
      let tail = numbered_lines bound_line 0 (replicate n no_bound) ++ [] in
      record {
        block = block_with h d ps rs (replicate n no_bound) [];
        sized = record { parts = e; rows = right; bounds = length-replicate n no_bound };
        more = tail;
        lines_are = ap (λ (ls : List Line). first ∷ second ∷ ls) (sym (append_assoc pl rl tail));
      }

-- ---- blocks

begins_nothing : BeginsBlock []
begins_nothing = record {
  block = block_with (pos 0, pos 0, pos 0, pos 0) (pos 0) [] [] [] [];
  sized = record { parts = refl; rows = tt; bounds = refl };
  more = line (codes "solution") (pos 0 ∷ pos 0 ∷ pos 0 ∷ pos 0 ∷ []) ∷ line (codes "box") (pos 0 ∷ []) ∷ [];
  lines_are = refl;
}

begins_head : (h : Head) → BeginsBlock (first h (pos 0) ∷ [])
unfolding first
begins_head h =
    let b = begins_with_parts h (pos 0) [] (omega arith) in
    record { block = b.block; sized = b.sized; more = second h (pos 0) ∷ b.more; lines_are = b.lines_are }

-- the first of rest stays
rows_ended : (rest more : List Line) → IsBehindRows rest → IsBehindRows (with_first rest more)
rows_ended [] more h = tt
rows_ended (l ∷ lines) more h = h

-- behind bounds no row line stands
behind_rows_of : (bs : List Bound) (rest : List Line) → IsBehindRows rest → IsBehindRows (numbered_lines bound_line 0 bs ++ rest)
behind_rows_of [] rest h = h
behind_rows_of (b ∷ bs) rest h = refl

-- where no bound is read, the rest is what stood behind the rows
rest_ended : (bs : List Bound) (r4 rest more : List Line) → r4 ≡ numbered_lines bound_line 0 bs ++ rest → IsBehindRows r4
    → IsBehindRows (numbered_lines bound_line 0 bs ++ with_first rest more)
rest_ended [] r4 rest more e h = rows_ended rest more (subst IsBehindRows e h)
rest_ended (b ∷ bs) r4 rest more e h = refl

regrouped : (ps rs bs rest : List Line) → (ps ++ (rs ++ bs)) ++ rest ≡ ps ++ (rs ++ (bs ++ rest))
regrouped ps rs bs rest = append_assoc ps (rs ++ bs) rest ∙ ap (λ (ls : List Line). ps ++ ls) (append_assoc rs bs rest)

module _ (lines rest : List Line) (e : block_at lines ≡ Err rest) where
  no_first : first_at head_in lines ≡ Err rest → Refuses lines rest
  no_first failed =
      let f = first_refused head_in lines rest failed in
      record {
        front = [];
        lines_are = f.same;
        begins = begins_nothing;
        refused = λ more. refused_begins (with_first rest more) (with_first rest more)
            (no_head (with_first rest more) (with_first rest more) (f.refused more));
      }

  module _ (h : Head) (r1 : List Line) (e1 : first_at head_in lines ≡ Ok (h, r1)) where
    lines_1 : lines ≡ first h (pos 0) ∷ r1
    unfolding first
    lines_1 = let l = first_found head_in lines (h, r1) e1 in l.1 ∙ ap (λ (m : Line). m ∷ r1) (head_found l.0 h l.2)

    no_second : first_at box_in r1 ≡ Err rest → Refuses lines rest
    unfolding first
    no_second failed =
        let f = first_refused box_in r1 rest failed in
        record {
          front = first h (pos 0) ∷ [];
          lines_are = lines_1 ∙ ap (λ (ls : List Line). first h (pos 0) ∷ ls) f.same;
          begins = begins_head h;
          refused = λ more. refused_begins _ (with_first rest more)
              (no_box (first h (pos 0) ∷ with_first rest more) h (with_first rest more) refl (with_first rest more) (f.refused more));
        }

    module _ (d : ℤ) (r2 : List Line) (e2 : first_at box_in r1 ≡ Ok (d, r2)) where
      lines_2 : lines ≡ first h d ∷ second h d ∷ r2
      unfolding first second
      lines_2 = lines_1 ∙ (let l = first_found box_in r1 (d, r2) e2 in
          ap (λ (ls : List Line). first h d ∷ ls) (l.1 ∙ ap (λ (m : Line). m ∷ r2) (box_found l.0 d l.2)))

      no_part : numbered_at part_at (count_of h.3) 0 r2 ≡ Err rest → Refuses lines rest
      unfolding first second
      no_part failed =
          let n = count_of h.3 in
          let k = numbered_refused part_at part_line Anything part_again part_found n 0 r2 rest failed in
          let pl = numbered_lines part_line 0 k.xs in
          record {
            front = first h d ∷ second h d ∷ pl;
            lines_are = lines_2 ∙ ap (λ (ls : List Line). first h d ∷ second h d ∷ ls) k.lines_are;
            begins = begins_with_parts h d k.xs (omega (arith, k.short));
            refused = λ more. refused_begins _ (with_first rest more)
                (behind_box (first h d ∷ second h d ∷ (pl ++ with_first rest more)) h (second h d ∷ (pl ++ with_first rest more)) refl d
                (pl ++ with_first rest more) refl
                ∙ ap (λ x. x >>= parts_then h d) (k.refused more));
          }

      module _ (ps : List Part) (r3 : List Line) (e3 : numbered_at part_at (count_of h.3) 0 r2 ≡ Ok (ps, r3)) where
        found_parts : (r2 ≡ numbered_lines part_line 0 ps ++ r3) × (length ps ≡ count_of h.3) × AllByRecursion Anything ps
        found_parts = numbered_found part_at part_line Anything part_found (count_of h.3) 0 r2 (ps, r3) e3

        parts_before : (more : List Line) → numbered_at part_at (count_of h.3) 0 (numbered_lines part_line 0 ps ++ more) ≡ Ok (ps, more)
        parts_before more = subst (λ (m : ℕ). numbered_at part_at m 0 (numbered_lines part_line 0 ps ++ more) ≡ Ok (ps, more))
            found_parts.1 (numbered_again part_at part_line Anything part_again 0 ps more (anything ps))

        no_row : rows_at (count_of h.3) 0 r3 ≡ Err rest → Refuses lines rest
        unfolding first second
        no_row failed =
            let n = count_of h.3 in
            let k = rows_refused n 0 r3 rest failed in
            let pl = numbered_lines part_line 0 ps in
            let rl = numbered_lines row_line 0 k.rs in
            record {
              front = first h d ∷ second h d ∷ (pl ++ rl);
              lines_are = lines_2 ∙ ap (λ (ls : List Line). first h d ∷ second h d ∷ ls)
                  (found_parts.0 ∙ ap (λ (ls : List Line). pl ++ ls) k.lines_are ∙ sym (append_assoc pl rl rest));
              begins = begins_with_rows h d ps k.rs found_parts.1 k.right;
              refused = λ more. refused_begins _ (with_first rest more)
                  (ap (λ (ls : List Line). block_at (first h d ∷ second h d ∷ ls)) (append_assoc pl rl (with_first rest more))
                  ∙ behind_parts (first h d ∷ second h d ∷ (pl ++ (rl ++ with_first rest more))) h
                  (second h d ∷ (pl ++ (rl ++ with_first rest more))) refl d
                  (pl ++ (rl ++ with_first rest more)) refl ps (rl ++ with_first rest more) (parts_before (rl ++ with_first rest more))
                  ∙ ap (λ x. x >>= rows_then h d ps) (k.refused more));
            }

        module _ (rs : List Row) (r4 : List Line) (e4 : rows_at (count_of h.3) 0 r3 ≡ Ok (rs, r4)) where
          no_bound_line : numbered_at bound_at (count_of h.3) 0 r4 ≡ Err rest → Refuses lines rest
          unfolding first second
          no_bound_line failed =
              let n = count_of h.3 in
              let f = rows_found n 0 r3 (rs, r4) e4 in
              let k = numbered_refused bound_at bound_line Anything bound_again bound_found n 0 r4 rest failed in
              let pl = numbered_lines part_line 0 ps in
              let rl = numbered_lines row_line 0 rs in
              let bl = numbered_lines bound_line 0 k.xs in
              record {
                front = first h d ∷ second h d ∷ (pl ++ (rl ++ bl));
                lines_are = lines_2 ∙ ap (λ (ls : List Line). first h d ∷ second h d ∷ ls)
                    (found_parts.0 ∙ ap (λ (ls : List Line). pl ++ ls) (f.lines_are ∙ ap (λ (ls : List Line). rl ++ ls) k.lines_are)
                    ∙ sym (regrouped pl rl bl rest));
                begins = begins_with_bounds h d ps rs k.xs found_parts.1 f.right (omega (arith, k.short));
                refused = λ more. refused_begins _ (with_first rest more)
                    (ap (λ (ls : List Line). block_at (first h d ∷ second h d ∷ ls)) (regrouped pl rl bl (with_first rest more))
                    ∙ behind_rows (first h d ∷ second h d ∷ (pl ++ (rl ++ (bl ++ with_first rest more)))) h
                    (second h d ∷ (pl ++ (rl ++ (bl ++ with_first rest more)))) refl d
                    (pl ++ (rl ++ (bl ++ with_first rest more))) refl ps (rl ++ (bl ++ with_first rest more))
                    (parts_before (rl ++ (bl ++ with_first rest more))) rs (bl ++ with_first rest more)
                    (rows_again n 0 rs (bl ++ with_first rest more) f.right (rest_ended k.xs r4 rest more k.lines_are f.ends))
                    ∙ ap (λ x. x >>= bounds_then h d ps rs) (k.refused more));
              }

  pub refused_here : Refuses lines rest
  refused_here =
      bind_err (first_at head_in lines) head_then rest _ (sym (block_by lines) ∙ e) no_first (λ h e1 f1.
      bind_err (first_at box_in h.1) (box_then h.0) rest _ f1 (no_second h.0 h.1 e1) (λ d e2 f2.
      bind_err (numbered_at part_at (count_of h.0.3) 0 d.1) (parts_then h.0 d.0) rest _ f2 (no_part h.0 h.1 e1 d.0 d.1 e2) (λ p e3 f3.
      bind_err (rows_at (count_of h.0.3) 0 p.1) (rows_then h.0 d.0 p.0) rest _ f3 (no_row h.0 h.1 e1 d.0 d.1 e2 p.0 p.1 e3) (λ r e4 f4.
      bind_err (numbered_at bound_at (count_of h.0.3) 0 r.1) (bounds_then h.0 d.0 p.0 r.0) rest _ f4
      (no_bound_line h.0 h.1 e1 d.0 d.1 e2 p.0 p.1 e3 r.0 r.1 e4) (λ b made g. made_ok _ rest _ g)))))

pub block_refused : (lines rest : List Line) → block_at lines ≡ Err rest → Refuses lines rest
block_refused lines rest e = refused_here lines rest e
