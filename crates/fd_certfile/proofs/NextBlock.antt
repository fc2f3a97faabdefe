-- The next block of a reader.
use Rattle.std.proofs.Common.{◌≡◌, ℕ, zero, suc, ◌+◌, ◌*◌, ◌<◌, ◌≤◌, Bool, true, false, ℤ, pos, List, [], ◌∷◌, ◌++◌, length, get_or, Result, Ok, Err, refl, ap, sym, subst, ◌∙◌, arith, zero-add}
use Rattle.std.specs.Prelude.{◌&&◌}
use Rattle.std.specs.List.{AllByRecursion}
use Rattle.std.proofs.lemmas.Bool.{and_parts}
use Rattle.std.proofs.lemmas.List.{ext_get_or, get_or_append_left, get_or-append-add, length-append}
use Rattle.std.proofs.lemmas.List.FromFn.{get_or-map-range_with_len, length-map-range_with_len}
use Rattle.fd_settle.specs.fd_exact.States.{cell, entry, part}
use Rattle.fd_settle.specs.fd_exact.Tables.{length-table, row-table}
use Rattle.fd_settle.specs.fd_mat.Rows.{square}
use Rattle.fd_certfile.specs.Ahead.{IsAhead}
use Rattle.fd_certfile.specs.Blocks.{Version, Act, Block, Spells, block_at, block_lines, count_of, is_place}
use Rattle.fd_certfile.specs.Certificates.{lines_count}
use Rattle.fd_certfile.specs.Lines.{Line, lines_of}
use Rattle.fd_certfile.specs.Reader.{GivenBlock, HasAhead, IsAheadOf, ReaderView, behind, by_head, next_of, starts_with_end, unless_other}
use Rattle.fd_certfile.specs.Readings.{RefusedBehind, cells_of, kept}
use Rattle.fd_certfile.specs.Rules.{is_numbered}
use Rattle.fd_certfile.specs.declared.ahead.Ahead.{Ahead}
use Rattle.fd_settle.specs.fd_cert.declared.rule.Rule.TheVariants.{Count, Grammar, Size}
use Rattle.fd_certfile.proofs.Blocks.{block_found, length-block}
use Rattle.fd_certfile.proofs.RowForms.{place_is}

-- ---- rows that lie one after another

pub length-cells : (n : ℕ) (rows : List (List ℤ)) → AllByRecursion (λ r. length r ≡ n) rows
    → length (cells_of rows) ≡ length rows * n
length-cells n [] w = omega arith
length-cells n (r ∷ rows) w = omega (arith, length-append r (cells_of rows), w.0, length-cells n rows w.1)

part-cells : (n : ℕ) (rows : List (List ℤ)) (i j : ℕ) → AllByRecursion (λ r. length r ≡ n) rows → i < length rows
    → j < n → part (cells_of rows) (i * n + j) ≡ entry rows i j
part-cells n [] i j w l m = absurd (omega (arith, l))
part-cells n (r ∷ rows) zero j w l m =
    let place : 0 * n + j ≡ j = omega arith in
    ap (λ k. part (r ++ cells_of rows) k) place ∙ get_or_append_left r (cells_of rows) (pos 0) j (omega (arith, m, w.0))
part-cells n (r ∷ rows) (suc i) j w l m =
    let place : suc i * n + j ≡ length r + (i * n + j) = omega (arith, w.0) in
    ap (λ k. part (r ++ cells_of rows) k) place ∙ get_or-append-add r (cells_of rows) (i * n + j) (pos 0)
    ∙ part-cells n rows i j w.1 (omega (arith, l)) m

wide_at : (n : ℕ) (rows : List (List ℤ)) (i : ℕ) → AllByRecursion (λ r. length r ≡ n) rows → i < length rows
    → length (get_or rows i []) ≡ n
wide_at n [] i w l = absurd (omega (arith, l))
wide_at n (r ∷ rows) zero w l = w.0
wide_at n (r ∷ rows) (suc i) w l = wide_at n rows i w.1 (omega (arith, l))

pub square-cells : (n : ℕ) (rows : List (List ℤ)) → length rows ≡ n → AllByRecursion (λ r. length r ≡ n) rows
    → square n (cells_of rows) ≡ rows
square-cells n rows e w =
    ext_get_or [] _ _ (length-table n n (cell (cells_of rows) n) ∙ sym e) (λ i h.
    let below : i < n = omega (arith, h, length-table n n (cell (cells_of rows) n)) in
    row-table n n (cell (cells_of rows) n) i below
    ∙ ext_get_or (pos 0) _ _ (length-map-range_with_len (cell (cells_of rows) n i) 0 n ∙ sym (wide_at n rows i w (omega (arith, below, e)))) (λ j k.
    let inside : j < n = omega (arith, k, length-map-range_with_len (cell (cells_of rows) n i) 0 n) in
    get_or-map-range_with_len (cell (cells_of rows) n i) 0 n j j (pos 0) inside (zero-add j)
    ∙ part-cells n rows i j w (omega (arith, below, e)) inside))

-- ---- what stands next

module _ (r : ReaderView) (n : ℕ) where
  next_by : (b : Bool) (read : Result (Block × List Line) (List Line)) → starts_with_end r.lines ≡ b
      → block_at r.version r.lines ≡ read → next_of r n ≡ by_head r n b read
  unfolding next_of
  next_by b read e f = ap (λ c. by_head r n c (block_at r.version r.lines)) e
      ∙ ap (by_head r n b) f

  pub next_ended : true ≡ starts_with_end r.lines → next_of r n ≡ Err (r.line, Count)
  next_ended e = next_by true (block_at r.version r.lines) (sym e) refl

  pub next_refused : (k : ℕ) → false ≡ starts_with_end r.lines → RefusedBehind k r.lines (block_at r.version r.lines)
      → next_of r n ≡ Err (r.line + k, Grammar)
  next_refused k e f = next_by false (Err f.rest) (sym e) f.refused
      ∙ ap (λ m. Err (r.line + m, Grammar)) (omega (arith, f.count))

  module _ (x : Ahead) (e : false ≡ starts_with_end r.lines) (a : IsAhead r.version n r.lines x) where
    headed : Bool
    headed = is_place r.number x.head.number && (is_place r.hour x.head.hour && (is_place r.round x.head.round && is_place n x.head.size))

    numbered : is_numbered r.number r.hour r.round n a.block ≡ headed
    unfolding headed
    numbered = sym (ap (λ z. is_place r.number z && (is_place r.hour x.head.hour && (is_place r.round x.head.round && is_place n x.head.size))) a.number
        ∙ ap (λ z. is_place r.number a.block.number && (is_place r.hour z && (is_place r.round x.head.round && is_place n x.head.size))) a.hour
        ∙ ap (λ z. is_place r.number a.block.number && (is_place r.hour a.block.hour && (is_place r.round z && is_place n x.head.size))) a.round
        ∙ ap (λ z. is_place r.number a.block.number && (is_place r.hour a.block.hour && (is_place r.round a.block.round && is_place n z))) a.size)

    next_is : (b : Bool) → b ≡ headed → next_of r n ≡ unless_other r (a.block, lines_of x.rest.now) b
    next_is b f = next_by false (Ok (a.block, lines_of x.rest.now)) (sym e) a.same
        ∙ ap (unless_other r (a.block, lines_of x.rest.now)) (numbered ∙ sym f)

    pub next_other : false ≡ (is_place r.number x.head.number && (is_place r.hour x.head.hour && (is_place r.round x.head.round && is_place n x.head.size)))
        → next_of r n ≡ Err (r.line, Size)
    unfolding headed
    next_other f = next_is false f

    pub next_due : true ≡ (is_place r.number x.head.number && (is_place r.hour x.head.hour && (is_place r.round x.head.round && is_place n x.head.size)))
        → HasAhead r n x
    unfolding headed
    next_due f =
        let all = and_parts (is_place r.number a.block.number) _ (numbered ∙ sym f) in
        let sized = and_parts (is_place r.round a.block.round) _ (and_parts (is_place r.hour a.block.hour) _ all.1).1 in
        record {
          block = a.block;
          next = next_is true f;
          same = a.same;
          size = place_is n a.block.size sized.1;
          parts = a.parts ∙ ap (λ b. kept b a.block.parts) sized.1;
          cells = a.cells ∙ ap (λ b. kept b (cells_of a.block.inverse)) sized.1;
          acts = a.acts;
          count = a.count;
        }

-- ---- what was read ahead

module _ (r : ReaderView) (n : ℕ) (x : Ahead) (h : HasAhead r n x) where
  spelled : Spells r.version r.lines h.block (lines_of x.rest.now)
  spelled = block_found r.version r.lines h.block (lines_of x.rest.now) h.same

  counted : count_of h.block.size ≡ n
  counted = ap count_of h.size

  widths : AllByRecursion (λ q. length q ≡ n) h.block.inverse
  widths = subst (λ m. AllByRecursion (λ q. length q ≡ m) h.block.inverse) counted spelled.sized.entries

  pub ahead_long : length x.cells ≡ n * n
  ahead_long = ap length h.cells ∙ length-cells n h.block.inverse widths
      ∙ ap (λ m. m * n) (spelled.sized.rows ∙ counted)

  pub ahead_square : square n x.cells ≡ h.block.inverse
  ahead_square = ap (square n) h.cells ∙ square-cells n h.block.inverse (spelled.sized.rows ∙ counted) widths

-- what a reader passes over
module _ (r : ReaderView) (n : ℕ) (acts : List Act) (rest : List Line) (count : ℕ)
    (h : IsAheadOf r n acts rest count) where
  pub passed_lines : length r.lines ≡ count + length rest
  passed_lines = omega (
    arith,
    ap length (block_found r.version r.lines h.block rest h.same).lines_are,
    length-append (block_lines r.version h.block) rest,
    length-block r.version h.block,
    h.count_is,
  )

  pub passed_some : 1 ≤ count
  passed_some = omega (arith, h.count_is)

  -- the next block is one alone
  pub passed_one : (b : Block) (w : ReaderView) → next_of r n ≡ Ok (b, w) → w ≡ behind r h.block rest
  passed_one b w e =
      let same : Ok (b, w) ≡ Ok (h.block, behind r h.block rest) = sym e ∙ h.next in
      let pair : (b, w) ≡ (h.block, behind r h.block rest) = cc in
      ap (λ (p : Block × ReaderView). p.1) pair

-- the reader behind a block, by its fields
pub after_is : (v : Version) (lines : List Line) (line number hour round : ℕ) (given : List GivenBlock) (b : Block) (rest : List Line)
    (n next : ℕ) (now : List GivenBlock) (acts : List Act)
    → b.size ≡ pos n → next ≡ line + lines_count b → acts ≡ b.acts
    → now ≡ given ++ record { acts = acts; rule_line = line + 1 + 2 * n } ∷ []
    → behind (record { version = v; lines = lines; line = line; number = number; hour = hour; round = round; given = given }) b rest
    ≡ record { version = v; lines = rest; line = next; number = number; hour = hour; round = round + 1; given = now }
after_is v lines line number hour round given b rest n next now acts s l a g =
    let made : ℕ → List GivenBlock → ReaderView = λ k gs. record
    { version = v; lines = rest; line = k; number = number; hour = hour; round = round + 1; given = gs } in
    ap (λ (k : ℕ). made (line + lines_count b) (given ++ record { acts = b.acts; rule_line = line + 1 + 2 * k } ∷ [])) (ap count_of s)
    ∙ ap (λ (ys : List Act). made (line + lines_count b) (given ++ record { acts = ys; rule_line = line + 1 + 2 * n } ∷ [])) (sym a)
    ∙ ap (made (line + lines_count b)) (sym g)
    ∙ ap (λ (k : ℕ). made k now) (sym l)
