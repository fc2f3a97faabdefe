-- Lines that are read one after another.
use Rattle.std.proofs.Common.{◌≡◌, ℕ, suc, ◌+◌, ◌-◌, ◌<◌, ◌≤◌, ℤ, List, [], ◌∷◌, ◌++◌, length, Option, Some, None, Result, Ok, Err, refl, ap, sym, subst, ◌∙◌, arith}
use Rattle.std.specs.Prelude.{map}
use Rattle.std.proofs.lemmas.List.{append_assoc, append-nil, length-append, map-append}
use Rattle.fd_lines.specs.Numbered.{behind_front, numbered_at, or_refused, ◌>>=◌}
use Rattle.fd_lines.specs.WordLines.{Line}
use Rattle.fd_rowfile.specs.Blocks.{Act, Row, act_in, acts_at, first_at, if_some, placed_row, row_in, row_step, rows_at}
use Rattle.fd_rowfile.specs.Held.{AreRows, IsRowStep, clipped_row, held_row}
use Rattle.fd_rowfile.specs.declared.rows.HeldRow.{HeldRow}

nothing : {X : Type 0} (r : Result (List X × List Line) (List Line)) → r ≡ behind_front [] r
nothing (Ok x) = refl
nothing (Err rest) = refl

joined : {X : Type 0} (front : List X) (x : X) (r : Result (List X × List Line) (List Line))
    → behind_front front (r >>= λ xs. Ok (x ∷ xs.0, xs.1)) ≡ behind_front (front ++ x ∷ []) r
joined {X} front x (Ok xs) = ap (λ (ys : List X). Ok (ys, xs.1)) (sym (append_assoc front (x ∷ []) xs.0))
joined front x (Err rest) = refl

-- ---- so many numbered lines

module _ {X : Type 0} (read : ℕ → Line → Option X) where
  -- one line, and then the others
  abbrev numbered_then : ℕ → ℕ → Result (X × List Line) (List Line) → Result (List X × List Line) (List Line)
  numbered_then n i first = first >>= λ x. numbered_at read n (suc i) x.1 >>= λ xs. Ok (x.0 ∷ xs.0, xs.1)

  numbered_step : (n i : ℕ) (lines : List Line) → numbered_at read (suc n) i lines ≡ numbered_then n i (first_at (read i) lines)
  numbered_step n i [] = refl
  numbered_step n i (l ∷ lines) = on (read i l)
    where
      on : (o : Option X) → (or_refused (l ∷ lines) o >>= λ x. numbered_at read n (suc i) lines >>= λ xs. Ok (x ∷ xs.0, xs.1))
          ≡ numbered_then n i (or_refused (l ∷ lines) o >>= λ x. Ok (x, lines))
      on None = refl
      on (Some x) = refl

  -- what was read so far, and what the lines that are left give, is what all lines give
  abbrev pub IsReadTo : ℕ → List Line → ℕ → List X → List Line → Type 0
  IsReadTo n lines i front rest = numbered_at read n 0 lines ≡ behind_front front (numbered_at read (n - i) i rest)

  module _ (n : ℕ) (lines : List Line) where
    pub read_start : IsReadTo n lines 0 [] lines
    read_start = nothing (numbered_at read n 0 lines) ∙ ap (λ (k : ℕ). behind_front [] (numbered_at read k 0 lines)) (omega arith)

    module _ (i : ℕ) (front : List X) (rest : List Line) (so_far : IsReadTo n lines i front rest) where
      pub read_all : n ≤ i → numbered_at read n 0 lines ≡ Ok (front, rest)
      read_all l =
          let none : n - i ≡ 0 = omega (arith, l) in
          so_far ∙ ap (λ (k : ℕ). behind_front front (numbered_at read k i rest)) none
          ∙ ap (λ (xs : List X). Ok (xs, rest)) (append-nil front)

      module _ (l : i < n) where
        one_left : n - i ≡ suc (n - (i + 1))
        one_left = omega (arith, l)

        stepped : numbered_at read n 0 lines ≡ behind_front front (numbered_then (n - (i + 1)) i (first_at (read i) rest))
        stepped = so_far ∙ ap (λ (k : ℕ). behind_front front (numbered_at read k i rest)) one_left
            ∙ ap (behind_front front) (numbered_step (n - (i + 1)) i rest)

        pub read_more : (x : X) (more : List Line) → first_at (read i) rest ≡ Ok (x, more)
            → IsReadTo n lines (i + 1) (front ++ x ∷ []) more
        read_more x more e = stepped ∙ ap (λ r. behind_front front (numbered_then (n - (i + 1)) i r)) e
            ∙ joined front x (numbered_at read (n - (i + 1)) (suc i) more)
            ∙ ap (λ (k : ℕ). behind_front (front ++ x ∷ []) (numbered_at read (n - (i + 1)) k more)) (omega arith)

        pub read_stopped : (d : List Line) → first_at (read i) rest ≡ Err d → numbered_at read n 0 lines ≡ Err d
        read_stopped d e = stepped ∙ ap (λ r. behind_front front (numbered_then (n - (i + 1)) i r)) e

-- what is read is held behind the others
pub read_pushed : {X Y : Type 0} (read : ℕ → Line → Option X) (f : Y → X) (n : ℕ) (lines : List Line) (i : ℕ) (old new : List Y)
    (y : Y) (rest more : List Line) → IsReadTo read n lines i (map f old) rest → i < n
    → first_at (read i) rest ≡ Ok (f y, more) → new ≡ old ++ y ∷ [] → IsReadTo read n lines (i + 1) (map f new) more
read_pushed {X} read f n lines i old new y rest more so_far l e p =
    let front : map f new ≡ map f old ++ f y ∷ [] = ap (map f) p ∙ map-append f old (y ∷ []) in
    subst (λ (xs : List X). IsReadTo read n lines (i + 1) xs more) (sym front)
    (read_more read n lines i (map f old) rest so_far l (f y) more e)

-- ---- acts

abbrev acts_then : List Line → Result (Act × List Line) (List Line) → List Act × List Line
acts_then lines (Ok x) = (x.0 ∷ (acts_at x.1).0, (acts_at x.1).1)
acts_then lines (Err d) = ([], lines)

acts_step : (lines : List Line) → acts_at lines ≡ acts_then lines (first_at act_in lines)
acts_step [] = refl
acts_step (l ∷ lines) = on (act_in l)
  where
    on : (o : Option Act) → if_some o ([], l ∷ lines) (λ a. (a ∷ (acts_at lines).0, (acts_at lines).1))
        ≡ acts_then (l ∷ lines) (or_refused (l ∷ lines) o >>= λ x. Ok (x, lines))
    on None = refl
    on (Some a) = refl

-- these acts, and then those of the rest
abbrev pub AreActsTo : List Line → List Act → List Line → Type 0
AreActsTo lines front rest = acts_at lines ≡ (front ++ (acts_at rest).0, (acts_at rest).1)

pub acts_start : (lines : List Line) → AreActsTo lines [] lines
acts_start lines = refl

pub acts_more : (lines : List Line) (front : List Act) (rest more : List Line) (a : Act) → AreActsTo lines front rest
    → first_at act_in rest ≡ Ok (a, more) → AreActsTo lines (front ++ a ∷ []) more
acts_more lines front rest more a so_far e =
    so_far ∙ ap (λ (p : List Act × List Line). (front ++ p.0, p.1)) (acts_step rest ∙ ap (acts_then rest) e)
    ∙ ap (λ (xs : List Act). (xs, (acts_at more).1)) (sym (append_assoc front (a ∷ []) (acts_at more).0))

pub acts_all : (lines : List Line) (front : List Act) (rest d : List Line) → AreActsTo lines front rest
    → first_at act_in rest ≡ Err d → acts_at lines ≡ (front, rest)
acts_all lines front rest d so_far e =
    so_far ∙ ap (λ (p : List Act × List Line). (front ++ p.0, p.1)) (acts_step rest ∙ ap (acts_then rest) e)
    ∙ ap (λ (xs : List Act). (xs, rest)) (append-nil front)

pub first_fewer : {X : Type 0} (read : Line → Option X) (lines : List Line) (x : X) (more : List Line)
    → first_at read lines ≡ Ok (x, more) → length more < length lines
first_fewer read [] x more e = absurd cc
first_fewer {X} read (l ∷ lines) x more e = on (read l) e
  where
    on : (o : Option X) → ◌≡◌ {A = Result (X × List Line) (List Line)} (or_refused (l ∷ lines) o >>= λ y. Ok (y, lines)) (Ok (x, more))
        → length more < length (l ∷ lines)
    on None f = absurd cc
    on (Some y) f =
        let same : ◌≡◌ {A = X × List Line} (y, lines) (x, more) = cc in
        let long : length lines ≡ length more = ap (λ (p : X × List Line). length p.1) same in
        omega (arith, long)

-- ---- rows

module _ (n : ℕ) where
  abbrev rows_then : ℕ → List Line → Result (Option (Row × List Line)) (List Line) → Result (List Row × List Line) (List Line)
  rows_then i lines step =
      step >>= λ o. if_some o (Ok ([], lines)) (λ p. rows_at n (suc i) p.1 >>= λ rs. Ok (p.0 ∷ rs.0, rs.1))

  rows_split : (i : ℕ) (lines : List Line) → rows_at n i lines ≡ rows_then i lines (row_step n i lines)
  rows_split i [] = refl
  rows_split i (l ∷ lines) = on (row_in l)
    where
      by : (o : Option Row) → (or_refused (l ∷ lines) o >>= λ r. rows_at n (suc i) lines >>= λ rs. Ok (r ∷ rs.0, rs.1))
          ≡ rows_then i (l ∷ lines) (or_refused (l ∷ lines) o >>= λ r. Ok (Some (r, lines)))
      by None = refl
      by (Some r) = refl

      on : (o : Option (List ℤ)) → if_some o (Ok ([], l ∷ lines)) (λ zs.
          or_refused (l ∷ lines) (placed_row n i zs) >>= λ r. rows_at n (suc i) lines >>= λ rs. Ok (r ∷ rs.0, rs.1))
          ≡ rows_then i (l ∷ lines) (if_some o (Ok None) (λ zs. or_refused (l ∷ lines) (placed_row n i zs) >>= λ r. Ok (Some (r, lines))))
      on None = refl
      on (Some zs) = by (placed_row n i zs)

  -- so many rows were read and held, and what the lines that are left give is what all lines give behind these
  pub record AreRowsTo (lines : List Line) (i : ℕ) (held : List HeldRow) (rest : List Line) : Type 0 where
    pub front : List Row
    pub same : rows_at n 0 lines ≡ behind_front front (rows_at n i rest)
    pub held_are : map held_row held ≡ map clipped_row front
    pub many : length held ≡ i

  pub rows_start : (lines : List Line) (held : List HeldRow) → held ≡ [] → AreRowsTo lines 0 held lines
  rows_start lines held e = record {
    front = [];
    same = nothing (rows_at n 0 lines);
    held_are = ap (map held_row) e;
    many = ap length e;
  }

  module _ (lines : List Line) (i : ℕ) (held : List HeldRow) (rest : List Line) (t : AreRowsTo lines i held rest) where
    row_stepped : rows_at n 0 lines ≡ behind_front t.front (rows_then i rest (row_step n i rest))
    row_stepped = t.same ∙ ap (behind_front t.front) (rows_split i rest)

    pub rows_more : (h : HeldRow) (more : List Line) (new : List HeldRow) → IsRowStep (row_step n i rest) h more
        → new ≡ held ++ h ∷ [] → AreRowsTo lines (i + 1) new more
    rows_more h more new s e = record {
      front = t.front ++ s.row ∷ [];
      same = row_stepped ∙ ap (λ r. behind_front t.front (rows_then i rest r)) s.same ∙ joined t.front s.row (rows_at n (suc i) more)
          ∙ ap (λ (k : ℕ). behind_front (t.front ++ s.row ∷ []) (rows_at n k more)) (omega arith);
      held_are = ap (map held_row) e ∙ map-append held_row held (h ∷ [])
          ∙ ap (λ (rs : List Row). rs ++ held_row h ∷ []) t.held_are
          ∙ ap (λ (r : Row). map clipped_row t.front ++ r ∷ []) s.held_is
          ∙ sym (map-append clipped_row t.front (s.row ∷ []));
      many = omega (arith, ap length e, length-append held (h ∷ []), t.many);
    }

    pub rows_ended : row_step n i rest ≡ Ok None → AreRows (rows_at n 0 lines) held rest
    rows_ended e = record {
      rows = t.front;
      same = row_stepped ∙ ap (λ r. behind_front t.front (rows_then i rest r)) e
          ∙ ap (λ (rs : List Row). Ok (rs, rest)) (append-nil t.front);
      held_are = t.held_are;
    }

    pub rows_stopped : (d : List Line) → row_step n i rest ≡ Err d → rows_at n 0 lines ≡ Err d
    rows_stopped d e = row_stepped ∙ ap (λ r. behind_front t.front (rows_then i rest r)) e
