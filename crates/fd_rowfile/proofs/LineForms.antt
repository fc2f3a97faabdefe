-- Each line of a block has one form.
use Rattle.std.proofs.Common.{◌≡◌, ℕ, suc, true, ℤ, pos, negsuc, List, [], ◌∷◌, ◌++◌, Option, Some, None, Result, Ok, refl, ap, subst, ◌∙◌, add-one}
use Rattle.std.specs.Prelude.{codes, map}
use Rattle.std.specs.List.{AllByRecursion}
use Rattle.std.specs.Option.{option_and_then}
use Rattle.std.proofs.lemmas.Bool.{cond-true, eq-eqb, eqb-true}
use Rattle.fd_lines.specs.Cuts.{four_of, one_of, three_of}
use Rattle.fd_lines.specs.Numbered.{is_place, numbered_lines, or_refused, ◌>>=◌}
use Rattle.fd_lines.specs.Numbers.{text_eq}
use Rattle.fd_lines.specs.WordLines.{Line, line, numbers_by, other}
use Rattle.fd_lines.proofs.CallerLemmas.{IsFound, ReadsAgain, and_then_some, bind_ok, let_through, map_some, read_ok, same_from}
use Rattle.fd_rowfile.specs.Blocks.{Act, IsRow, Row, act_in, act_line, act_of, acts_at, bound_at, bound_line, box_in, first_at, head_in, if_some, part_at, part_line, placed_bound, placed_part, placed_row, row_in, row_line, row_of, rows_at}
use Rattle.fd_rowfile.specs.Laws.{IsBehindActs, IsBehindRows}
use Rattle.fd_rowfile.proofs.RowForms.{row_again, row_found, some_is, then_found}

place_is : (i : ℕ) (z : ℤ) → is_place i z ≡ true → z ≡ pos i
place_is i (pos n) h = ap pos (eqb-true n i h)
place_is i (negsuc n) h = absurd cc

is_place_self : (i : ℕ) → is_place i (pos i) ≡ true
is_place_self i = eq-eqb i i refl

-- ---- the numbers behind a word

pub numbers_found : (word : List ℕ) (l : Line) (numbers : List ℤ) → numbers_by word l ≡ Some numbers → l ≡ line word numbers
numbers_found word other numbers e = absurd cc
numbers_found word (line found zs) numbers e =
    let g = let_through (text_eq found word) zs numbers e in
    ap (λ (w : List ℕ). line w zs) (same_from found word g.0) ∙ ap (line word) g.1

one_found : (o : Option (List ℤ)) (a : ℤ) → one_of o ≡ Some a → o ≡ Some (a ∷ [])
one_found None a e = absurd cc
one_found (Some []) a e = absurd cc
one_found (Some (b ∷ [])) a e = ap (λ (z : ℤ). Some (z ∷ [])) (some_is e)
one_found (Some (b ∷ c ∷ zs)) a e = absurd cc

three_found : (o : Option (List ℤ)) (q : ℤ × ℤ × ℤ) → three_of o ≡ Some q → o ≡ Some (q.0 ∷ q.1 ∷ q.2 ∷ [])
three_found None q e = absurd cc
three_found (Some []) q e = absurd cc
three_found (Some (a ∷ [])) q e = absurd cc
three_found (Some (a ∷ b ∷ [])) q e = absurd cc
three_found (Some (a ∷ b ∷ c ∷ [])) q e = ap (λ (p : ℤ × ℤ × ℤ). Some (p.0 ∷ p.1 ∷ p.2 ∷ [])) (some_is e)
three_found (Some (a ∷ b ∷ c ∷ d ∷ zs)) q e = absurd cc

four_found : (o : Option (List ℤ)) (q : ℤ × ℤ × ℤ × ℤ) → four_of o ≡ Some q → o ≡ Some (q.0 ∷ q.1 ∷ q.2 ∷ q.3 ∷ [])
four_found None q e = absurd cc
four_found (Some []) q e = absurd cc
four_found (Some (a ∷ [])) q e = absurd cc
four_found (Some (a ∷ b ∷ [])) q e = absurd cc
four_found (Some (a ∷ b ∷ c ∷ [])) q e = absurd cc
four_found (Some (a ∷ b ∷ c ∷ d ∷ [])) q e = ap (λ (p : ℤ × ℤ × ℤ × ℤ). Some (p.0 ∷ p.1 ∷ p.2 ∷ p.3 ∷ [])) (some_is e)
four_found (Some (a ∷ b ∷ c ∷ d ∷ f ∷ zs)) q e = absurd cc

-- ---- the first two lines

pub head_found : (l : Line) (q : ℤ × ℤ × ℤ × ℤ) → head_in l ≡ Some q → l ≡ line (codes "solution") (q.0 ∷ q.1 ∷ q.2 ∷ q.3 ∷ [])
head_found l q e = numbers_found (codes "solution") l (q.0 ∷ q.1 ∷ q.2 ∷ q.3 ∷ []) (four_found (numbers_by (codes "solution") l) q e)

pub box_found : (l : Line) (d : ℤ) → box_in l ≡ Some d → l ≡ line (codes "box") (d ∷ [])
box_found l d e = numbers_found (codes "box") l (d ∷ []) (one_found (numbers_by (codes "box") l) d e)

pub first_found : {X : Type 0} (read : Line → Option X) (lines : List Line) (y : X × List Line) → first_at read lines ≡ Ok y
    → (l : Line) × (lines ≡ l ∷ y.1) × (read l ≡ Some y.0)
first_found read [] y e = absurd cc
first_found {X} read (l ∷ lines) y e =
    let a = bind_ok (or_refused (l ∷ lines) (read l)) (λ x. Ok (x, lines)) y e in
    let same : ◌≡◌ {A = X × List Line} (a.0, lines) y = (let f = a.2 in cc) in
    (l, ap (λ (p : X × List Line). l ∷ p.1) same, read_ok (l ∷ lines) (read l) a.0 a.1 ∙ ap (λ (p : X × List Line). Some p.0) same)

-- ---- unknowns and bounds

abbrev pub Anything : {X : Type 0} → X → Type 0
Anything x = Unit {0}

pub anything : {X : Type 0} (xs : List X) → AllByRecursion Anything xs
anything [] = tt
anything (x ∷ xs) = (tt, anything xs)

pub part_again : ReadsAgain part_at part_line Anything
part_again i p h = cond-true (is_place i (pos i)) _ _ (is_place_self i)

pub part_found : IsFound part_at part_line Anything
part_found i l x e =
    let a = and_then_some (placed_part i) (four_of (numbers_by (codes "x") l)) x e in
    let q = a.0 in
    let g = let_through (is_place i q.0) (record { centre = q.1; radius = q.2; mismatch = q.3 }) x a.2 in (
      numbers_found (codes "x") l (q.0 ∷ q.1 ∷ q.2 ∷ q.3 ∷ []) (four_found (numbers_by (codes "x") l) q a.1)
          ∙ ap (λ (z : ℤ). line (codes "x") (z ∷ q.1 ∷ q.2 ∷ q.3 ∷ [])) (place_is i q.0 g.0) ∙ ap (part_line i) g.1,
      tt,
    )

pub bound_again : ReadsAgain bound_at bound_line Anything
bound_again i b h = cond-true (is_place i (pos i)) _ _ (is_place_self i)

pub bound_found : IsFound bound_at bound_line Anything
bound_found i l x e =
    let a = and_then_some (placed_bound i) (three_of (numbers_by (codes "bound") l)) x e in
    let q = a.0 in
    let g = let_through (is_place i q.0) (record { row = q.1; bound = q.2 }) x a.2 in (
      numbers_found (codes "bound") l (q.0 ∷ q.1 ∷ q.2 ∷ []) (three_found (numbers_by (codes "bound") l) q a.1)
          ∙ ap (λ (z : ℤ). line (codes "bound") (z ∷ q.1 ∷ q.2 ∷ [])) (place_is i q.0 g.0) ∙ ap (bound_line i) g.1,
      tt,
    )

-- ---- acts

pub acts_again : (acts : List Act) (rest : List Line)
    → acts_at (map act_line acts ++ rest) ≡ (acts ++ (acts_at rest).0, (acts_at rest).1)
acts_again [] rest = refl
acts_again (a ∷ acts) rest = ap (λ (p : List Act × List Line). (a ∷ p.0, p.1)) (acts_again acts rest)

pub no_acts : (rest : List Line) → IsBehindActs rest → acts_at rest ≡ ([], rest)
no_acts [] h = refl
no_acts (l ∷ lines) h = ap (λ (o : Option Act). if_some o ([], l ∷ lines) (λ a. (a ∷ (acts_at lines).0, (acts_at lines).1))) h

act_found : (l : Line) (a : Act) → act_in l ≡ Some a → l ≡ act_line a
act_found l a e =
    let b = map_some act_of (three_of (numbers_by (codes "act") l)) a e in
    numbers_found (codes "act") l (b.0.0 ∷ b.0.1 ∷ b.0.2 ∷ []) (three_found (numbers_by (codes "act") l) b.0 b.1) ∙ ap act_line b.2

pub acts_found : (lines : List Line) → (lines ≡ map act_line (acts_at lines).0 ++ (acts_at lines).1) × IsBehindActs (acts_at lines).1
acts_found [] = (refl, tt)
acts_found (l ∷ lines) = on (acts_found lines) (act_in l) refl
  where
    by : Option Act → List Act × List Line
    by o = if_some o ([], l ∷ lines) (λ a. (a ∷ (acts_at lines).0, (acts_at lines).1))

    on : (lines ≡ map act_line (acts_at lines).0 ++ (acts_at lines).1) × IsBehindActs (acts_at lines).1 → (o : Option Act)
        → act_in l ≡ o → (l ∷ lines ≡ map act_line (by o).0 ++ (by o).1) × IsBehindActs (by o).1
    on rest None e = (refl, e)
    on rest (Some a) e =
        (ap (λ (m : Line). m ∷ lines) (act_found l a e) ∙ ap (λ (ls : List Line). act_line a ∷ ls) rest.0, rest.1)

-- ---- rows

module _ (n : ℕ) where
  pub row_line_again : ReadsAgain (λ i l. option_and_then (placed_row n i) (row_in l)) row_line (IsRow n)
  row_line_again i r h = cond-true (is_place i (pos i)) _ _ (is_place_self i) ∙ row_again n r.height r.derived h

  pub placed_found : (i : ℕ) (numbers : List ℤ) (r : Row) → placed_row n i numbers ≡ Some r
      → (line (codes "row") numbers ≡ row_line i r) × IsRow n r
  placed_found i [] r e = absurd cc
  placed_found i (place ∷ []) r e =
      let g = then_found (is_place i place) (row_of n []) r e in
      let no : ⊥ = (let f = g.1 in cc) in absurd no
  placed_found i (place ∷ height ∷ numbers) r e =
      let g = then_found (is_place i place) (row_of n (height ∷ numbers)) r e in
      let f = row_found n height numbers r g.1 in (
        ap (λ (z : ℤ). line (codes "row") (z ∷ height ∷ numbers)) (place_is i place g.0)
            ∙ ap (λ (zs : List ℤ). line (codes "row") (pos i ∷ zs)) f.0,
        f.1,
      )

  pub rows_again : (i : ℕ) (rs : List Row) (rest : List Line) → AllByRecursion (IsRow n) rs → IsBehindRows rest
      → rows_at n i (numbered_lines row_line i rs ++ rest) ≡ Ok (rs, rest)
  rows_again i [] [] h k = refl
  rows_again i [] (l ∷ lines) h k =
      ap (λ (o : Option (List ℤ)). if_some o (Ok ([], l ∷ lines)) (λ zs.
      or_refused (l ∷ lines) (placed_row n i zs) >>= λ r. rows_at n (suc i) lines >>= λ rs. Ok (r ∷ rs.0, rs.1))) k
  rows_again i (r ∷ rs) rest h k =
      let first = row_line_again i r h.0 in
      let others : rows_at n (suc i) (numbered_lines row_line (suc i) rs ++ rest) ≡ Ok (rs, rest) = rows_again (suc i) rs rest h.1 k in
      rw (first, add-one, others) refl

  pub record RowsFound (i : ℕ) (lines : List Line) (y : List Row × List Line) : Type 0 where
    pub lines_are : lines ≡ numbered_lines row_line i y.0 ++ y.1
    pub right : AllByRecursion (IsRow n) y.0
    pub ends : IsBehindRows y.1

  pub rows_found : (i : ℕ) (lines : List Line) (y : List Row × List Line) → rows_at n i lines ≡ Ok y → RowsFound i lines y
  rows_found i [] y e =
      let same : ([], []) ≡ y = cc in
      subst (RowsFound i []) same (record { lines_are = refl; right = tt; ends = tt })
  rows_found i (l ∷ lines) y e = on (rows_found (suc i) lines) (row_in l) refl e
    where
      then_rows : Row → Result (List Row × List Line) (List Line)
      then_rows r = rows_at n (suc i) lines >>= λ rs. Ok (r ∷ rs.0, rs.1)

      on : ((x : List Row × List Line) → rows_at n (suc i) lines ≡ Ok x → RowsFound (suc i) lines x)
          → (o : Option (List ℤ)) → row_in l ≡ o
          → if_some o (Ok ([], l ∷ lines)) (λ zs. or_refused (l ∷ lines) (placed_row n i zs) >>= then_rows) ≡ Ok y
          → RowsFound i (l ∷ lines) y
      on others None f g =
          let same : ([], l ∷ lines) ≡ y = cc in
          subst (RowsFound i (l ∷ lines)) same (record { lines_are = refl; right = tt; ends = f })
      on others (Some zs) f g =
          let a = bind_ok (or_refused (l ∷ lines) (placed_row n i zs)) then_rows y g in
          let b = bind_ok (rows_at n (suc i) lines) (λ rs. Ok (a.0 ∷ rs.0, rs.1)) y a.2 in
          let first = placed_found i zs a.0 (read_ok (l ∷ lines) (placed_row n i zs) a.0 a.1) in
          let rest = others b.0 b.1 in
          let same : (a.0 ∷ b.0.0, b.0.1) ≡ y = (let c = b.2 in cc) in
          subst (RowsFound i (l ∷ lines)) same (record {
            lines_are = ap (λ (m : Line). m ∷ lines) (numbers_found (codes "row") l zs f ∙ first.0)
                ∙ ap (λ (ls : List Line). row_line i a.0 ∷ ls) (rw add-one rest.lines_are);
            right = (first.1, rest.right);
            ends = rest.ends;
          })
