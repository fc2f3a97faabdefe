-- A block of a certificate of version 3, what it is written as, and how it is read from lines.
use Rattle.std.specs.Prelude.{◌≡◌, ℕ, zero, suc, ℤ, pos, negsuc, ◌==◌, ◌&&◌, not, nat_le, nat_lt, Bool, true, List, [], ◌∷◌, ◌++◌, map, flat_map, length, codes, Option, Some, None, option_map, option_and_then, Result, Ok, Err, if◌then◌else◌}
use Rattle.std.specs.List.{AllByRecursion}
use Rattle.fd_derived.specs.fd_factors.Factors.{DerivedRow}
use Rattle.fd_lines.specs.Cuts.{four_of, one_of, three_of}
pub use Rattle.fd_lines.specs.Numbered.{count_of, is_place, is_zero, numbered_at, numbered_lines, or_refused, ◌>>=◌}
use Rattle.fd_lines.specs.WordLines.{Line, bytes_of, line, numbers_by}

-- what is claimed of an unknown and its row, in whole microvolts or microamperes
pub record Part : Type 0 where
  pub centre : ℤ
  pub radius : ℤ
  pub mismatch : ℤ

-- a derived row, whose numbers are in units of 2^-40, and its height, in units of 2^-60 micro-units
pub record Row : Type 0 where
  pub height : ℤ
  pub derived : DerivedRow

-- the row that bounds an unknown, and the bound, in units of 2^-20 micro-units
pub record Bound : Type 0 where
  pub row : ℤ
  pub bound : ℤ

pub record Act : Type 0 where
  pub time : ℤ
  pub control : ℤ
  pub steps : ℤ

-- a block: the numbers of its solution line, the divisor of its box, a part and a bound for each unknown, its derived
-- rows, and its acts
pub record Block : Type 0 where
  pub number : ℤ
  pub hour : ℤ
  pub round : ℤ
  pub size : ℤ
  pub divisor : ℤ
  pub parts : List Part
  pub rows : List Row
  pub bounds : List Bound
  pub acts : List Act

-- ---- what a block is written as

abbrev pub part_line : ℕ → Part → Line
part_line i p = line (codes "x") (pos i ∷ p.centre ∷ p.radius ∷ p.mismatch ∷ [])

abbrev pub pair_fields : ℕ × ℤ → List ℤ
pair_fields p = pos p.0 ∷ p.1 ∷ []

-- pairs behind their number
abbrev pub list_fields : List (ℕ × ℤ) → List ℤ
list_fields pairs = pos (length pairs) ∷ flat_map pair_fields pairs

-- multiples of equations, multiples of other rows, and what they leave, the pivot first
abbrev pub derived_fields : DerivedRow → List ℤ
derived_fields r = list_fields r.equations ++ (list_fields r.others ++ list_fields r.left)

abbrev pub row_line : ℕ → Row → Line
row_line i r = line (codes "row") (pos i ∷ r.height ∷ derived_fields r.derived)

abbrev pub bound_line : ℕ → Bound → Line
bound_line i b = line (codes "bound") (pos i ∷ b.row ∷ b.bound ∷ [])

abbrev pub act_line : Act → Line
act_line a = line (codes "act") (a.time ∷ a.control ∷ a.steps ∷ [])

-- the lines behind the rows
abbrev pub lines_behind_rows : Block → List Line
lines_behind_rows b = numbered_lines bound_line 0 b.bounds ++ map act_line b.acts

abbrev pub block_lines : Block → List Line
block_lines b = line (codes "solution") (b.number ∷ b.hour ∷ b.round ∷ b.size ∷ [])
    ∷ line (codes "box") (b.divisor ∷ [])
    ∷ (numbered_lines part_line 0 b.parts ++ (numbered_lines row_line 0 b.rows ++ lines_behind_rows b))

abbrev pub block_bytes : Block → List ℕ
block_bytes b = bytes_of (block_lines b)

-- ---- which pairs a row has

abbrev pub is_anywhere : ℕ → Bool
is_anywhere p = true

abbrev pub is_below : ℕ → ℕ → Bool
is_below n p = nat_lt p n

-- below n, and not the pivot's place
abbrev pub is_beside : ℕ → ℕ → ℕ → Bool
is_beside n pivot p = nat_lt p n && not (p == pivot)

-- a place from j on that fits, and a number that isn't 0
abbrev pub is_next : (ℕ → Bool) → ℕ → ℕ → ℤ → Bool
is_next fits j p z = nat_le j p && (fits p && not (is_zero z))

-- places rise from j on and fit, and no number is 0
abbrev pub AreRising : (ℕ → Bool) → ℕ → List (ℕ × ℤ) → Type 0
AreRising fits j [] = Unit {0}
AreRising fits j (p ∷ pairs) = (is_next fits j p.0 p.1 ≡ true) × AreRising fits (suc p.0) pairs

-- a pivot, and then entries whose places rise, all below n
abbrev pub IsLeft : ℕ → List (ℕ × ℤ) → Type 0
IsLeft n [] = ⊥
IsLeft n (pivot ∷ pairs) = (is_next (is_below n) 0 pivot.0 pivot.1 ≡ true) × AreRising (is_beside n pivot.0) 0 pairs

-- a row of equations in n unknowns
pub record IsRow (n : ℕ) (r : Row) : Type 0 where
  pub equations : AreRising (is_below n) 0 r.derived.equations
  pub others : AreRising is_anywhere 0 r.derived.others
  pub left : IsLeft n r.derived.left

-- the size is that of its lists, and its rows are in the grammar
pub record IsSized (b : Block) : Type 0 where
  pub parts : length b.parts ≡ count_of b.size
  pub rows : AllByRecursion (IsRow (count_of b.size)) b.rows
  pub bounds : length b.bounds ≡ count_of b.size

-- ---- how pairs are read of numbers, with the numbers behind them

abbrev pub with_pair : ℕ × ℤ → List (ℕ × ℤ) × List ℤ → List (ℕ × ℤ) × List ℤ
with_pair p read = (p ∷ read.0, read.1)

-- so many pairs whose places rise from j on and fit, and no number of which is 0
abbrev pub pairs_at : (ℕ → Bool) → ℕ → ℕ → List ℤ → Option (List (ℕ × ℤ) × List ℤ)
pairs_at fits zero j numbers = Some ([], numbers)
pairs_at fits (suc k) j [] = None
pairs_at fits (suc k) j (p ∷ []) = None
pairs_at fits (suc k) j (negsuc p ∷ z ∷ numbers) = None
pairs_at fits (suc k) j (pos p ∷ z ∷ numbers) =
    if is_next fits j p z then option_map (with_pair (p, z)) (pairs_at fits k (suc p) numbers) else None

-- pairs behind their number
abbrev pub list_at : (ℕ → Bool) → List ℤ → Option (List (ℕ × ℤ) × List ℤ)
list_at fits [] = None
list_at fits (negsuc k ∷ numbers) = None
list_at fits (pos k ∷ numbers) = pairs_at fits k 0 numbers

-- a pivot and so many pairs below n beside it
abbrev pub pivot_at : ℕ → ℕ → List ℤ → Option (List (ℕ × ℤ) × List ℤ)
pivot_at n k [] = None
pivot_at n k (p ∷ []) = None
pivot_at n k (negsuc p ∷ z ∷ numbers) = None
pivot_at n k (pos p ∷ z ∷ numbers) =
    if is_next (is_below n) 0 p z then option_map (with_pair (p, z)) (pairs_at (is_beside n p) k 0 numbers) else None

-- at least one pair behind their number, the pivot first
abbrev pub left_at : ℕ → List ℤ → Option (List (ℕ × ℤ) × List ℤ)
left_at n [] = None
left_at n (negsuc k ∷ numbers) = None
left_at n (pos zero ∷ numbers) = None
left_at n (pos (suc k) ∷ numbers) = pivot_at n k numbers

-- a row whose lists these are, where no number is behind the last
abbrev pub row_with : ℤ → List (ℕ × ℤ) → List (ℕ × ℤ) → List (ℕ × ℤ) × List ℤ → Option Row
row_with height equations others (left, []) =
    Some (record { height = height; derived = record { equations = equations; others = others; left = left } })
row_with height equations others (left, z ∷ numbers) = None

-- the row of these numbers, of equations in n unknowns
abbrev pub row_of : ℕ → List ℤ → Option Row
row_of n [] = None
row_of n (height ∷ numbers) =
    option_and_then (λ a.
    option_and_then (λ b.
    option_and_then (row_with height a.0 b.0) (left_at n b.1))
    (list_at is_anywhere a.1))
    (list_at (is_below n) numbers)

-- ---- what is read of a line

abbrev pub if_some : {A B : Type 0} → Option A → B → (A → B) → B
if_some None b f = b
if_some (Some a) b f = f a

abbrev pub head_in : Line → Option (ℤ × ℤ × ℤ × ℤ)
head_in l = four_of (numbers_by (codes "solution") l)

abbrev pub box_in : Line → Option ℤ
box_in l = one_of (numbers_by (codes "box") l)

abbrev pub placed_part : ℕ → ℤ × ℤ × ℤ × ℤ → Option Part
placed_part i q = if is_place i q.0 then Some (record { centre = q.1; radius = q.2; mismatch = q.3 }) else None

abbrev pub part_at : ℕ → Line → Option Part
part_at i l = option_and_then (placed_part i) (four_of (numbers_by (codes "x") l))

-- the numbers of a row line
abbrev pub row_in : Line → Option (List ℤ)
row_in l = numbers_by (codes "row") l

abbrev pub placed_row : ℕ → ℕ → List ℤ → Option Row
placed_row n i [] = None
placed_row n i (place ∷ numbers) = if is_place i place then row_of n numbers else None

abbrev pub placed_bound : ℕ → ℤ × ℤ × ℤ → Option Bound
placed_bound i q = if is_place i q.0 then Some (record { row = q.1; bound = q.2 }) else None

abbrev pub bound_at : ℕ → Line → Option Bound
bound_at i l = option_and_then (placed_bound i) (three_of (numbers_by (codes "bound") l))

abbrev pub act_of : ℤ × ℤ × ℤ → Act
act_of q = record { time = q.0; control = q.1; steps = q.2 }

abbrev pub act_in : Line → Option Act
act_in l = option_map act_of (three_of (numbers_by (codes "act") l))

-- ---- how a block is read: with the lines behind it, or, as a fault, the lines from the first that isn't in the grammar
-- on

-- the first line
abbrev pub first_at : {X : Type 0} → (Line → Option X) → List Line → Result (X × List Line) (List Line)
first_at read [] = Err []
first_at read (l ∷ lines) = or_refused (l ∷ lines) (read l) >>= λ x. Ok (x, lines)

-- rows up to the first line that is no row line, numbered from i on
abbrev pub rows_at : ℕ → ℕ → List Line → Result (List Row × List Line) (List Line)
rows_at n i [] = Ok ([], [])
rows_at n i (l ∷ lines) = if_some (row_in l) (Ok ([], l ∷ lines)) (λ numbers.
    or_refused (l ∷ lines) (placed_row n i numbers) >>= λ r. rows_at n (suc i) lines >>= λ rs. Ok (r ∷ rs.0, rs.1))

-- the row of the first line and the others; none, where it is no row line
abbrev pub row_step : ℕ → ℕ → List Line → Result (Option (Row × List Line)) (List Line)
row_step n i [] = Ok None
row_step n i (l ∷ lines) =
    if_some (row_in l) (Ok None) (λ numbers. or_refused (l ∷ lines) (placed_row n i numbers) >>= λ r. Ok (Some (r, lines)))

-- acts up to the first line that isn't one
abbrev pub acts_at : List Line → List Act × List Line
acts_at [] = ([], [])
acts_at (l ∷ lines) = if_some (act_in l) ([], l ∷ lines) (λ a. (a ∷ (acts_at lines).0, (acts_at lines).1))

-- the block of these parts
abbrev pub block_with : ℤ × ℤ × ℤ × ℤ → ℤ → List Part → List Row → List Bound → List Act → Block
block_with head divisor parts rows bounds acts = record {
  number = head.0;
  hour = head.1;
  round = head.2;
  size = head.3;
  divisor = divisor;
  parts = parts;
  rows = rows;
  bounds = bounds;
  acts = acts;
}

unfoldable pub block_at : List Line → Result (Block × List Line) (List Line)
block_at lines =
    first_at head_in lines >>= λ head.
    first_at box_in head.1 >>= λ box.
    numbered_at part_at (count_of head.0.3) 0 box.1 >>= λ parts.
    rows_at (count_of head.0.3) 0 parts.1 >>= λ rows.
    numbered_at bound_at (count_of head.0.3) 0 rows.1 >>= λ bounds.
    Ok (block_with head.0 box.0 parts.0 rows.0 bounds.0 (acts_at bounds.1).0, (acts_at bounds.1).1)
