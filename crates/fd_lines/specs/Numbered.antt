-- Lines that are numbered from 0 on, and how they are read one after another; of lines of any type.
use Rattle.std.specs.Prelude.{◌≡◌, ◌+◌, ◌-◌, ◌≤◌, ℕ, zero, suc, ℤ, pos, negsuc, ◌==◌, Bool, false, List, [], ◌∷◌, ◌++◌, map, length, Option, Some, None, Result, Ok, Err}
use Rattle.std.specs.List.{enumerate_from}

-- a number of things; none for a negative one
abbrev pub count_of : ℤ → ℕ
count_of (pos n) = n
count_of (negsuc n) = 0

abbrev pub is_place : ℕ → ℤ → Bool
is_place i (pos n) = n == i
is_place i (negsuc n) = false

abbrev pub is_zero : ℤ → Bool
is_zero z = is_place 0 z

-- a line for each of these, which are numbered from i on
abbrev pub numbered_lines : {L X : Type 0} → (ℕ → X → L) → ℕ → List X → List L
numbered_lines line i xs = map (λ p. line p.0 p.1) (enumerate_from i xs)

-- ---- how lines are read: what is read, with the lines behind it, or, as a fault, the lines from the first that isn't in
-- the grammar on

infixl 10 ◌>>=◌
abbrev pub ◌>>=◌ : {L A B : Type 0} → Result A (List L) → (A → Result B (List L)) → Result B (List L)
(Ok x) >>= f = f x
(Err rest) >>= f = Err rest

-- what is read of a line, or these lines are refused
abbrev pub or_refused : {L X : Type 0} → List L → Option X → Result X (List L)
or_refused lines None = Err lines
or_refused lines (Some x) = Ok x

-- the next n lines, which are numbered from i on
abbrev pub numbered_at : {L X : Type 0} → (ℕ → L → Option X) → ℕ → ℕ → List L → Result (List X × List L) (List L)
numbered_at read zero i lines = Ok ([], lines)
numbered_at read (suc n) i [] = Err []
numbered_at read (suc n) i (line ∷ lines) =
    or_refused (line ∷ lines) (read i line) >>= λ x. numbered_at read n (suc i) lines >>= λ xs. Ok (x ∷ xs.0, xs.1)

-- the first of these lines, if there is one, and then others
abbrev pub with_first : {L : Type 0} → List L → List L → List L
with_first [] more = []
with_first (line ∷ rest) more = line ∷ more

-- ---- how far lines are read

-- these, and then what is read
abbrev pub behind_front : {L X : Type 0} → List X → Result (List X × List L) (List L) → Result (List X × List L) (List L)
behind_front front read = read >>= λ xs. Ok (front ++ xs.0, xs.1)

-- the grammar refuses a line behind so many of these
pub record RefusedBehind {L Y : Type 0} (behind : ℕ) (lines : List L) (read : Result Y (List L)) : Type 0 where
  pub rest : List L
  pub refused : read ≡ Err rest
  pub count : length lines ≡ behind + length rest

-- what was read so far, and what the lines that are left give, is what all lines give
pub record IsSoFar {L X : Type 0} (read : ℕ → L → Option X) (n : ℕ) (lines : List L) (i : ℕ) (front : List X)
    (rest : List L) : Type 0 where
  pub within : i ≤ n
  pub same : numbered_at read n 0 lines ≡ behind_front front (numbered_at read (n - i) i rest)
  pub count : length lines ≡ i + length rest
