-- Rows by their entries that aren't 0, in rising places.
use Rattle.std.specs.Prelude.{◌≡◌, ◌≢◌, ℕ, ℤ, pos, nat_abs, ◌<◌, ◌≤◌, ◌^◌, ◌==◌, if◌then◌else◌, List, ◌∷◌, length, get_or}
use Rattle.fd_derived.specs.fd_factors.Factors.{sum_at}
use Rattle.fd_derived.specs.Rows.{entries_of}
use Rattle.fd_derived.specs.declared.entries.Entry.{Entry}

-- the number of a row at a place: the sum of its entries there
abbrev pub number : List Entry → ℕ → ℤ
number row c = sum_at (entries_of row) c

-- the entry at k in the order
abbrev pub entry_at : List Entry → ℕ → Entry
entry_at row k = get_or row k (record { place = 0; units = pos 0 })

-- each place once, in rising order
abbrev pub IsRising : List Entry → Type 0
IsRising row = (i j : ℕ) → i < j → j < length row → (entry_at row i).place < (entry_at row j).place

-- entries in rising places below n, none that is 0, and none past 2^62 in size
pub record IsRow (n : ℕ) (row : List Entry) : Type 0 where
  pub rising : IsRising row
  pub inside : (k : ℕ) → k < length row → (entry_at row k).place < n
  pub other : (k : ℕ) → k < length row → (entry_at row k).units ≢ pos 0
  pub small : (k : ℕ) → k < length row → nat_abs (entry_at row k).units ≤ 2 ^ 62

-- such a row has these numbers
pub record IsRowOf (n : ℕ) (f : ℕ → ℤ) (row : List Entry) : Type 0 where
  pub is_row : IsRow n row
  pub numbers : (c : ℕ) → number row c ≡ f c

-- the number at one place apart, and 0 there
abbrev pub apart_from : ℕ → (ℕ → ℤ) → ℕ → ℤ
apart_from q f c = (if c == q then pos 0 else f c)

-- the entry at q first, then the others in rising places
pub record IsPivoted (n : ℕ) (f : ℕ → ℤ) (q : ℕ) (row : List Entry) : Type 0 where
  pub pivot : Entry
  pub rest : List Entry
  pub row_is : row ≡ pivot ∷ rest
  pub place_is : pivot.place ≡ q
  pub pivot_is : pivot.units ≡ f q
  pub rest_is : IsRowOf n (apart_from q f) rest

-- ---- steps

-- a row has this number at one place, and the others stay
abbrev pub WithNumber : List Entry → List Entry → ℕ → ℤ → Type 0
WithNumber old new place units = (c : ℕ) → number new c ≡ (if place == c then units else number old c)

-- the entry of a place is held at k
pub record IsAt (row : List Entry) (place k : ℕ) : Type 0 where
  pub in_range : k < length row
  pub place_is : (entry_at row k).place ≡ place

-- no entry has the place, which would stand at k
pub record IsGap (row : List Entry) (place k : ℕ) : Type 0 where
  pub in_range : k ≤ length row
  pub before : (i : ℕ) → i < k → (entry_at row i).place < place
  pub behind : (i : ℕ) → k ≤ i → i < length row → place < (entry_at row i).place
