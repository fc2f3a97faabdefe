-- Square matrices by the entries that aren't 0.
use Rattle.std.specs.Prelude.{ℕ, ◌+◌, ◌*◌, ◌<◌, ◌≤◌, ℤ, pos, ◌≡◌, ◌≢◌, ◌==◌, if◌then◌else◌, List, [], ◌∷◌, get_or, length}
use Rattle.fd_exact.specs.States.{table}
use Rattle.fd_mat.specs.declared.sparse.Held.{Held}

-- the entry that is held at k in the order
abbrev pub held : List Held → ℕ → Held
held hs k = get_or hs k (record { place = 0; value = pos 0 })

-- the entry at a place of the rows that lie one after another, and 0 where none is held
abbrev pub value_at : List Held → ℕ → ℤ
value_at [] place = pos 0
value_at (h ∷ hs) place = (if h.place == place then h.value else value_at hs place)

-- the square of which these entries are held
abbrev pub rows_held : ℕ → List Held → List (List ℤ)
rows_held n hs = table n n (λ row col. value_at hs (row * n + col))

-- each place once, in rising order
abbrev pub IsRising : List Held → Type 0
IsRising hs = (i j : ℕ) → i < j → j < length hs → (held hs i).place < (held hs j).place

-- each entry once, in rising places, and none that is 0
pub record AreHeld (n : ℕ) (hs : List Held) : Type 0 where
  pub rising : IsRising hs
  pub inside : (k : ℕ) → k < length hs → (held hs k).place < n * n
  pub other : (k : ℕ) → k < length hs → (held hs k).value ≢ pos 0

-- what contracts see of a list of held entries: the square that they are
pub record IsHeld (rows : List (List ℤ)) (hs : List Held) : Type 0 where
  pub are : AreHeld (length rows) hs
  pub rows_are : rows ≡ rows_held (length rows) hs

-- ---- steps

-- the entry of a place is held at k
pub record IsAt (hs : List Held) (place k : ℕ) : Type 0 where
  pub in_range : k < length hs
  pub place_is : (held hs k).place ≡ place

-- the entry of a place isn't held, and would stand at k
pub record IsGap (hs : List Held) (place k : ℕ) : Type 0 where
  pub in_range : k ≤ length hs
  pub before : (i : ℕ) → i < k → (held hs i).place < place
  pub behind : (i : ℕ) → k ≤ i → i < length hs → place < (held hs i).place
