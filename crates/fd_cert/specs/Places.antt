-- Numbers at the places of a pattern that grow by what stands there: the radii of the slopes of part loads.
use Rattle.std.specs.Prelude.{◌≡◌, ℕ, ◌+◌, ◌*◌, ◌^◌, ◌<◌, ◌≤◌, ℤ, pos, List, length}
use Rattle.fd_enclosure.specs.fd_exact.Sums.{list_n}
use Rattle.fd_enclosure.specs.fd_system.declared.loads.LoadAt.{LoadAt}
use Rattle.fd_enclosure.specs.fd_equations.Amounts.{cell_at}
use Rattle.fd_enclosure.specs.fd_pattern.Patterns.{key}
use Rattle.fd_enclosure.specs.fd_equations.declared.cells.Cell.{Cell}
use Rattle.fd_enclosure.specs.fd_slope.Changes.{radii_in}
use Rattle.fd_enclosure.specs.Radii.{load_radius}
use Rattle.fd_enclosure.specs.Sound.{number_at}

-- what part loads add at a place of row and column, with half-widths by place around the point x
abbrev pub loads_radius : (ℕ → ℕ) → List ℤ → List LoadAt → ℕ × ℕ → ℕ
loads_radius box x us p = list_n (λ u. load_radius u (radii_in box x u) p.0 p.1) us

-- the number at each place has what is said of the place more
pub record AreRaised (ps : List (ℕ × ℕ)) (old new : List ℕ) (add : ℕ × ℕ → ℕ) : Type 0 where
  pub long : length new ≡ length old
  pub each : (k : ℕ) → k < length ps → number_at new k ≡ number_at old k + add (key ps k)

-- no number is past this
abbrev pub HaveRoom : List (ℕ × ℕ) → List ℕ → ℕ → Type 0
HaveRoom ps xs most = (k : ℕ) → k < length ps → number_at xs k ≤ most

-- none grows by more than so many times 2^100
abbrev pub RaisesRoom : List (ℕ × ℕ) → List ℕ → List ℕ → ℕ → Type 0
RaisesRoom ps old new times = (k : ℕ) → k < length ps → number_at new k ≤ number_at old k + times * 2 ^ 100

-- a half-width for each of n unknowns, at most 2^40
pub record HaveWidths (n : ℕ) (boxes : List ℕ) : Type 0 where
  pub long : length boxes ≡ n
  pub small : (i : ℕ) → i < n → number_at boxes i ≤ 2 ^ 40

-- ---- cells

-- a cell of the Jacobian with a radius in place of its entry: four units more for each of its summands
abbrev pub radius_cell : Cell → ℕ → Cell
radius_cell c r = record { col = c.col; count = c.count; slopes = c.slopes; units = pos (r + 4 * (c.count + c.slopes)) }

pub record AreRadiusCells (cells : List Cell) (radii : List ℕ) (made : List Cell) : Type 0 where
  pub long : length made ≡ length cells
  pub each : (k : ℕ) → k < length cells → cell_at made k ≡ radius_cell (cell_at cells k) (number_at radii k)
