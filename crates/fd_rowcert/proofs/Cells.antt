-- The sizes of cells.
use Rattle.std.proofs.Common.{◌≡◌, ℕ, zero, suc, ◌+◌, ◌<◌, ◌≤◌, ◌-◌, ◌^◌, min, nat_abs, List, [], ◌∷◌, length, take, arith}
use Rattle.fd_cert.specs.fd_enclosure.fd_equations.Amounts.{cell_at, empty}
use Rattle.fd_cert.specs.fd_enclosure.fd_equations.declared.cells.Cell.{Cell}
use Rattle.fd_cert.proofs.CallerLemmas.fd_enclosure.fd_equations.{list_n_more}
use Rattle.fd_bounds.specs.fd_derived.Sums.{capped}
use Rattle.fd_rowcert.specs.Entries.{size_in}

pub size_more : (cells : List Cell) (k : ℕ) → k < length cells
    → size_in (take (k + 1) cells) ≡ size_in (take k cells) + nat_abs (cell_at cells k).units
size_more cells k h = list_n_more (λ (c : Cell). nat_abs c.units) cells k empty h

pub cell_size : (cells : List Cell) (k : ℕ) → k < length cells → nat_abs (cell_at cells k).units ≤ size_in cells
cell_size [] k h = absurd (omega arith)
cell_size (c ∷ cells) zero h = omega arith
cell_size (c ∷ cells) (suc k) h = let e = cell_size cells k (omega arith) in omega arith

pub capped_step : (size next u part : ℕ) → next ≡ min (size + u) (2 ^ 128 - 1) → size ≡ capped part
    → next ≡ capped (part + u)
capped_step size next u part e f = omega arith
