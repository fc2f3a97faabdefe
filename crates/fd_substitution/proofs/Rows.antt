-- The row at a place, as code reads it.
use Rattle.std.proofs.Common.{◌≡◌, ℕ, zero, suc, ◌<◌, List, [], ◌∷◌, length, get_or, arith, refl}
use Rattle.fd_triangles.specs.Factors.{parts_in}
use Rattle.fd_triangles.specs.Steps.{parts_of}
use Rattle.fd_triangles.specs.fd_derived.declared.entries.Row.{Row}

pub parts_read : (rows : List Row) (t : ℕ) (none : Row) → t < length rows
    → parts_in rows t ≡ parts_of (get_or rows t none)
parts_read [] t none h = absurd (omega arith)
parts_read (row ∷ rows) zero none h = refl
parts_read (row ∷ rows) (suc t) none h = parts_read rows t none (omega arith)
