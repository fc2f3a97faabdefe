-- What the bounds of rows say of radii: the radius of each unknown, or the unknown at which there is no certificate.
use Rattle.std.specs.Prelude.{◌≡◌, ℕ, ◌<◌, ℤ, List, Option, Some, None}
use Rattle.fd_enclosure.specs.fd_equations.Rounded.{list_of}
use Rattle.fd_enclosure.specs.Bounds.{radius_at, refusal}
use Rattle.fd_cert.specs.declared.certificate.Widths.{Widths}
use Rattle.fd_cert.specs.declared.certificate.Widths.TheVariants.{Refused, Within}

module _ (n : ℕ) (C J : ℕ → ℕ → ℤ) (R : ℕ → ℕ → ℕ) (w e : ℕ → ℕ) where
  -- no refusal and the radii
  pub record AreWithin (rs : List ℕ) : Type 0 where
    pub refusal : refusal n C J R w e ≡ None
    pub radii : rs ≡ list_of n (radius_at n C J R w e)

  -- a refusal at an unknown
  pub record IsRefused (place : ℕ) (sum : Option ℤ) : Type 0 where
    pub refusal : refusal n C J R w e ≡ Some (place, sum)
    pub inside : place < n

  abbrev pub IsWidths : Widths → Type 0
  IsWidths (Within radii) = AreWithin radii.items
  IsWidths (Refused place sum) = IsRefused place sum
