-- Stamps that are kept in vectors, and the room that they have.
use Rattle.std.specs.Prelude.{◌≡◌, ℕ, ◌≤◌, vec_capacity}
use Rattle.fd_system.specs.declared.stamps.Stamp.{Stamp}
use Rattle.fd_system.specs.System.{StampView, stamp_with}

-- the lists in order, and what is drawn
abbrev pub stamp_of : Stamp → StampView
stamp_of s = stamp_with s.constants.items s.terms.items s.loads.items s.draw

-- the lists of a stamp have room for so many contributions, part loads and constants
pub record HasRoom (s : Stamp) (most few some : ℕ) : Type 0 where
  pub terms : most ≤ vec_capacity s.terms
  pub loads : few ≤ vec_capacity s.loads
  pub constants : some ≤ vec_capacity s.constants

-- they have the room that they had
pub record IsRoomSame (old new : Stamp) : Type 0 where
  pub terms : vec_capacity new.terms ≡ vec_capacity old.terms
  pub loads : vec_capacity new.loads ≡ vec_capacity old.loads
  pub constants : vec_capacity new.constants ≡ vec_capacity old.constants
