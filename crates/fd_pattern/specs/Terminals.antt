-- The terminal of a part load: its voltage at a point, and what stands at its places in a row or a column.
use Rattle.std.specs.Prelude.{ℕ, ◌+◌, ◌*◌, ◌<◌, ℤ, pos, neg_ℤ, ◌+ℤ◌, ◌-ℤ◌, cond, eqb, List, Option, Some, None, IfSome}
use Rattle.fd_load.specs.fd_arith.declared.terms.NodeAt.{NodeAt}
use Rattle.fd_load.specs.fd_arith.declared.terms.NodeAt.TheVariants.{Ground, Node}
use Rattle.fd_load.specs.fd_system.declared.loads.LoadAt.{LoadAt}
use Rattle.fd_load.specs.fd_system.Loads.{re_of, im_of, magnitude_of}
use Rattle.fd_load.specs.fd_system.Residual.{IsPlace, whole_state}
use Rattle.fd_load.specs.Current.{IsLoadPhase}

-- ---- the voltage: the first node's less the second's, and the magnitude, at the point x

abbrev pub real_of : List ℤ → LoadAt → ℤ
real_of x u = re_of (whole_state x) u.first -ℤ re_of (whole_state x) u.second

abbrev pub imaginary_of : List ℤ → LoadAt → ℤ
imaginary_of x u = im_of (whole_state x) u.first -ℤ im_of (whole_state x) u.second

abbrev pub magnitude_in : List ℤ → LoadAt → ℤ
magnitude_in x u = magnitude_of (whole_state x) u.magnitude

-- ---- what stands at the place l

-- re at a node's real place, im at its imaginary place, and 0 elsewhere
abbrev pub at_node : ℕ → NodeAt → ℤ → ℤ → ℤ
at_node l Ground re im = pos 0
at_node l (Node k) re im = cond (eqb (2 * k) l) re (pos 0) +ℤ cond (eqb (2 * k + 1) l) im (pos 0)

-- z at the place of a magnitude
abbrev pub at_magnitude : ℕ → Option ℕ → ℤ → ℤ
at_magnitude l None z = pos 0
at_magnitude l (Some place) z = cond (eqb place l) z (pos 0)

-- re and im at the first node, the same with their signs turned at the second, and z at the magnitude
unfoldable pub at_terminal : ℕ → LoadAt → ℤ → ℤ → ℤ → ℤ
at_terminal l u re im z = (at_node l u.first re im +ℤ at_node l u.second (neg_ℤ re) (neg_ℤ im)) +ℤ at_magnitude l u.magnitude z

-- ---- how often the place l belongs to it

abbrev pub count_node : ℕ → NodeAt → ℕ
count_node l Ground = 0
count_node l (Node k) = cond (eqb (2 * k) l) 1 0 + cond (eqb (2 * k + 1) l) 1 0

abbrev pub count_magnitude : ℕ → Option ℕ → ℕ
count_magnitude l None = 0
count_magnitude l (Some place) = cond (eqb place l) 1 0

-- once for each of its nodes and for its magnitude
unfoldable pub count_terminal : ℕ → LoadAt → ℕ
count_terminal l u = (count_node l u.first + count_node l u.second) + count_magnitude l u.magnitude

-- ---- conditions

-- a part load within the ranges of the profile, at places below n
pub record IsConnected (n : ℕ) (u : LoadAt) : Type 0 where
  pub phase : IsLoadPhase u.load
  pub first : IsPlace n u.first
  pub second : IsPlace n u.second
  pub magnitude : IfSome u.magnitude (λ place. place < n)
