-- The places of row and column at which contributions and slopes of part loads stand.
use Rattle.std.specs.Prelude.{ℕ, ◌+◌, ◌*◌, List, [], ◌∷◌, ◌++◌, Option, Some, None, map}
use Rattle.std.specs.List.{flat_map}
use Rattle.fd_load.specs.fd_arith.declared.terms.Term.{Term}
use Rattle.fd_load.specs.fd_arith.declared.terms.NodeAt.{NodeAt}
use Rattle.fd_load.specs.fd_arith.declared.terms.NodeAt.TheVariants.{Ground, Node}
use Rattle.fd_load.specs.fd_system.declared.loads.LoadAt.{LoadAt}

abbrev pub place_of : Term → ℕ × ℕ
place_of t = (t.row, t.col)

-- the real unknowns of a terminal: two for each of its nodes, and its magnitude
abbrev pub node_places : NodeAt → List ℕ
node_places Ground = []
node_places (Node k) = (2 * k) ∷ ((2 * k + 1) ∷ [])

abbrev pub magnitude_places : Option ℕ → List ℕ
magnitude_places None = []
magnitude_places (Some k) = k ∷ []

abbrev pub terminal_places : LoadAt → List ℕ
terminal_places u = (node_places u.first ++ node_places u.second) ++ magnitude_places u.magnitude

-- each of these rows in each of these columns
abbrev pub cross : List ℕ → List ℕ → List (ℕ × ℕ)
cross rows cols = flat_map (λ row. map (λ col. (row, col)) cols) rows

-- the unknowns of its terminal meet one another
abbrev pub load_places : LoadAt → List (ℕ × ℕ)
load_places u = cross (terminal_places u) (terminal_places u)

abbrev pub places_of : List Term → List LoadAt → List (ℕ × ℕ)
places_of ts us = map place_of ts ++ flat_map load_places us
