-- The kinds of short circuits.
use Rattle.std.specs.Prelude.{ℕ, List, [], ◌∷◌, map}
use Rattle.fd_fault.specs.declared.kind.Kind.{Kind}
use Rattle.fd_fault.specs.declared.kind.Kind.TheVariants as kind

-- the nodes of a bus that it joins to ground
abbrev pub nodes_of : Kind → List ℕ
nodes_of kind.Lll = 1 ∷ 2 ∷ 3 ∷ []
nodes_of kind.Lg1 = 1 ∷ []
nodes_of kind.Lg2 = 2 ∷ []
nodes_of kind.Lg3 = 3 ∷ []

-- as many grounds
abbrev pub grounds_of : Kind → List ℕ
grounds_of k = map (λ n. 0) (nodes_of k)
