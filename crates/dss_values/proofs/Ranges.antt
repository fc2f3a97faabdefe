-- Two numbers of which each is within a range.
use Rattle.std.proofs.Common.{ℤ, ◌≤ℤ◌, List, [], ◌∷◌, IsTrue, IfOk, arith}
use Rattle.std.proofs.lemmas.Int.{ints}
use Rattle.std.specs.List.{list_all}
use Rattle.dss_values.specs.Forms.{is_within, two}

pub two_above : (low high : ℤ) (ns : List ℤ) → IsTrue (list_all (is_within low high) ns)
    → IfOk (two ns) (λ n. (low ≤ℤ n.0) × (low ≤ℤ n.1))
two_above low high [] h = tt
two_above low high (a ∷ []) h = tt
two_above low high (a ∷ b ∷ []) h = grind (arith, ints)
two_above low high (a ∷ b ∷ c ∷ ns) h = tt

pub two_below : (low high : ℤ) (ns : List ℤ) → IsTrue (list_all (is_within low high) ns)
    → IfOk (two ns) (λ n. (n.0 ≤ℤ high) × (n.1 ≤ℤ high))
two_below low high [] h = tt
two_below low high (a ∷ []) h = tt
two_below low high (a ∷ b ∷ []) h = grind (arith, ints)
two_below low high (a ∷ b ∷ c ∷ ns) h = tt
