-- Lemmas that the crates above use.
use Rattle.std.proofs.Common.{◌≡◌, ◌∙◌, ℕ, ◌<◌, ◌==◌, nat_lt, Bool, true, false, ◌&&◌, List, get_or, length, map, refl, sym, subst, arith}
use Rattle.std.specs.List.{list_all}
use Rattle.std.proofs.lemmas.Bool.{and_parts, eqb-true, ltb-true}
use Rattle.std.proofs.lemmas.List.{get_or-map, length-map}
use Rattle.std.proofs.lemmas.List.Folds.{list_all_at}
use Rattle.fd_triangles.specs.Elimination.{pair_at}
use Rattle.fd_triangles.specs.declared.pair.Pair.{Pair}
use Rattle.fd_levels.specs.Order.{are_apart, are_once, is_paired}

below : (size : ℕ) (ks : List ℕ) → are_once size ks ≡ true → (t : ℕ) → t < length ks → get_or ks t 0 < size
below size ks once t low = by (nat_lt (get_or ks t 0) size) refl
  where
    within : list_all (λ k. nat_lt k size) ks ≡ true
    within = (and_parts (list_all (λ k. nat_lt k size) ks) (are_apart ks) once).0

    by : (b : Bool) → nat_lt (get_or ks t 0) size ≡ b → get_or ks t 0 < size
    by true is = ltb-true (get_or ks t 0) size is
    by false past = absurd (let no : true ≡ false = sym within ∙ list_all_at (λ k. nat_lt k size) ks t 0 low past in cc)

-- there are as many pairs as unknowns
pub paired_long : (size : ℕ) (pairs : List Pair) → is_paired size pairs ≡ true → length pairs ≡ size
paired_long size pairs paired =
    eqb-true (length pairs) size (and_parts (length pairs == size)
    (are_once size (map (λ p. p.unknown) pairs) && are_once size (map (λ p. p.equation) pairs)) paired).0

-- and all are within them
pub paired_within : (size : ℕ) (pairs : List Pair) → is_paired size pairs ≡ true → (t : ℕ) → t < length pairs
    → ((pair_at pairs t).unknown < size) × ((pair_at pairs t).equation < size)
paired_within size pairs paired t low =
    let none : Pair = record { unknown = 0; equation = 0 } in
    let unknowns : List ℕ = map (λ p. p.unknown) pairs in
    let equations : List ℕ = map (λ p. p.equation) pairs in
    let once = and_parts (are_once size unknowns) (are_once size equations)
    (and_parts (length pairs == size) (are_once size unknowns && are_once size equations) paired).1 in (
      subst (λ k. k < size) (get_or-map (λ (p : Pair). p.unknown) pairs t none 0 low) (below size unknowns once.0 t (omega (arith, low, length-map pairs (λ (p : Pair). p.unknown)))),
      subst (λ k. k < size) (get_or-map (λ (p : Pair). p.equation) pairs t none 0 low) (below size equations once.1 t (omega (arith, low, length-map pairs (λ (p : Pair). p.equation)))),
    )
