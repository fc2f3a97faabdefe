-- Which voltage base is nearest to a nominal voltage.
use Rattle.std.specs.Prelude.{ℕ, ◌≤◌, ◌*◌, ◌^◌, nat_le, ℤ, pos, ◌≤ℤ◌, ◌-ℤ◌, ◌*ℤ◌, unsigned_abs, Bool, List, [], ◌∷◌, filter, fold}
use Rattle.std.specs.List.{list_all}
use Rattle.std.specs.Int.{int_min}
use Rattle.dss_layout.specs.fd_exact.RootThree.{root_three}
use Rattle.fd_bases.specs.declared.nominal.Nominal.{Nominal}
use Rattle.fd_bases.specs.declared.nominal.Nominal.TheVariants.{Whole, OverRootThree}

-- how far a base over root three is from a nominal voltage, exactly, in whole 10^-24 kV over root three
abbrev pub distance : Nominal → ℤ → ℕ
distance (Whole kv) base = unsigned_abs ((base *ℤ pos (10 ^ 15)) -ℤ (kv *ℤ pos root_three))
distance (OverRootThree kv) base = unsigned_abs (base -ℤ kv) * 10 ^ 15

-- a base comes before another: it is nearer, or as near and at most as great
abbrev pub IsBefore : Nominal → ℤ → ℤ → Type 0
IsBefore nominal base other = (distance nominal base ≤ distance nominal other) × (distance nominal other ≤ distance nominal base → base ≤ℤ other)

-- no other base is nearer
abbrev pub is_nearest : Nominal → List ℤ → ℤ → Bool
is_nearest nominal bases base = list_all (λ other. nat_le (distance nominal base) (distance nominal other)) bases

-- the least of these numbers, 0 where there are none
abbrev pub least : List ℤ → ℤ
least [] = pos 0
least (z ∷ zs) = fold int_min z zs

-- the base that is nearest to the nominal voltage, the least of several that are
abbrev pub nearest : Nominal → List ℤ → ℤ
nearest nominal bases = least (filter (is_nearest nominal bases) bases)
