-- One more bus has its base.
use Rattle.std.proofs.Common.{◌≡◌, ℕ, ℤ, List, [], ◌∷◌, ◌++◌, sym, ap, ◌∙◌, append_assoc}
use Rattle.fd_bases.specs.declared.bus_base.BusBase.{BusBase}
use Rattle.fd_bases.specs.declared.nominal.Nominal.{Nominal}
use Rattle.fd_bases.specs.Nearest.{nearest}
use Rattle.fd_bases.specs.Walk.{Reached}
use Rattle.fd_bases.specs.Bases.{based}

pub based_more : (base : ℤ) (bases : List ℤ) (made more : List BusBase) (left rest : Reached) (all : List BusBase) (bus : List ℕ) (nominal : Nominal) (kv : ℤ)
    → left ≡ (bus, nominal) ∷ rest → more ≡ made ++ (let b : BusBase = record { bus = bus; kv = kv } in b) ∷ []
    → kv ≡ nearest nominal (base ∷ bases)
    → made ++ based (base ∷ bases) left ≡ all → more ++ based (base ∷ bases) rest ≡ all
based_more base bases made more left rest all bus nominal kv next pushed is so_far =
    let at : ℤ → BusBase = λ z. record { bus = bus; kv = z } in
    ap (λ bs. bs ++ based (base ∷ bases) rest) pushed
    ∙ append_assoc made (at kv ∷ []) (based (base ∷ bases) rest)
    ∙ ap (λ z. made ++ at z ∷ based (base ∷ bases) rest) is
    ∙ ap (λ r. made ++ based (base ∷ bases) r) (sym next)
    ∙ so_far
