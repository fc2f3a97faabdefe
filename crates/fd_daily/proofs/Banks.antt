-- The opening times with which a Solve starts.
use Rattle.std.proofs.Common.{◌≡◌, ◌∙◌, ℕ, List, ◌∷◌, ◌++◌, replicate, Option, None, ap, sym, append_assoc}
use Rattle.std.proofs.lemmas.List.{replicate-append-replicate}
use Rattle.fd_settle.specs.fd_exact.Sums.{list_n}

-- those of an element, and those of the elements that are left behind it
pub banks_kept : {E : Type 0} (f : E → ℕ) (opened new all : List (Option ℕ)) (es rest : List E) (e : E) → es ≡ e ∷ rest
    → new ≡ opened ++ replicate (f e) None →
    opened ++ replicate (list_n f es) None ≡ all → new ++ replicate (list_n f rest) None ≡ all
banks_kept {E = E} f opened new all es rest e steps added h =
    ap (λ (o : List (Option ℕ)). o ++ replicate (list_n f rest) None) added
    ∙ append_assoc opened (replicate (f e) None) (replicate (list_n f rest) None)
    ∙ ap (λ (o : List (Option ℕ)). opened ++ o) (replicate-append-replicate (f e) (list_n f rest) None)
    ∙ ap (λ (xs : List E). opened ++ replicate (list_n f xs) None) (sym steps)
    ∙ h
