-- Steps over a list, one after another.
use Rattle.std.proofs.Common.{◌≡◌, ◌∙◌, ℕ, zero, suc, ◌+◌, ◌<◌, List, [], ◌∷◌, length, get_or, drop, map, Result, Ok, Err, sym, ap, refl, arith}
use Rattle.fd_pattern.specs.fd_load.fd_exact.Results.{and_then}
use Rattle.fd_rungs.specs.declared.branch.Rung.{Rung}
use Rattle.fd_rungs.specs.Bounds.{branches_in}
use Rattle.fd_rungs.specs.Passes.{Flow, backward, backward_rung, each_then}

each_step : {A S E : Type 0} (f : A → S → Result S E) (xs : List A) (i : ℕ) (x : A) (s : S) → i < length xs
    → x ≡ get_or xs i x → each_then f (drop i xs) s ≡ and_then (f x s) (each_then f (drop (suc i) xs))
each_step f [] i x s l e = absurd (omega (arith, l))
each_step f (a ∷ xs) zero x s l e = ap (λ y. and_then (f y s) (each_then f xs)) (sym e)
each_step f (a ∷ xs) (suc i) x s l e = each_step f xs i x s (omega (arith, l)) e

pub each_more : {A S E : Type 0} (f : A → S → Result S E) (xs : List A) (i : ℕ) (x : A) (s t : S) → i < length xs
    → x ≡ get_or xs i x → f x s ≡ Ok t → each_then f (drop (i + 1) xs) t ≡ each_then f (drop i xs) s
each_more f xs i x s t l e done =
    let next : i + 1 ≡ suc i = omega arith in
    ap (λ k. each_then f (drop k xs) t) next
    ∙ sym (each_step f xs i x s l e ∙ ap (λ r. and_then r (each_then f (drop (suc i) xs))) done)

-- ---- backward

pub back_step : (rs : List Rung) (k : ℕ) (r : Rung) (start s : Flow) → k < length rs → r ≡ get_or rs k r
    → backward (map branches_in (drop (suc k) rs)) start ≡ Ok s
    → backward (map branches_in (drop k rs)) start ≡ backward_rung (branches_in r) s
back_step [] k r start s l e h = absurd (omega (arith, l))
back_step (a ∷ rs) zero r start s l e h =
    ap (λ q. and_then q (backward_rung (branches_in a))) h ∙ ap (λ y. backward_rung (branches_in y) s) (sym e)
back_step (a ∷ rs) (suc k) r start s l e h = back_step rs k r start s (omega (arith, l)) e h

pub back_err : (rs : List Rung) (k : ℕ) (start : Flow) (p : ℕ) → backward (map branches_in (drop k rs)) start ≡ Err p
    → backward (map branches_in rs) start ≡ Err p
back_err rs zero start p h = h
back_err [] (suc k) start p h = h
back_err (a ∷ rs) (suc k) start p h = ap (λ q. and_then q (backward_rung (branches_in a))) (back_err rs k start p h)
