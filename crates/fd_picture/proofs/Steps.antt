-- The search for the distance of an axis's lines.
use Rattle.std.proofs.Common.{◌≡◌, ◌∙◌, ◌+◌, ◌-◌, ◌<◌, ℕ, suc, None, refl, ap, arith}
use Rattle.fd_picture.specs.Scales.{step_for, step_from, step_in, step_or}

pub search_begins : (range : ℕ) → step_for range ≡ step_from (19 - 0) 0 range
unfolding step_for
search_begins range = refl

search_steps : (decade range : ℕ) → decade < 19
    → step_from (19 - decade) decade range ≡ step_or (step_in decade range) (step_from (19 - (decade + 1)) (decade + 1) range)
search_steps decade range h =
    let e : 19 - decade ≡ suc (19 - (decade + 1)) = omega (arith, h) in
    ap (λ more. step_from more decade range) e

pub search_goes_on : (decade range : ℕ) → decade < 19 → step_in decade range ≡ None
    → step_from (19 - decade) decade range ≡ step_from (19 - (decade + 1)) (decade + 1) range
search_goes_on decade range h none = search_steps decade range h ∙ ap (λ found. step_or found (step_from (19 - (decade + 1)) (decade + 1) range)) none
