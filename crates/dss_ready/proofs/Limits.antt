-- What a layout, or its lack, says of the elements.
use Rattle.std.proofs.Common.{◌≡◌, ℕ, ◌<◌, length, Option, Some, None, Ok, Err, refl}
use Rattle.dss_layout.specs.declared.limits.LayoutFault.TheVariants.{TooMany}
use Rattle.dss_circuit.specs.fd_exact.FirstLaws.{place_below}
use Rattle.dss_layout.specs.Layout.{Elements, LayoutView, first_too_many, is_past_limit_at, laid_out_unless}

-- the first element past a limit is one of them
pub too_many_within : (es : Elements) (k : ℕ) → first_too_many es ≡ Some k → k < length es
too_many_within es k h = place_below (is_past_limit_at es) (length es) k h

-- there is a layout where no element passes a limit
pub few_where_laid_out : (o : Option ℕ) (es : Elements) (l : LayoutView) → laid_out_unless o es ≡ Ok l → o ≡ None
few_where_laid_out None es l h = refl
few_where_laid_out (Some k) es l h = cc

pub many_where_not_laid_out : (o : Option ℕ) (es : Elements) (k : ℕ) → laid_out_unless o es ≡ Err (TooMany k)
    → o ≡ Some k
many_where_not_laid_out None es k h = cc
many_where_not_laid_out (Some j) es k h = cc
