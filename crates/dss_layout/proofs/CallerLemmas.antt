-- What a caller needs to know of a layout.
use Rattle.std.proofs.Common.{◌≡◌, ℕ, suc, ◌+◌, ◌≤◌, nat_lt, false, [], ◌∷◌, length, None, refl, sym, ap, ◌∙◌, arith}
use Rattle.std.proofs.lemmas.Bool.{or_parts, ltb-false}
use Rattle.std.proofs.lemmas.List.{take_all}
use Rattle.dss_model.specs.fd_exact.FirstLaws.{none_holds}
use Rattle.dss_model.specs.declared.element.Element.{Element}
use Rattle.dss_layout.specs.Limits.{most_complex, most_magnitudes}
use Rattle.dss_layout.specs.Layout.{Elements, complex_count, layout_of, first_too_many, is_past_limit_at, passes_limit, sums_before}
pub use Rattle.dss_layout.proofs.Among.{both_parts, mentions_among}
pub use Rattle.dss_layout.proofs.Phases.{length-phases, sum_with_own, sum_within}
pub use Rattle.dss_layout.proofs.Placing.{drop-more, take-more}

-- where no element passes a limit, the layout of all passes none
pub no_limit_passed : (es : Elements) → first_too_many es ≡ None → passes_limit (layout_of es) ≡ false
no_limit_passed [] h = refl
no_limit_passed (e ∷ rest) h =
    ap (λ l. passes_limit (layout_of l)) (sym (take_all (length rest + 1) (e ∷ rest) (omega arith)))
    ∙ none_holds (is_past_limit_at (e ∷ rest)) (suc (length rest)) (length rest) h (omega arith)

-- a layout has a place for each element
pub length-sums_before : (f : Element → ℕ) (s : ℕ) (es : Elements) → length (sums_before f s es) ≡ length es
length-sums_before f s [] = refl
length-sums_before f s (e ∷ es) = ap suc (length-sums_before f (s + f e.1) es)

limits_kept : (es : Elements) → first_too_many es ≡ None
    → (complex_count (layout_of es) ≤ most_complex) × (length (layout_of es).magnitudes ≤ most_magnitudes)
limits_kept es h =
    let layout = layout_of es in
    let parts = or_parts (nat_lt most_complex (complex_count layout)) (nat_lt most_magnitudes (length layout.magnitudes)) (no_limit_passed es h) in
    (ltb-false most_complex (complex_count layout) parts.0, ltb-false most_magnitudes (length layout.magnitudes) parts.1)

-- then the complex unknowns are few
pub few_complex : (es : Elements) → first_too_many es ≡ None → complex_count (layout_of es) ≤ most_complex
few_complex es h = (limits_kept es h).0

-- and the magnitudes
pub few_magnitudes : (es : Elements) → first_too_many es ≡ None → length (layout_of es).magnitudes ≤ most_magnitudes
few_magnitudes es h = (limits_kept es h).1
