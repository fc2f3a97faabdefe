-- The phases before each element, and those of all.
use Rattle.std.proofs.Common.{◌≡◌, ℕ, zero, suc, ◌+◌, ◌<◌, ◌≤◌, [], ◌∷◌, length, slice_index, slice_index_or, length-append, arith, refl}
use Rattle.std.specs.List.{flat_map}
use Rattle.std.proofs.lemmas.List.FromFn.{length-map-range_with_len}
use Rattle.dss_model.specs.fd_exact.Sums.{list_n}
use Rattle.dss_model.specs.declared.element.Element.{Element}
use Rattle.dss_model.specs.declared.names.ElementName.{ElementName}
use Rattle.dss_layout.specs.Layout.{Elements, phase_names, sums_before}

length-phase_names : (name : ElementName) (n : ℕ) → length (phase_names name n) ≡ n
length-phase_names name n = length-map-range_with_len _ 1 n

-- the phases of an element, after those before it, are among all
pub sum_with_own : (f : Element → ℕ) (s : ℕ) (es : Elements) (k : ℕ) (d : ElementName × Element) → k < length es
    → slice_index (sums_before f s es) k + f (slice_index_or es k d).1 ≤ s + length (flat_map (λ e. phase_names e.0 (f e.1)) es)
sum_with_own f s [] k d h = absurd (omega arith)
sum_with_own f s (e ∷ es) zero d h =
    let joined = length-append (phase_names e.0 (f e.1)) (flat_map (λ (x : ElementName × Element). phase_names x.0 (f x.1)) es) in
    let count = length-phase_names e.0 (f e.1) in
    omega arith
sum_with_own f s (e ∷ es) (suc k) d h =
    let joined = length-append (phase_names e.0 (f e.1)) (flat_map (λ (x : ElementName × Element). phase_names x.0 (f x.1)) es) in
    let count = length-phase_names e.0 (f e.1) in
    let rest = sum_with_own f (s + f e.1) es k d (omega arith) in
    omega arith

-- and so are those before it
pub sum_within : (f : Element → ℕ) (s : ℕ) (es : Elements) (k : ℕ) → k < length es
    → slice_index (sums_before f s es) k ≤ s + length (flat_map (λ e. phase_names e.0 (f e.1)) es)
sum_within f s [] k h = absurd (omega arith)
sum_within f s (e ∷ es) k h = let own = sum_with_own f s (e ∷ es) k e h in omega arith

-- how many phases all elements have
pub length-phases : (f : Element → ℕ) (es : Elements)
    → length (flat_map (λ e. phase_names e.0 (f e.1)) es) ≡ list_n (λ e. f e.1) es
length-phases f [] = refl
length-phases f (e ∷ es) =
    let joined = length-append (phase_names e.0 (f e.1)) (flat_map (λ (x : ElementName × Element). phase_names x.0 (f x.1)) es) in
    let count = length-phase_names e.0 (f e.1) in
    let rest = length-phases f es in
    omega arith
