-- Places of elements in order.
use Rattle.std.proofs.Common.{◌≡◌, ℕ, zero, suc, ◌+◌, ◌++◌, ◌<◌, List, [], ◌∷◌, length, map, take, drop, slice_get, slice_index, Option, Some, None, sym, ap, ◌∙◌, append_assoc, zero-add, arith}
use Rattle.std.specs.Prelude.{IfSome}
use Rattle.std.proofs.lemmas.Option.{slice_get-map}
use Rattle.fd_network.specs.fd_exact.Sums.{list_n}
use Rattle.fd_network.specs.dss_model.declared.element.Element.{Element}
use Rattle.fd_network.specs.dss_model.declared.names.ElementName.{ElementName}
use Rattle.fd_network.specs.dss_layout.Layout.{Elements, sums_before}
use Rattle.fd_network.proofs.CallerLemmas.dss_layout.{drop-more, length-sums_before, take-more}
use Rattle.fd_network.proofs.CallerLemmas.fd_devices.{list_n-more}
use Rattle.fd_sample.specs.Circuits.{element_at}

pub there_by : (o : Option ℕ) (es : Elements) (v w : Option Element) → v ≡ w
    → IfSome o (λ i. slice_get (map (λ e. e.1) es) i ≡ v) → IfSome o (λ i. element_at es i ≡ w)
there_by None es v w e h = tt
there_by (Some i) es v w e h = sym (slice_get-map (λ (x : ElementName × Element). x.1) es i) ∙ (h ∙ e)

-- ---- how many stand before a place

-- the sums before the elements up to a place and before those behind it are all, with one element more
pub sums_next : (f : Element → ℕ) (es : Elements) (k s n : ℕ) (e : ElementName × Element) (made more all : List ℕ)
    → slice_get es k ≡ Some e →
    n ≡ f e.1 → more ≡ made ++ s ∷ [] → made ++ sums_before f s (drop k es) ≡ all → more ++ sums_before f (s + n) (drop (k + 1) es) ≡ all
sums_next f es k s n e made more all here count items h =
    ap (λ (xs : List ℕ). xs ++ sums_before f (s + n) (drop (k + 1) es)) items
    ∙ (ap (λ (m : ℕ). (made ++ s ∷ []) ++ sums_before f (s + m) (drop (k + 1) es)) count
    ∙ (append_assoc made (s ∷ []) (sums_before f (s + f e.1) (drop (k + 1) es))
    ∙ (sym (ap (λ (xs : Elements). made ++ sums_before f s xs) (drop-more es k e here)) ∙ h)))

-- what stands at a place
sum_at : (f : Element → ℕ) (s : ℕ) (es : Elements) (i : ℕ) → i < length es
    → slice_index (sums_before f s es) i ≡ s + list_n (λ e. f e.1) (take i es)
sum_at f s [] i h = absurd (omega arith)
sum_at f s (e ∷ es) zero h = omega arith
sum_at f s (e ∷ es) (suc i) h = omega (arith, sum_at f (s + f e.1) es i (omega arith))

pub number_at : (f : Element → ℕ) (numbers : List ℕ) (es : Elements) (i : ℕ) → numbers ≡ sums_before f 0 es
    → i < length es →
    slice_index numbers i ≡ list_n (λ e. f e.1) (take i es)
number_at f numbers es i is h = ap (λ (ns : List ℕ). slice_index ns i) is ∙ (sum_at f 0 es i h ∙ zero-add _)

pub numbers_inside : (f : Element → ℕ) (numbers : List ℕ) (es : Elements) (i : ℕ) → numbers ≡ sums_before f 0 es
    → i < length es → i < length numbers
numbers_inside f numbers es i is h = let count = ap length is ∙ length-sums_before f 0 es in omega arith

-- one place further on
pub count_next : (f : Element → ℕ) (es : Elements) (k : ℕ) (e : ElementName × Element) → slice_get es k ≡ Some e →
    list_n (λ x. f x.1) (take (k + 1) es) ≡ list_n (λ x. f x.1) (take k es) + f e.1
count_next f es k e h =
    let g = λ (x : ElementName × Element). f x.1 in
    ap (list_n g) (take-more es k e h) ∙ list_n-more g (take k es) e
