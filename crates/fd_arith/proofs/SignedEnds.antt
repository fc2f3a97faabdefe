-- The ends of intervals as numbers of 128 bits.
use Rattle.std.proofs.Common.{◌≡◌, ◌∙◌, ℤ, Some, None, ◌≤ℤ◌, ◌<ℤ◌, ◌*ℤ◌, FitsSigned, to_z, of_z, false, arith, refl, sym, subst}
use lib.Signed.{le_z, lt_z}
use Rattle.std.specs.Int.{w128, int_min, int_max}
use Rattle.std.proofs.lemmas.Int.{ints, clamps, to_z-of_z}
use Rattle.fd_arith.specs.Interval.{Bounds, IsBounds, product, clip}
use Rattle.fd_arith.specs.Laws.{IsProduct}
use Rattle.fd_arith.specs.Products.{IsSmall, small_product, small_signed, product_lem}

-- the ends of an interval are numbers of 128 bits
pub lower_signed : (l h : ℤ) → IsBounds (Some (l, h)) → FitsSigned w128 l
lower_signed l h b = omega (arith, ints, b.0)

pub upper_signed : (l h : ℤ) → IsBounds (Some (l, h)) → FitsSigned w128 h
upper_signed l h b = omega (arith, ints, b.1.0)

-- the lower end is at most the upper one, as the code has them
pub in_order : (l h : ℤ) → IsBounds (Some (l, h)) → to_z w128 (of_z w128 l) ≤ℤ to_z w128 (of_z w128 h)
in_order l h b = rw (to_z-of_z w128 l (lower_signed l h b), to_z-of_z w128 h (upper_signed l h b)) b.1.1

-- the product of two numbers of 64 bits is one of 128
pub product_signed : (x y : ℤ) → FitsSigned w128 x → FitsSigned w128 y → IsSmall x → IsSmall y
    → FitsSigned w128 (to_z w128 (of_z w128 x) *ℤ to_z w128 (of_z w128 y))
product_signed x y p q h k = rw (to_z-of_z w128 x p, to_z-of_z w128 y q) (small_signed _ (small_product x y h k))

-- nothing is known of a product of which one factor is not known
pub product_of_all : {a f r : Bounds} → None ≡ a → r ≡ None → IsProduct a f r
product_of_all {f = f} p e = subst (IsProduct _ _) (sym (e ∙ (λ i. product (p i) f))) (product_lem _ _)

-- a product by a factor that is not known is not known
no_factor : (a : Bounds) → None ≡ product a None
no_factor (Some e) = refl
no_factor None = refl

pub product_by_all : {a f r : Bounds} → None ≡ f → r ≡ None → IsProduct a f r
product_by_all {a = a} p e = subst (IsProduct _ _) (sym (e ∙ no_factor a ∙ (λ i. product a (p i)))) (product_lem _ _)

-- the greater of x and l, and the lesser of that and h, as the code has them
pub clipped : (x l h m n : ℤ) → FitsSigned w128 x → FitsSigned w128 l → FitsSigned w128 h
    → m ≡ int_max (to_z w128 (of_z w128 x)) (to_z w128 (of_z w128 l))
    → n ≡ int_min (to_z w128 (of_z w128 m)) (to_z w128 (of_z w128 h)) → n ≡ clip l h x
clipped x l h m n p q r e f =
    let d : m ≡ int_max x l = e ∙ (λ i. int_max (to_z-of_z w128 x p i) (to_z-of_z w128 l q i)) in
    let s : FitsSigned w128 m = omega (arith, ints, clamps, d, p, q) in
    f ∙ (λ i. int_min (to_z-of_z w128 m s i) (to_z-of_z w128 h r i)) ∙ (λ i. int_min (d i) h)

-- numbers stay in order between two limits
pub clipped_order : (x y l h m n : ℤ) → FitsSigned w128 l → FitsSigned w128 h → l ≤ℤ h → x ≤ℤ y
    → m ≡ clip l h x → n ≡ clip l h y → to_z w128 (of_z w128 m) ≤ℤ to_z w128 (of_z w128 n)
clipped_order x y l h m n p q o u e f =
    let s : FitsSigned w128 m = omega (arith, ints, clamps, e, p, q) in
    let t : FitsSigned w128 n = omega (arith, ints, clamps, f, p, q) in
    rw (to_z-of_z w128 m s, to_z-of_z w128 n t) (omega (arith, ints, clamps, e, f))

-- what the code's tests of two numbers say
pub above : (k x : ℤ) → le_z x k ≡ false → k <ℤ x
above k x h = grind (arith, ints)

pub at_most : (k x : ℤ) → lt_z k x ≡ false → x ≤ℤ k
at_most k x h = grind (arith, ints)

-- what is at least a number above k is above k
pub above_too : (k x y : ℤ) → k <ℤ x → x ≤ℤ y → k <ℤ y
above_too k x y h o = omega (arith, ints)
