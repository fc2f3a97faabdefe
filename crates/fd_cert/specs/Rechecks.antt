-- The rules that a claim on a network may break, in their order, and the first that it breaks, whoever made it.
use Rattle.std.specs.Prelude.{◌≡◌, ℕ, ◌==◌, ◌&&◌, ◌||◌, ◌^◌, ℤ, nat_abs, nat_lt, Bool, cond, is_some, List, length, Option, Some, None, option_map, Result, Ok, Err}
use Rattle.fd_enclosure.specs.fd_exact.First.{first_place}
use Rattle.fd_enclosure.specs.fd_exact.States.{entry, part}
use Rattle.fd_enclosure.specs.fd_mat.Rows.{row_of}
use Rattle.fd_enclosure.specs.fd_equations.Rounded.{jacobian_entry}
use Rattle.fd_enclosure.specs.fd_pattern.Views.{NetworkView}
use Rattle.fd_enclosure.specs.fd_equations.Weights.{weight_at}
use Rattle.fd_enclosure.specs.Bounds.{refusal}
use Rattle.fd_enclosure.specs.Boxes.{boxes_of}
use Rattle.fd_enclosure.specs.Radii.{slope_radius}
use Rattle.fd_enclosure.specs.Sound.{Claim, by_inverse, greatest_mismatch, inverse_in, mismatch_at, number_at, radius_in}
use Rattle.fd_cert.specs.Claims.{claim_in}
use Rattle.fd_cert.specs.declared.ball.Certified.{Certified}
use Rattle.fd_cert.specs.declared.rule.Broken.{Broken}
use Rattle.fd_cert.specs.declared.rule.Rule.{Rule}
use Rattle.fd_cert.specs.declared.rule.Rule.TheVariants.{Bound, Mismatch, Radius, Range, Size}

-- ---- each rule

-- centre, radii, mismatches and inverse have n entries
abbrev pub has_size : ℕ → List ℤ → List ℕ → List ℕ → List (List ℤ) → Bool
has_size n x r e c = (length x == n) && ((length r == n) && ((length e == n) && (length c == n)))

-- one of the first n entries of a row of the inverse is past 2^56 in size
abbrev pub has_wide_entry : ℕ → List ℤ → Bool
has_wide_entry n row = is_some (first_place (λ col. nat_lt (2 ^ 56) (nat_abs (part row col))) n)

-- a centre is past 2^40 in size, or its radius past 2^40, or an entry of its row past 2^56
abbrev pub is_past_range : ℕ → ℤ → ℕ → List ℤ → Bool
is_past_range n centre radius row = nat_lt (2 ^ 40) (nat_abs centre) || (nat_lt (2 ^ 40) radius || has_wide_entry n row)

abbrev pub is_out_of_range : ℕ → List ℤ → List ℕ → List (List ℤ) → ℕ → Bool
is_out_of_range n x r c i = is_past_range n (part x i) (number_at r i) (row_of c i)

-- a mismatch is below the state's own, or above the greatest of a solution
abbrev pub is_untrue : ℕ → ℕ → Bool
is_untrue own claimed = nat_lt claimed own || nat_lt greatest_mismatch claimed

-- the unknown at which the claimed mismatches give no certificate, with its bound
abbrev pub refusal_of : NetworkView → List ℤ → List ℕ → List (List ℤ) → Option (ℕ × Option ℤ)
refusal_of v x e c = refusal v.size (entry c) (jacobian_entry v x) (slope_radius v x) (weight_at v x) (number_at e)

-- a radius is below what the mismatches and the bound give
abbrev pub is_narrow : NetworkView → List ℤ → List ℕ → List ℕ → List (List ℤ) → ℕ → Bool
is_narrow v x r e c i = nat_lt (number_at r i) (radius_in v x c e i)

-- ---- the first that is broken

abbrev pub place_named : Option (ℕ × Option ℤ) → Option ℕ
place_named o = option_map (λ r. r.0) o

-- a rule, where it is broken at a place; else what comes later
abbrev pub broken_at : Rule → Option ℕ → Option Broken → Option Broken
broken_at rule None later = later
broken_at rule (Some place) later = Some (record { rule = rule; place = place })

-- at a point: mismatch, then bound, then radius
unfoldable pub first_at_point : NetworkView → List ℤ → List ℕ → List ℕ → List (List ℤ) → Option Broken
first_at_point v x r e c =
    broken_at Mismatch (first_place (λ l. is_untrue (mismatch_at v x l) (number_at e l)) v.size)
    (broken_at Bound (place_named (refusal_of v x e c))
    (broken_at Radius (first_place (is_narrow v x r e c) v.size) None))

-- size, which is broken at no place; then range, and what comes at a point
unfoldable pub first_broken : NetworkView → List ℤ → List ℕ → List ℕ → List (List ℤ) → Option Broken
first_broken v x r e c =
    cond (has_size v.size x r e c)
    (broken_at Range (first_place (is_out_of_range v.size x r c) v.size) (first_at_point v x r e c))
    (Some (record { rule = Size; place = 0 }))

-- The first rule that a claim by an inverse breaks, at the least place at which it breaks it. It doesn't look at the boxes.
abbrev pub first_unsound : NetworkView → Claim → Option Broken
first_unsound v m = first_broken v m.centre m.radii m.mismatches (inverse_in m.support)

-- ---- boxes

-- a claim by an inverse with the boxes of its centre
abbrev pub boxed_claim : NetworkView → List ℤ → List ℕ → List ℕ → List (List ℤ) → Claim
boxed_claim v x r e c = record { centre = x; radii = r; mismatches = e; boxes = boxes_of v x; support = by_inverse c }

-- a certified state is this claim, which breaks no rule; or the first that it breaks
abbrev pub IsBoxed : NetworkView → Claim → Result Certified Broken → Type 0
IsBoxed v claim (Ok m) = (first_unsound v claim ≡ None) × (claim_in m ≡ claim)
IsBoxed v claim (Err b) = first_unsound v claim ≡ Some b

-- where no rule is broken, P of what was found; else the first that is
abbrev pub Tells : {X : Type 0} → Option Broken → Result X Broken → (X → Type 0) → Type 0
Tells first (Ok found) P = (first ≡ None) × P found
Tells first (Err b) P = first ≡ Some b
