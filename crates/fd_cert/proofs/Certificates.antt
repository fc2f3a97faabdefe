-- The certificate of a point from its mismatches and its radii.
use Rattle.std.proofs.Common.{◌≡◌, ◌∙◌, ℕ, ◌<◌, ℤ, nat_lt, List, length, map, replicate, Option, Some, None, Ok, Err, arith, ap, sym, subst}
use Rattle.fd_enclosure.specs.fd_exact.First.{first_place}
use Rattle.fd_enclosure.specs.fd_exact.States.{entry}
use Rattle.fd_enclosure.specs.fd_equations.Rounded.{jacobian_entry, list_of}
use Rattle.fd_enclosure.specs.fd_pattern.Views.{NetworkView}
use Rattle.fd_enclosure.specs.fd_equations.Weights.{weight_at}
use Rattle.fd_enclosure.specs.fd_arith.Interval.{Bounds}
use Rattle.fd_enclosure.specs.fd_system.Residual.{greater_size, residual_interval}
use Rattle.fd_enclosure.specs.fd_equations.Enclosure.{interval_residual_of}
use Rattle.fd_enclosure.proofs.CallerLemmas.fd_equations.{get_or-list_of, length-list_of, list_of-ext}
use Rattle.std.proofs.lemmas.List.{get_or-map, get_or-replicate, length-map, length-replicate}
use Rattle.fd_enclosure.specs.Bounds.{refusal}
use Rattle.fd_enclosure.specs.Boxes.{boxes_of}
use Rattle.fd_enclosure.specs.Radii.{slope_radius}
use Rattle.fd_enclosure.specs.Sound.{Claim, by_inverse, certificate_of, claim_of, first_loose, greatest_mismatch, loose, mismatch_at, mismatches_of, mismatch_size, number_at, radii_of, radius_in, uncertain, unless_loose, unless_uncertain}
use Rattle.fd_cert.specs.Claims.{tried_claim}
use Rattle.fd_cert.specs.Columns.{HasNumbers}
use Rattle.fd_cert.proofs.Verdict.{first_same}

pub length-mismatches : (v : NetworkView) (x : List ℤ) → length (mismatches_of v x) ≡ v.size
unfolding mismatches_of
length-mismatches v x = length-list_of v.size (mismatch_at v x)

read_mismatch : (v : NetworkView) (x : List ℤ) (l : ℕ) → l < v.size
    → number_at (mismatches_of v x) l ≡ mismatch_at v x l
unfolding mismatches_of
read_mismatch v x l h = get_or-list_of v.size (mismatch_at v x) l 0 h

module _ (v : NetworkView) (x : List ℤ) (c : List (List ℤ)) (ms : List ℕ) (is : ms ≡ mismatches_of v x) where
  -- both ways to read them
  pub numbers_at : HasNumbers v.size ms (mismatch_at v x)
  numbers_at l h = ap (λ xs. number_at xs l) is ∙ read_mismatch v x l h

  pub numbers_in : HasNumbers v.size ms (number_at (mismatches_of v x))
  numbers_in l h = ap (λ xs. number_at xs l) is

  loose_same : first_place (λ l. nat_lt greatest_mismatch (number_at ms l)) (length ms) ≡ first_loose v x
  unfolding first_loose
  loose_same =
      ap (first_place (λ l. nat_lt greatest_mismatch (number_at ms l))) (ap length is ∙ length-mismatches v x)
      ∙ first_same (λ l. nat_lt greatest_mismatch (number_at ms l))
      (λ l. nat_lt greatest_mismatch (mismatch_at v x l)) v.size (λ l h.
      ap (nat_lt greatest_mismatch) (numbers_at l h))

  pub is_loose : (row m : ℕ) → Some row ≡ first_place (λ l. nat_lt greatest_mismatch (number_at ms l)) (length ms)
      → row < v.size → m ≡ number_at ms row → certificate_of v x c ≡ Err (loose row m)
  unfolding certificate_of
  is_loose row m f l e = ap (unless_loose v x c) (sym (f ∙ loose_same)) ∙ ap (λ n. Err (loose row n)) (sym (e ∙ numbers_at row l))

  module _ (tight : None ≡ first_place (λ l. nat_lt greatest_mismatch (number_at ms l)) (length ms)) where
    pub is_uncertain : (place : ℕ) (sum : Option ℤ)
        → refusal v.size (entry c) (jacobian_entry v x) (slope_radius v x) (weight_at v x) (mismatch_at v x) ≡ Some (place, sum)
        → certificate_of v x c ≡ Err (uncertain place sum)
    unfolding certificate_of
    is_uncertain place sum e = ap (unless_loose v x c) (sym (tight ∙ loose_same)) ∙ ap (unless_uncertain v x c) e

    pub is_certified : (m : Claim)
        → refusal v.size (entry c) (jacobian_entry v x) (slope_radius v x) (weight_at v x) (mismatch_at v x) ≡ None
        → m ≡ claim_of v x c → certificate_of v x c ≡ Ok m
    unfolding certificate_of
    is_certified m e f = ap (unless_loose v x c) (sym (tight ∙ loose_same)) ∙ ap (unless_uncertain v x c) e ∙ ap Ok (sym f)

  pub radii_are : (rs : List ℕ) → rs ≡ list_of v.size (radius_in v x c (mismatches_of v x))
      → rs ≡ radii_of v x c (mismatches_of v x)
  unfolding radii_of
  radii_are rs e = e

pub sizes_are : (v : NetworkView) (x : List ℤ) (ms : List ℕ) (rows : List Bounds) → rows ≡ interval_residual_of v x
    → ms ≡ map (λ a. mismatch_size (greater_size a)) rows → ms ≡ mismatches_of v x
unfolding mismatches_of
sizes_are v x ms rows e f =
    f ∙ ap (map (λ a. mismatch_size (greater_size a))) e
    ∙ list_of-ext (map (λ a. mismatch_size (greater_size a)) (interval_residual_of v x)) v.size (mismatch_at v x) 0
    (length-map (interval_residual_of v x) (λ a. mismatch_size (greater_size a))
    ∙ length-list_of v.size (residual_interval v.stamp x))
    (λ i h. get_or-map (λ a. mismatch_size (greater_size a)) (interval_residual_of v x) i None 0
    (subst (λ n. i < n) (sym (length-list_of v.size (residual_interval v.stamp x))) h)
    ∙ ap (λ a. mismatch_size (greater_size a)) (get_or-list_of v.size (residual_interval v.stamp x) i None h))

-- the lists of a certified state, as the claims name them
pub claim_is : (v : NetworkView) (x : List ℤ) (c : List (List ℤ)) (m : Claim) (rs ms bs : List ℕ)
    → m ≡ record { centre = x; radii = rs; mismatches = ms; boxes = bs; support = by_inverse c } → ms ≡ mismatches_of v x
    → bs ≡ boxes_of v x → rs ≡ list_of v.size (radius_in v x c (mismatches_of v x)) → m ≡ claim_of v x c
claim_is v x c m rs ms bs e f g h = e ∙ (λ i. record { centre = x; radii = radii_are v x c ms f rs h i; mismatches = f i; boxes = g i; support = by_inverse c })

pub tried_is : (v : NetworkView) (x : List ℤ) (c : List (List ℤ)) (m : Claim) (rs ms bs : List ℕ)
    → m ≡ record { centre = x; radii = rs; mismatches = ms; boxes = bs; support = by_inverse c } → ms ≡ mismatches_of v x
    → bs ≡ boxes_of v x → rs ≡ list_of v.size (λ _. 0) → m ≡ tried_claim v x c
tried_is v x c m rs ms bs e f g h = e ∙ (λ i. record { centre = x; radii = h i; mismatches = f i; boxes = g i; support = by_inverse c })

pub zeros_are : (n m : ℕ) (rs : List ℕ) → rs ≡ replicate m 0 → m ≡ n → rs ≡ list_of n (λ _. 0)
zeros_are n m rs e f =
    list_of-ext rs n (λ _. 0) 0 (ap length e ∙ length-replicate m 0 ∙ f)
    (λ i l. ap (λ xs. number_at xs i) e ∙ get_or-replicate m i 0 0 (omega arith))
