-- The sum of the contributions at a place is small where it is small at each place of a contribution.
use Rattle.std.proofs.Common.{◌≡◌, ℕ, inl, inr, ◌⊎◌, pos, ◌+ℤ◌, Bool, true, false, cond, eqb, List, [], ◌∷◌, map, sym, refl, subst, ⊎_elim}
use Rattle.std.specs.List.{All, flat_map}
use Rattle.std.proofs.lemmas.Bool.{and_parts, eqb-true}
use Rattle.std.proofs.lemmas.List.Elements.{All-nil, All-cons, All-append, All-head, All-tail}
use Rattle.std.proofs.lemmas.List.Sums.{AllPass-from_list_all, list_all-from_AllPass}
use Rattle.dss_ready.specs.fd_arith.declared.terms.Term.{Term}
use Rattle.fd_devices.specs.fd_system.Contributions.{AreSmall, are_small, term_units}
use Rattle.fd_devices.specs.fd_system.System.{StampView}
use Rattle.fd_equations.specs.fd_pattern.Coefficients.{linear_entry, stands_at}
use Rattle.fd_devices.specs.Building.{HasSmallSums}
use Rattle.fd_devices.specs.Devices.{Device, device_stamp, stamp_of_all}

abbrev pub IsSmallAt : List Term → Term → Type 0
IsSmallAt all t = AreSmall (linear_entry all t.row t.col)

-- a place without a contribution has the sum 0
sum_at : (all : List Term) (row col : ℕ) (ts : List Term) → All (IsSmallAt all) ts → (linear_entry ts row col ≡ pos 0) ⊎ AreSmall (linear_entry all row col)
sum_at all row col [] h = inl refl
sum_at all row col (t ∷ ts) h = by (stands_at row col t) refl (sum_at all row col ts (All-tail (IsSmallAt all) t ts h))
  where
    by : (b : Bool) → stands_at row col t ≡ b
        → (linear_entry ts row col ≡ pos 0) ⊎ AreSmall (linear_entry all row col)
        → (linear_entry (t ∷ ts) row col ≡ pos 0) ⊎ AreSmall (linear_entry all row col)
    by true e (inr small) = inr small
    by true e (inl zero) =
        let both = and_parts (eqb t.row row) (eqb t.col col) e in
        let r = eqb-true t.row row both.0 in
        let c = eqb-true t.col col both.1 in
        inr (subst AreSmall (λ i. linear_entry all (r i) (c i)) (All-head (IsSmallAt all) t ts h))
    by false e (inr small) = inr small
    by false e (inl zero) = inl (λ i. cond (e i) (term_units t) (pos 0) +ℤ zero i)

pub each_sum_small : (all : List Term) → All (IsSmallAt all) all → (row col : ℕ) → AreSmall (linear_entry all row col)
each_sum_small all h row col = ⊎_elim (λ e. subst AreSmall (sym e) refl) (λ s. s) (sum_at all row col all h)

-- what the test of a device says of its contributions
pub small_at : (all : List Term) (d : Device) → HasSmallSums all d → All (IsSmallAt all) (device_stamp d).terms
small_at all d = AllPass-from_list_all (λ t. are_small (linear_entry all t.row t.col)) (device_stamp d).terms

pub at_small : (all : List Term) (d : Device) → All (IsSmallAt all) (device_stamp d).terms → HasSmallSums all d
at_small all d = list_all-from_AllPass (λ t. are_small (linear_entry all t.row t.col)) (device_stamp d).terms

all_terms : (all : List Term) (ds : List Device) → All (HasSmallSums all) ds → All (IsSmallAt all) (flat_map (λ (s : StampView). s.terms) (map device_stamp ds))
all_terms all [] h = All-nil (IsSmallAt all)
all_terms all (d ∷ ds) h =
    All-append (IsSmallAt all) (device_stamp d).terms (flat_map (λ (s : StampView). s.terms) (map device_stamp ds))
    (small_at all d (All-head (HasSmallSums all) d ds h)) (all_terms all ds (All-tail (HasSmallSums all) d ds h))

-- where each device has small sums at its places, the sum at each place is small
pub sums_small : (ds : List Device) → All (HasSmallSums (stamp_of_all ds).terms) ds → (row col : ℕ) → AreSmall (linear_entry (stamp_of_all ds).terms row col)
sums_small ds h = each_sum_small (stamp_of_all ds).terms (all_terms (stamp_of_all ds).terms ds h)

all_of : {A : Type 0} (P : A → Type 0) (xs : List A) → ((x : A) → P x) → All P xs
all_of P [] h = All-nil P
all_of P (x ∷ xs) h = All-cons P x xs (h x) (all_of P xs h)

-- where each sum is small, each device has small sums
pub small_at_devices : (all : List Term) (ds : List Device) → ((row col : ℕ) → AreSmall (linear_entry all row col)) → All (HasSmallSums all) ds
small_at_devices all ds h = all_of (HasSmallSums all) ds (λ d. at_small all d (all_of (IsSmallAt all) (device_stamp d).terms (λ t. h t.row t.col)))
