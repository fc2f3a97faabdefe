-- A network's rows: the residual in intervals, the rounded one, the matrices and the weights.
use Rattle.std.proofs.Common.{◌≡◌, ◌∙◌, ℕ, suc, ◌+◌, ◌*◌, ◌/◌, ◌<◌, ◌≤◌, ◌^◌, max, ℤ, pos, neg_ℤ, ◌+ℤ◌, ◌*ℤ◌, ◌≤ℤ◌, nat_abs, Bool, true, false, cond, eqb, List, [], ◌∷◌, length, get_or, None, arith, ap, sym, subst, lit≤, inl, inr}
use Rattle.std.specs.List.{fold, All}
use Rattle.std.proofs.Math.Nat.{mul-le-mul_right}
use Rattle.std.proofs.lemmas.Int.{ints}
use Rattle.std.proofs.lemmas.Bool.{cases_lt}
use Rattle.std.proofs.lemmas.List.{get_or_past}
use Rattle.std.proofs.lemmas.List.Elements.{All-head, All-tail, All-weaker, All-get_or}
use Rattle.fd_mat.specs.fd_exact.States.{part}
use Rattle.fd_mat.specs.fd_exact.Sums.{sum_z}
use Rattle.fd_mat.specs.fd_exact.SumLaws.{abs_sum, sum_n-bound}
use Rattle.fd_pattern.specs.fd_arith.Interval.{Bounds, Holds}
use Rattle.fd_pattern.specs.fd_arith.LoadModels.{is_linear}
use Rattle.fd_pattern.specs.fd_arith.declared.terms.Term.{Term}
use Rattle.fd_pattern.specs.fd_system.declared.constants.Constant.{Constant}
use Rattle.fd_pattern.specs.fd_system.declared.loads.LoadAt.{LoadAt}
use Rattle.fd_pattern.specs.fd_system.Contributions.{AreSmall}
use Rattle.fd_pattern.specs.fd_system.System.{nonlinear_of, residual_of}
use Rattle.fd_pattern.specs.fd_system.Residual.{HasDen, IsConstant, IsTerm, linear_interval, residual_interval, whole_state, with_part}
use Rattle.fd_pattern.proofs.CallerLemmas.fd_system.{residual_holds}
use Rattle.fd_pattern.specs.Coefficients.{linear_entry, row_count}
use Rattle.fd_pattern.specs.Conditions.{AreKnown, IsKnown, IsLinear, IsNetwork, IsPart, IsPoint, magnitude_count}
use Rattle.fd_equations.specs.Enclosure.{EndsWithin, addend_count, interval_residual_of, summand_count}
use Rattle.fd_equations.specs.PartLoads.{current_count, current_counts, load_current_count, load_current_counts, loads_row}
use Rattle.fd_equations.specs.Rounded.{constant_sum, constants_of, entry_product, linear_residual_of, list_of, products_added, rounded_residual_of, rounded_row}
use Rattle.fd_pattern.specs.declared.layout.PlaceKind.{PlaceKind}
use Rattle.fd_pattern.specs.declared.layout.PlaceKind.TheVariants.{Node, Branch, Magnitude}
use Rattle.fd_pattern.specs.Views.{NetworkView, kind_of}
use Rattle.fd_equations.specs.Weights.{weight_at, weight_by, weights_of}
use Rattle.fd_pattern.specs.Terminals.{IsConnected, count_magnitude, count_node, count_terminal}
use Rattle.fd_pattern.proofs.CallerLemmas.{all_connected}
use Rattle.fd_equations.proofs.DrawnIntervals.{loads_positive, narrow_loads}
use Rattle.fd_equations.proofs.LoadSums.{rows_small}
use Rattle.fd_equations.proofs.Lists.{get_or-list_of, length-list_of, list_of-ext, part-list_of-small}
use Rattle.fd_equations.proofs.Sizes.{near_size, part_size, product_size, small_size}
use Rattle.fd_equations.proofs.Widths.{Narrow, ends_within, narrow_row, wider}

-- ---- the residual in intervals

den_positive : (size : ℕ) (t : Term) → IsLinear size t → HasDen t
den_positive size t h = let p = h.term.positive in omega (arith, ints)

-- beside its currents a part load has at most the row of its magnitude
with_magnitude : (l : ℕ) (u : LoadAt) → current_count l u ≤ load_current_count l u + count_magnitude l u.magnitude
unfolding current_count load_current_count count_terminal
with_magnitude l u = by_model (is_linear u.load.model)
  where
    by_model : (b : Bool)
        → cond b 0 ((count_node l u.first + count_node l u.second) + count_magnitude l u.magnitude)
        ≤ cond b 0 (count_node l u.first + count_node l u.second) + count_magnitude l u.magnitude
    by_model true = omega arith
    by_model false = omega arith

with_magnitudes : (l : ℕ) (us : List LoadAt) → current_counts us l ≤ load_current_counts us l + magnitude_count us l
with_magnitudes l [] = omega arith
with_magnitudes l (u ∷ us) = omega (arith, with_magnitude l u, with_magnitudes l us)

complexes_inside : (v : NetworkView) → IsNetwork v → 2 * v.complexes ≤ v.size
complexes_inside v n = let u = n.unknowns in omega arith

module _ (v : NetworkView) (x : List ℤ) (n : IsNetwork v) (p : IsPoint v x) where
  pub loads_inside : All (IsConnected (length x)) v.stamp.loads
  loads_inside =
      subst (λ k. All (IsConnected k) v.stamp.loads) (sym p.long)
      (all_connected v.nodes v.complexes v.size v.stamp.loads n.nodes (complexes_inside v n) n.small n.loads)

  -- the linear rows, with what the part loads add
  pub rows_done : (linear rows : List Bounds)
      → linear ≡ list_of v.size (linear_interval v.stamp.constants v.stamp.terms x) → length rows ≡ length linear
      → ((l : ℕ) → l < length linear
      → get_or rows l None ≡ fold (with_part l) (get_or linear l None) (nonlinear_of v.stamp.loads (whole_state x)))
      → rows ≡ interval_residual_of v x
  rows_done linear rows e long grown =
      let size = ap length e ∙ length-list_of v.size (linear_interval v.stamp.constants v.stamp.terms x) in
      list_of-ext rows v.size (residual_interval v.stamp x) None (long ∙ size) (λ l h.
      grown l (subst (λ k. l < k) (sym size) h)
      ∙ ap (λ a. fold (with_part l) a (nonlinear_of v.stamp.loads (whole_state x))) (ap (λ rs. get_or rs l None) e
      ∙ get_or-list_of v.size (linear_interval v.stamp.constants v.stamp.terms x) l None h))

  pub row_holds : (rows : List Bounds) → rows ≡ interval_residual_of v x → (l : ℕ) → l < v.size
      → Holds (get_or rows l None) (residual_of v.stamp (whole_state x) l)
  row_holds rows e l h =
      let dens = All-weaker (IsLinear v.size) HasDen (den_positive v.size) v.stamp.terms n.terms.each in
      let parts = loads_positive l v.stamp.loads x loads_inside in
      let is = ap (λ rs. get_or rs l None) e ∙ get_or-list_of v.size (residual_interval v.stamp x) l None h in
      subst (λ a. Holds a (residual_of v.stamp (whole_state x) l)) (sym is) (residual_holds v.stamp x l dens parts)

  row_narrow : (l : ℕ) → Narrow (residual_interval v.stamp x l) (2 * summand_count v.stamp l) (2 ^ 100)
  row_narrow l =
      let linear = narrow_row v.size l x v.stamp.constants v.stamp.terms p.long p.parts n.constants n.few_constants n.terms.each n.terms.few in
      let few = n.few_loads in
      let all = narrow_loads l (linear_interval v.stamp.constants v.stamp.terms x l) v.stamp.loads x
      (2 * row_count v.stamp.terms l) (2 ^ 85) p.parts loads_inside (omega arith) linear in
      wider (residual_interval v.stamp x l) (2 * row_count v.stamp.terms l + current_counts v.stamp.loads l)
      (2 * (row_count v.stamp.terms l + current_counts v.stamp.loads l))
      (2 ^ 85 + length v.stamp.loads * (3 * 2 ^ 63)) (2 ^ 100) (omega arith) (omega arith) all

  pub row_near : (rows : List Bounds) → rows ≡ interval_residual_of v x → (l : ℕ) → l < v.size
      → EndsWithin (get_or rows l None) (residual_of v.stamp (whole_state x) l) (2 * summand_count v.stamp l)
  row_near rows e l h =
      let is = ap (λ rs. get_or rs l None) e ∙ get_or-list_of v.size (residual_interval v.stamp x) l None h in
      let holds = subst (λ a. Holds a (residual_of v.stamp (whole_state x) l)) is (row_holds rows e l h) in
      subst (λ a. EndsWithin a (residual_of v.stamp (whole_state x) l) (2 * summand_count v.stamp l)) (sym is)
      (ends_within (residual_interval v.stamp x l) (2 * summand_count v.stamp l) (2 ^ 100)
      (residual_of v.stamp (whole_state x) l) (row_narrow l) holds)

  -- the same by contributions and load currents alone: at most one magnitude row stands in a row
  pub row_tie : (rows : List Bounds) → rows ≡ interval_residual_of v x → (l : ℕ) → l < v.size
      → EndsWithin (get_or rows l None) (residual_of v.stamp (whole_state x) l) (4 * addend_count v.stamp l + 4)
  row_tie rows e l h =
      let is = ap (λ rs. get_or rs l None) e ∙ get_or-list_of v.size (residual_interval v.stamp x) l None h in
      let holds = subst (λ a. Holds a (residual_of v.stamp (whole_state x) l)) is (row_holds rows e l h) in
      let narrow =
      wider (residual_interval v.stamp x l) (2 * summand_count v.stamp l) (4 * addend_count v.stamp l + 4) (2 ^ 100)
      (2 ^ 100) (omega (arith, with_magnitudes l v.stamp.loads, n.apart l)) (lit≤ tt) (row_narrow l) in
      subst (λ a. EndsWithin a (residual_of v.stamp (whole_state x) l) (4 * addend_count v.stamp l + 4)) (sym is)
      (ends_within (residual_interval v.stamp x l) (4 * addend_count v.stamp l + 4) (2 ^ 100)
      (residual_of v.stamp (whole_state x) l) narrow holds)

  pub constants_inside : All (IsConstant (length x)) v.stamp.constants
  constants_inside = All-weaker (IsKnown v.size) (IsConstant (length x)) (λ c h. subst (λ k. c.row < k) (sym p.long) h.row) v.stamp.constants n.constants

  pub terms_inside : All (IsTerm (length x)) v.stamp.terms
  terms_inside = All-weaker (IsLinear v.size) (IsTerm (length x)) (λ t h. subst (λ k. IsTerm k t) (sym p.long) h.term) v.stamp.terms n.terms.each

-- ---- sums of constants

known_size : (v : ℤ) → neg_ℤ (pos (2 ^ 60)) ≤ℤ v → v ≤ℤ pos (2 ^ 60) → nat_abs v ≤ 2 ^ 60
known_size v p q = omega (arith, ints)

sum_size : (size : ℕ) (cs : List Constant) (row : ℕ) → All (IsKnown size) cs → nat_abs (constant_sum cs row) ≤ length cs * 2 ^ 60
sum_size size [] row h = lit≤ tt
sum_size size (c ∷ cs) row h =
    by_test (eqb c.row row) (sum_size size cs row (All-tail (IsKnown size) c cs h))
    (let k = All-head (IsKnown size) c cs h in known_size c.value k.least k.most)
  where
    by_test : (b : Bool) → nat_abs (constant_sum cs row) ≤ length cs * 2 ^ 60 → nat_abs c.value ≤ 2 ^ 60
        → nat_abs (cond b c.value (pos 0) +ℤ constant_sum cs row) ≤ suc (length cs) * 2 ^ 60
    by_test true e w = omega (arith, ints)
    by_test false e w = omega (arith, ints)

pub constants_small : (v : NetworkView) → IsNetwork v → (rows : List ℤ) → rows ≡ constants_of v → AreKnown rows
constants_small v n rows e = λ row.
    subst (λ rs. nat_abs (part rs row) ≤ 2 ^ 84) (sym e)
    (part-list_of-small v.size (constant_sum v.stamp.constants) (2 ^ 84)
    (λ i l. let s = sum_size v.size v.stamp.constants i n.constants in let few = n.few_constants in omega arith) row)

-- ---- products

row_size : (at : ℕ → ℕ → ℤ) (x : List ℤ) (row n : ℕ) → n ≤ 2 ^ 11 → length x ≡ n → All IsPart x
    → ((row col : ℕ) → AreSmall (at row col)) → nat_abs (sum_z (entry_product at x row) n) ≤ 2 ^ 65
row_size at x row n few long parts small =
    let each : (k : ℕ) → k < n → nat_abs (entry_product at x row k) ≤ 2 ^ 54 = λ k l.
    near_size (at row k *ℤ part x k) (product_size (at row k) (part x k) (small_size (at row k) (small row k))
    (part_size (part x k) (All-get_or IsPart x k (pos 0) (subst (λ m. k < m) (sym long) l) parts))) in
    let a = abs_sum (entry_product at x row) n in
    let b = sum_n-bound (λ k. nat_abs (entry_product at x row k)) (2 ^ 54) n each in
    let c : n * 2 ^ 54 ≤ 2 ^ 11 * 2 ^ 54 = mul-le-mul_right (2 ^ 54) few in
    omega arith

-- a row of the rounded residual without the part loads
abbrev linear_row : NetworkView → List ℤ → ℕ → ℤ
linear_row v x row = constant_sum v.stamp.constants row +ℤ sum_z (entry_product (linear_entry v.stamp.terms) x row) v.size

pub linear_is : (v : NetworkView) (x rows : List ℤ) → rows ≡ constants_of v → products_added v.size (linear_entry v.stamp.terms) rows x ≡ linear_residual_of v x
linear_is v x rows e =
    list_of-ext (products_added v.size (linear_entry v.stamp.terms) rows x) v.size (linear_row v x) (pos 0)
    (length-list_of v.size _) (λ i l.
    get_or-list_of v.size (λ row. part rows row +ℤ sum_z (entry_product (linear_entry v.stamp.terms) x row) v.size) i
    (pos 0) l
    ∙ ap (λ z. z +ℤ sum_z (entry_product (linear_entry v.stamp.terms) x i) v.size)
    (ap (λ rs. part rs i) e ∙ get_or-list_of v.size (constant_sum v.stamp.constants) i (pos 0) l))

pub linear_small : (v : NetworkView) (x rows : List ℤ) → IsNetwork v → IsPoint v x → rows ≡ linear_residual_of v x → (l : ℕ) → nat_abs (part rows l) ≤ 2 ^ 85
linear_small v x rows n p e = λ row. subst (λ rs. nat_abs (part rs row) ≤ 2 ^ 85) (sym e) (part-list_of-small v.size (linear_row v x) (2 ^ 85) (λ i l.
    let s = sum_size v.size v.stamp.constants i n.constants in
    let few = n.few_constants in
    let r = row_size (linear_entry v.stamp.terms) x i v.size n.small p.long p.parts n.entries in
    both_small (constant_sum v.stamp.constants i) (sum_z (entry_product (linear_entry v.stamp.terms) x i) v.size) (length v.stamp.constants) s few r) row)
  where
    both_small : (a b : ℤ) (k : ℕ) → nat_abs a ≤ k * 2 ^ 60 → k < 2 ^ 24 → nat_abs b ≤ 2 ^ 65 → nat_abs (a +ℤ b) ≤ 2 ^ 85
    both_small a b k h few j = omega (arith, ints)

-- the rounded residual: the linear rows, with what the part loads add
module _ (v : NetworkView) (x linear rows : List ℤ) (e : linear ≡ linear_residual_of v x)
    (grown : (l : ℕ) → part rows l ≡ part linear l +ℤ loads_row v.stamp.loads x l) where
  pub rounded_is : length rows ≡ length linear → rows ≡ rounded_residual_of v x
  rounded_is long = list_of-ext rows v.size (rounded_row v x) (pos 0) (long ∙ ap length e ∙ length-list_of v.size (linear_row v x)) (λ l h.
      grown l ∙ ap (λ z. z +ℤ loads_row v.stamp.loads x l) (ap (λ rs. part rs l) e ∙ get_or-list_of v.size (linear_row v x) l (pos 0) h))

  pub rounded_small : IsNetwork v → IsPoint v x → ((l : ℕ) → nat_abs (part linear l) ≤ 2 ^ 85) → (l : ℕ) → nat_abs (part rows l) ≤ 2 ^ 86
  rounded_small n p small l =
      let few = n.few_loads in
      let all = rows_small x l v.stamp.loads p.parts (loads_inside v x n p) in
      rw (grown l) (sum (part linear l) (loads_row v.stamp.loads x l) (small l) (omega arith))
    where
      sum : (a b : ℤ) → nat_abs a ≤ 2 ^ 85 → nat_abs b ≤ 2 ^ 85 → nat_abs (a +ℤ b) ≤ 2 ^ 86
      sum a b h k = omega (arith, ints)

-- ---- weights

part_small : (x : List ℤ) (i : ℕ) → All IsPart x → nat_abs (part x i) ≤ 2 ^ 40
part_small x i h = elim (cases_lt i (length x)) [
  | inl l ↦ part_size (part x i) (All-get_or IsPart x i (pos 0) l h)
  | inr ge ↦ subst (λ z. nat_abs z ≤ 2 ^ 40) (sym (get_or_past x i (pos 0) ge)) (lit≤ tt)
]

pub weight_range : (k : PlaceKind) (draw : ℕ) (x : List ℤ) (place : ℕ) → 16 * draw + 10 ^ 6 ≤ 2 ^ 65 → All IsPart x
    → (10 ^ 6 ≤ weight_by k draw x place) × (weight_by k draw x place ≤ 2 ^ 66)
weight_range Node draw x place d h =
    let a = part_small x (2 * (place / 2)) h in
    let b = part_small x (2 * (place / 2) + 1) h in
    both_in (nat_abs (part x (2 * (place / 2)))) (nat_abs (part x (2 * (place / 2) + 1))) a b
  where
    both_in : (a b : ℕ) → a ≤ 2 ^ 40 → b ≤ 2 ^ 40 → (10 ^ 6 ≤ max (10 ^ 6) (a + b)) × (max (10 ^ 6) (a + b) ≤ 2 ^ 66)
    both_in a b p q = (omega arith, omega arith)
weight_range Branch draw x place d h = (omega arith, omega arith)
weight_range Magnitude draw x place d h = one_in (nat_abs (part x place)) (part_small x place h)
  where
    one_in : (a : ℕ) → a ≤ 2 ^ 40 → (10 ^ 6 ≤ max (10 ^ 6) a) × (max (10 ^ 6) a ≤ 2 ^ 66)
    one_in a p = (omega arith, omega arith)

pub weights_range : (v : NetworkView) (x ws : List ℤ) → IsNetwork v → IsPoint v x → ws ≡ weights_of v x → (l : ℕ)
    → l < v.size → (pos (10 ^ 6) ≤ℤ part ws l) × (part ws l ≤ℤ pos (2 ^ 66))
weights_range v x ws n p e l h =
    let is = ap (λ xs. part xs l) e ∙ get_or-list_of v.size (λ place. pos (weight_at v x place)) l (pos 0) h in
    let r = weight_range (kind_of v l) v.stamp.draw x l n.draw p.parts in (
      subst (λ z. pos (10 ^ 6) ≤ℤ z) (sym is) (raised (10 ^ 6) (weight_at v x l) r.0),
      subst (λ z. z ≤ℤ pos (2 ^ 66)) (sym is) (raised (weight_at v x l) (2 ^ 66) r.1),
    )
  where
    raised : (a b : ℕ) → a ≤ b → pos a ≤ℤ pos b
    raised a b h = omega (arith, ints)
