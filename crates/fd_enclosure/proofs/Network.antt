-- The change of a network's rows in the box.
use Rattle.std.proofs.Common.{◌≡◌, ◌≢◌, ℕ, ◌+◌, ◌*◌, ◌<◌, ◌≤◌, ◌^◌, ℤ, pos, ◌+ℤ◌, nat_abs, nat_lt, Bool, true, false, cond, List, [], ◌∷◌, Option, Some, None, IfSome, is_some, arith}
use Rattle.std.specs.List.{All}
use Rattle.std.specs.Int.RustNames.{unsigned_abs}
use Rattle.std.proofs.lemmas.Bool.{le-ltb, lt-ltb}
use Rattle.std.proofs.lemmas.Int.{ints}
use Rattle.std.proofs.lemmas.List.Elements.{All-cons, All-head, All-nil, All-tail, All-weaker}
use Rattle.fd_equations.specs.fd_exact.Fractions.{◌⊕◌}
use Rattle.fd_equations.specs.fd_exact.States.{State, away}
use Rattle.fd_equations.specs.fd_exact.Sums.{list_n, list_z, sum_of}
use Rattle.fd_slope.specs.fd_arith.declared.terms.NodeAt.{NodeAt}
use Rattle.fd_slope.specs.fd_arith.declared.terms.NodeAt.TheVariants as at
use Rattle.fd_slope.specs.fd_arith.declared.terms.Term.{Term}
use Rattle.fd_slope.specs.fd_arith.declared.terms.LoadModel.{LoadModel}
use Rattle.fd_slope.specs.fd_arith.LoadModels.{has_magnitude, is_linear}
use Rattle.fd_slope.specs.fd_system.declared.loads.LoadAt.{LoadAt}
use Rattle.fd_slope.specs.fd_system.Contributions.{row_sum}
use Rattle.fd_slope.specs.fd_system.Equations.{equation}
use Rattle.fd_slope.specs.fd_system.Residual.{IsPlace, whole_state}
use Rattle.fd_slope.specs.fd_system.System.{constant_given, nonlinear_of, residual_of}
use Rattle.fd_slope.specs.Changes as slope
use Rattle.fd_slope.specs.Changes.{IsInBox, RowsFollow, im_away, im_width, magnitude_away, magnitude_width, radii_in, re_away, re_width}
use Rattle.fd_equations.specs.fd_pattern.declared.layout.PlaceKind.TheVariants.{Branch, Magnitude, Node}
use Rattle.fd_equations.specs.fd_pattern.Coefficients.{count_at, linear_entry}
use Rattle.fd_equations.specs.fd_pattern.Conditions.{HasMagnitude, IsAmong, IsLinear, IsNetwork, IsServed}
use Rattle.fd_equations.specs.PartLoads.{load_entry, slope_counts, slope_sum, slopes_there}
use Rattle.fd_equations.specs.Rounded.{jacobian_entry}
use Rattle.fd_equations.specs.fd_pattern.Views.{NetworkView}
use Rattle.fd_enclosure.specs.Boxes.{IsInPart, part_width}
use Rattle.fd_enclosure.specs.Encloses.{ChangeLaw, IsImpedance}
use Rattle.fd_enclosure.specs.Radii.{load_radius, part_radius}
use Rattle.fd_enclosure.proofs.Contributions.{terms_near}
use Rattle.fd_enclosure.proofs.Loads.{load_near, loads_near}
use Rattle.fd_enclosure.proofs.Rows.{RowNear, row_more, row_plus, row_still}

-- ---- the unknowns of a part load are in the box

not_branch : (s t : Bool) → (s ≡ true) → cond s Node (cond t Branch Magnitude) ≢ Branch
not_branch true t h e = let no : ⊥ = cc in absurd no
not_branch false t h e = let no : ⊥ = cc in absurd no

not_branch_either : (s t : Bool) → (s ≡ false) → (t ≡ false) → cond s Node (cond t Branch Magnitude) ≢ Branch
not_branch_either true t h g e = let no : ⊥ = cc in absurd no
not_branch_either false true h g e = let no : ⊥ = cc in absurd no
not_branch_either false false h g e = let no : ⊥ = cc in absurd no

module _ (parts : ℕ) (v : NetworkView) (c : List ℤ) (x : State) (net : IsNetwork v) (box : IsInPart parts v c x) where
  node_in : (place : ℕ) → place < 2 * v.nodes → nat_abs (away c x place) ≤ x.over * part_width parts v c place
  node_in place h =
      let nodes = net.nodes in
      let size = net.unknowns in
      box place (omega arith) (not_branch (nat_lt place (2 * v.nodes)) (nat_lt place (2 * v.complexes)) (lt-ltb place (2 * v.nodes) h))

  magnitude_in : (place : ℕ) → 2 * v.complexes ≤ place → place < v.size
      → nat_abs (away c x place) ≤ x.over * part_width parts v c place
  magnitude_in place h g =
      let nodes = net.nodes in
      box place g (not_branch_either (nat_lt place (2 * v.nodes)) (nat_lt place (2 * v.complexes))
      (le-ltb place (2 * v.nodes) (omega arith)) (le-ltb place (2 * v.complexes) h))

  re_in : (node : NodeAt) → IsAmong v.nodes node → nat_abs (re_away c x node) ≤ x.over * re_width (part_width parts v c) node
  re_in at.Ground h = omega arith
  re_in (at.Node k) h = node_in (2 * k) (omega arith)

  im_in : (node : NodeAt) → IsAmong v.nodes node → nat_abs (im_away c x node) ≤ x.over * im_width (part_width parts v c) node
  im_in at.Ground h = omega arith
  im_in (at.Node k) h = node_in (2 * k + 1) (omega arith)

  own_in : (model : LoadModel) (place : Option ℕ) → HasMagnitude v.complexes v.size model place
      → nat_abs (magnitude_away c x place) ≤ x.over * magnitude_width (part_width parts v c) place
  own_in model None h = omega arith
  own_in model (Some k) h = magnitude_in k h.1.0 h.1.1

  load_in : (u : LoadAt) → IsServed v.nodes v.complexes v.size u → IsInBox (part_width parts v c) c x u
  load_in u s = record {
    first_re = re_in u.first s.first;
    first_im = im_in u.first s.first;
    second_re = re_in u.second s.second;
    second_im = im_in u.second s.second;
    magnitude = own_in u.load.model u.magnitude s.magnitude;
  }

-- ---- where they stand

node_inside : (v : NetworkView) → IsNetwork v → (node : NodeAt) → IsAmong v.nodes node → IsPlace v.size node
node_inside v net at.Ground h = tt
node_inside v net (at.Node k) h =
    let nodes = net.nodes in
    let size = net.unknowns in
    let small = net.small in
    (omega arith, omega arith)

magnitude_inside : (n size : ℕ) (model : LoadModel) (place : Option ℕ) → HasMagnitude n size model place
    → IfSome place (λ k. k < size)
magnitude_inside n size model None h = tt
magnitude_inside n size model (Some k) h = h.1.1

own_model : (n size : ℕ) (model : LoadModel) (place : Option ℕ) → HasMagnitude n size model place → is_some place ≡ true
    → has_magnitude model ≡ true
own_model n size model None h e = let no : ⊥ = cc in absurd no
own_model n size model (Some k) h e = h.0

den_positive : (size : ℕ) (t : Term) → IsLinear size t → (0 < unsigned_abs t.den) × (t.col < size)
den_positive size t h = let p = h.term.positive in (omega (arith, ints), h.term.col)

-- ---- the rows

sum_three : (a b : ℤ) → ((pos 0 +ℤ a) +ℤ b) ≡ (a +ℤ b)
sum_three a b = omega (arith, ints)

radius_three : (a b r : ℕ) → (0 + 4 * a) + (r + 4 * b) ≤ r + 4 * (a + b)
radius_three a b r = omega arith

-- the network's row l at the state x follows the Jacobian at the centre c
abbrev pub RowFollows : ℕ → NetworkView → List ℤ → State → ℕ → Type 0
RowFollows parts v c x l =
    RowNear (away c x) v.size (x.over * 2 ^ 40) (residual_of v.stamp x l) (residual_of v.stamp (whole_state c) l)
    (λ j. jacobian_entry v c l j) (λ j. part_radius parts v c l j)

-- a part load whose rows follow its slopes; one of constant impedance has none beside the contributions
abbrev pub LoadFollows : ℕ → NetworkView → List ℤ → State → LoadAt → Type 0
LoadFollows parts v c x u = IsServed v.nodes v.complexes v.size u × (is_linear u.load.model ≡ false → RowsFollow (part_width parts v c) c x u)

pub row_follows : (parts : ℕ) (v : NetworkView) (c : List ℤ) (x : State) (l : ℕ) → IsNetwork v
    → All (LoadFollows parts v c x) v.stamp.loads → RowFollows parts v c x l
unfolding part_radius
row_follows parts v c x l net all =
    let us = v.stamp.loads in
    let ts = v.stamp.terms in
    let y = away c x in
    let n = v.size in
    let k = x.over * 2 ^ 40 in
    let half = part_width parts v c in
    let Ju : ℕ → ℤ = λ j. list_z (λ u. load_entry u (slopes_there c u) l j) us in
    let Ru : ℕ → ℕ = λ j. list_n (λ u. load_radius u (radii_in half c u) l j) us + 4 * slope_counts us l j in
    let a = sum_of (constant_given l) v.stamp.constants in
    let b = row_sum l ts x in
    let b0 = row_sum l ts (whole_state c) in
    let d = equation l (nonlinear_of us x) in
    let d0 = equation l (nonlinear_of us (whole_state c)) in
    let A = row_still y n k a in
    let B = terms_near c x n l ts net.terms.each (den_positive n) in
    let D = loads_near half c x n l (LoadFollows parts v c x) us all (λ u h.
    let s = h.0 in
    load_near half c x n l u (node_inside v net u.first s.first) (node_inside v net u.second s.second)
    (magnitude_inside v.complexes n u.load.model u.magnitude s.magnitude)
    (own_model v.complexes n u.load.model u.magnitude s.magnitude) h.1) in
    let linear = row_plus y n k a a b b0 (λ j. pos 0) (λ j. linear_entry ts l j) (λ j. 0) (λ j. 4 * count_at ts l j) A B in
    row_more y n k (residual_of v.stamp x l) (residual_of v.stamp (whole_state c) l)
    (λ j. (pos 0 +ℤ linear_entry ts l j) +ℤ Ju j) (λ j. jacobian_entry v c l j) (λ j. (0 + 4 * count_at ts l j) + Ru j) (λ j. part_radius parts v c l j)
    (λ j p. sum_three (linear_entry ts l j) (slope_sum us c l j))
    (λ j p. radius_three (count_at ts l j) (slope_counts us l j) (list_n (λ u. load_radius u (radii_in half c u) l j) us))
    (row_plus y n k (a ⊕ b) (a ⊕ b0) d d0 (λ j. pos 0 +ℤ linear_entry ts l j) Ju (λ j. 0 + 4 * count_at ts l j) Ru linear D)

-- in the box each part load follows
pub network_changes : slope.ChangeLaw → ChangeLaw
network_changes follow v parts c x l net long over box inside =
    row_follows parts v c x l net (All-weaker (IsServed v.nodes v.complexes v.size) (LoadFollows parts v c x) (λ u s. (
      s,
      λ e. follow (part_width parts v c) c x u s.phase e over (load_in parts v c x net box u s),
    )) v.stamp.loads net.loads)

-- where each is of constant impedance they follow everywhere
impedances : (parts : ℕ) (v : NetworkView) (c : List ℤ) (x : State) (us : List LoadAt)
    → All (IsServed v.nodes v.complexes v.size) us → All IsImpedance us → All (LoadFollows parts v c x) us
impedances parts v c x [] h g = All-nil (LoadFollows parts v c x)
impedances parts v c x (u ∷ us) h g =
    let linear : is_linear u.load.model ≡ true = All-head IsImpedance u us g in
    All-cons (LoadFollows parts v c x) u us (All-head (IsServed v.nodes v.complexes v.size) u us h, λ e. let no : ⊥ = cc in absurd no)
    (impedances parts v c x us (All-tail (IsServed v.nodes v.complexes v.size) u us h) (All-tail IsImpedance u us g))

pub linear_changes : (parts : ℕ) (v : NetworkView) (c : List ℤ) (x : State) (l : ℕ) → IsNetwork v → All IsImpedance v.stamp.loads
    → RowFollows parts v c x l
linear_changes parts v c x l net all = row_follows parts v c x l net (impedances parts v c x v.stamp.loads net.loads all)
