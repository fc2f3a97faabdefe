-- The change of part loads.
use Rattle.std.proofs.Common.{◌≡◌, ◌∙◌, ℕ, ◌+◌, ◌*◌, ◌<◌, ◌≤◌, ◌^◌, ℤ, pos, neg_ℤ, ◌+ℤ◌, ◌-ℤ◌, nat_abs, Bool, true, false, cond, eqb, List, [], ◌∷◌, Option, Some, None, IfSome, is_some, arith, ap, refl}
use Rattle.std.specs.List.{All, flat_map}
use Rattle.std.proofs.lemmas.Int.{ints}
use Rattle.fd_equations.specs.fd_exact.FractionLaws.{sum_of-append}
use Rattle.fd_equations.specs.fd_exact.Fractions.{Fraction, nothing, ◌⊕◌}
use Rattle.fd_equations.specs.fd_exact.States.{State, away}
use Rattle.fd_equations.specs.fd_exact.Sums.{list_n, list_z, sum_of}
use Rattle.fd_slope.specs.fd_arith.LoadModels.{has_magnitude, is_linear}
use Rattle.fd_slope.specs.fd_system.declared.loads.LoadAt.{LoadAt}
use Rattle.fd_slope.specs.fd_system.Complex.{negative}
use Rattle.fd_slope.specs.fd_system.Equations.{Part, equation, seen}
use Rattle.fd_slope.specs.fd_system.Loads.{im_of, load_current, load_parts, magnitude_of, magnitude_parts, magnitude_row, nonlinear_parts, re_of}
use Rattle.fd_slope.specs.fd_system.Residual.{IsPlace, whole_state}
use Rattle.fd_slope.specs.fd_system.System.{nonlinear_of}
use Rattle.fd_slope.specs.Changes.{RowsFollow, magnitude_value, radii_in, slopes_at}
use Rattle.fd_equations.specs.PartLoads.{load_entry, slope_count, slope_counts, slope_in, slopes_there}
use Rattle.fd_equations.specs.fd_pattern.Terminals.{at_magnitude, at_node, at_terminal, count_magnitude, count_node, count_terminal}
use Rattle.fd_enclosure.specs.Radii.{load_radius, radius_in, spread, spread_magnitude, spread_node}
use Rattle.fd_enclosure.proofs.Rows.{RowNear, row_list, row_more, row_plus, row_still}
use Rattle.fd_enclosure.proofs.Terminals.{BothNear, alone_near, both_negative, columns, side_near}

-- ---- what a row sees

-- parts of a list of loads, one load after another
pub equation_loads : (l : ℕ) (f : LoadAt → List Part) (us : List LoadAt)
    → equation l (flat_map f us) ≡ sum_of (λ u. equation l (f u)) us
equation_loads l f [] = refl
equation_loads l f (u ∷ us) = sum_of-append (seen l) (f u) (flat_map f us) ∙ ap (λ s. equation l (f u) ⊕ s) (equation_loads l f us)

module _ (box : ℕ → ℕ) (c : List ℤ) (x : State) (n l : ℕ) where
  abbrev Near_in : Fraction → Fraction → (ℕ → ℤ) → (ℕ → ℕ) → Type 0
  Near_in a b J R = RowNear (away c x) n (x.over * 2 ^ 40) a b J R

  -- ---- the row of a magnitude

  abbrev row_of_magnitude : LoadAt → State → Option ℕ → Fraction
  row_of_magnitude u s place =
      magnitude_row (nat_abs u.load.vn) (re_of s u.first -ℤ re_of s u.second) (im_of s u.first -ℤ im_of s u.second)
      (magnitude_of s place) s.over

  with_nothing : (t : Bool) (z : ℤ) → (cond t z (pos 0) +ℤ pos 0) ≡ cond t z (pos 0)
  with_nothing t z = omega (arith, ints)

  magnitude_near : (u : LoadAt) (place : Option ℕ) (J : ℕ → ℤ) (R ct : ℕ → ℕ)
      → (is_some place ≡ true
      → Near_in (row_of_magnitude u x place) (row_of_magnitude u (whole_state c) place) J (λ j. R j + 4 * ct j))
      → Near_in (sum_of (seen l) (magnitude_parts u x place))
      (sum_of (seen l) (magnitude_parts u (whole_state c) place)) (λ j. at_magnitude l place (J j))
      (λ j. spread_magnitude l place (R j) + 4 * (count_magnitude l place * ct j))
  magnitude_near u None J R ct h =
      row_more (away c x) n (x.over * 2 ^ 40) nothing nothing (λ j. pos 0) (λ j. pos 0) (λ j. 0)
      (λ j. 0 + 4 * (0 * ct j)) (λ j p. refl) (λ j p. omega arith) (row_still (away c x) n (x.over * 2 ^ 40) nothing)
  magnitude_near u (Some k) J R ct h =
      let a = row_of_magnitude u x (Some k) in
      let b = row_of_magnitude u (whole_state c) (Some k) in
      row_more (away c x) n (x.over * 2 ^ 40) (cond (eqb k l) a nothing ⊕ nothing)
      (cond (eqb k l) b nothing ⊕ nothing) (λ j. cond (eqb k l) (J j) (pos 0) +ℤ pos 0)
      (λ j. cond (eqb k l) (J j) (pos 0)) (λ j. (cond (eqb k l) (R j) 0 + 4 * (cond (eqb k l) 1 0 * ct j)) + 0)
      (λ j. cond (eqb k l) (R j) 0 + 4 * (cond (eqb k l) 1 0 * ct j))
      (λ j p. with_nothing (eqb k l) (J j)) (λ j p. omega arith)
      (row_plus (away c x) n (x.over * 2 ^ 40) (cond (eqb k l) a nothing) (cond (eqb k l) b nothing) nothing nothing
      (λ j. cond (eqb k l) (J j) (pos 0)) (λ j. pos 0) (λ j. cond (eqb k l) (R j) 0 + 4 * (cond (eqb k l) 1 0 * ct j))
      (λ j. 0) (alone_near (away c x) n (x.over * 2 ^ 40) (eqb k l) a b J R ct (h refl))
      (row_still (away c x) n (x.over * 2 ^ 40) nothing))

  -- ---- a part load whose rows follow its slopes

  three_z : (a b m : ℤ) → (a +ℤ (b +ℤ m)) ≡ ((a +ℤ b) +ℤ m)
  three_z a b m = omega (arith, ints)

  three_n : (a b m r s t k : ℕ)
      → (a + 4 * (r * k)) + ((b + 4 * (s * k)) + (m + 4 * (t * k))) ≤ ((a + b) + m) + 4 * (((r + s) + t) * k)
  three_n a b m r s t k = omega arith

  module _ (u : LoadAt) (first : IsPlace n u.first) (second : IsPlace n u.second)
      (third : IfSome u.magnitude (λ k. k < n)) (own : is_some u.magnitude ≡ true → has_magnitude u.load.model ≡ true) where
    abbrev ct : ℕ → ℕ
    ct j = count_terminal j u

    drawn_near : RowsFollow box c x u
        → Near_in (equation l (load_parts u x)) (equation l (load_parts u (whole_state c))) (λ j.
        at_terminal l u (slope_in j u (slopes_there c u).real) (slope_in j u (slopes_there c u).imaginary)
        (slope_in j u (slopes_there c u).magnitude))
        (λ j. spread l u (radius_in j u (radii_in box c u).real) (radius_in j u (radii_in box c u).imaginary)
        (radius_in j u (radii_in box c u).magnitude) + 4 * (count_terminal l u * count_terminal j u))
    unfolding at_terminal spread count_terminal slopes_there
    drawn_near f =
        let s = slopes_at c u in
        let r = radii_in box c u in
        let h = load_current u x in
        let g = load_current u (whole_state c) in
        let Jr : ℕ → ℤ = λ j. slope_in j u s.real in
        let Ji : ℕ → ℤ = λ j. slope_in j u s.imaginary in
        let Jm : ℕ → ℤ = λ j. slope_in j u s.magnitude in
        let Rr : ℕ → ℕ = λ j. radius_in j u r.real in
        let Ri : ℕ → ℕ = λ j. radius_in j u r.imaginary in
        let Rm : ℕ → ℕ = λ j. radius_in j u r.magnitude in
        let y = away c x in
        let k = x.over * 2 ^ 40 in
        let two : BothNear y n k h g Jr Ji Rr Ri ct = record {
          re = columns c x n u h.re g.re s.real r.real first second third f.real;
          im = columns c x n u h.im g.im s.imaginary r.imaginary first second third f.imaginary;
        } in
        let A = side_near y n k l u.first h g Jr Ji Rr Ri ct two in
        let B = side_near y n k l u.second (negative h) (negative g) (λ j. neg_ℤ (Jr j)) (λ j. neg_ℤ (Ji j)) Rr Ri ct
        (both_negative y n k h g Jr Ji Rr Ri ct two) in
        let M = magnitude_near u u.magnitude Jm Rm ct (λ e.
        columns c x n u (magnitude_value u x) (magnitude_value u (whole_state c)) s.magnitude r.magnitude first second
        third (f.magnitude (own e))) in
        row_more y n k (equation l (load_parts u x)) (equation l (load_parts u (whole_state c))) _ _ _ _ (λ j p.
        three_z (at_node l u.first (Jr j) (Ji j)) (at_node l u.second (neg_ℤ (Jr j)) (neg_ℤ (Ji j)))
        (at_magnitude l u.magnitude (Jm j)))
        (λ j p.
        three_n (spread_node l u.first (Rr j) (Ri j)) (spread_node l u.second (Rr j) (Ri j))
        (spread_magnitude l u.magnitude (Rm j)) (count_node l u.first) (count_node l u.second)
        (count_magnitude l u.magnitude) (ct j))
        (row_plus y n k _ _ _ _ _ _ _ _ A (row_plus y n k _ _ _ _ _ _ _ _ B M))

    by_model : (t : Bool) → (t ≡ false → RowsFollow box c x u)
        → Near_in (equation l (cond t [] (load_parts u x))) (equation l (cond t [] (load_parts u (whole_state c))))
        (λ j. cond t (pos 0) (at_terminal l u (slope_in j u (slopes_there c u).real)
        (slope_in j u (slopes_there c u).imaginary) (slope_in j u (slopes_there c u).magnitude)))
        (λ j.
        cond t 0 (spread l u (radius_in j u (radii_in box c u).real) (radius_in j u (radii_in box c u).imaginary)
        (radius_in j u (radii_in box c u).magnitude)) + 4 * cond t 0 (count_terminal l u * count_terminal j u))
    by_model true f =
        row_more (away c x) n (x.over * 2 ^ 40) nothing nothing (λ j. pos 0) (λ j. pos 0) (λ j. 0) (λ j. 0 + 4 * 0)
        (λ j p. refl) (λ j p. omega arith) (row_still (away c x) n (x.over * 2 ^ 40) nothing)
    by_model false f = drawn_near (f refl)

    pub load_near : (is_linear u.load.model ≡ false → RowsFollow box c x u)
        → Near_in (equation l (nonlinear_parts u x)) (equation l (nonlinear_parts u (whole_state c)))
        (λ j. load_entry u (slopes_there c u) l j) (λ j. load_radius u (radii_in box c u) l j + 4 * slope_count l j u)
    unfolding load_entry load_radius slope_count
    load_near f = by_model (is_linear u.load.model) f

  -- ---- all part loads

  split : {A : Type 0} (f g : A → ℕ) (xs : List A) → list_n (λ a. f a + 4 * g a) xs ≤ list_n f xs + 4 * list_n g xs
  split f g [] = omega arith
  split f g (a ∷ xs) = omega (arith, split f g xs)

  pub loads_near : (P : LoadAt → Type 0) (us : List LoadAt) → All P us
      → ((u : LoadAt) → P u
      → Near_in (equation l (nonlinear_parts u x)) (equation l (nonlinear_parts u (whole_state c)))
      (λ j. load_entry u (slopes_there c u) l j) (λ j. load_radius u (radii_in box c u) l j + 4 * slope_count l j u))
      → Near_in (equation l (nonlinear_of us x)) (equation l (nonlinear_of us (whole_state c)))
      (λ j. list_z (λ u. load_entry u (slopes_there c u) l j) us) (λ j.
      list_n (λ u. load_radius u (radii_in box c u) l j) us + 4 * slope_counts us l j)
  loads_near P us all h =
      row_more (away c x) n (x.over * 2 ^ 40) (equation l (nonlinear_of us x))
      (equation l (nonlinear_of us (whole_state c))) (λ j. list_z (λ u. load_entry u (slopes_there c u) l j) us)
      (λ j. list_z (λ u. load_entry u (slopes_there c u) l j) us)
      (λ j. list_n (λ u. load_radius u (radii_in box c u) l j + 4 * slope_count l j u) us)
      (λ j. list_n (λ u. load_radius u (radii_in box c u) l j) us + 4 * slope_counts us l j) (λ j p. refl)
      (λ j p. split (λ u. load_radius u (radii_in box c u) l j) (slope_count l j) us) (rw (
        equation_loads l (λ u. nonlinear_parts u x) us,
        equation_loads l (λ u. nonlinear_parts u (whole_state c)) us,
      ) (row_list (away c x) n (x.over * 2 ^ 40) P (λ u. equation l (nonlinear_parts u x))
      (λ u. equation l (nonlinear_parts u (whole_state c))) (λ u j. load_entry u (slopes_there c u) l j)
      (λ u j. load_radius u (radii_in box c u) l j + 4 * slope_count l j u) us all h))
