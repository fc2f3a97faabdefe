-- Numbers at the places of a pattern that grow.
use Rattle.std.proofs.Common.{◌≡◌, ◌∙◌, ℕ, ◌+◌, ◌*◌, ◌<◌, ◌≤◌, ◌^◌, ℤ, Bool, true, false, cond, eqb, ◌&&◌, List, length, take, get_or, set, Some, arith, ap, sym, refl, subst, inl, inr}
use Rattle.std.specs.List.{Contains}
use Rattle.std.proofs.lemmas.Bool.{cases_eq, eq-eqb}
use Rattle.std.proofs.lemmas.List.{get_or-set_same, get_or-set_other, length-set, take_all}
use Rattle.std.proofs.lemmas.List.Elements.{Contains-get_or}
use Rattle.fd_enclosure.specs.fd_arith.declared.terms.NodeAt.TheVariants.{Node}
use Rattle.fd_enclosure.specs.fd_arith.LoadModels.{is_linear}
use Rattle.fd_enclosure.specs.fd_system.declared.loads.LoadAt.{LoadAt}
use Rattle.fd_enclosure.specs.fd_pattern.Patterns.{IsSlot, key}
use Rattle.fd_enclosure.proofs.CallerLemmas.fd_equations.{list_n_more}
use Rattle.fd_enclosure.specs.fd_slope.Changes.{radii_in}
use Rattle.fd_enclosure.specs.fd_slope.declared.radii.Radii.{Radii}
use Rattle.fd_enclosure.specs.fd_slope.declared.radii.RadiusRow.{RadiusRow}
use Rattle.fd_enclosure.specs.Radii.{load_radius, radius_in, spread, spread_magnitude, spread_node}
use Rattle.fd_enclosure.specs.Sound.{number_at}
use Rattle.fd_cert.specs.Places.{AreRaised, HaveRoom, RaisesRoom, loads_radius}

-- ---- growth

module _ (ps : List (ℕ × ℕ)) where
  pub raised_none : (a : List ℕ) (f : ℕ × ℕ → ℕ) → ((p : ℕ × ℕ) → f p ≡ 0) → AreRaised ps a a f
  raised_none a f z = record { long = refl; each = λ k l. let e = z (key ps k) in omega arith }

  pub raised_as : (a b : List ℕ) (f g : ℕ × ℕ → ℕ) → AreRaised ps a b f → ((p : ℕ × ℕ) → f p ≡ g p) → AreRaised ps a b g
  raised_as a b f g h e = record { long = h.long; each = λ k l. h.each k l ∙ ap (λ n. number_at a k + n) (e (key ps k)) }

  pub raised_then : (a b c : List ℕ) (f g h : ℕ × ℕ → ℕ) → AreRaised ps a b f → AreRaised ps b c g
      → ((p : ℕ × ℕ) → f p + g p ≡ h p) → AreRaised ps a c h
  raised_then a b c f g h x y e = record {
    long = y.long ∙ x.long;
    each = λ k l. let s = x.each k l in let t = y.each k l in let u = e (key ps k) in omega arith;
  }

  pub room_none : (a : List ℕ) (n : ℕ) → RaisesRoom ps a a n
  room_none a n k l = omega arith

  pub room_then : (a b c : List ℕ) (m n k : ℕ) → RaisesRoom ps a b m → RaisesRoom ps b c n → m + n ≤ k
      → RaisesRoom ps a c k
  room_then a b c m n k x y e j l = let s = x j l in let t = y j l in omega arith

  pub room_after : (a b : List ℕ) (n most more : ℕ) → HaveRoom ps a most → RaisesRoom ps a b n
      → most + n * 2 ^ 100 ≤ more → HaveRoom ps b more
  room_after a b n most more h x e k l = let s = x k l in let t = h k l in omega arith

-- ---- one more at a place

abbrev is_at : ℕ → ℕ → ℕ × ℕ → Bool
is_at row col p = eqb row p.0 && eqb col p.1

here : (row col : ℕ) (p : ℕ × ℕ) → row ≡ p.0 → col ≡ p.1 → is_at row col p ≡ true
here row col p e f = ap (λ b. b && eqb col p.1) (eq-eqb row p.0 e) ∙ eq-eqb col p.1 f

elsewhere : (row col : ℕ) (p : ℕ × ℕ) → ((row ≡ p.0) × (col ≡ p.1) → ⊥) → is_at row col p ≡ false
elsewhere row col p h = by_test (is_at row col p) refl
  where
    by_test : (b : Bool) → is_at row col p ≡ b → is_at row col p ≡ false
    by_test true e = let f : row ≡ p.0 = grind arith in let g : col ≡ p.1 = grind arith in absurd (h (f, g))
    by_test false e = e

abbrev pub radius_at : ℕ → ℕ → ℕ → ℕ × ℕ → ℕ
radius_at row col value p = cond (eqb row p.0 && eqb col p.1) value 0

module _ (ps : List (ℕ × ℕ)) (xs : List ℕ) (row col value : ℕ) where
  pub raised_at : (k new : ℕ) → length xs ≡ length ps → IsSlot ps row col k → ((j : ℕ) → IsSlot ps row col j → j ≡ k)
      → new ≡ number_at xs k + value → AreRaised ps xs (set xs k new) (radius_at row col value)
  raised_at k new long at only is = record {
    long = length-set xs k new;
    each = λ j l. elim (cases_eq j k) [
      | inl e ↦
          let hit : is_at row col (key ps j) ≡ true =
          subst (λ n. is_at row col (key ps n) ≡ true) (sym e)
          (here row col (key ps k) (sym at.row_is) (sym at.col_is)) in
          let read : number_at (set xs k new) j ≡ new = ap (number_at (set xs k new)) e ∙ get_or-set_same xs k new 0 (omega (arith, at.in_range)) in
          read ∙ is ∙ ap (λ n. number_at xs n + value) (sym e) ∙ (λ i. number_at xs j + cond (sym hit i) value 0)
      | inr ne ↦
          let miss : is_at row col (key ps j) ≡ false =
          elsewhere row col (key ps j) (λ (f, g).
          ne (only j (record { in_range = l; row_is = sym f; col_is = sym g }))) in
          let read : number_at (set xs k new) j ≡ number_at xs j = get_or-set_other xs k j new 0 ne in
          read ∙ plain (number_at xs j) ∙ (λ i. number_at xs j + cond (sym miss i) value 0)
    ];
  }
    where
      plain : (n : ℕ) → n ≡ n + 0
      plain n = omega arith

  pub raised_missed : ¬ (Contains ps (row, col)) → AreRaised ps xs xs (radius_at row col value)
  raised_missed none = record {
    long = refl;
    each = λ j l.
        let has : Contains ps (key ps j) = Contains-get_or ps j (0, 0) l in
        let miss : is_at row col (key ps j) ≡ false = elsewhere row col (key ps j) (λ (f, g). none (subst (Contains ps) (λ i. (sym f i, sym g i)) has)) in
        plain (number_at xs j) ∙ (λ i. number_at xs j + cond (sym miss i) value 0);
  }
    where
      plain : (n : ℕ) → n ≡ n + 0
      plain n = omega arith

small_cond : (b : Bool) (v m : ℕ) → v ≤ m → cond b v 0 ≤ m
small_cond true v m h = h
small_cond false v m h = omega arith

pub room_at : (ps : List (ℕ × ℕ)) (a b : List ℕ) (row col value : ℕ) → value ≤ 2 ^ 100
    → AreRaised ps a b (radius_at row col value) → RaisesRoom ps a b 1
room_at ps a b row col value h r k l = let s = r.each k l in let t = small_cond (is_at row col (key ps k)) value (2 ^ 100) h in omega arith

-- ---- a node, a row

pub node_in_row : (row k re im : ℕ) (p : ℕ × ℕ)
    → radius_at row (2 * k) re p + radius_at row (2 * k + 1) im p ≡ cond (eqb row p.0) (spread_node p.1 (Node k) re im) 0
node_in_row row k re im p = by_row (eqb row p.0) (eqb (2 * k) p.1) (eqb (2 * k + 1) p.1)
  where
    by_row : (r a b : Bool) → cond (r && a) re 0 + cond (r && b) im 0 ≡ cond r (cond a re 0 + cond b im 0) 0
    by_row true a b = refl
    by_row false a b = refl

pub nothing_in_row : (b : Bool) → ◌≡◌ {A = ℕ} (cond b 0 0) 0
nothing_in_row true = refl
nothing_in_row false = refl

pub magnitude_in_row : (row place value : ℕ) (p : ℕ × ℕ)
    → radius_at row place value p ≡ cond (eqb row p.0) (spread_magnitude p.1 (Some place) value) 0
magnitude_in_row row place value p = by_row (eqb row p.0) (eqb place p.1)
  where
    by_row : (r a : Bool) → cond (r && a) value 0 ≡ cond r (cond a value 0) 0
    by_row true a = refl
    by_row false a = refl

pub two_in_row : (row : ℕ) (u : LoadAt) (r : RadiusRow) (p : ℕ × ℕ)
    → cond (eqb row p.0) (spread_node p.1 u.first r.p r.q) 0 + cond (eqb row p.0) (spread_node p.1 u.second r.p r.q) 0
    ≡ cond (eqb row p.0) (spread_node p.1 u.first r.p r.q + spread_node p.1 u.second r.p r.q) 0
two_in_row row u r p = by_row (eqb row p.0)
  where
    by_row : (b : Bool)
        → cond b (spread_node p.1 u.first r.p r.q) 0 + cond b (spread_node p.1 u.second r.p r.q) 0
        ≡ cond b (spread_node p.1 u.first r.p r.q + spread_node p.1 u.second r.p r.q) 0
    by_row true = refl
    by_row false = refl

pub three_in_row : (row : ℕ) (u : LoadAt) (r : RadiusRow) (p : ℕ × ℕ)
    → cond (eqb row p.0) (spread_node p.1 u.first r.p r.q + spread_node p.1 u.second r.p r.q) 0
    + cond (eqb row p.0) (spread_magnitude p.1 u.magnitude r.m) 0
    ≡ cond (eqb row p.0) (radius_in p.1 u r) 0
unfolding spread
three_in_row row u r p = by_row (eqb row p.0)
  where
    by_row : (b : Bool)
        → cond b (spread_node p.1 u.first r.p r.q + spread_node p.1 u.second r.p r.q) 0
        + cond b (spread_magnitude p.1 u.magnitude r.m) 0
        ≡ cond b
        ((spread_node p.1 u.first r.p r.q + spread_node p.1 u.second r.p r.q) + spread_magnitude p.1 u.magnitude r.m)
        0
    by_row true = refl
    by_row false = refl

-- ---- a part load

pub all_rows : (u : LoadAt) (p : ℕ × ℕ) (re im m : ℕ)
    → (spread_node p.0 u.first re im + spread_node p.0 u.second re im) + spread_magnitude p.0 u.magnitude m ≡ spread p.0 u re im m
unfolding spread
all_rows u p re im m = refl

pub load_other : (u : LoadAt) (r : Radii) (p : ℕ × ℕ) → is_linear u.load.model ≡ false
    → spread p.0 u (radius_in p.1 u r.real) (radius_in p.1 u r.imaginary) (radius_in p.1 u r.magnitude) ≡ load_radius u r p.0 p.1
unfolding load_radius
load_other u r p ne = ap (λ b. cond b 0 (spread p.0 u (radius_in p.1 u r.real) (radius_in p.1 u r.imaginary) (radius_in p.1 u r.magnitude))) (sym ne)

pub load_linear : (u : LoadAt) (r : Radii) (p : ℕ × ℕ) → is_linear u.load.model ≡ true → load_radius u r p.0 p.1 ≡ 0
unfolding load_radius
load_linear u r p e = ap (λ b. cond b 0 (spread p.0 u (radius_in p.1 u r.real) (radius_in p.1 u r.imaginary) (radius_in p.1 u r.magnitude))) e

-- ---- part loads so far

pub record IsSoFar (ps : List (ℕ × ℕ)) (old new : List ℕ) (box : ℕ → ℕ) (x : List ℤ) (us : List LoadAt)
    (k : ℕ) : Type 0 where
  pub raised : AreRaised ps old new (loads_radius box x (take k us))
  pub room : HaveRoom ps new (k * 25 * 2 ^ 100)

module _ (ps : List (ℕ × ℕ)) (old : List ℕ) (box : ℕ → ℕ) (x : List ℤ) (us : List LoadAt) where
  pub none_yet : HaveRoom ps old 0 → IsSoFar ps old old box x us 0
  none_yet h = record { raised = raised_none ps old (loads_radius box x (take 0 us)) (λ p. refl); room = h }

  pub next_load : (new later : List ℕ) (k : ℕ) (d : LoadAt) (r : Radii) → k < length us → IsSoFar ps old new box x us k
      → r ≡ radii_in box x (get_or us k d) → AreRaised ps new later (λ p. load_radius (get_or us k d) r p.0 p.1)
      → RaisesRoom ps new later 25
      → IsSoFar ps old later box x us (k + 1)
  next_load new later k d r l h e raised room = record {
    raised = raised_then ps old new later (loads_radius box x (take k us))
        (λ p. load_radius (get_or us k d) r p.0 p.1) (loads_radius box x (take (k + 1) us)) h.raised raised (λ p.
        ap (λ s. loads_radius box x (take k us) p + load_radius (get_or us k d) s p.0 p.1) e
        ∙ sym (list_n_more (λ u. load_radius u (radii_in box x u) p.0 p.1) us k d l));
    room = room_after ps new later 25 (k * 25 * 2 ^ 100) ((k + 1) * 25 * 2 ^ 100) h.room room (omega arith);
  }

  pub room_yet : (new : List ℕ) (k : ℕ) → k ≤ 2 ^ 21 → IsSoFar ps old new box x us k → HaveRoom ps new (2 ^ 126)
  room_yet new k few h j l = let r = h.room j l in omega arith

  pub loads_raised : (new : List ℕ) (k : ℕ) → length us ≤ k → IsSoFar ps old new box x us k
      → AreRaised ps old new (loads_radius box x us)
  loads_raised new k e h = subst (λ vs. AreRaised ps old new (loads_radius box x vs)) (take_all k us e) h.raised
