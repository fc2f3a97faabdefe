-- One row that loses another, one entry more at a time.
use Rattle.std.proofs.Common.{◌≡◌, inl, inr, ℕ, zero, suc, ◌+◌, ◌<◌, ◌≤◌, ◌^◌, ℤ, pos, ◌+ℤ◌, ◌-ℤ◌, ◌*ℤ◌, nat_abs, List, [], ◌∷◌, ◌++◌, length, get_or, map, take, drop, arith, refl, ap, sym, ◌∙◌, subst}
use Rattle.std.proofs.lemmas.Int.{ints}
use Rattle.std.proofs.lemmas.List.{drop_more, get_or-take, length-map, length-take-le, map-append, take-append-drop, take_more}
use Rattle.fd_derived.specs.fd_factors.Factors.{HasPlaces}
use Rattle.fd_derived.specs.fd_factors.fd_exact.SumLaws.{list_n-append}
use Rattle.fd_derived.specs.fd_factors.fd_exact.Sums.{list_n}
use Rattle.fd_derived.specs.fd_factors.fd_exact.Integers.{abs_add}
use Rattle.fd_derived.specs.fd_factors.fd_exact.Nearest.{near-zero}
use Rattle.fd_derived.specs.fd_factors.fd_exact.Rounding.{near_div}
use Rattle.fd_derived.specs.declared.entries.Entry.{Entry}
use Rattle.fd_derived.specs.Rows.{entries_of, entry_of}
use Rattle.fd_derived.specs.Sums.{size_of}
use Rattle.fd_triangles.specs.Elimination.{less}
use Rattle.fd_triangles.specs.Rows.{IsRising, IsRow, WithNumber, entry_at, number}
use Rattle.fd_triangles.specs.Steps.{HasLost, IsLostPast}
use Rattle.fd_triangles.proofs.Entries.{choose_other, choose_same, near_or, number_absent, number_append, number_here, piece, piece_other, piece_same}

-- ---- numbers

times_none : (f : ℤ) → f *ℤ pos 0 ≡ pos 0
times_none f = omega (arith, ints)

none_times : (v : ℤ) → pos 0 *ℤ v ≡ pos 0
none_times v = omega (arith, ints)

-- nothing is lost of 0
pub less_none : (z f : ℤ) → less z f (pos 0) ≡ z
unfolding less
less_none z f =
    let e : near_div (f *ℤ pos 0) (2 ^ 40) ≡ pos 0 = ap (λ x. near_div x (2 ^ 40)) (times_none f) ∙ near-zero (2 ^ 40) (omega arith) in
    ap (λ x. z -ℤ x) e ∙ omega (arith, ints)

-- nor by 0
pub less_never : (z v : ℤ) → less z (pos 0) v ≡ z
unfolding less
less_never z v =
    let e : near_div (pos 0 *ℤ v) (2 ^ 40) ≡ pos 0 = ap (λ x. near_div x (2 ^ 40)) (none_times v) ∙ near-zero (2 ^ 40) (omega arith) in
    ap (λ x. z -ℤ x) e ∙ omega (arith, ints)

-- ---- fronts

abbrev none : Entry
none = record { place = 0; units = pos 0 }

pub front_more : (row : List Entry) (k c : ℕ) → k < length row
    → number (take (k + 1) row) c ≡ number (take k row) c +ℤ piece (entry_at row k) c
front_more row k c h =
    let a = ap (λ l. number l c) (take_more row k none h) in
    let b = number_append (take k row) (entry_at row k ∷ []) c in
    omega (arith, ints, a, b)

-- the place of the next entry isn't in the front
pub front_absent : (row : List Entry) (k : ℕ) → IsRising row → k < length row
    → number (take k row) (entry_at row k).place ≡ pos 0
front_absent row k rising h = number_absent (take k row) (entry_at row k).place (λ i b same.
    let few : i < k = omega (arith, b, length-take-le k row (omega arith)) in
    let is = ap (λ (x : Entry). x.place) (get_or-take k row i none few) in
    omega (arith, rising i k few h, same, is))

pub whole_here : (row : List Entry) (k : ℕ) → IsRising row → k < length row
    → number row (entry_at row k).place ≡ (entry_at row k).units
whole_here row k rising h =
    number_here row rising (entry_at row k).place k (record { in_range = h; place_is = refl })

-- ---- a row that loses another

module _ (old row : List Entry) (f : ℤ) (others : List Entry) (k : ℕ) (rising : IsRising others) (h : k < length others)
    (lost : HasLost old row f (take k others)) where
  place : ℕ
  place = (entry_at others k).place

  -- the number at the next place is still the old one
  pub not_yet : number row (entry_at others k).place ≡ number old (entry_at others k).place
  not_yet =
      lost (entry_at others k).place
      ∙ ap (less (number old (entry_at others k).place) f) (front_absent others k rising h)
      ∙ less_none (number old (entry_at others k).place) f

  pub lost_more : (new : List Entry) (z : ℤ) → z ≡ less (number row (entry_at others k).place) f (entry_at others k).units
      → WithNumber row new (entry_at others k).place z → HasLost old new f (take (k + 1) others)
  lost_more new z z_is w c =
      let more = front_more others k c h in
      elim (near_or (entry_at others k).place c) [
        | inl same ↦
            let p = piece_same (entry_at others k) c same in
            let a = ap (number (take k others)) (sym same) ∙ front_absent others k rising h in
            let units : number (take (k + 1) others) c ≡ (entry_at others k).units = omega (arith, ints, more, p, a) in
            w c ∙ choose_same (entry_at others k).place c z (number row c) same ∙ z_is
            ∙ ap (λ x. less x f (entry_at others k).units) (not_yet ∙ ap (number old) same)
            ∙ ap (less (number old c) f) (sym units)
        | inr apart ↦
            let p = piece_other (entry_at others k) c apart in
            let units : number (take k others) c ≡ number (take (k + 1) others) c = omega (arith, ints, more, p) in
            w c ∙ choose_other (entry_at others k).place c z (number row c) apart ∙ lost c ∙ ap (less (number old c) f) units
      ]

  pub lost_past : (z : ℤ) → z ≡ less (number row (entry_at others k).place) f (entry_at others k).units → 2 ^ 62 < nat_abs z
      → IsLostPast old f others
  lost_past z z_is past = (
    (entry_at others k).place,
    subst (λ x. 2 ^ 62 < nat_abs x) (z_is ∙ ap (λ x. less x f (entry_at others k).units) not_yet
        ∙ ap (less (number old (entry_at others k).place) f) (sym (whole_here others k rising h))) past,
  )

pub lost_start : (row : List Entry) (f : ℤ) → HasLost row row f []
lost_start row f c = sym (less_none (number row c) f)

-- ---- a row that is loaded

pub number_low : (row : List Entry) (c : ℕ) → nat_abs (number row c) ≤ size_of (entries_of row)
number_low [] c = omega arith
number_low (e ∷ row) c =
    let a = abs_add (piece e c) (number row c) in
    let r = number_low row c in
    elim (near_or e.place c) [
      | inl same ↦ let p = ap nat_abs (piece_same e c same) in omega (arith, a, r, p)
      | inr apart ↦ let p = ap nat_abs (piece_other e c apart) in omega (arith, a, r, p)
    ]

loaded_here : (a u : ℤ) (x p z : ℤ) → z ≡ a +ℤ u → x ≡ a +ℤ p → p ≡ u → z ≡ x
loaded_here a u x p z e f g = omega (arith, ints, e, f, g)

pub loaded_more : (row new coefficients : List Entry) (k : ℕ) (z : ℤ) → k < length coefficients
    → ((c : ℕ) → number row c ≡ number (take k coefficients) c)
    → z ≡ number row (entry_at coefficients k).place +ℤ (entry_at coefficients k).units
    → WithNumber row new (entry_at coefficients k).place z
    → (c : ℕ) → number new c ≡ number (take (k + 1) coefficients) c
loaded_more row new coefficients k z h so_far z_is w c =
    let more = front_more coefficients k c h in
    elim (near_or (entry_at coefficients k).place c) [
      | inl same ↦
          let p = piece_same (entry_at coefficients k) c same in
          let a = ap (number row) same ∙ so_far c in
          let e = w c ∙ choose_same (entry_at coefficients k).place c z (number row c) same in
          omega (arith, ints, more, p, a, e, z_is)
      | inr apart ↦
          let p = piece_other (entry_at coefficients k) c apart in
          let a = so_far c in
          let e = w c ∙ choose_other (entry_at coefficients k).place c z (number row c) apart in
          omega (arith, ints, more, p, a, e)
    ]

size_append : (xs ys : List Entry) → size_of (entries_of (xs ++ ys)) ≡ size_of (entries_of xs) + size_of (entries_of ys)
size_append xs ys =
    ap (list_n (λ t. nat_abs t.1)) (map-append entry_of xs ys)
    ∙ list_n-append (λ t. nat_abs t.1) (entries_of xs) (entries_of ys)

size_cons : (e : Entry) (row : List Entry) → size_of (entries_of (e ∷ row)) ≡ nat_abs e.units + size_of (entries_of row)
size_cons e row = refl

front_size : (row : List Entry) (k : ℕ) → k < length row
    → size_of (entries_of (take k row)) + nat_abs (entry_at row k).units ≤ size_of (entries_of row)
front_size row k h =
    let a = size_append (take k row) (drop k row) in
    let b = ap (λ l. size_of (entries_of l)) (take-append-drop k row) in
    let e = ap (λ l. size_of (entries_of l)) (drop_more row k none h) in
    let d = size_cons (entry_at row k) (drop (k + 1) row) in
    omega (arith, a, b, e, d)

-- the next number that is loaded is in range
pub load_small : (row coefficients : List Entry) (k : ℕ) → k < length coefficients
    → ((c : ℕ) → number row c ≡ number (take k coefficients) c) → size_of (entries_of coefficients) ≤ 2 ^ 62
    → nat_abs (number row (entry_at coefficients k).place +ℤ (entry_at coefficients k).units) ≤ 2 ^ 62
load_small row coefficients k h so_far small =
    let p = (entry_at coefficients k).place in
    let a = abs_add (number row p) (entry_at coefficients k).units in
    let b = number_low (take k coefficients) p in
    let e = ap nat_abs (so_far p) in
    let f = front_size coefficients k h in
    omega (arith, a, b, e, f, small)

entry_pair : (row : List Entry) (k : ℕ) → k < length row → get_or (map entry_of row) k (0, pos 0) ≡ entry_of (entry_at row k)
entry_pair [] k h = absurd (omega arith)
entry_pair (e ∷ row) zero h = refl
entry_pair (e ∷ row) (suc k) h = entry_pair row k (omega arith)

-- the place of an entry, where all are placed
pub place_low : (n : ℕ) (row : List Entry) (k : ℕ) → k < length row → HasPlaces n (entries_of row) → (entry_at row k).place < n
place_low n row k h placed = subst (λ (t : ℕ × ℤ). t.0 < n) (entry_pair row k h) (placed k (0, pos 0) (omega (arith, h, length-map row entry_of)))

pub empty_row : (n : ℕ) → IsRow n []
empty_row n = record {
  rising = λ i j l m. absurd (omega arith);
  inside = λ k l. absurd (omega arith);
  other = λ k l. absurd (omega arith);
  small = λ k l. absurd (omega arith);
}
