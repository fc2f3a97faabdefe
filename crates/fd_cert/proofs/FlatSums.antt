-- Sums over lists of short entries.
use Rattle.std.proofs.Common.{◌≡◌, ◌≢◌, ◌∙◌, ℕ, zero, suc, ◌+◌, ◌*◌, ◌<◌, ◌≤◌, ◌^◌, ℤ, pos, ◌+ℤ◌, ◌*ℤ◌, nat_abs, Bool, true, false, not, cond, eqb, List, [], ◌∷◌, ◌++◌, map, length, take, get_or, set, Some, to_z, of_z, FitsSigned, arith, ap, refl, sym, subst, inl, inr}
use Rattle.std.proofs.Math.Nat.{mul-le-mul}
use Rattle.std.proofs.lemmas.Bool.{cases_eq, cases_lt, eq-eqb, ne_eqb}
use Rattle.std.specs.Int.{w128}
use Rattle.std.specs.List.{filter}
use Rattle.std.proofs.lemmas.Int.{fits_signed_from_abs, ints, to_z-of_z, unsigned_abs-mul}
use Rattle.std.proofs.lemmas.List.{get_or-set_same, get_or-set_other, get_or_past, length-set, take_all}
use Rattle.std.proofs.lemmas.List.Elements.{All-append, All-filter, All-from_get_or, All-map, All-nil}
use Rattle.fd_enclosure.specs.fd_exact.States.{part}
use Rattle.fd_enclosure.specs.fd_exact.SumLaws.{list_z-append, sum_z-same, sum_z-zero}
use Rattle.fd_enclosure.specs.fd_exact.Sums.{list_z, sum_z}
use Rattle.fd_enclosure.specs.fd_arith.Limits.{within}
use Rattle.fd_enclosure.specs.fd_arith.Wide.{wide_sum}
use Rattle.fd_enclosure.proofs.CallerLemmas.fd_equations.{list_z_more}
use Rattle.fd_enclosure.specs.fd_equations.Amounts.{Amount, AreCells, IsNothingElsewhere, IsRowOf, empty}
use Rattle.fd_enclosure.specs.fd_equations.Matrices.{MatrixView}
use Rattle.fd_enclosure.specs.fd_equations.WalkLaws.{walk_sums}
use Rattle.fd_enclosure.specs.fd_equations.declared.cells.Cell.{Cell}
use Rattle.fd_enclosure.specs.Bounds.{wide_sums}
use Rattle.fd_cert.specs.Columns.{AreUnits, HasEntries, IsRow, IsRowOfInverse, column_sum}
use Rattle.fd_cert.specs.Entries.{HasSmallUnits, IsFlat, IsFlatOf, IsShort, entry_of, entry_term, has_units}
use Rattle.fd_cert.specs.declared.flat.Entry.{Entry}
use Rattle.fd_cert.proofs.Units.{find, kept_by, row_entries, within_small}

-- ---- a sum with one summand

only_at : (f : ℕ → ℤ) (n j : ℕ) → j < n → sum_z (λ k. cond (eqb k j) (f k) (pos 0)) n ≡ f j
only_at f zero j h = absurd (omega arith)
only_at f (suc n) j h = elim (cases_eq n j) [
  | inl e ↦
      let none = sum_z-same (λ k. cond (eqb k j) (f k) (pos 0)) (λ _. pos 0) n (λ k l.
      let ne : k ≢ j = omega arith in ap (λ b. cond b (f k) (pos 0)) (ne_eqb k j ne))
      ∙ sum_z-zero n in
      let here = ap (λ b. cond b (f n) (pos 0)) (eq-eqb n j e) ∙ ap f e in
      (λ i. none i +ℤ here i) ∙ first (f j)
  | inr ne ↦
      let here = ap (λ b. cond b (f n) (pos 0)) (ne_eqb n j ne) in
      (λ i. only_at f n j (omega arith) i +ℤ here i) ∙ last (f j)
]
  where
    first : (z : ℤ) → (pos 0 +ℤ z) ≡ z
    first z = omega (arith, ints)

    last : (z : ℤ) → (z +ℤ pos 0) ≡ z
    last z = omega (arith, ints)

-- ---- a row of entries

list_z-map : {X Y : Type 0} (f : Y → ℤ) (g : X → Y) (xs : List X) → list_z f (map g xs) ≡ list_z (λ x. f (g x)) xs
list_z-map f g [] = refl
list_z-map f g (x ∷ xs) = ap (λ z. f (g x) +ℤ z) (list_z-map f g xs)

-- what a test leaves out adds nothing
list_z-filter : {X : Type 0} (f : X → ℤ) (p : X → Bool) → ((x : X) → p x ≡ false → f x ≡ pos 0) → (xs : List X)
    → list_z f (filter p xs) ≡ list_z f xs
list_z-filter {X} f p none [] = refl
list_z-filter {X} f p none (x ∷ xs) = by (p x) x xs (none x) (list_z-filter f p none xs)
  where
    nothing_more : (y z : ℤ) → y ≡ pos 0 → z ≡ (y +ℤ z)
    nothing_more y z e = omega (arith, ints)

    by : (b : Bool) (x : X) (xs : List X) → (b ≡ false → f x ≡ pos 0) → list_z f (filter p xs) ≡ list_z f xs
        → list_z f (cond b (x ∷ filter p xs) (filter p xs)) ≡ list_z f (x ∷ xs)
    by true x xs none h = ap (λ z. f x +ℤ z) h
    by false x xs none h = h ∙ nothing_more (f x) (list_z f xs) (none refl)

-- a cell has no units, or some
no_units : (z : ℤ) → not (eqb (nat_abs z) 0) ≡ false → z ≡ pos 0
no_units z h = elim (cases_eq (nat_abs z) 0) [
  | inl e ↦ omega (arith, ints, e)
  | inr ne ↦ let both : true ≡ false = ap not (sym (ne_eqb (nat_abs z) 0 ne)) ∙ h in absurd (cc)
]

row_sum : (size row j : ℕ) (at : ℕ × ℕ → Amount) (cells : List Cell) (factor : ℕ → ℤ) (J : ℕ → ℕ → ℤ)
    → IsRowOf size at row cells → ((l j : ℕ) → (at (l, j)).units ≡ J l j) → j < size
    → list_z (entry_term factor j) (map (entry_of row) (filter has_units cells)) ≡ (factor row *ℤ J row j)
row_sum size row j at cells factor J h e l =
    list_z-map (entry_term factor j) (entry_of row) (filter has_units cells)
    ∙ list_z-filter (λ c. entry_term factor j (entry_of row c)) has_units none cells
    ∙ walk_sums size at row cells (λ col z. cond (eqb col j) (factor row *ℤ z) (pos 0)) h (λ col. nothing (eqb col j) (factor row))
    ∙ only_at (λ col. factor row *ℤ (at (row, col)).units) size j l
    ∙ ap (λ z. factor row *ℤ z) (e row j)
  where
    nothing : (b : Bool) (z : ℤ) → cond b (z *ℤ pos 0) (pos 0) ≡ pos 0
    nothing true z = omega (arith, ints)
    nothing false z = refl

    none : (c : Cell) → has_units c ≡ false → entry_term factor j (entry_of row c) ≡ pos 0
    none c q = ap (λ z. cond (eqb c.col j) (factor row *ℤ z) (pos 0)) (no_units c.units q) ∙ nothing (eqb c.col j) (factor row)

-- an entry of a row whose cells are short
row_small : (cells : List Cell) (at : ℕ → ℤ) → HasSmallUnits cells (length cells) → IsRow cells at → (j : ℕ)
    → nat_abs (at j) ≤ 2 ^ 48
row_small cells at h r j = elim (find cells j (length cells)) [
  | inl (k, l, e) ↦ subst (λ m. nat_abs (at m) ≤ 2 ^ 48) e (subst (λ z. nat_abs z ≤ 2 ^ 48) (r.each k l) (h k l))
  | inr none ↦ subst (λ z. nat_abs z ≤ 2 ^ 48) (sym (r.all j none)) (omega arith)
]

pub flat_start : (m : MatrixView) → IsFlat m [] 0
flat_start m = record { each = All-nil (IsShort m.size); sums = λ J h factor j l. refl; small = λ J h l j k. absurd (omega arith) }

pub flat_more : (m : MatrixView) (es new : List Entry) (row : ℕ) (cells : List Cell) → row < m.size
    → ((at : ℕ × ℕ → Amount) → AreCells m.places m.cells at → IsNothingElsewhere m.places at → IsRowOf m.size at row cells)
    → (J : ℕ → ℕ → ℤ) → HasEntries m J
    → HasSmallUnits cells (length cells) → new ≡ es ++ map (entry_of row) (filter has_units cells) → IsFlat m es row
    → IsFlat m new (row + 1)
flat_more m es new row cells inside is J has units e h = subst (λ xs. IsFlat m xs (row + 1)) (sym e) (record {
  each = All-append (IsShort m.size) es (map (entry_of row) (filter has_units cells)) h.each
      (All-map (IsShort m.size) (entry_of row) (filter has_units cells)
      (All-filter has_units (λ c. IsShort m.size (entry_of row c)) cells
      (All-from_get_or (λ c. IsShort m.size (entry_of row c)) cells empty (λ k l.
      let r = is has.at has.cells has.nothing in record { row = inside; col = r.inside k l; small = units k l }))));
  sums = λ K k factor j l.
      let next : suc row ≡ row + 1 = omega arith in
      list_z-append (entry_term factor j) es (map (entry_of row) (filter has_units cells))
      ∙ (λ i. h.sums K k factor j l i +ℤ row_sum m.size row j k.at cells factor K (is k.at k.cells k.nothing) k.entries l i)
      ∙ ap (sum_z (λ l. factor l *ℤ K l j)) next;
  small = λ K k l j b. elim (cases_lt l row) [
    | inl lt ↦ h.small K k l j lt
    | inr ge ↦
        let same : row ≡ l = omega arith in
        subst (λ n. nat_abs (K n j) ≤ 2 ^ 48) same (row_small cells (K row) units (row_entries m.size row k.at cells K (is k.at k.cells k.nothing) k.entries) j)
  ];
})

-- ---- adding up

pub product_small : (a b : ℤ) → nat_abs a ≤ 2 ^ 56 → nat_abs b ≤ 2 ^ 48 → nat_abs (a *ℤ b) ≤ 2 ^ 104
product_small a b h k = let e = unsigned_abs-mul a b in let m = mul-le-mul h k in omega arith

pub record AreAdded (factors : List ℤ) (es : List Entry) (old new : List ℤ) (k : ℕ) : Type 0 where
  pub long : length new ≡ length old
  pub sums : (j : ℕ) → part new j ≡ list_z (entry_term (part factors) j) (take k es)
  pub small : (j : ℕ) → nat_abs (part new j) ≤ k * 2 ^ 104

pub added_more : (factors : List ℤ) (es : List Entry) (old new : List ℤ) (k : ℕ) (d : Entry) (value : ℤ) → k < length es
    → AreAdded factors es old new k → (get_or es k d).col < length old
    → value ≡ (part new (get_or es k d).col +ℤ (part factors (get_or es k d).row *ℤ (get_or es k d).units))
    → nat_abs (part factors (get_or es k d).row *ℤ (get_or es k d).units) ≤ 2 ^ 104
    → AreAdded factors es old (set new (get_or es k d).col value) (k + 1)
added_more factors es old new k d value l h inside is small =
    let e = get_or es k d in
    let at : e.col < length new = subst (λ n. e.col < n) (sym h.long) inside in
    let add : (j : ℕ) → part (set new e.col value) j ≡ (part new j +ℤ entry_term (part factors) j e) = λ j. elim (cases_eq e.col j) [
      | inl q ↦ subst (λ n. part (set new e.col value) n ≡ (part new n +ℤ entry_term (part factors) n e)) q
          (get_or-set_same new e.col value (pos 0) at ∙ is
          ∙ ap (λ b. part new e.col +ℤ cond b (part factors e.row *ℤ e.units) (pos 0))
          (sym (eq-eqb e.col e.col refl)))
      | inr ne ↦ get_or-set_other new e.col j value (pos 0) (λ q. ne (sym q))
          ∙ plain (part new j)
          ∙ ap (λ b. part new j +ℤ cond b (part factors e.row *ℤ e.units) (pos 0)) (sym (ne_eqb e.col j ne))
    ] in
    record {
      long = length-set new e.col value ∙ h.long;
      sums = λ j. add j ∙ ap (λ z. z +ℤ entry_term (part factors) j e) (h.sums j) ∙ sym (list_z_more (entry_term (part factors) j) es k d l);
      small = λ j.
          subst (λ z. nat_abs z ≤ (k + 1) * 2 ^ 104) (sym (add j))
          (grown (eqb e.col j) (part new j) (part factors e.row *ℤ e.units) (h.small j) small);
    }
  where
    plain : (z : ℤ) → z ≡ (z +ℤ pos 0)
    plain z = omega (arith, ints)

    grown : (b : Bool) (x y : ℤ) → nat_abs x ≤ k * 2 ^ 104 → nat_abs y ≤ 2 ^ 104
        → nat_abs (x +ℤ cond b y (pos 0)) ≤ (k + 1) * 2 ^ 104
    grown true x y h g = omega (arith, ints)
    grown false x y h g = omega (arith, ints)

-- ---- without tests

sum_small : (g : ℕ → ℤ) (n : ℕ) → ((l : ℕ) → l < n → nat_abs (g l) ≤ 2 ^ 104) → nat_abs (sum_z g n) ≤ n * 2 ^ 104
sum_small g zero h = omega arith
sum_small g (suc n) h = let s = sum_small g n (λ l m. h l (omega arith)) in let t = h n (omega arith) in omega (arith, ints)

-- short products never pass the limit
exact_sum : (g : ℕ → ℤ) (n : ℕ) → n ≤ 2 ^ 11 → ((l : ℕ) → l < n → nat_abs (g l) ≤ 2 ^ 104)
    → wide_sums (λ l. within (g l)) n ≡ Some (sum_z g n)
exact_sum g zero few h = refl
exact_sum g (suc n) few h =
    let t = h n (omega arith) in
    let s = sum_small g (suc n) h in
    (λ i. wide_sum (exact_sum g n (omega arith) (λ l m. h l (omega arith)) i) (within_small (g n) (omega arith) i))
    ∙ within_small (sum_z g n +ℤ g n) (omega arith)

module _ (m : MatrixView) (es : List Entry) (factors sums : List ℤ) (flat : IsFlatOf m es) (few : m.size ≤ 2 ^ 11)
    (row : IsRowOfInverse m.size factors) (added : (j : ℕ) → part sums j ≡ list_z (entry_term (part factors) j) es)
    (J : ℕ → ℕ → ℤ) (has : HasEntries m J) where
  each_small : (j l : ℕ) → l < m.size → nat_abs (part factors l *ℤ J l j) ≤ 2 ^ 104
  each_small j l h = product_small (part factors l) (J l j) (row.small l h) (flat.flat.small J has l j h)

  sum_is : (j : ℕ) → j < m.size → part sums j ≡ sum_z (λ l. part factors l *ℤ J l j) m.size
  sum_is j h = added j ∙ flat.flat.sums J has (part factors) j h

  pub flat_column : (j : ℕ) → j < m.size → column_sum (part factors) J j m.size ≡ Some (part sums j)
  flat_column j h = exact_sum (λ l. part factors l *ℤ J l j) m.size few (each_small j) ∙ ap Some (sym (sum_is j h))

  pub flat_units : length sums ≡ m.size → AreUnits sums
  flat_units long j = elim (cases_lt j m.size) [
    | inl h ↦ let s = sum_small (λ l. part factors l *ℤ J l j) m.size (each_small j) in subst (λ z. nat_abs z ≤ 2 ^ 120) (sym (sum_is j h)) (omega arith)
    | inr ge ↦ subst (λ z. nat_abs z ≤ 2 ^ 120) (sym (get_or_past sums j (pos 0) (subst (λ n. n ≤ j) (sym long) ge))) (omega arith)
  ]

abbrev pub no_entry : Entry
no_entry = record { row = 0; col = 0; units = pos 0 }

-- a sum with a product more, as it was computed in 128 bits
pub sum_value : (s t p : ℤ) (k : ℕ) → t ≡ p → nat_abs p ≤ 2 ^ 104 → nat_abs s ≤ k * 2 ^ 104 → k ≤ 2 ^ 22
    → to_z w128 (of_z w128 (to_z w128 (of_z w128 s) +ℤ to_z w128 (of_z w128 t))) ≡ (s +ℤ p)
sum_value s t p k e small h few =
    let wide : nat_abs s ≤ 2 ^ 126 = omega arith in
    let both : nat_abs (s +ℤ p) ≤ 2 ^ 126 + 2 ^ 104 = omega (arith, ints) in
    (λ i. to_z w128 (of_z w128 (kept_by s wide i +ℤ (ap (λ z. to_z w128 (of_z w128 z)) e ∙ kept_by p (omega arith)) i)))
    ∙ to_z-of_z w128 (s +ℤ p) (fits_signed_from_abs w128 (s +ℤ p) (omega arith))

-- it fits
pub sum_room : (s t : ℤ) (k : ℕ) → nat_abs t ≤ 2 ^ 104 → nat_abs s ≤ k * 2 ^ 104 → k ≤ 2 ^ 22
    → FitsSigned w128 (to_z w128 (of_z w128 s) +ℤ to_z w128 (of_z w128 t))
sum_room s t k small h few =
    let wide : nat_abs s ≤ 2 ^ 126 = omega arith in
    rw (kept_by s wide, kept_by t (omega arith)) (fits_signed_from_abs w128 (s +ℤ t) (omega (arith, ints)))

pub added_all : (factors : List ℤ) (es : List Entry) (old new : List ℤ) (k : ℕ) → length es ≤ k
    → AreAdded factors es old new k → (j : ℕ) → part new j ≡ list_z (entry_term (part factors) j) es
added_all factors es old new k l h j = h.sums j ∙ ap (list_z (entry_term (part factors) j)) (take_all k es l)
