-- The first cells of a matrix by its entries that aren't 0.
use Rattle.std.proofs.Common.{◌≡◌, ℕ, zero, suc, ◌+◌, ◌*◌, ◌/◌, ◌%◌, ◌<◌, ◌≤◌, ◌≢◌, ◌^◌, ◌⊎◌, inl, inr, ℤ, pos, List, length, get_or, set, take, Bool, true, false, ◌&&◌, ◌==◌, nat_lt, if◌then◌else◌, cond, arith, refl, ap, sym, ◌∙◌, get_or-set_same, get_or-set_other, subst}
use Rattle.std.proofs.Math.Nat.{mul_comm, mul-le-mul_right, div-add-mod}
use Rattle.std.proofs.lemmas.Nat.{div_below, mod_below, same_from_place}
use Rattle.fd_arith.specs.fd_exact.States.{part, entry, cell}
use Rattle.fd_arith.specs.fd_exact.Tables.{room}
use Rattle.fd_mat.specs.declared.sparse.Held.{Held}
use Rattle.fd_mat.specs.Sparse.{IsHeld, IsRising, held, value_at}
use Rattle.fd_mat.proofs.CallerLemmas.{held_entry, value_more}
use Rattle.fd_inverse.specs.Elimination.{beside_unit}
use Rattle.fd_inverse.specs.Running.{IsStart}

near_or : (k c : ℕ) → (k ≡ c) ⊎ (k ≢ c)
near_or k c = grind arith

-- where an entry of the left half stands
abbrev pub spot : ℕ → ℕ → ℕ
spot n place = place / n * (2 * n) + place % n

wide : (n p : ℕ) → p < n * n → 0 < n
wide zero p h = absurd (omega arith)
wide (suc n) p h = omega arith

whole : (n p : ℕ) → p / n * n + p % n ≡ p
whole n p = ap (λ t. t + p % n) (mul_comm (p / n) n) ∙ div-add-mod p n

pub spot_in : (n place : ℕ) → place < n * n → spot n place < n * (2 * n)
spot_in n place h =
    let w = wide n place h in
    let c : place % n < n = mod_below place n w in
    room n (2 * n) (place / n) (place % n) (div_below place n n w h) (omega arith)

-- the left half with the first of these entries
abbrev pub HasLeft : ℕ → List ℤ → List Held → ℕ → Type 0
HasLeft n cells hs count = (row place : ℕ) → row < n → place < 2 * n → cell cells (2 * n) row place
    ≡ (if nat_lt place n then value_at (take count hs) (row * n + place) else pos 0)

pub left_none : (n : ℕ) (cells : List ℤ) (hs : List Held) → ((k : ℕ) → part cells k ≡ pos 0) → HasLeft n cells hs 0
left_none n cells hs zeros row place l m = zeros (row * (2 * n) + place) ∙ none (nat_lt place n)
  where
    none : (b : Bool) → pos 0 ≡ cond b (pos 0) (pos 0)
    none true = refl
    none false = refl

pub left_more : (n : ℕ) (cells : List ℤ) (hs : List Held) (count : ℕ) (h : Held) (value : ℤ) → length cells ≡ n * (2 * n) → IsRising hs
    → count < length hs → held hs count ≡ h → h.place < n * n → value ≡ h.value → HasLeft n cells hs count
    → HasLeft n (set cells (spot n h.place) value) hs (count + 1)
left_more n cells hs count h value long rising l is inside v left row place row_in place_in =
    elim (near_or (row * (2 * n) + place) (spot n h.place)) [
      | inl same ↦
          let p = same_from_place row place (h.place / n) (h.place % n) (2 * n) place_in (omega arith) same in
          let q : row * n + place ≡ h.place = (λ i. p.0 i * n + p.1 i) ∙ whole n h.place in
          let s : spot n h.place < length cells = omega (arith, spot_in n h.place inside) in
          ap (part (set cells (spot n h.place) value)) same
          ∙ get_or-set_same cells (spot n h.place) value (pos 0) s
          ∙ v ∙ sym (low place (value_at (take (count + 1) hs) (row * n + place)) (omega (arith, p.1))
          ∙ value_more hs count rising l (row * n + place)
          ∙ ap (λ (x : Held). if x.place == (row * n + place) then x.value else value_at (take count hs) (row * n + place)) is
          ∙ here h (row * n + place) (value_at (take count hs) (row * n + place)) (sym q))
      | inr ne ↦
          other ne ∙ left row place row_in place_in ∙ sides ne (nat_lt place n) refl
    ]
  where
    col_in : h.place % n < n
    col_in = mod_below h.place n (wide n h.place inside)

    low : (place : ℕ) (z : ℤ) → place < n → (if nat_lt place n then z else pos 0) ≡ z
    low place z h = grind arith

    here : (h : Held) (q : ℕ) (z : ℤ) → h.place ≡ q → (if h.place == q then h.value else z) ≡ h.value
    here h q z e = grind (arith, e)

    there : (h : Held) (q : ℕ) (z : ℤ) → h.place ≢ q → (if h.place == q then h.value else z) ≡ z
    there h q z e = grind (arith, e)

    other : (row * (2 * n) + place) ≢ spot n h.place
        → cell (set cells (spot n h.place) value) (2 * n) row place ≡ cell cells (2 * n) row place
    other ne = rw get_or-set_other refl

    apart : (row * (2 * n) + place) ≢ spot n h.place → place < n → h.place ≢ (row * n + place)
    apart ne inside same =
        let p = same_from_place (h.place / n) (h.place % n) row place n col_in inside (whole n h.place ∙ same) in
        ne (λ i. sym p.0 i * (2 * n) + sym p.1 i)

    sides : (row * (2 * n) + place) ≢ spot n h.place → (b : Bool) → nat_lt place n ≡ b
        → (if b then value_at (take count hs) (row * n + place) else pos 0) ≡ (if b then value_at (take (count + 1) hs) (row * n + place) else pos 0)
    sides ne true e =
        let inside : place < n = grind arith in
        sym (value_more hs count rising l (row * n + place)
        ∙ ap (λ (x : Held). if x.place == (row * n + place) then x.value else value_at (take count hs) (row * n + place)) is
        ∙ there h (row * n + place) (value_at (take count hs) (row * n + place)) (apart ne inside))
    sides ne false e = refl

-- the right half with the unit matrix so far
abbrev pub HasUnit : ℕ → List ℤ → List ℤ → ℕ → Type 0
HasUnit n old cells count = (row place : ℕ) → row < n → place < 2 * n → cell cells (2 * n) row place
    ≡ (if nat_lt row count && (place == n + row) then pos (2 ^ 40) else cell old (2 * n) row place)

pub unit_more : (n : ℕ) (old cells : List ℤ) (count : ℕ) → length cells ≡ n * (2 * n) → count < n → HasUnit n old cells count
    → HasUnit n old (set cells (count * (2 * n) + n + count) (pos (2 ^ 40))) (count + 1)
unit_more n old cells count long l h row place row_in place_in =
    elim (near_or (row * (2 * n) + place) (count * (2 * n) + n + count)) [
      | inl same ↦
          let p = same_from_place row place count (n + count) (2 * n) place_in (omega arith) (same ∙ omega arith) in
          let s : count * (2 * n) + n + count < length cells = omega (arith, room n (2 * n) count (n + count) l (omega arith)) in
          ap (part (set cells (count * (2 * n) + n + count) (pos (2 ^ 40)))) same
          ∙ get_or-set_same cells (count * (2 * n) + n + count) (pos (2 ^ 40)) (pos 0) s
          ∙ sym (yes p.0 p.1)
      | inr ne ↦
          other ne ∙ h row place row_in place_in ∙ no ne
    ]
  where
    other : (row * (2 * n) + place) ≢ (count * (2 * n) + n + count)
        → cell (set cells (count * (2 * n) + n + count) (pos (2 ^ 40))) (2 * n) row place ≡ cell cells (2 * n) row place
    other ne = rw get_or-set_other refl

    yes : row ≡ count → place ≡ n + count
        → (if nat_lt row (count + 1) && (place == n + row) then pos (2 ^ 40) else cell old (2 * n) row place) ≡ pos (2 ^ 40)
    yes e f =
        let a : nat_lt row (count + 1) ≡ true = grind arith in
        let b : (place == n + row) ≡ true = grind arith in
        λ i. cond (a i && b i) (pos (2 ^ 40)) (cell old (2 * n) row place)

    differ : row ≡ count → (row * (2 * n) + place) ≢ (count * (2 * n) + n + count) → place ≢ n + row
    differ e ne f = ne ((λ i. e i * (2 * n) + f i) ∙ ap (λ r. count * (2 * n) + (n + r)) e ∙ omega arith)

    tests : (row * (2 * n) + place) ≢ (count * (2 * n) + n + count)
        → (nat_lt row count && (place == n + row)) ≡ (nat_lt row (count + 1) && (place == n + row))
    tests ne = elim (near_or row count) [
      | inl same ↦ let d = differ same ne in grind arith
      | inr off ↦ let e : nat_lt row count ≡ nat_lt row (count + 1) = grind arith in ap (λ b. b && (place == n + row)) e
    ]

    no : (row * (2 * n) + place) ≢ (count * (2 * n) + n + count)
        → (if nat_lt row count && (place == n + row) then pos (2 ^ 40) else cell old (2 * n) row place)
        ≡ (if nat_lt row (count + 1) && (place == n + row) then pos (2 ^ 40) else cell old (2 * n) row place)
    no ne = ap (λ b. cond b (pos (2 ^ 40)) (cell old (2 * n) row place)) (tests ne)

-- the left half has these entries, and the right half 0
abbrev pub IsLeft : ℕ → List ℤ → List Held → Type 0
IsLeft n cells hs = (row place : ℕ) → row < n → place < 2 * n → cell cells (2 * n) row place
    ≡ (if nat_lt place n then value_at hs (row * n + place) else pos 0)

-- cells with the unit matrix in the right half
abbrev pub HasWhole : ℕ → List ℤ → List ℤ → Type 0
HasWhole n left cells = (row place : ℕ) → row < n → place < 2 * n → cell cells (2 * n) row place
    ≡ (if place == n + row then pos (2 ^ 40) else cell left (2 * n) row place)

-- both halves
pub is_start : (rows : List (List ℤ)) (hs : List Held) (n : ℕ) (left cells : List ℤ) → IsHeld rows hs → n ≡ length rows
    → IsLeft n left hs → HasWhole n left cells → IsStart (entry rows) n cells
is_start rows hs n left cells is e l u row place row_in place_in =
    u row place row_in place_in
    ∙ ap (λ z. cond (place == n + row) (pos (2 ^ 40)) z) (l row place row_in place_in)
    ∙ sides (nat_lt place n) refl
  where
    sides : (b : Bool) → nat_lt place n ≡ b
        → (if place == n + row then pos (2 ^ 40) else if b then value_at hs (row * n + place) else pos 0)
        ≡ (if b then entry rows row place else if place == n + row then pos (2 ^ 40) else pos 0)
    sides true h =
        let low : place < n = grind arith in
        let off : (place == n + row) ≡ false = grind arith in
        ap (λ b. cond b (pos (2 ^ 40)) (value_at hs (row * n + place))) off
        ∙ ap (λ k. value_at hs (row * k + place)) e
        ∙ sym (held_entry rows hs is row place (omega arith) (omega arith))
    sides false h = refl
