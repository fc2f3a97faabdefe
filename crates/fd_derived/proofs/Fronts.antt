-- What the entries of a row's front add up to.
use Rattle.std.proofs.Common.{◌≡◌, ◌∙◌, ℕ, zero, suc, ◌+◌, ◌<◌, ◌≤◌, ℤ, pos, ◌+ℤ◌, List, [], ◌∷◌, ◌++◌, length, get_or, map, take, drop, arith, ap, refl, subst, sym}
use Rattle.std.proofs.lemmas.Int.{ints}
use Rattle.std.proofs.lemmas.List.{length-map, map-append, take-append-drop, take_more}
use Rattle.fd_factors.specs.Factors.{HasPlaces}
use Rattle.fd_factors.specs.fd_exact.SumLaws.{list_n-append, list_z-append}
use Rattle.fd_factors.specs.fd_exact.Sums.{list_n, list_z}
use Rattle.fd_derived.specs.declared.entries.Entry.{Entry}
use Rattle.fd_derived.specs.Rows.{entries_of, entry_of}

-- what stands for an entry outside a row
abbrev pub nobody : Entry
nobody = record { place = 0; units = pos 0 }

abbrev pub in_row : List Entry → ℕ → Entry
in_row row k = get_or row k nobody

pub front_more : (row : List Entry) (k : ℕ) → k < length row → entries_of (take (k + 1) row) ≡ entries_of (take k row) ++ entry_of (in_row row k) ∷ []
front_more row k h = ap entries_of (take_more row k nobody h) ∙ map-append entry_of (take k row) (in_row row k ∷ [])

one_more : (a b : ℕ) → a + (b + 0) ≡ a + b
one_more a b = omega arith

one_more_z : (a b : ℤ) → a +ℤ (b +ℤ pos 0) ≡ a +ℤ b
one_more_z a b = omega (arith, ints)

-- a sum over a front's entries, of naturals and of integers
pub list_more : (f : ℕ × ℤ → ℕ) (row : List Entry) (k : ℕ) → k < length row
    → list_n f (entries_of (take (k + 1) row)) ≡ list_n f (entries_of (take k row)) + f (entry_of (in_row row k))
list_more f row k h =
    ap (list_n f) (front_more row k h) ∙ list_n-append f (entries_of (take k row)) (entry_of (in_row row k) ∷ [])
    ∙ one_more (list_n f (entries_of (take k row))) (f (entry_of (in_row row k)))

pub list_more_z : (f : ℕ × ℤ → ℤ) (row : List Entry) (k : ℕ) → k < length row
    → list_z f (entries_of (take (k + 1) row)) ≡ list_z f (entries_of (take k row)) +ℤ f (entry_of (in_row row k))
list_more_z f row k h =
    ap (list_z f) (front_more row k h) ∙ list_z-append f (entries_of (take k row)) (entry_of (in_row row k) ∷ [])
    ∙ one_more_z (list_z f (entries_of (take k row))) (f (entry_of (in_row row k)))

-- a front and one entry more are at most the whole
whole_is : (f : ℕ × ℤ → ℕ) (row : List Entry) (k : ℕ)
    → list_n f (entries_of (take k row)) + list_n f (entries_of (drop k row)) ≡ list_n f (entries_of row)
whole_is f row k =
    sym (list_n-append f (entries_of (take k row)) (entries_of (drop k row)))
    ∙ ap (list_n f) (sym (map-append entry_of (take k row) (drop k row)) ∙ ap entries_of (take-append-drop k row))

pub front_low : (f : ℕ × ℤ → ℕ) (row : List Entry) (k : ℕ) → k < length row
    → list_n f (entries_of (take k row)) + f (entry_of (in_row row k)) ≤ list_n f (entries_of row)
front_low f row k h =
    let a = list_more f row k h in
    let b = whole_is f row (k + 1) in
    omega arith

pub entry_at : (row : List Entry) (k : ℕ) → k < length row → get_or (map entry_of row) k (0, pos 0) ≡ entry_of (in_row row k)
entry_at [] k h = absurd (omega arith)
entry_at (e ∷ row) zero h = refl
entry_at (e ∷ row) (suc k) h = entry_at row k (omega arith)

-- the place of an entry, where all are placed
pub place_low : (n : ℕ) (row : List Entry) (k : ℕ) → k < length row → HasPlaces n (entries_of row) → (in_row row k).place < n
place_low n row k h placed = subst (λ (t : ℕ × ℤ). t.0 < n) (entry_at row k h) (placed k (0, pos 0) (omega (arith, length-map row entry_of)))
