-- One row, or one unknown, more.
use Rattle.std.proofs.Common.{◌≡◌, ◌≢◌, ◌∙◌, ℕ, suc, ◌+◌, ◌*◌, ◌/◌, ◌<◌, ◌≤◌, ◌^◌, ℤ, pos, Bool, true, false, cond, ltb, Option, Some, None, option_map, List, [], ◌∷◌, ◌++◌, length, set, get_or, take, replicate, arith, ap, refl, subst, sym, inl, inr}
use Rattle.std.proofs.lemmas.Bool.{cases_eq, cases_lt, cond-true, cond-false, lt-ltb, le-ltb}
use Rattle.std.proofs.lemmas.List.{get_or-replicate, get_or-set_same, get_or-set_other, get_or_append_left, get_or_past, get_or_push, length-replicate, length_push, take_more}
use Rattle.fd_substitution.specs.fd_derived.fd_factors.fd_exact.First.{first_place}
use Rattle.fd_substitution.specs.fd_derived.fd_factors.fd_exact.FirstLaws.{first_none, first_some}
use Rattle.fd_substitution.specs.fd_derived.Rows.{NamesExist, number_at}
use Rattle.fd_substitution.specs.fd_derived.Sums.{AreZero, capped}
use Rattle.fd_substitution.specs.fd_derived.declared.entries.Equation.{Equation}
use Rattle.fd_substitution.specs.fd_derived.declared.entries.Row.{Row}
use Rattle.fd_substitution.proofs.CallerLemmas.{filled_here, filled_kept, filled_start, filled_there}
use Rattle.fd_bounds.specs.Defects.{weighed}
use Rattle.fd_bounds.specs.Passes.{above_part, bound_unless_wide, bounds, from_last, height_made, heights, is_wide_over, load, raised, remainder}
use Rattle.fd_bounds.specs.Rows.{AreInOrder, pivot_at, unknown_at}
use Rattle.fd_bounds.specs.declared.defects.Defect.{Defect}
use Rattle.fd_bounds.proofs.Sizes.{weighed_push}

-- ---- what is found first

pub none_more : (p : ℕ → Bool) (t : ℕ) → ((k : ℕ) → k < t → p k ≡ false) → p t ≡ false → (k : ℕ) → k < t + 1 → p k ≡ false
none_more p t before here k l =
    elim (cases_lt k t) [
      | inl s ↦ before k s
      | inr s ↦ let e : t ≡ k = omega arith in subst (λ n. p n ≡ false) e here
    ]

-- what is told of the first place that is found
pub found_first : (f : ℕ → ℕ) (p : ℕ → Bool) (n t x : ℕ) → t < n → ((k : ℕ) → k < t → p k ≡ false) → p t ≡ true → x ≡ f t
    → option_map f (first_place p n) ≡ Some x
found_first f p n t x l before here e = ap (option_map f) (first_some p n t l before here) ∙ ap Some (sym e)

pub found_none : (f : ℕ → ℕ) (p : ℕ → Bool) (n : ℕ) → ((k : ℕ) → k < n → p k ≡ false) → option_map f (first_place p n) ≡ None
found_none f p n none = ap (option_map f) (first_none p n none)

-- ---- rows

pub names_exist : (es : List Equation) (rows : List Row) → AreInOrder es rows → (t : ℕ) → t < length rows → NamesExist es rows t
names_exist es rows order t l =
    let o = order.each t (subst (λ n. t < n) order.long l) in
    record { equations = o.equations; others = λ k x p. let q = o.others k x p in omega arith; left = o.left }

pub past_limit : (s x : ℕ) → s ≡ capped x → 2 ^ 120 < s → ltb (2 ^ 120) x ≡ true
past_limit s x e l = lt-ltb (2 ^ 120) x (omega arith)

pub in_limit : (s x : ℕ) → s ≡ capped x → s ≤ 2 ^ 120 → ltb (2 ^ 120) x ≡ false
in_limit s x e l = le-ltb (2 ^ 120) x (omega arith)

pub weighed_more : (ds : List Defect) (r : ℕ → ℕ) (k : ℕ) (d : Defect) → k < length ds
    → weighed (take (k + 1) ds) r ≡ weighed (take k ds) r + (get_or ds k d).size * r (get_or ds k d).place
weighed_more ds r k d l = ap (λ xs. weighed xs r) (take_more ds k d l) ∙ weighed_push (take k ds) (get_or ds k d) r

-- ---- heights

pub heights_push : (es : List Equation) (rows : List Row) (C : ℕ → ℕ) (list : List ℕ) (t x : ℕ) → length list ≡ t
    → ((k : ℕ) → number_at list k ≡ heights es rows C t k)
    → x ≡ above_part (load es rows C (heights es rows C t) t) (2 ^ 40)
    → (k : ℕ) → number_at (list ++ x ∷ []) k ≡ heights es rows C (t + 1) k
heights_push es rows C list t x long each e k =
    let q : suc t ≡ t + 1 = omega arith in
    subst (λ n. number_at (list ++ x ∷ []) k ≡ heights es rows C n k) q (elim (cases_lt k t) [
      | inl s ↦ get_or_append_left list (x ∷ []) 0 k (subst (λ n. k < n) (sym long) s) ∙ each k
          ∙ sym (filled_there 0 (λ i. i) (height_made es rows C) t k (λ a. omega arith))
      | inr s ↦ elim (cases_eq t k) [
        | inl same ↦ subst (λ n. number_at (list ++ x ∷ []) n ≡ heights es rows C (suc t) n) same
            (get_or_push list x 0 t long ∙ e ∙ sym (filled_here 0 (λ i. i) (height_made es rows C) t t refl))
        | inr apart ↦ get_or_past (list ++ x ∷ []) k 0 (omega (arith, length_push list x))
            ∙ sym (filled_kept 0 (λ i. i) (height_made es rows C) (suc t) 0 k (omega arith) (λ e a b same. omega arith)
            ∙ filled_start 0 (λ i. i) (height_made es rows C) k)
      ]
    ])

-- ---- bounds

some_of : (b : Bool) (x y : ℕ) → Some x ≡ cond b None (Some y) → (b ≡ false) × (x ≡ y)
some_of true x y e = let no : ⊥ = cc in absurd no
some_of false x y e = (refl, cc)

none_of : (b : Bool) (y : ℕ) → None ≡ cond b None (Some y) → b ≡ true
none_of true y e = refl
none_of false y e = let no : ⊥ = cc in absurd no

pub some_bound : (s p x : ℕ) → Some x ≡ bound_unless_wide s p → (is_wide_over s p ≡ false) × (x ≡ above_part s p)
some_bound s p x e = some_of (is_wide_over s p) x (above_part s p) e

pub no_bound : (s p : ℕ) → None ≡ bound_unless_wide s p → is_wide_over s p ≡ true
no_bound s p e = none_of (is_wide_over s p) (above_part s p) e

-- ---- bounds raised

pub raised_all : (bounds list : List ℕ) → length list ≡ length bounds
    → ((j : ℕ) → j < length bounds → number_at list j ≡ number_at bounds j + number_at bounds j / 2 ^ 20 + 1)
    → (j : ℕ) → number_at list j ≡ raised (length bounds) (number_at bounds) j
raised_all bounds list long each j =
    elim (cases_lt j (length bounds)) [
      | inl l ↦ each j l ∙ sym (cond-true (ltb j (length bounds)) (number_at bounds j + number_at bounds j / 2 ^ 20 + 1) 0 (lt-ltb j (length bounds) l))
      | inr l ↦ get_or_past list j 0 (omega arith)
          ∙ sym (cond-false (ltb j (length bounds)) (number_at bounds j + number_at bounds j / 2 ^ 20 + 1) 0 (le-ltb j (length bounds) l))
    ]

-- ---- a list, one number more

pub each_push : (f : ℕ → ℕ) (list : List ℕ) (k x : ℕ) → length list ≡ k → ((j : ℕ) → j < k → number_at list j ≡ f j) → x ≡ f k
    → (j : ℕ) → j < k + 1 → number_at (list ++ x ∷ []) j ≡ f j
each_push f list k x long each e j l =
    elim (cases_lt j k) [
      | inl s ↦ get_or_append_left list (x ∷ []) 0 j (subst (λ n. j < n) (sym long) s) ∙ each j s
      | inr s ↦ let q : k ≡ j = omega arith in
          subst (λ n. number_at (list ++ x ∷ []) n ≡ f n) q (get_or_push list x 0 k long ∙ e)
    ]

-- the row of each unknown that has been named
pub bounding_set : (rows : List Row) (list : List ℕ) (t : ℕ) → ((s : ℕ) → s < t → unknown_at rows s ≢ unknown_at rows t)
    → unknown_at rows t < length list → ((s : ℕ) → s < t → number_at list (unknown_at rows s) ≡ s)
    → (s : ℕ) → s < t + 1 → number_at (set list (unknown_at rows t) t) (unknown_at rows s) ≡ s
bounding_set rows list t apart u_in each s l =
    elim (cases_lt s t) [
      | inl p ↦ get_or-set_other list (unknown_at rows t) (unknown_at rows s) t 0 (apart s p) ∙ each s p
      | inr p ↦ let q : t ≡ s = omega arith in
          subst (λ n. number_at (set list (unknown_at rows t) t) (unknown_at rows n) ≡ n) q
          (get_or-set_same list (unknown_at rows t) t 0 u_in)
    ]

pub zeros_read : (n j : ℕ) → number_at (replicate n 0) j ≡ 0
zeros_read n j =
    elim (cases_lt j n) [
      | inl l ↦ get_or-replicate n j 0 0 l
      | inr l ↦ get_or_past (replicate n 0) j 0 (let z : ℕ = 0 in omega (arith, length-replicate {A = ℕ} n z))
    ]

pub zero_sums : (n : ℕ) → AreZero (replicate n (pos 0))
zero_sums n j l = get_or-replicate n j (pos 0) (pos 0) (let z = length-replicate {A = ℤ} n (pos 0) in omega (arith, l, z))

-- what a row's height has to stand above, by a list of the heights so far
pub load_over : (es : List Equation) (rows : List Row) (C : ℕ → ℕ) (t s : ℕ) (now items : List ℕ)
    → s ≡ capped (load es rows C (number_at now) t) → now ≡ items → ((k : ℕ) → number_at items k ≡ heights es rows C t k)
    → s ≡ capped (load es rows C (heights es rows C t) t)
load_over es rows C t s now items e is each =
    e ∙ ap (λ (hs : List ℕ). capped (load es rows C (number_at hs) t)) is
    ∙ ap (λ (h : ℕ → ℕ). capped (load es rows C h t)) (λ p k. each k p)

-- the bound of a row's unknown, by a list of the bounds so far
pub bound_over : (rows : List Row) (h : ℕ → ℕ) (d t : ℕ) (o : Option ℕ) (now items : List ℕ)
    → o ≡ bound_unless_wide (remainder rows h (number_at now) t) (pivot_at rows t) → now ≡ items
    → ((j : ℕ) → number_at items j ≡ bounds rows h d j) → t ≡ from_last rows d
    → o ≡ bound_unless_wide (remainder rows h (bounds rows h d) (from_last rows d)) (pivot_at rows (from_last rows d))
bound_over rows h d t o now items e is each at =
    e ∙ ap (λ (bs : List ℕ). bound_unless_wide (remainder rows h (number_at bs) t) (pivot_at rows t)) is
    ∙ ap (λ (r : ℕ → ℕ). bound_unless_wide (remainder rows h r t) (pivot_at rows t)) (λ p j. each j p)
    ∙ ap (λ k. bound_unless_wide (remainder rows h (bounds rows h d) k) (pivot_at rows k)) at
