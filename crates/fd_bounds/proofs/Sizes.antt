-- Sizes of defects as they are taken out of sums, and what a row's height has to stand above.
use Rattle.std.proofs.Common.{◌≡◌, ◌∙◌, ℕ, ◌+◌, ◌*◌, ◌<◌, ◌≤◌, ◌^◌, ℤ, pos, nat_abs, true, false, leb, List, [], ◌∷◌, ◌++◌, length, set, map, get_or, arith, ap, subst, sym, inl, inr}
use Rattle.std.proofs.lemmas.Bool.{cases_lt, le-leb, lt-leb}
use Rattle.std.proofs.lemmas.List.{get_or-set_same, get_or-set_other, get_or_append_left, get_or_push, length-map, length_push, map-append}
use Rattle.fd_substitution.specs.fd_derived.fd_factors.Factors.{HasPlaces, allowance, slack, weighted_size}
use Rattle.fd_substitution.specs.fd_derived.fd_factors.fd_exact.States.{part}
use Rattle.fd_substitution.specs.fd_derived.fd_factors.fd_exact.SumLaws.{list_n-append, sum_n-same, sum_n-zero}
use Rattle.fd_substitution.specs.fd_derived.fd_factors.fd_exact.Sums.{sum_n}
use Rattle.fd_substitution.specs.fd_derived.Rows.{coefficient, number_at, radius, right_side_at, row_at, row_defect}
use Rattle.fd_substitution.specs.fd_derived.Sums.{AreTotals, AreZero, capped}
use Rattle.fd_substitution.specs.fd_derived.declared.entries.Equation.{Equation}
use Rattle.fd_substitution.specs.fd_derived.declared.entries.Row.{Row}
use Rattle.fd_substitution.proofs.CallerLemmas.fd_derived.{both_capped, but_one, weighted_capped}
use Rattle.fd_bounds.specs.Defects.{AreDefects, defects_at, sizes_of, weighed}
use Rattle.fd_bounds.specs.Passes.{load}
use Rattle.fd_bounds.specs.declared.defects.Defect.{Defect}
use Rattle.fd_bounds.specs.declared.defects.Defects.{Defects}

-- ---- sums taken out

abbrev pub by_size : List ℤ → (ℕ → ℕ) → ℕ → ℕ
by_size sums r n = sum_n (λ j. nat_abs (part sums j) * r j) n

nothing_of : (z : ℤ) (m : ℕ) → z ≡ pos 0 → nat_abs z * m ≡ 0
nothing_of z m e = rw e (omega arith)

pub less_one : (sums : List ℤ) (r : ℕ → ℕ) (p n : ℕ) → p < n → p < length sums
    → by_size sums r n ≡ by_size (set sums p (pos 0)) r n + nat_abs (part sums p) * r p
less_one sums r p n h l =
    but_one (λ j. nat_abs (part sums j) * r j) (λ j. nat_abs (part (set sums p (pos 0)) j) * r j) p n h
    (λ j apart. ap (λ z. nat_abs z * r j) (sym (get_or-set_other sums p j (pos 0) (pos 0) apart)))
    (nothing_of (part (set sums p (pos 0)) p) (r p) (get_or-set_same sums p (pos 0) (pos 0) l))

pub none_left : (sums : List ℤ) (r : ℕ → ℕ) (n : ℕ) → length sums ≡ n → AreZero sums → by_size sums r n ≡ 0
none_left sums r n long h =
    sum_n-same (λ j. nat_abs (part sums j) * r j) (λ j. 0) n
    (λ j l. nothing_of (part sums j) (r j) (h j (subst (λ k. j < k) (sym long) l)))
    ∙ sum_n-zero n

-- one more is noted, and taken out
pub noted_more : (w v x before after all : ℕ) → v ≡ w + x → before ≡ after + x → w + before ≡ all → v + after ≡ all
noted_more w v x before after all e f g = omega arith

pub noted_all : (w rest all : ℕ) → w + rest ≡ all → rest ≡ 0 → w ≡ all
noted_all w rest all e f = omega arith

one : (a b : ℕ) → a + (b + 0) ≡ a + b
one a b = omega arith

pub weighed_push : (ds : List Defect) (d : Defect) (r : ℕ → ℕ) → weighed (ds ++ d ∷ []) r ≡ weighed ds r + d.size * r d.place
weighed_push ds d r = list_n-append (λ (e : Defect). e.size * r e.place) ds (d ∷ []) ∙ one (weighed ds r) (d.size * r d.place)

pub no_more : (w z x : ℕ) → z ≡ 0 → w ≡ w + z * x
no_more w z x e = rw e (omega arith)

-- ---- lists of defects, one row more at a time

pub defects_more : (es : List Equation) (rows : List Row) (m : ℕ) (lists : List Defects) (d : Defects) → AreDefects es rows m lists
    → ((r : ℕ → ℕ) → weighed (sizes_of d) r ≡ sum_n (λ j. nat_abs (row_defect es rows m j) * r j) (length es))
    → AreDefects es rows (m + 1) (lists ++ d ∷ [])
defects_more es rows m lists d h new = record {
  long = length_push lists d ∙ ap (λ k. k + 1) h.long;
  each = λ t l r.
      let split : map sizes_of (lists ++ d ∷ []) ≡ map sizes_of lists ++ sizes_of d ∷ [] = map-append sizes_of lists (d ∷ []) in
      let long : length (map sizes_of lists) ≡ m = length-map lists sizes_of ∙ h.long in
      elim (cases_lt t m) [
        | inl s ↦
            let at : defects_at (lists ++ d ∷ []) t ≡ defects_at lists t =
            ap (λ ls. get_or ls t []) split ∙ get_or_append_left (map sizes_of lists) (sizes_of d ∷ []) [] t (subst (λ k. t < k) (sym long) s) in
            ap (λ ds. weighed ds r) at ∙ h.each t s r
        | inr s ↦
            let q : m ≡ t = omega arith in
            let at : defects_at (lists ++ d ∷ []) m ≡ sizes_of d =
            ap (λ ls. get_or ls m []) split ∙ get_or_push (map sizes_of lists) (sizes_of d) [] m long in
            subst (λ k. weighed (defects_at (lists ++ d ∷ []) k) r ≡ sum_n (λ j. nat_abs (row_defect es rows k j) * r j) (length es)) q
            (ap (λ ds. weighed ds r) at ∙ new r)
      ];
}

-- ---- totals that are capped

pub three : (a b c s1 s2 s3 : ℕ) → s1 ≡ capped (0 + a) → s2 ≡ capped (s1 + b) → s3 ≡ capped (s2 + c) → s3 ≡ capped (a + b + c)
three a b c s1 s2 s3 e f g = omega arith

pub not_capped : (s x : ℕ) → s ≡ capped x → s < 2 ^ 127 → s ≡ x
not_capped s x e l = omega arith

pub high_capped : (s x : ℕ) → s ≡ capped x → 2 ^ 127 ≤ s → leb (2 ^ 127) x ≡ true
high_capped s x e l = le-leb (2 ^ 127) x (omega arith)

pub low_capped : (s x : ℕ) → s ≡ capped x → s < 2 ^ 127 → leb (2 ^ 127) x ≡ false
low_capped s x e l = lt-leb (2 ^ 127) x (omega arith)

-- ---- what a row's height has to stand above

in_order : (a b c : ℕ) → a + b + c ≡ c + (a + b)
in_order a b c = omega arith

pub load_found : (es : List Equation) (rows : List Row) (C h : ℕ → ℕ) (A : List ℕ) (t w1 w2 w3 s : ℕ) (defects : List Defect)
    → HasPlaces (length es) (row_at rows t).equations
    → AreTotals (λ l. sum_n (λ j. radius es l j * C j) (length es) + 2 ^ 40 * right_side_at es l) (length es) A
    → ((r : ℕ → ℕ) → weighed defects r ≡ sum_n (λ j. nat_abs (row_defect es rows t j) * r j) (length es))
    → s ≡ capped (w1 + w2 + w3) → w1 ≡ weighted_size (row_at rows t).equations (number_at A) → w2 ≡ weighed defects C
    → w3 ≡ weighted_size (row_at rows t).others h
    → s ≡ capped (load es rows C h t)
unfolding slack
load_found es rows C h A t w1 w2 w3 s defects places totals made e e1 e2 e3 =
    let allowed : ℕ → ℕ = allowance (length es) (length rows) (2 ^ 40) (coefficient es) (radius es) (row_at rows) (right_side_at es) h C in
    let v1 = weighted_size (row_at rows t).equations allowed in
    let v2 = sum_n (λ j. nat_abs (row_defect es rows t j) * C j) (length es) in
    let v3 = weighted_size (row_at rows t).others h in
    let a : capped w1 ≡ capped v1 = ap capped e1
    ∙ weighted_capped allowed (number_at A) (length es) (row_at rows t).equations places totals.each in
    let b : w2 ≡ v2 = e2 ∙ made C in
    e ∙ both_capped (w1 + w2) w3 (v1 + v2) v3 (both_capped w1 w2 v1 v2 a (ap capped b)) (ap capped e3)
    ∙ ap capped (in_order v1 v2 v3)
