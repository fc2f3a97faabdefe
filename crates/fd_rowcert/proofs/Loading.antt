-- Equations that are made row by row.
use Rattle.std.proofs.Common.{◌≡◌, ◌≢◌, ◌∙◌, ℕ, ◌+◌, ◌<◌, ℤ, true, false, List, [], ◌∷◌, ◌++◌, length, set, Some, None, arith, ap, refl, sym, subst, inl, inr}
use Rattle.std.proofs.lemmas.Bool.{cases_eq}
use Rattle.std.proofs.lemmas.List.{length_push}
use Rattle.fd_cert.specs.fd_enclosure.Sound.{right_side}
use Rattle.fd_cert.specs.fd_enclosure.fd_exact.FirstLaws.{first_none, first_some}
use Rattle.fd_bounds.specs.fd_derived.declared.entries.Equation.{Equation}
use Rattle.fd_rowcert.specs.Entries.{AreEntriesOf, is_wide}
use Rattle.fd_rowcert.specs.Equations.{AreEquations, HaveCoefficients, first_wide, no_terms, radii_in, terms_at, terms_of}
use Rattle.fd_rowcert.proofs.Lists.{at_other, at_same, pushed_new, pushed_old}

-- the first m rows aren't wide
abbrev pub NoneWide : ℕ → (ℕ → ℕ → ℤ) → ℕ → Type 0
NoneWide n J m = (l : ℕ) → l < m → is_wide n (J l) ≡ false

pub one_more : (n : ℕ) (J : ℕ → ℕ → ℤ) (m : ℕ) → NoneWide n J m → false ≡ is_wide n (J m) → NoneWide n J (m + 1)
one_more n J m h e l lt = elim (cases_eq l m) [
  | inl q ↦ ap (λ k. is_wide n (J k)) q ∙ sym e
  | inr ne ↦ h l (omega arith)
]

pub none_wide : (n : ℕ) (J : ℕ → ℕ → ℤ) → NoneWide n J n → first_wide n J ≡ None
none_wide n J h = first_none (λ l. is_wide n (J l)) n h

pub wide_first : (n : ℕ) (J : ℕ → ℕ → ℤ) (m : ℕ) → m < n → NoneWide n J m → true ≡ is_wide n (J m)
    → first_wide n J ≡ Some m
wide_first n J m l h e = first_some (λ k. is_wide n (J k)) n m l h (sym e)

-- ---- coefficients

pub pushed_list : (xs ys : List Equation) (q : Equation) (m : ℕ) → length xs ≡ m → ys ≡ xs ++ q ∷ [] → length ys ≡ m + 1
pushed_list xs ys q m long e = let p = length_push xs q in let l = ap length e in omega (arith, p, l, long)

-- the first m equations
pub record AreLoaded (n : ℕ) (J : ℕ → ℕ → ℤ) (e : List ℕ) (es : List Equation) (m : ℕ) : Type 0 where
  pub entries : (l : ℕ) → l < m → AreEntriesOf n (J l) (terms_at es l).coefficients
  pub right_sides : (l : ℕ) → l < m → (terms_at es l).right_side ≡ right_side e l
  pub none : NoneWide n J m

pub loaded_more : (n : ℕ) (J : ℕ → ℕ → ℤ) (e : List ℕ) (es : List Equation) (m : ℕ) (q : Equation) → length es ≡ m
    → AreLoaded n J e es m → AreEntriesOf n (J m) q.coefficients.items → q.right_side ≡ right_side e m
    → false ≡ is_wide n (J m) → AreLoaded n J e (es ++ q ∷ []) (m + 1)
loaded_more n J e es m q long h c r w = record {
  entries = λ l lt. elim (cases_eq l m) [
    | inl i ↦ subst (λ k. AreEntriesOf n (J k) (terms_at (es ++ q ∷ []) k).coefficients) (sym i)
        (subst (λ t. AreEntriesOf n (J m) t.coefficients) (sym (pushed_new terms_of no_terms es m q (sym long))) c)
    | inr ne ↦ let low : l < m = omega arith in
        subst (λ t. AreEntriesOf n (J l) t.coefficients)
        (sym (pushed_old terms_of no_terms es l q (subst (λ k. l < k) (sym long) low))) (h.entries l low)
  ];
  right_sides = λ l lt. elim (cases_eq l m) [
    | inl i ↦ subst (λ k. (terms_at (es ++ q ∷ []) k).right_side ≡ right_side e k) (sym i)
        (ap (λ t. t.right_side) (pushed_new terms_of no_terms es m q (sym long)) ∙ r)
    | inr ne ↦ let low : l < m = omega arith in
        ap (λ t. t.right_side) (pushed_old terms_of no_terms es l q (subst (λ k. l < k) (sym long) low))
        ∙ h.right_sides l low
  ];
  none = one_more n J m h.none w;
}

pub loaded_all : (n : ℕ) (J : ℕ → ℕ → ℤ) (e : List ℕ) (es : List Equation) → length es ≡ n → AreLoaded n J e es n
    → (first_wide n J ≡ None) × HaveCoefficients n J e es
loaded_all n J e es long h = (
  none_wide n J h.none,
  record {
    long = long;
    entries = h.entries;
    right_sides =
        h.right_sides;
  },
)

-- ---- radii

-- coefficients and right sides have stayed
pub record HaveStayed (old new : List Equation) : Type 0 where
  pub long : length new ≡ length old
  pub coefficients : (l : ℕ) → (terms_at new l).coefficients ≡ (terms_at old l).coefficients
  pub right_sides : (l : ℕ) → (terms_at new l).right_side ≡ (terms_at old l).right_side

pub stayed_start : (es : List Equation) → HaveStayed es es
stayed_start es = record { long = refl; coefficients = λ l. refl; right_sides = λ l. refl }

pub still_have : (n : ℕ) (J : ℕ → ℕ → ℤ) (e : List ℕ) (old new : List Equation) → HaveStayed old new
    → HaveCoefficients n J e old
    → HaveCoefficients n J e new
still_have n J e old new s h = record {
  long = s.long ∙ h.long;
  entries = λ l lt. subst (AreEntriesOf n (J l)) (sym (s.coefficients l)) (h.entries l lt);
  right_sides = λ l lt. s.right_sides l ∙ h.right_sides l lt;
}

-- the radii of the first m equations
pub record HaveRadii (n : ℕ) (R : ℕ → ℕ → ℕ) (es : List Equation) (m : ℕ) : Type 0 where
  pub entries : (l : ℕ) → l < m → AreEntriesOf n (radii_in R l) (terms_at es l).radii
  pub none : NoneWide n (radii_in R) m

module _ (old es : List Equation) (m : ℕ) (q : Equation) (in_range : m < length es) where
  terms_now : (l : ℕ) → l ≡ m → terms_at (set es m q) l ≡ terms_of q
  terms_now l e = ap (terms_at (set es m q)) e ∙ at_same terms_of no_terms es m q in_range

  terms_then : (l : ℕ) → l ≢ m → terms_at (set es m q) l ≡ terms_at es l
  terms_then l ne = at_other terms_of no_terms es m l q (λ e. ne (sym e))

  pub stayed_more : HaveStayed old es → q.coefficients.items ≡ (terms_at es m).coefficients
      → q.right_side ≡ (terms_at es m).right_side
      → length (set es m q) ≡ length es → HaveStayed old (set es m q)
  stayed_more h c r long = record {
    long = long ∙ h.long;
    coefficients = λ l. elim (cases_eq l m) [
      | inl e ↦ ap (λ t. t.coefficients) (terms_now l e) ∙ c ∙ sym (ap (λ k. (terms_at es k).coefficients) e)
          ∙ h.coefficients l
      | inr ne ↦ ap (λ t. t.coefficients) (terms_then l ne) ∙ h.coefficients l
    ];
    right_sides = λ l. elim (cases_eq l m) [
      | inl e ↦ ap (λ t. t.right_side) (terms_now l e) ∙ r ∙ sym (ap (λ k. (terms_at es k).right_side) e)
          ∙ h.right_sides l
      | inr ne ↦ ap (λ t. t.right_side) (terms_then l ne) ∙ h.right_sides l
    ];
  }

  pub radii_more : (n : ℕ) (R : ℕ → ℕ → ℕ) → HaveRadii n R es m → AreEntriesOf n (radii_in R m) q.radii.items
      → false ≡ is_wide n (radii_in R m) → HaveRadii n R (set es m q) (m + 1)
  radii_more n R h made w = record {
    entries = λ l lt. elim (cases_eq l m) [
      | inl e ↦ subst (λ t. AreEntriesOf n (radii_in R l) t.radii) (sym (terms_now l e))
          (subst (λ k. AreEntriesOf n (radii_in R k) q.radii.items) (sym e) made)
      | inr ne ↦ subst (λ t. AreEntriesOf n (radii_in R l) t.radii) (sym (terms_then l ne)) (h.entries l (omega arith))
    ];
    none = one_more n (radii_in R) m h.none w;
  }

pub radii_all : (n : ℕ) (J : ℕ → ℕ → ℤ) (R : ℕ → ℕ → ℕ) (e : List ℕ) (old new : List Equation) → HaveStayed old new
    → HaveRadii n R new n → HaveCoefficients n J e old → AreEquations n J R e new
radii_all n J R e old new s r h = record { have = still_have n J e old new s h; radii = r.entries }
