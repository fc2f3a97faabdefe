-- Sums that are drained place by place.
use Rattle.std.proofs.Common.{◌≡◌, ◌≢◌, ◌∙◌, ◌⊎◌, ℕ, zero, suc, ◌+◌, ◌*◌, ◌<◌, ℤ, pos, nat_abs, List, [], ◌∷◌, length, set, arith, ap, subst, sym, inl, inr}
use Rattle.std.specs.List.{Contains}
use Rattle.std.proofs.lemmas.Bool.{cases_eq, cases_lt}
use Rattle.std.proofs.lemmas.List.{get_or-set_same, get_or-set_other, length-set}
use Rattle.fd_factors.specs.fd_exact.States.{part}
use Rattle.fd_factors.specs.fd_exact.SumLaws.{sum_n-same, sum_n-zero}
use Rattle.fd_factors.specs.fd_exact.Sums.{sum_n}
use Rattle.fd_derived.specs.Rows.{number_at}
use Rattle.fd_derived.specs.Sums.{AreZero, IsSupported, spread}

-- one summand taken out
pub but_one : (f g : ℕ → ℕ) (p n : ℕ) → p < n → ((j : ℕ) → j ≢ p → f j ≡ g j) → g p ≡ 0 → sum_n f n ≡ sum_n g n + f p
but_one f g p zero h same e = absurd (omega arith)
but_one f g p (suc n) h same e =
    elim (cases_lt p n) [
      | inl l ↦
          let a = but_one f g p n l same e in
          let b = same n (λ q. omega arith) in
          omega arith
      | inr l ↦
          let q : p ≡ n = omega arith in
          let a = sum_n-same f g n (λ j s. same j (λ t. omega arith)) in
          let b : f p ≡ f n = ap f q in
          let c : g p ≡ g n = ap g q in
          omega arith
    ]

nothing_of : (z : ℤ) (m : ℕ) → z ≡ pos 0 → nat_abs z * m ≡ 0
nothing_of z m e = rw e (omega arith)

pub spread_less : (sums : List ℤ) (bounds : List ℕ) (p n : ℕ) → p < n → p < length sums
    → spread sums bounds n ≡ spread (set sums p (pos 0)) bounds n + nat_abs (part sums p) * number_at bounds p
spread_less sums bounds p n h l =
    but_one (λ j. nat_abs (part sums j) * number_at bounds j) (λ j. nat_abs (part (set sums p (pos 0)) j) * number_at bounds j) p n h
    (λ j apart. ap (λ z. nat_abs z * number_at bounds j) (sym (get_or-set_other sums p j (pos 0) (pos 0) apart)))
    (nothing_of (part (set sums p (pos 0)) p) (number_at bounds p) (get_or-set_same sums p (pos 0) (pos 0) l))

-- an element of a list is its first one, or one of the rest
first_or_rest : (p j : ℕ) (rest : List ℕ) → Contains (p ∷ rest) j → (p ≡ j) ⊎ Contains rest j
first_or_rest p j rest (zero, l, e) = inl e
first_or_rest p j rest (suc k, l, e) = inr (k, omega (arith, l), e)

pub supported_less : (sums : List ℤ) (p : ℕ) (rest : List ℕ) → p < length sums → IsSupported sums (p ∷ rest) → IsSupported (set sums p (pos 0)) rest
supported_less sums p rest p_in h j j_in =
    elim (cases_eq p j) [
      | inl same ↦ inl (subst (λ i. part (set sums p (pos 0)) i ≡ pos 0) same (get_or-set_same sums p (pos 0) (pos 0) p_in))
      | inr apart ↦ elim (h j (subst (λ n. j < n) (length-set sums p (pos 0)) j_in)) [
        | inl z ↦ inl (get_or-set_other sums p j (pos 0) (pos 0) (λ q. apart (sym q)) ∙ z)
        | inr c ↦ elim (first_or_rest p j rest c) [ inl same ↦ absurd (apart same) | inr d ↦ inr d ]
      ]
    ]

pub supported_nothing : (sums : List ℤ) → IsSupported sums [] → AreZero sums
supported_nothing sums h j j_in = elim (h j j_in) [ inl z ↦ z | inr c ↦ absurd (let l = c.1 in omega (arith, l)) ]

pub spread_nothing : (sums : List ℤ) (bounds : List ℕ) (n : ℕ) → length sums ≡ n → AreZero sums → spread sums bounds n ≡ 0
spread_nothing sums bounds n long h =
    sum_n-same (λ j. nat_abs (part sums j) * number_at bounds j) (λ j. 0) n
    (λ j l. nothing_of (part sums j) (number_at bounds j) (h j (subst (λ k. j < k) (sym long) l)))
    ∙ sum_n-zero n

-- where no place is touched all sums are 0
pub supported_start : (sums : List ℤ) (touched : List ℕ) → AreZero sums → IsSupported sums touched
supported_start sums touched h j j_in = inl (h j j_in)
