-- A base of a list that comes before each of them is the nearest.
use Rattle.std.proofs.Common.{◌≡◌, ℕ, suc, ◌≤◌, ◌<◌, ◌+◌, ℤ, pos, ◌≤ℤ◌, Bool, true, false, cond, List, [], ◌∷◌, length, get_or, drop, drop-cons, add-one, zero, filter, fold, All, Contains, ◌⊎◌, inl, inr, refl, sym, ap, ◌∙◌, subst, arith, nat_le}
use Rattle.std.specs.Int.{int_min}
use Rattle.std.proofs.lemmas.Int.{ints, fold-int_min_reached, fold-int_min_bounds}
use Rattle.std.proofs.lemmas.List.Elements.{All-nil, All-cons, All-head, All-tail, All-contains, All-filter, filter_passes, Contains-get_or, Contains-append_left, Contains-append_cases, Contains-append_right}
use Rattle.std.proofs.lemmas.List.{drop_all}
use Rattle.std.proofs.lemmas.List.Sums.{AllPass-from_list_all, list_all-from_AllPass}
use Rattle.std.proofs.lemmas.Bool.Decides.{nat_tests}
use Rattle.fd_bases.specs.declared.nominal.Nominal.{Nominal}
use Rattle.fd_bases.specs.Nearest.{distance, IsBefore, is_nearest, least, nearest}

-- this one of the bases comes before each
pub record IsChosen (nominal : Nominal) (bases : List ℤ) (base : ℤ) : Type 0 where
  pub among : Contains bases base
  pub before : All (IsBefore nominal base) bases

-- ---- the order

itself : (nominal : Nominal) (a : ℤ) → IsBefore nominal a a
itself nominal a = (omega arith, λ _. omega (arith, ints))

chain : (nominal : Nominal) (a b c : ℤ) → IsBefore nominal a b → IsBefore nominal b c → IsBefore nominal a c
chain nominal a b c h k = (
  omega (arith, h.0, k.0),
  λ e.
      let p : a ≤ℤ b = h.1 (omega (arith, k.0)) in
      let q : b ≤ℤ c = k.1 (omega (arith, h.0)) in
      omega (arith, ints, p, q),
)

-- ---- one base after another

alone : (nominal : Nominal) (a : ℤ) → IsChosen nominal (a ∷ []) a
alone nominal a = record {
  among = Contains-get_or (a ∷ []) 0 a (omega arith);
  before = All-cons (IsBefore nominal a) a [] (itself nominal a) (All-nil (IsBefore nominal a));
}

-- of two one that comes before both stands for both
one_of_two : (nominal : Nominal) (a b r z : ℤ) (rest : List ℤ) → (r ≡ b) ⊎ (r ≡ a) → IsBefore nominal r b
    → IsBefore nominal r a
    → IsChosen nominal (r ∷ rest) z → IsChosen nominal (a ∷ b ∷ rest) z
one_of_two nominal a b r z rest one before_b before_a h =
    let first : IsBefore nominal z r = All-head (IsBefore nominal z) r rest h.before in
    record {
      among = among r one h.among;
      before = All-cons (IsBefore nominal z) a (b ∷ rest) (chain nominal z r a first before_a)
          (All-cons (IsBefore nominal z) b rest (chain nominal z r b first before_b) (All-tail (IsBefore nominal z) r rest h.before));
    }
  where
    among : (r : ℤ) → (r ≡ b) ⊎ (r ≡ a) → Contains (r ∷ rest) z → Contains (a ∷ b ∷ rest) z
    among r (inl e) there = Contains-append_right (a ∷ []) (b ∷ rest) z (subst (λ x. Contains (x ∷ rest) z) e there)
    among r (inr e) there = behind (Contains-append_cases (a ∷ []) rest z (subst (λ x. Contains (x ∷ rest) z) e there))
      where
        behind : Contains (a ∷ []) z ⊎ Contains rest z → Contains (a ∷ b ∷ rest) z
        behind (inl here) = Contains-append_left (a ∷ []) (b ∷ rest) z here
        behind (inr there) = Contains-append_right (a ∷ b ∷ []) rest z there

pub either : (P : ℤ → Type 0) (a b r : ℤ) → (r ≡ b) ⊎ (r ≡ a) → P b → P a → P r
either P a b r (inl e) at_b at_a = subst P (sym e) at_b
either P a b r (inr e) at_b at_a = subst P (sym e) at_a

pub next_best : (nominal : Nominal) (all others : List ℤ) (i : ℕ) (a b r : ℤ) → i < length others
    → b ≡ get_or others i (pos 0)
    → (r ≡ b) ⊎ (r ≡ a) → IsBefore nominal r b → IsBefore nominal r a
    → ((z : ℤ) → IsChosen nominal (a ∷ drop i others) z → IsChosen nominal all z)
    → (z : ℤ) → IsChosen nominal (r ∷ drop (i + 1) others) z → IsChosen nominal all z
next_best nominal all others i a b r low is one before_b before_a so_far z h =
    let split : drop i others ≡ b ∷ drop (i + 1) others = drop-cons' others i low ∙ ap (λ x. x ∷ drop (i + 1) others) (sym is) in
    so_far z (subst (λ xs. IsChosen nominal (a ∷ xs) z) (sym split) (one_of_two nominal a b r z (drop (i + 1) others) one before_b before_a h))
  where
    drop-cons' : (xs : List ℤ) (k : ℕ) → k < length xs → drop k xs ≡ get_or xs k (pos 0) ∷ drop (k + 1) xs
    drop-cons' xs k low = rw (add-one, drop-cons xs k (pos 0)) refl

-- ---- it is the nearest

contains_filter : (p : ℤ → Bool) (xs : List ℤ) (x : ℤ) → Contains xs x → p x ≡ true → Contains (filter p xs) x
contains_filter p [] x h e = absurd (omega (arith, h.1))
contains_filter p (y ∷ ys) x h e = by (p y) refl (Contains-append_cases (y ∷ []) ys x h) (λ there. contains_filter p ys x there e)
  where
    is_first : Contains (y ∷ []) x → y ≡ x
    is_first (zero, low, is) = is
    is_first (suc k, low, is) = absurd (omega arith)

    by : (b : Bool) → p y ≡ b → Contains (y ∷ []) x ⊎ Contains ys x → (Contains ys x → Contains (filter p ys) x)
        → Contains (cond (p y) (y ∷ filter p ys) (filter p ys)) x
    by true is (inl here) rest = rw is (Contains-append_left (y ∷ []) (filter p ys) x here)
    by false is (inl here) rest = absurd (let same : p y ≡ p x = ap p (is_first here) in cc)
    by true is (inr there) rest = rw is (Contains-append_right (y ∷ []) (filter p ys) x (rest there))
    by false is (inr there) rest = rw is (rest there)

least_is : (xs : List ℤ) (z : ℤ) → Contains xs z → All (λ x. z ≤ℤ x) xs → least xs ≡ z
least_is [] z h all = absurd (omega (arith, h.1))
least_is (x ∷ xs) z h all =
    let r : ℤ = fold int_min x xs in
    let bounds = fold-int_min_bounds x xs r refl in
    let low : r ≤ℤ z = All-contains (λ y. r ≤ℤ y) (x ∷ xs) z (All-cons (λ y. r ≤ℤ y) x xs bounds.0 bounds.1) h in
    let high : z ≤ℤ r = by r (fold-int_min_reached x xs r refl) in
    omega (arith, ints, low, high)
  where
    by : (r : ℤ) → (r ≡ x) ⊎ Contains xs r → z ≤ℤ r
    by r (inl e) = subst (λ y. z ≤ℤ y) (sym e) (All-head (λ y. z ≤ℤ y) x xs all)
    by r (inr there) = All-contains (λ y. z ≤ℤ y) xs r (All-tail (λ y. z ≤ℤ y) x xs all) there

le_true : (m n : ℕ) → m ≤ n → nat_le m n ≡ true
le_true m n h = grind (arith, nat_tests)

true_le : (m n : ℕ) → nat_le m n ≡ true → m ≤ n
true_le m n h = grind (arith, nat_tests)

chosen_nearest : (nominal : Nominal) (bases : List ℤ) (z : ℤ) → IsChosen nominal bases z → nearest nominal bases ≡ z
chosen_nearest nominal bases z h =
    let p : ℤ → Bool = is_nearest nominal bases in
    let passes : p z ≡ true =
    list_all-from_AllPass (λ other. nat_le (distance nominal z) (distance nominal other)) bases
    (λ k d low. le_true _ _ (h.before k d low).0) in
    let low : All (λ x. z ≤ℤ x) (filter p bases) =
    λ k d low. (All-filter p (IsBefore nominal z) bases h.before k d low).1 (as_near (get_or (filter p bases) k d) (filter_passes p bases k d low)) in
    least_is (filter p bases) z (contains_filter p bases z h.among passes) low
  where
    as_near : (base : ℤ) → is_nearest nominal bases base ≡ true → distance nominal base ≤ distance nominal z
    as_near base e =
        true_le _ _ (All-contains (λ other. nat_le (distance nominal base) (distance nominal other) ≡ true) bases z
        (AllPass-from_list_all (λ other. nat_le (distance nominal base) (distance nominal other)) bases e) h.among)

pub last_best : (nominal : Nominal) (all others : List ℤ) (i : ℕ) (a : ℤ) → length others ≤ i
    → ((z : ℤ) → IsChosen nominal (a ∷ drop i others) z → IsChosen nominal all z) → a ≡ nearest nominal all
last_best nominal all others i a low so_far =
    let none : drop i others ≡ [] = drop_all i others low in
    sym (chosen_nearest nominal all a (so_far a (subst (λ rest. IsChosen nominal (a ∷ rest) a) (sym none) (alone nominal a))))
