-- The least place at which a test fails is the first at which its contrary holds.
use Rattle.std.proofs.Common.{◌≡◌, ℕ, zero, suc, ◌<◌, ◌≤◌, ◌^◌, ℤ, pos, nat_abs, nat_le, nat_lt, not, Bool, true, false, List, [], ◌∷◌, length, get_or, Option, Some, None, is_some, refl, ap, sym, ◌∙◌, arith}
use Rattle.std.specs.Prelude.{◌&&◌, ◌||◌}
use Rattle.std.specs.List.{AllByRecursion, list_all}
use Rattle.std.proofs.lemmas.Bool.{leb-false, leb-true, lt-ltb, ltb-false}
use Rattle.fd_settle.specs.fd_exact.First.{first_place}
use Rattle.fd_settle.specs.fd_exact.FirstLaws.{first_none, first_some, none_holds}
use Rattle.fd_settle.specs.fd_exact.States.{part}
use Rattle.fd_certfile.specs.Rules.{is_within, least_from}
use Rattle.fd_certfile.proofs.RuleOrder.{Decides-all, Decides-within, least_none, least_some}

pub least_is : (n : ℕ) (test bad : ℕ → Bool) → ((i : ℕ) → i < n → bad i ≡ not (test i))
    → least_from 0 n test ≡ first_place bad n
least_is n test bad h = by (least_from 0 n test) refl
  where
    by : (o : Option ℕ) → least_from 0 n test ≡ o → o ≡ first_place bad n
    by None e = sym (first_none bad n (λ k l. h k l ∙ ap not (least_none n 0 test e k (omega arith) (omega (arith, l)))))
    by (Some k) e =
        let s = least_some n 0 test k e in
        let below : k < n = omega (arith, s.below) in
        sym (first_some bad n k below (λ j m. h j (omega (arith, m, below)) ∙ ap not (s.least j (omega arith) m)) (h k below ∙ ap not s.fails))

pub none_found : (o : Option ℕ) → is_some o ≡ false → o ≡ None
none_found None e = refl
none_found (Some k) e = let no : ⊥ = cc in absurd no

-- ---- tests

not_past : (limit n : ℕ) → n ≤ limit → nat_lt limit n ≡ false
not_past limit n h = grind arith

pub lt_not : (a b : ℕ) → nat_lt a b ≡ not (nat_le b a)
lt_not a b = by (nat_le b a) refl
  where
    by : (t : Bool) → nat_le b a ≡ t → nat_lt a b ≡ not t
    by true e = not_past a b (leb-true b a e)
    by false e = lt-ltb a b (leb-false b a e)

pub or_not : (a b : Bool) → (not a || not b) ≡ not (a && b)
or_not true b = refl
or_not false b = refl

pub opposite : (a b : Bool) → (a ≡ true → b ≡ false) → (b ≡ false → a ≡ true) → b ≡ not a
opposite true b f g = f refl
opposite false true f g = refl
opposite false false f g = let no : ⊥ = let e = g refl in cc in absurd no

-- ---- entries

pub all_at : {X : Type 0} (P : X → Type 0) (d : X) (xs : List X) (i : ℕ) → AllByRecursion P xs → i < length xs
    → P (get_or xs i d)
all_at P d [] i a l = absurd (omega (arith, l))
all_at P d (x ∷ xs) zero a l = a.0
all_at P d (x ∷ xs) (suc i) a l = all_at P d xs i a.1 (omega (arith, l))

all_from : {X : Type 0} (P : X → Type 0) (d : X) (xs : List X) → ((i : ℕ) → i < length xs → P (get_or xs i d))
    → AllByRecursion P xs
all_from P d [] h = tt
all_from P d (x ∷ xs) h = (h 0 (omega arith), all_from P d xs (λ i l. h (suc i) (omega (arith, l))))

pub is_wide : (n : ℕ) (row : List ℤ) → length row ≡ n
    → is_some (first_place (λ col. nat_lt (2 ^ 56) (nat_abs (part row col))) n) ≡ not (list_all (is_within (2 ^ 56)) row)
is_wide n row long = opposite (list_all (is_within (2 ^ 56)) row) (is_some (first_place (λ col. nat_lt (2 ^ 56) (nat_abs (part row col))) n)) from_all to_all
  where
    from_all : list_all (is_within (2 ^ 56)) row ≡ true
        → is_some (first_place (λ col. nat_lt (2 ^ 56) (nat_abs (part row col))) n) ≡ false
    from_all e =
        let all = (Decides-all (is_within (2 ^ 56)) (λ z. nat_abs z ≤ 2 ^ 56) (Decides-within (2 ^ 56)) row).0 e in
        ap is_some (first_none (λ col. nat_lt (2 ^ 56) (nat_abs (part row col))) n (λ col l.
        not_past (2 ^ 56) (nat_abs (part row col))
        (all_at (λ z. nat_abs z ≤ 2 ^ 56) (pos 0) row col all (omega (arith, l, long)))))

    to_all : is_some (first_place (λ col. nat_lt (2 ^ 56) (nat_abs (part row col))) n) ≡ false
        → list_all (is_within (2 ^ 56)) row ≡ true
    to_all e =
        let none = none_found (first_place (λ col. nat_lt (2 ^ 56) (nat_abs (part row col))) n) e in
        (Decides-all (is_within (2 ^ 56)) (λ z. nat_abs z ≤ 2 ^ 56) (Decides-within (2 ^ 56)) row).1
        (all_from (λ z. nat_abs z ≤ 2 ^ 56) (pos 0) row (λ col l.
        ltb-false (2 ^ 56) (nat_abs (part row col))
        (none_holds (λ k. nat_lt (2 ^ 56) (nat_abs (part row k))) n col none (omega (arith, l, long)))))
