-- Places are noted, and become due, one after another.
use Rattle.std.proofs.Common.{◌≡◌, ℕ, zero, suc, ◌+◌, ◌<◌, nat_eq, Bool, true, false, cond, ◌&&◌, ◌||◌, List, [], ◌∷◌, ◌++◌, length, get_or, take, drop, Some, refl, sym, ap, ◌∙◌, arith, add-one}
use Rattle.std.specs.List.{list_any}
use Rattle.std.specs.Map.{lookup}
use Rattle.std.specs.Global.{Vec}
use Rattle.std.proofs.lemmas.Slice.Eq.{bytes_eq-Decides}
use Rattle.std.specs.BTreeMap.{is_at}
use Rattle.std.specs.Ordering.{nat_cmp}
use Rattle.std.proofs.lemmas.Bool.Decides.{nat_tests}
use Rattle.dss_layout.specs.dss_lexer.Texts.{text_eq}
use Rattle.dss_layout.specs.dss_model.declared.element.Element.{Element}
use Rattle.dss_layout.specs.dss_model.declared.names.ElementName.{ElementName}
use Rattle.dss_circuit.specs.Circuit.{Elements}
use Rattle.fd_bases.specs.Due.{Noted, Notes, places_of, is_noted, touches, touches_at}

-- ---- tests

or_assoc : (a b c : Bool) → (a || (b || c)) ≡ ((a || b) || c)
or_assoc true b c = refl
or_assoc false b c = refl

or_false : (a : Bool) → (a || false) ≡ a
or_false true = refl
or_false false = refl

and_false : (a : Bool) → (a && false) ≡ false
and_false true = refl
and_false false = refl

and_true : (a : Bool) → (a && true) ≡ a
and_true true = refl
and_true false = refl

at_place : (place other : ℕ) → is_at (nat_cmp place) other ≡ nat_eq other place
at_place place other = grind (arith, nat_tests)

eq_suc : (a b : ℕ) → nat_eq (suc a) (suc b) ≡ nat_eq a b
eq_suc a b = grind (arith, nat_tests)

one_due : (b a m : Bool) → cond b true (a || m) ≡ (a || (m || b))
one_due true true m = refl
one_due true false true = refl
one_due true false false = refl
one_due false true m = refl
one_due false false true = refl
one_due false false false = refl

any_last : (test : ℕ → Bool) (xs : List ℕ) (x : ℕ) → list_any test (xs ++ x ∷ []) ≡ (list_any test xs || test x)
any_last test [] x = or_false (test x)
any_last test (y ∷ ys) x = ap (λ b. test y || b) (any_last test ys x) ∙ or_assoc (test y) (list_any test ys) (test x)

-- ---- one more place at a bus

-- a bus whose places are known has one more, and no other bus has
pub place_noted : (before after : Noted) (bus : List ℕ) (place : ℕ) (old new : Vec ℕ)
    → lookup (text_eq bus) before ≡ Some old → new.items ≡ old.items ++ place ∷ []
    → ((q : List ℕ) → lookup (text_eq q) after ≡ cond (text_eq bus q) (Some new) (lookup (text_eq q) before))
    → Notes (text_eq bus) place before after
place_noted before after bus place old new found pushed is q other = by (text_eq bus q) refl
  where
    test : List ℕ → Bool
    test xs = list_any (nat_eq other) xs

    by : (b : Bool) → text_eq bus q ≡ b
        → test (places_of (lookup (text_eq q) after)) ≡ (test (places_of (lookup (text_eq q) before)) || (text_eq bus q && nat_eq other place))
    by true same =
        let one : bus ≡ q = (bytes_eq-Decides bus q).0 same in
        ap (λ v. test (places_of v)) (is q ∙ ap (λ b. cond b (Some new) (lookup (text_eq q) before)) same)
        ∙ ap test pushed
        ∙ any_last (nat_eq other) old.items place
        ∙ ap (λ v. test (places_of v) || nat_eq other place) (sym found ∙ ap (λ x. lookup (text_eq x) before) one)
        ∙ ap (λ b. test (places_of (lookup (text_eq q) before)) || (b && nat_eq other place)) (sym same)
    by false apart =
        ap (λ v. test (places_of v)) (is q ∙ ap (λ b. cond b (Some new) (lookup (text_eq q) before)) apart)
        ∙ sym (or_false (test (places_of (lookup (text_eq q) before))))
        ∙ ap (λ b. test (places_of (lookup (text_eq q) before)) || (b && nat_eq other place)) (sym apart)

-- ---- a loop over places

any_suc : (test : ℕ → Bool) (xs : List ℕ) (i : ℕ) → i < length xs
    → (list_any test (take i xs) || test (get_or xs i 0)) ≡ list_any test (take (suc i) xs)
any_suc test [] i low = absurd (omega (arith, low))
any_suc test (x ∷ xs) zero low = sym (or_false (test x))
any_suc test (x ∷ xs) (suc i) low =
    sym (or_assoc (test x) (list_any test (take i xs)) (test (get_or xs i 0)))
    ∙ ap (λ b. test x || b) (any_suc test xs i (omega arith))

-- the place at an index is due too
pub woken_more : (xs : List ℕ) (i other : ℕ) (before mid after : Bool) → i < length xs
    → mid ≡ (before || list_any (nat_eq other) (take i xs))
    → after ≡ cond (is_at (nat_cmp (get_or xs i 0)) other) true mid
    → after ≡ (before || list_any (nat_eq other) (take (i + 1) xs))
woken_more xs i other before mid after low so_far is =
    let p : ℕ = get_or xs i 0 in
    is
    ∙ ap (λ b. cond b true mid) (at_place p other)
    ∙ ap (λ m. cond (nat_eq other p) true m) so_far
    ∙ one_due (nat_eq other p) before (list_any (nat_eq other) (take i xs))
    ∙ ap (λ b. before || b) (any_suc (nat_eq other) xs i low)
    ∙ ap (λ n. before || list_any (nat_eq other) (take n xs)) (sym (add-one i))

-- ---- a loop over elements

pub rest_within : {X : Type 0} (k : ℕ) (xs : List X) (x : X) (rest : List X) → drop k xs ≡ x ∷ rest → k < length xs
rest_within zero [] x rest h = absurd (let no : [] ≡ x ∷ rest = h in cc)
rest_within (suc k) [] x rest h = absurd (let no : [] ≡ x ∷ rest = h in cc)
rest_within zero (y ∷ xs) x rest h = omega arith
rest_within (suc k) (y ∷ xs) x rest h = let low = rest_within k xs x rest h in omega (arith, low)

rest_suc : {X : Type 0} (k : ℕ) (xs : List X) (x : X) (rest : List X) → drop k xs ≡ x ∷ rest → drop (suc k) xs ≡ rest
rest_suc zero [] x rest h = absurd (let no : [] ≡ x ∷ rest = h in cc)
rest_suc (suc k) [] x rest h = absurd (let no : [] ≡ x ∷ rest = h in cc)
rest_suc zero (y ∷ xs) x rest h = cc
rest_suc (suc k) (y ∷ xs) x rest h = rest_suc k xs x rest h

pub rest_more : {X : Type 0} (k : ℕ) (xs : List X) (x : X) (rest : List X) → drop k xs ≡ x ∷ rest → drop (k + 1) xs ≡ rest
rest_more k xs x rest h = ap (λ n. drop n xs) (add-one k) ∙ rest_suc k xs x rest h

pub whole_taken : {X : Type 0} (k : ℕ) (xs : List X) → drop k xs ≡ [] → take k xs ≡ xs
whole_taken zero [] h = refl
whole_taken (suc k) [] h = refl
whole_taken zero (y ∷ xs) h = absurd (let no : y ∷ xs ≡ [] = h in cc)
whole_taken (suc k) (y ∷ xs) h = ap (λ ys. y ∷ ys) (whole_taken k xs h)

touches_suc : (es rest : Elements) (k : ℕ) (x : ElementName × Element) → drop k es ≡ x ∷ rest → (bus : List ℕ) (p : ℕ)
    → (touches_at (take k es) p bus || (touches x.1 bus && nat_eq p k)) ≡ touches_at (take (suc k) es) p bus
touches_suc [] rest zero x h bus p = absurd (let no : [] ≡ x ∷ rest = h in cc)
touches_suc [] rest (suc k) x h bus p = absurd (let no : [] ≡ x ∷ rest = h in cc)
touches_suc (e ∷ es) rest zero x h bus zero =
    let one : e ≡ x = cc in
    and_true (touches x.1 bus) ∙ ap (λ (y : ElementName × Element). touches y.1 bus) (sym one)
touches_suc (e ∷ es) rest zero x h bus (suc p) =
    let no : nat_eq (suc p) 0 ≡ false = grind (arith, nat_tests) in
    ap (λ b. touches x.1 bus && b) no ∙ and_false (touches x.1 bus)
touches_suc (e ∷ es) rest (suc k) x h bus zero =
    let no : nat_eq 0 (suc k) ≡ false = grind (arith, nat_tests) in
    ap (λ b. touches e.1 bus || (touches x.1 bus && b)) no
    ∙ ap (λ b. touches e.1 bus || b) (and_false (touches x.1 bus))
    ∙ or_false (touches e.1 bus)
touches_suc (e ∷ es) rest (suc k) x h bus (suc p) =
    ap (λ b. touches_at (take k es) p bus || (touches x.1 bus && b)) (eq_suc p k) ∙ touches_suc es rest k x h bus p

-- the next element is noted at the buses that it touches
pub noted_more : (es rest : Elements) (k : ℕ) (x : ElementName × Element) (before after : Noted) → drop k es ≡ x ∷ rest
    → ((bus : List ℕ) (p : ℕ) → is_noted before bus p ≡ touches_at (take k es) p bus)
    → Notes (touches x.1) k before after
    → (bus : List ℕ) (p : ℕ) → is_noted after bus p ≡ touches_at (take (k + 1) es) p bus
noted_more es rest k x before after h so_far notes bus p =
    notes bus p
    ∙ ap (λ b. b || (touches x.1 bus && nat_eq p k)) (so_far bus p)
    ∙ touches_suc es rest k x h bus p
    ∙ ap (λ n. touches_at (take n es) p bus) (sym (add-one k))
