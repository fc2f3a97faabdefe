-- The places of a row's entries: tests, and what they say.
use Rattle.std.proofs.Common.{◌≡◌, ◌≢◌, ◌∙◌, ℕ, zero, suc, ◌+◌, ◌<◌, ◌≤◌, ℤ, pos, Bool, true, false, ◌||◌, eqb, leb, is_none, Option, Some, None, List, [], ◌∷◌, ◌++◌, length, get_or, take, set, arith, ap, refl, subst, sym, inl, inr}
use Rattle.std.specs.List.{list_any}
use Rattle.std.proofs.lemmas.Bool.{and_from, cases_eq, eq-eqb, eqb-false, le-leb, leb-false, lt-leb, ne_eqb, or_from, or_left, or_parts, or_right}
use Rattle.std.proofs.lemmas.List.{get_or-set_same, get_or-set_other, get_or-take, get_or_default, length-map, length-take, take_more}
use Rattle.fd_factors.specs.Factors.{DerivedRow, HasPlaces}
use Rattle.fd_factors.specs.fd_exact.FirstLaws.{first_none, first_some, none_holds}
use Rattle.fd_derived.specs.Accepted.{HasDistinctPlaces}
use Rattle.fd_derived.specs.Refusals.{has_places, is_misplaced, is_named, is_placed, place_at}
use Rattle.fd_derived.specs.Rows.{entries_of, entry_of, number_at}
use Rattle.fd_derived.specs.declared.entries.Entry.{Entry}
use Rattle.fd_derived.proofs.Fronts.{entry_at, in_row}

none_is : {A : Type 0} (o : Option A) → is_none o ≡ true → o ≡ None
none_is None e = refl
none_is (Some a) e = let no : ⊥ = cc in absurd no

-- no element meets a test
any_false : {A : Type 0} (test : A → Bool) (xs : List A) → list_any test xs ≡ false → (i : ℕ) (d : A) → i < length xs → test (get_or xs i d) ≡ false
any_false test [] e i d h = absurd (omega arith)
any_false test (x ∷ xs) e zero d h = (or_parts (test x) (list_any test xs) e).0
any_false test (x ∷ xs) e (suc i) d h = any_false test xs (or_parts (test x) (list_any test xs) e).1 i d (omega arith)

any_none : {A : Type 0} (test : A → Bool) (xs : List A) → ((i : ℕ) (d : A) → i < length xs → test (get_or xs i d) ≡ false) → list_any test xs ≡ false
any_none test [] h = refl
any_none test (x ∷ xs) h = or_from (test x) (list_any test xs) (h 0 x (omega arith)) (any_none test xs (λ i d l. h (suc i) d (omega arith)))

-- what a test of places says
pub placed_below : (n : ℕ) (row : List (ℕ × ℤ)) → has_places n row ≡ true → HasPlaces n row
placed_below n row e k d h =
    let none = none_holds (is_misplaced n row) (length row) k (none_is _ e) h in
    let low = leb-false n (place_at row k) (or_parts (leb n (place_at row k)) (is_named (take k row) (place_at row k)) none).0 in
    subst (λ (t : ℕ × ℤ). t.0 < n) (get_or_default row k (0, pos 0) d h) low

pub placed_once : (n : ℕ) (row : List (ℕ × ℤ)) → has_places n row ≡ true → HasDistinctPlaces row
placed_once n row e i k i_k h =
    let none = none_holds (is_misplaced n row) (length row) k (none_is _ e) h in
    let free = (or_parts (leb n (place_at row k)) (is_named (take k row) (place_at row k)) none).1 in
    let there : i < length (take k row) = omega (arith, length-take k row) in
    let apart = any_false (λ (t : ℕ × ℤ). eqb t.0 (place_at row k)) (take k row) free i (0, pos 0) there in
    eqb-false (place_at row i) (place_at row k) (ap (λ (t : ℕ × ℤ). eqb t.0 (place_at row k)) (sym (get_or-take k row i (0, pos 0) i_k)) ∙ apart)

pub places_hold : (n : ℕ) (row : List (ℕ × ℤ)) → HasPlaces n row → HasDistinctPlaces row → has_places n row ≡ true
places_hold n row low apart = ap is_none (first_none (is_misplaced n row) (length row) each)
  where
    each : (k : ℕ) → k < length row → is_misplaced n row k ≡ false
    each k h =
        or_from (leb n (place_at row k)) (is_named (take k row) (place_at row k)) (lt-leb n (place_at row k) (low k (0, pos 0) h))
        (any_none (λ (t : ℕ × ℤ). eqb t.0 (place_at row k)) (take k row) (λ i d l.
        let i_k : i < k = omega (arith, l, length-take k row) in
        let i_in : i < length row = omega arith in
        ne_eqb (get_or (take k row) i d).0 (place_at row k)
        (subst (λ (t : ℕ × ℤ). t.0 ≢ place_at row k) (get_or_default row i (0, pos 0) d i_in ∙ sym (get_or-take k row i d i_k)) (apart i k i_k h))))

pub row_placed : (n m : ℕ) (row : DerivedRow) → has_places n row.equations ≡ true → has_places m row.others ≡ true → has_places n row.left ≡ true
    → is_placed n m row ≡ true
row_placed n m row e f g = and_from _ _ e (and_from _ _ f g)

-- ---- the loop over a row's entries

pub place_is : (row : List Entry) (k : ℕ) → k < length row → place_at (entries_of row) k ≡ (in_row row k).place
place_is row k h = ap (λ (t : ℕ × ℤ). t.0) (entry_at row k h)

pub misplaced_found : (n : ℕ) (row : List Entry) (k : ℕ) → k < length row → ((i : ℕ) → i < k → is_misplaced n (entries_of row) i ≡ false)
    → is_misplaced n (entries_of row) k ≡ true → false ≡ has_places n (entries_of row)
misplaced_found n row k h before here =
    sym (ap is_none (first_some (is_misplaced n (entries_of row)) (length (entries_of row)) k (omega (arith, length-map row entry_of)) before here))

pub none_misplaced : (n : ℕ) (row : List Entry) → ((i : ℕ) → i < length row → is_misplaced n (entries_of row) i ≡ false)
    → true ≡ has_places n (entries_of row)
none_misplaced n row none =
    sym (ap is_none (first_none (is_misplaced n (entries_of row)) (length (entries_of row)) (λ i l. none i (omega (arith, l, length-map row entry_of)))))

pub past_the_end : (n : ℕ) (row : List Entry) (k : ℕ) → k < length row → n ≤ (in_row row k).place → is_misplaced n (entries_of row) k ≡ true
past_the_end n row k h l =
    or_left (leb n (place_at (entries_of row) k)) (is_named (take k (entries_of row)) (place_at (entries_of row) k))
    (le-leb n (place_at (entries_of row) k) (subst (λ p. n ≤ p) (sym (place_is row k h)) l))

pub named_twice : (n mark : ℕ) (marks : List ℕ) (row : List Entry) (k : ℕ) → k < length row
    → eqb (number_at marks (in_row row k).place) mark ≡ is_named (take k (entries_of row)) (in_row row k).place
    → number_at marks (in_row row k).place ≡ mark → is_misplaced n (entries_of row) k ≡ true
named_twice n mark marks row k h marked e =
    or_right (leb n (place_at (entries_of row) k)) (is_named (take k (entries_of row)) (place_at (entries_of row) k))
    (subst (λ p. is_named (take k (entries_of row)) p ≡ true) (sym (place_is row k h)) (sym marked ∙ eq-eqb _ _ e))

pub well_placed : (n mark : ℕ) (marks : List ℕ) (row : List Entry) (k : ℕ) → k < length row
    → eqb (number_at marks (in_row row k).place) mark ≡ is_named (take k (entries_of row)) (in_row row k).place
    → (in_row row k).place < n → (number_at marks (in_row row k).place ≡ mark → ⊥) → is_misplaced n (entries_of row) k ≡ false
well_placed n mark marks row k h marked l ne =
    or_from (leb n (place_at (entries_of row) k)) (is_named (take k (entries_of row)) (place_at (entries_of row) k))
    (lt-leb n (place_at (entries_of row) k) (subst (λ p. p < n) (sym (place_is row k h)) l))
    (subst (λ p. is_named (take k (entries_of row)) p ≡ false) (sym (place_is row k h)) (sym marked ∙ ne_eqb _ _ ne))

any_more : (row : List (ℕ × ℤ)) (t : ℕ × ℤ) (q : ℕ) → is_named (row ++ t ∷ []) q ≡ is_named row q || eqb t.0 q
any_more [] t q = or_nothing (eqb t.0 q)
  where
    or_nothing : (b : Bool) → (b || false) ≡ b
    or_nothing true = refl
    or_nothing false = refl
any_more (u ∷ row) t q = ap (λ b. eqb u.0 q || b) (any_more row t q) ∙ regroup (eqb u.0 q) (is_named row q) (eqb t.0 q)
  where
    regroup : (a b c : Bool) → (a || (b || c)) ≡ ((a || b) || c)
    regroup true b c = refl
    regroup false b c = refl

pub marked_more : (mark : ℕ) (marks : List ℕ) (row : List Entry) (k : ℕ) → k < length row → (in_row row k).place < length marks
    → ((q : ℕ) → q < length marks → eqb (number_at marks q) mark ≡ is_named (take k (entries_of row)) q)
    → (q : ℕ) → q < length marks
    → eqb (number_at (set marks (in_row row k).place mark) q) mark ≡ is_named (take (k + 1) (entries_of row)) q
marked_more mark marks row k h p_in marked q q_in =
    let p = (in_row row k).place in
    let more : is_named (take (k + 1) (entries_of row)) q ≡ is_named (take k (entries_of row)) q || eqb p q =
    ap (λ (r : List (ℕ × ℤ)). is_named r q) (take_more (entries_of row) k (0, pos 0) (omega (arith, length-map row entry_of)))
    ∙ any_more (take k (entries_of row)) (get_or (entries_of row) k (0, pos 0)) q
    ∙ ap (λ (t : ℕ × ℤ). is_named (take k (entries_of row)) q || eqb t.0 q) (entry_at row k h) in
    elim (cases_eq p q) [
      | inl same ↦
          subst (λ i. eqb (number_at (set marks p mark) i) mark ≡ is_named (take (k + 1) (entries_of row)) i) same
          (ap (λ x. eqb x mark) (get_or-set_same marks p mark 0 p_in) ∙ eq-eqb mark mark refl
          ∙ sym (subst (λ i. is_named (take (k + 1) (entries_of row)) i ≡ is_named (take k (entries_of row)) i || eqb p i) (sym same) more
          ∙ or_right (is_named (take k (entries_of row)) p) (eqb p p) (eq-eqb p p refl)))
      | inr apart ↦
          ap (λ x. eqb x mark) (get_or-set_other marks p q mark 0 (λ e. apart (sym e))) ∙ marked q q_in
          ∙ sym (more ∙ ap (λ b. is_named (take k (entries_of row)) q || b) (ne_eqb p q apart) ∙ or_false (is_named (take k (entries_of row)) q))
    ]
  where
    or_false : (b : Bool) → (b || false) ≡ b
    or_false true = refl
    or_false false = refl

pub low_more : (mark : ℕ) (marks : List ℕ) (p : ℕ) → p < length marks → ((q : ℕ) → q < length marks → number_at marks q ≤ mark)
    → (q : ℕ) → q < length marks → number_at (set marks p mark) q ≤ mark
low_more mark marks p p_in low q q_in =
    elim (cases_eq p q) [
      | inl same ↦ subst (λ i. number_at (set marks p mark) i ≤ mark) same (rw (get_or-set_same marks p mark 0 p_in) (omega arith))
      | inr apart ↦ rw (get_or-set_other marks p q mark 0 (λ e. apart (sym e))) (low q q_in)
    ]
