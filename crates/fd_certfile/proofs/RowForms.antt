-- A row has one form in each version.
use Rattle.std.proofs.Common.{◌≡◌, ℕ, zero, suc, ◌+◌, ◌≤◌, true, false, ℤ, pos, negsuc, List, [], ◌∷◌, length, inl, inr, Some, None, refl, ap, sym, subst, ◌∙◌, arith, add-one}
use Rattle.std.specs.Prelude.{nat_eq, flat_map, count_by, option_map, option_and_then, if◌then◌else◌}
use Rattle.std.specs.List.{enumerate_from}
use Rattle.std.proofs.lemmas.Bool.{cases_Bool, cond-true, cond-false, eq-eqb, eqb-true, ne_eqb}
use Rattle.fd_certfile.specs.Blocks.{Version, Whole, Sparse, is_place, is_zero, is_entry, pair_of, fields_of, entries_at, with_count, row_of}
use Rattle.fd_lines.proofs.CallerLemmas.{let_through, and_then_some, map_some}

-- the pairs of entries whose first has this place
abbrev pub pairs_from : ℕ → List ℤ → List ℤ
pairs_from j entries = flat_map pair_of (enumerate_from j entries)

pub is_zero_pos : (z : ℤ) → is_zero z ≡ true → z ≡ pos 0
is_zero_pos (pos n) h = ap pos (eqb-true n 0 h)
is_zero_pos (negsuc n) h = absurd cc

pub place_is : (i : ℕ) (z : ℤ) → is_place i z ≡ true → z ≡ pos i
place_is i (pos n) h = ap pos (eqb-true n i h)
place_is i (negsuc n) h = absurd cc

pub is_place_self : (i : ℕ) → is_place i (pos i) ≡ true
is_place_self i = eq-eqb i i refl

-- ---- written and read

-- every pair's place is at least j
abbrev StartsFrom : ℕ → List ℤ → Type 0
StartsFrom j [] = Unit {0}
StartsFrom j (pos p ∷ fields) = j ≤ p
StartsFrom j (negsuc p ∷ fields) = ⊥

starts_pairs : (j k : ℕ) (entries : List ℤ) → j ≤ k → StartsFrom j (pairs_from k entries)
starts_pairs j k [] l = tt
starts_pairs j k (e ∷ entries) l =
    elim (cases_Bool (is_zero e)) [
      | inl is ↦ rw (cond-true (is_zero e) [] (pos k ∷ e ∷ []) is) (starts_pairs j (k + 1) entries (omega arith))
      | inr isnt ↦ rw (cond-false (is_zero e) [] (pos k ∷ e ∷ []) isnt) l
    ]

-- where no pair has this place, the entry is 0
skipped : (n j : ℕ) (fields : List ℤ) (r : List ℤ) → StartsFrom (suc j) fields → entries_at n (suc j) fields ≡ Some r
    → entries_at (suc n) j fields ≡ Some (pos 0 ∷ r)
skipped n j [] r s e = ap (option_map (λ r. pos 0 ∷ r)) e
skipped zero j (p ∷ []) r s e = absurd cc
skipped (suc n) j (p ∷ []) r s e = absurd cc
skipped n j (pos p ∷ e ∷ fields) r s h =
    let no : nat_eq p j ≡ false = ne_eqb p j (λ q. omega (arith, s, q)) in
    cond-false (nat_eq p j) _ _ no ∙ ap (option_map (λ r. pos 0 ∷ r)) h
skipped n j (negsuc p ∷ e ∷ fields) r s h = absurd s

pub entries_again : (j : ℕ) (entries : List ℤ) → entries_at (length entries) j (pairs_from j entries) ≡ Some entries
entries_again j [] = refl
entries_again j (e ∷ entries) =
    let rest : entries_at (length entries) (suc j) (pairs_from (suc j) entries) ≡ Some entries = entries_again (suc j) entries in
    elim (cases_Bool (is_zero e)) [
      | inl is ↦
          rw (cond-true (is_zero e) [] (pos j ∷ e ∷ []) is, add-one)
          (skipped (length entries) j (pairs_from (suc j) entries) entries (starts_pairs (suc j) (suc j) entries (omega arith)) rest
          ∙ ap (λ (z : ℤ). Some (z ∷ entries)) (sym (is_zero_pos e is)))
      | inr isnt ↦
          rw (cond-false (is_zero e) [] (pos j ∷ e ∷ []) isnt, add-one)
          (cond-true (is_place j (pos j)) _ _ (is_place_self j) ∙ cond-false (is_zero e) _ _ isnt ∙ ap (option_map (λ r. e ∷ r)) rest)
    ]

pub row_again : (v : Version) (n : ℕ) (entries : List ℤ) → length entries ≡ n
    → row_of v n (fields_of v entries) ≡ Some entries
row_again Whole n entries h = cond-true (nat_eq (length entries) n) (Some entries) None (eq-eqb (length entries) n h)
row_again Sparse n entries h =
    subst (λ (m : ℕ). row_of Sparse m (fields_of Sparse entries) ≡ Some entries) h
    (ap (option_and_then (with_count (pos (count_by is_entry entries)))) (entries_again 0 entries)
    ∙ (cond-true (is_place (count_by is_entry entries) (pos (count_by is_entry entries))) (Some entries) None
    (is_place_self (count_by is_entry entries))))

-- ---- read and written

none_some : {A : Type 0} {x : A} → None ≡ Some x → ⊥
none_some e = cc

here_found : (n j : ℕ) (p e : ℤ) (fields entries : List ℤ) → is_place j p ≡ true
    → (if is_zero e then None else option_map (λ r. e ∷ r) (entries_at n (suc j) fields)) ≡ Some entries
    → ((m : (r : List ℤ) × (entries_at n (suc j) fields ≡ Some r) × (e ∷ r ≡ entries)) → (length m.0 ≡ n) × (fields ≡ pairs_from (suc j) m.0))
    → (length entries ≡ suc n) × (p ∷ e ∷ fields ≡ pairs_from j entries)
here_found n j p e fields entries here h rest_found =
    elim (cases_Bool (is_zero e)) [
      | inl none ↦ absurd (none_some (sym (cond-true (is_zero e) None _ none) ∙ h))
      | inr some ↦
          let m = map_some (λ r. e ∷ r) (entries_at n (suc j) fields) entries (sym (cond-false (is_zero e) None _ some) ∙ h) in
          let rest = rest_found m in
          subst (λ (r : List ℤ). (length r ≡ suc n) × (p ∷ e ∷ fields ≡ pairs_from j r)) m.2 (
            ap suc rest.0,
            rw (cond-false (is_zero e) [] (pos j ∷ e ∷ []) some, add-one)
                (ap (λ (q : ℤ). q ∷ e ∷ fields) (place_is j p here) ∙ ap (λ (f : List ℤ). pos j ∷ e ∷ f) rest.1),
          )
    ]

pub entries_found : (n j : ℕ) (fields entries : List ℤ) → entries_at n j fields ≡ Some entries
    → (length entries ≡ n) × (fields ≡ pairs_from j entries)
entries_found zero j [] entries e = let nil : [] ≡ entries = cc in subst (λ (r : List ℤ). (length r ≡ 0) × ([] ≡ pairs_from j r)) nil (refl, refl)
entries_found zero j (p ∷ fields) entries e = absurd cc
entries_found (suc n) j [] entries e =
    let m = map_some (λ r. pos 0 ∷ r) (entries_at n (suc j) []) entries e in
    let rest = entries_found n (suc j) [] m.0 m.1 in
    subst (λ (r : List ℤ). (length r ≡ suc n) × ([] ≡ pairs_from j r)) m.2 (ap suc rest.0, rw add-one rest.1)
entries_found (suc n) j (p ∷ []) entries e = absurd cc
entries_found (suc n) j (p ∷ e ∷ fields) entries h =
    let skip = λ (m : (r : List ℤ) × (entries_at n (suc j) (p ∷ e ∷ fields) ≡ Some r) × (pos 0 ∷ r ≡ entries)).
    entries_found n (suc j) (p ∷ e ∷ fields) m.0 m.1 in
    let take = λ (m : (r : List ℤ) × (entries_at n (suc j) fields ≡ Some r) × (e ∷ r ≡ entries)). entries_found n (suc j) fields m.0 m.1 in
    elim (cases_Bool (is_place j p)) [
      | inl here ↦ here_found n j p e fields entries here (sym (cond-true (is_place j p) _ _ here) ∙ h) take
      | inr elsewhere ↦
          let m = map_some (λ r. pos 0 ∷ r) (entries_at n (suc j) (p ∷ e ∷ fields)) entries (sym (cond-false (is_place j p) _ _ elsewhere) ∙ h) in
          let rest = skip m in
          subst (λ (r : List ℤ). (length r ≡ suc n) × (p ∷ e ∷ fields ≡ pairs_from j r)) m.2 (ap suc rest.0, rw add-one rest.1)
    ]

count_found : (count : ℤ) (entries r : List ℤ) → with_count count entries ≡ Some r
    → (entries ≡ r) × (count ≡ pos (count_by is_entry r))
count_found count entries r e =
    let g = let_through (is_place (count_by is_entry entries) count) entries r e in
    (g.1, place_is (count_by is_entry entries) count g.0 ∙ ap (λ (x : List ℤ). pos (count_by is_entry x)) g.1)

pub row_found : (v : Version) (n : ℕ) (fields entries : List ℤ) → row_of v n fields ≡ Some entries
    → (length entries ≡ n) × (fields ≡ fields_of v entries)
row_found Whole n fields entries e =
    let g = let_through (nat_eq (length fields) n) fields entries e in
    (sym (ap length g.1) ∙ eqb-true (length fields) n g.0, g.1)
row_found Sparse n [] entries e = absurd cc
row_found Sparse n (count ∷ fields) entries e =
    let a = and_then_some (with_count count) (entries_at n 0 fields) entries e in
    let b = entries_found n 0 fields a.0 a.1 in
    let c = count_found count a.0 entries a.2 in
    (sym (ap length c.0) ∙ b.0, ap (λ (k : ℤ). k ∷ fields) c.1 ∙ ap (λ (f : List ℤ). pos (count_by is_entry entries) ∷ f) (b.1 ∙ ap (pairs_from 0) c.0))
