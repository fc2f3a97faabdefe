-- Multiples of rows added to sums, one entry more at a time.
use Rattle.std.proofs.Common.{◌≡◌, ◌∙◌, ℕ, ◌+◌, ◌*◌, ◌<◌, ◌≤◌, ◌^◌, ℤ, pos, ◌+ℤ◌, ◌*ℤ◌, nat_abs, cond, eqb, List, [], ◌∷◌, ◌++◌, length, set, take, arith, ap, refl, subst, sym, inl, inr, FitsSigned}
use Rattle.std.specs.Int.{w128}
use Rattle.std.specs.List.{Contains}
use Rattle.std.proofs.Math.Nat.{mul-le-mul_left}
use Rattle.std.proofs.lemmas.Bool.{cases_eq, ne_eqb, eq-eqb}
use Rattle.std.proofs.lemmas.Int.{fits_signed_from_abs, ints, unsigned_abs-mul}
use Rattle.std.proofs.lemmas.List.{get_or-set_same, get_or-set_other, length-set}
use Rattle.std.proofs.lemmas.List.Elements.{All-push, Contains-append_left, Contains-push}
use Rattle.fd_factors.specs.Factors.{sum_at, weighted_size}
use Rattle.fd_factors.specs.fd_exact.Integers.{abs_add, as_val, mul-add, vals, val-same}
use Rattle.fd_factors.specs.fd_exact.States.{part}
use Rattle.fd_factors.specs.fd_exact.Sums.{list_n, list_z}
use Rattle.fd_derived.specs.declared.entries.Entry.{Entry}
use Rattle.fd_derived.specs.Rows.{entries_of, entry_of}
use Rattle.fd_derived.specs.Sums.{AreInside, HasRoom, IsAdded, IsCombined, IsSupported, size_of}
use Rattle.fd_derived.proofs.Fronts.{front_low, in_row, list_more, list_more_z}

-- ---- one number

pub product_fits : (s f u : ℤ) → nat_abs s + nat_abs f * nat_abs u ≤ 2 ^ 120 → FitsSigned w128 (f *ℤ u)
product_fits s f u h =
    let m = unsigned_abs-mul f u in
    fits_signed_from_abs w128 (f *ℤ u) (omega arith)

pub sum_fits : (s f u : ℤ) → nat_abs s + nat_abs f * nat_abs u ≤ 2 ^ 120 → FitsSigned w128 (s +ℤ f *ℤ u)
sum_fits s f u h =
    let m = unsigned_abs-mul f u in
    let a = abs_add s (f *ℤ u) in
    fits_signed_from_abs w128 (s +ℤ f *ℤ u) (omega arith)

here : (o f u n : ℤ) → n ≡ o +ℤ f *ℤ u → n ≡ o +ℤ f *ℤ (u +ℤ pos 0)
here o f u n e = let z : u +ℤ pos 0 ≡ u = omega (arith, ints) in rw z e

there : (o f : ℤ) → o ≡ o +ℤ f *ℤ (pos 0 +ℤ pos 0)
there o f = omega (arith, ints)

more : (a b : ℕ) → a ≤ a + b
more a b = omega arith

low_here : (o f u n : ℤ) → n ≡ o +ℤ f *ℤ u → nat_abs n ≤ nat_abs o + nat_abs f * (nat_abs u + 0)
low_here o f u n e =
    let m = unsigned_abs-mul f u in
    let a = abs_add o (f *ℤ u) in
    let b = ap nat_abs e in
    omega arith

pub nothing_added : (sums : List ℤ) (p : ℕ) (u f : ℤ) → length sums ≤ p → IsAdded sums sums ((p, u) ∷ []) f
nothing_added sums p u f out = record {
  long = refl;
  sums = λ j j_in. let e = ne_eqb p j (λ s. omega arith) in rw e (there (part sums j) f);
  low = λ j j_in. more (nat_abs (part sums j)) (nat_abs f * (nat_abs u + 0));
}

pub one_added : (sums : List ℤ) (p : ℕ) (u f s : ℤ) → p < length sums → s ≡ part sums p +ℤ f *ℤ u
    → IsAdded sums (set sums p s) ((p, u) ∷ []) f
one_added sums p u f s p_in e = record {
  long = length-set sums p s;
  sums = λ j j_in. elim (cases_eq p j) [
    | inl same ↦ subst (λ i. part (set sums p s) i ≡ part sums i +ℤ f *ℤ (cond (eqb p i) u (pos 0) +ℤ pos 0)) same
        (rw (eq-eqb p p refl) (get_or-set_same sums p s (pos 0) p_in ∙ here (part sums p) f u s e))
    | inr apart ↦ rw (ne_eqb p j apart) (get_or-set_other sums p j s (pos 0) (λ q. apart (sym q)) ∙ there (part sums j) f)
  ];
  low = λ j j_in. elim (cases_eq p j) [
    | inl same ↦ subst (λ i. nat_abs (part (set sums p s) i) ≤ nat_abs (part sums i) + nat_abs f * (nat_abs u + 0)) same
        (rw (get_or-set_same sums p s (pos 0) p_in) (low_here (part sums p) f u s e))
    | inr apart ↦ rw (get_or-set_other sums p j s (pos 0) (λ q. apart (sym q))) (more (nat_abs (part sums j)) (nat_abs f * (nat_abs u + 0)))
  ];
}

pub supported_more : (sums : List ℤ) (touched : List ℕ) (p : ℕ) (s : ℤ) → IsSupported sums touched → IsSupported (set sums p s) (touched ++ p ∷ [])
supported_more sums touched p s h j j_in =
    elim (cases_eq p j) [
      | inl same ↦ inr (subst (Contains (touched ++ p ∷ [])) same (Contains-push touched p))
      | inr apart ↦ elim (h j (subst (λ n. j < n) (length-set sums p s) j_in)) [
        | inl z ↦ inl (get_or-set_other sums p j s (pos 0) (λ q. apart (sym q)) ∙ z)
        | inr c ↦ inr (Contains-append_left touched (p ∷ []) j c)
      ]
    ]

pub inside_more : (touched : List ℕ) (p n : ℕ) → AreInside touched n → p < n → AreInside (touched ++ p ∷ []) n
inside_more touched p n h l = All-push (λ (q : ℕ). q < n) touched p h l

-- ---- a row

pub added_start : (old : List ℤ) (factor : ℤ) → IsAdded old old [] factor
added_start old factor = record { long = refl; sums = λ j h. omega (arith, ints); low = λ j h. more (nat_abs (part old j)) (nat_abs factor * 0) }

two : (o f a b m n : ℤ) → m ≡ o +ℤ f *ℤ a → n ≡ m +ℤ f *ℤ (b +ℤ pos 0) → n ≡ o +ℤ f *ℤ (a +ℤ b)
two o f a b m n e g =
    let z : b +ℤ pos 0 ≡ b = omega (arith, ints) in
    let k : n ≡ m +ℤ f *ℤ b = rw z at g in
    let h = mul-add f a b in
    omega (arith, ints, e, k, h)

two_low : (o f a b m n : ℕ) → m ≤ o + f * a → n ≤ m + f * (b + 0) → n ≤ o + f * (a + b)
two_low o f a b m n e g = omega arith

pub added_more : (old mid new : List ℤ) (row : List Entry) (f : ℤ) (k : ℕ) → k < length row
    → IsAdded old mid (entries_of (take k row)) f → IsAdded mid new (entry_of (in_row row k) ∷ []) f
    → IsAdded old new (entries_of (take (k + 1) row)) f
added_more old mid new row f k k_in h g = record {
  long = g.long ∙ h.long;
  sums = λ j j_in.
      let at : ℕ × ℤ → ℤ = λ t. cond (eqb t.0 j) t.1 (pos 0) in
      subst (λ a. part new j ≡ part old j +ℤ f *ℤ a) (sym (list_more_z at row k k_in))
      (two (part old j) f (sum_at (entries_of (take k row)) j) (at (entry_of (in_row row k))) (part mid j) (part new j)
      (h.sums j j_in) (g.sums j (subst (λ n. j < n) (sym h.long) j_in)));
  low = λ j j_in.
      let size : ℕ × ℤ → ℕ = λ t. nat_abs t.1 in
      subst (λ a. nat_abs (part new j) ≤ nat_abs (part old j) + nat_abs f * a) (sym (list_more size row k k_in))
      (two_low (nat_abs (part old j)) (nat_abs f) (size_of (entries_of (take k row))) (nat_abs (in_row row k).units)
      (nat_abs (part mid j)) (nat_abs (part new j)) (h.low j j_in) (g.low j (subst (λ n. j < n) (sym h.long) j_in)));
}

room_step : (o f a u w m l : ℕ) → o + f * w ≤ l → a + u ≤ w → m ≤ o + f * a → m + f * u ≤ l
room_step o f a u w m l e g h = let p = mul-le-mul_left f g in omega arith

-- there is room for the next entry
pub room_for : (old mid : List ℤ) (row : List Entry) (f : ℤ) (k : ℕ) → k < length row → HasRoom old (nat_abs f * size_of (entries_of row))
    → IsAdded old mid (entries_of (take k row)) f → HasRoom mid (nat_abs f * nat_abs (in_row row k).units)
room_for old mid row f k k_in room h j j_in =
    let j_old = subst (λ n. j < n) h.long j_in in
    room_step (nat_abs (part old j)) (nat_abs f) (size_of (entries_of (take k row))) (nat_abs (in_row row k).units) (size_of (entries_of row))
    (nat_abs (part mid j)) (2 ^ 120) (room j j_old) (front_low (λ t. nat_abs t.1) row k k_in) (h.low j j_old)

-- ---- multiples of rows

pub combined_start : (old : List ℤ) (U : ℕ → List (ℕ × ℤ)) (sign : ℤ) → IsCombined old old [] U sign
combined_start old U sign = record { long = refl; sums = λ j h. omega (arith, ints); low = λ j h. more (nat_abs (part old j)) 0 }

once_more : (o s a u f m n : ℤ) → m ≡ o +ℤ s *ℤ a → n ≡ m +ℤ (s *ℤ u) *ℤ f → n ≡ o +ℤ s *ℤ (a +ℤ u *ℤ f)
once_more o s a u f m n e g = g ∙ rw e (ring o s a u f)
  where
    ring : (o s a u f : ℤ) → (o +ℤ s *ℤ a) +ℤ (s *ℤ u) *ℤ f ≡ o +ℤ s *ℤ (a +ℤ u *ℤ f)
    ring o s a u f = rw (as_val o, as_val s, as_val a, as_val u, as_val f) (simp vals (val-same _ _ _ _ (omega arith)))

low_more : (o a u f m n : ℕ) → m ≤ o + a → n ≤ m + u * f → n ≤ o + (a + u * f)
low_more o a u f m n e g = omega arith

pub combined_more : (old mid new : List ℤ) (row : List Entry) (U : ℕ → List (ℕ × ℤ)) (sign factor : ℤ) (k : ℕ) (items : List (ℕ × ℤ)) → k < length row
    → IsCombined old mid (entries_of (take k row)) U sign → U (in_row row k).place ≡ items
    → factor ≡ sign *ℤ (in_row row k).units → nat_abs sign ≡ 1
    → IsAdded mid new items factor
    → IsCombined old new (entries_of (take (k + 1) row)) U sign
combined_more old mid new row U sign factor k items k_in h is fact one g =
    let u = (in_row row k).units in
    let p = (in_row row k).place in
    let size : nat_abs factor ≡ nat_abs u = sized factor sign u fact one in
    record {
      long = g.long ∙ h.long;
      sums = λ j j_in.
          let at : ℕ × ℤ → ℤ = λ t. t.1 *ℤ sum_at (U t.0) j in
          let e = subst (λ its. part new j ≡ part mid j +ℤ factor *ℤ sum_at its j) (sym is) (g.sums j (subst (λ n. j < n) (sym h.long) j_in)) in
          let e2 = subst (λ x. part new j ≡ part mid j +ℤ x *ℤ sum_at (U p) j) fact e in
          subst (λ x. part new j ≡ part old j +ℤ sign *ℤ x) (sym (list_more_z at row k k_in))
          (once_more (part old j) sign (list_z at (entries_of (take k row))) u (sum_at (U p) j) (part mid j) (part new j) (h.sums j j_in) e2);
      low = λ j j_in.
          let weigh : ℕ × ℤ → ℕ = λ t. nat_abs t.1 * size_of (U t.0) in
          let e = subst (λ its. nat_abs (part new j) ≤ nat_abs (part mid j) + nat_abs factor * size_of its) (sym is) (g.low j (subst (λ n. j < n) (sym h.long) j_in)) in
          let e2 = subst (λ x. nat_abs (part new j) ≤ nat_abs (part mid j) + x * size_of (U p)) size e in
          subst (λ x. nat_abs (part new j) ≤ nat_abs (part old j) + x) (sym (list_more weigh row k k_in))
          (low_more (nat_abs (part old j)) (list_n weigh (entries_of (take k row))) (nat_abs u) (size_of (U p)) (nat_abs (part mid j)) (nat_abs (part new j))
          (h.low j j_in) e2);
    }
  where
    sized : (factor sign u : ℤ) → factor ≡ sign *ℤ u → nat_abs sign ≡ 1 → nat_abs factor ≡ nat_abs u
    sized factor sign u fact one = ap nat_abs fact ∙ unsigned_abs-mul sign u ∙ rw one (omega arith)

room_row : (o a u f w m l : ℕ) → o + w ≤ l → a + u * f ≤ w → m ≤ o + a → m + u * f ≤ l
room_row o a u f w m l e g h = omega arith

-- there is room for the next row
pub room_for_row : (old mid : List ℤ) (row : List Entry) (U : ℕ → List (ℕ × ℤ)) (sign : ℤ) (k : ℕ) → k < length row
    → HasRoom old (weighted_size (entries_of row) (λ l. size_of (U l))) → IsCombined old mid (entries_of (take k row)) U sign
    → HasRoom mid (nat_abs (in_row row k).units * size_of (U (in_row row k).place))
room_for_row old mid row U sign k k_in room h j j_in =
    let j_old = subst (λ n. j < n) h.long j_in in
    room_row (nat_abs (part old j)) (weighted_size (entries_of (take k row)) (λ l. size_of (U l))) (nat_abs (in_row row k).units)
    (size_of (U (in_row row k).place)) (weighted_size (entries_of row) (λ l. size_of (U l)))
    (nat_abs (part mid j)) (2 ^ 120) (room j j_old) (front_low (λ t. nat_abs t.1 * size_of (U t.0)) row k k_in) (h.low j j_old)
