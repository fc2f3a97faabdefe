-- The entries of a row that stand behind their places, pair by pair.
use Rattle.std.proofs.Common.{◌≡◌, ℕ, zero, suc, ◌+◌, ◌*◌, ◌-◌, ◌<◌, ◌≤◌, Bool, true, false, ℤ, pos, negsuc, List, [], ◌∷◌, ◌++◌, length, inl, inr, Option, Some, None, refl, ap, sym, ◌∙◌, arith, true≢false}
use Rattle.std.specs.Prelude.{nat_eq, nat_le, nat_lt, not, ◌&&◌, count_by, option_map, if◌then◌else◌}
use Rattle.std.proofs.lemmas.List.Sums.{sum_by-append, sum_by-cons}
use Rattle.std.specs.Option.{option_and_then}
use Rattle.std.specs.List.{slice_split}
use Rattle.std.proofs.lemmas.Bool.{cases_Bool, cond-true, cond-false, eq-eqb, ne_eqb, eqb-true, le-leb, lt-ltb}
use Rattle.std.proofs.lemmas.List.{append_assoc, append-nil, length-append}
use Rattle.fd_lines.specs.Numbers.{numbers_of}
use Rattle.fd_certfile.specs.Lines.{is_blank}
use Rattle.fd_certfile.specs.Blocks.{is_place, is_zero, is_entry, entries_at, pair_of, with_count}
use Rattle.fd_certfile.specs.Readings.{IsPut, IsUnput, RowIs, entries_in, is_between, kept, zeros}
use Rattle.fd_lines.proofs.CallerLemmas.{some_field}
use Rattle.fd_certfile.proofs.RowReading.{kept_append}
use Rattle.fd_certfile.proofs.RowForms.{entries_found, pairs_from}

-- ---- zeros

pub length-zeros : (n : ℕ) → length (zeros n) ≡ n
length-zeros zero = refl
length-zeros (suc n) = ap suc (length-zeros n)

pub zeros_more : (n : ℕ) → zeros (n + 1) ≡ zeros n ++ pos 0 ∷ []
zeros_more zero = refl
zeros_more (suc n) =
    let next : suc n + 1 ≡ suc (n + 1) = omega arith in
    ap zeros next ∙ ap (λ (zs : List ℤ). pos 0 ∷ zs) (zeros_more n)

-- none of them is an entry
pub zeros_none : (n : ℕ) → count_by is_entry (zeros n) ≡ 0
zeros_none zero = refl
zeros_none (suc n) = zeros_none n

ones : ℤ → ℕ
ones z = if is_entry z then 1 else 0

pub count_append : (xs ys : List ℤ) → count_by is_entry (xs ++ ys) ≡ count_by is_entry xs + count_by is_entry ys
unfolding ones
count_append xs ys = sum_by-append ones xs ys

-- ---- what the fields that are left give

pub none_left : (m j : ℕ) → entries_at m j [] ≡ Some (zeros m)
none_left zero j = refl
none_left (suc m) j = ap (option_map (λ r. pos 0 ∷ r)) (none_left m (suc j))

pub one_left : (m j : ℕ) (p : ℤ) → entries_at m j (p ∷ []) ≡ None
one_left zero j p = refl
one_left (suc m) j p = refl

twice : (d : ℕ) (e : ℤ) (o : Option (List ℤ))
    → option_map (λ r. pos 0 ∷ r) (option_map (λ r. zeros d ++ e ∷ r) o) ≡ option_map (λ r. zeros (suc d) ++ e ∷ r) o
twice d e None = refl
twice d e (Some r) = refl

-- a pair whose place is d behind the next one
skipped : (d m left j p : ℕ) (e : ℤ) (zs : List ℤ) → p ≡ j + d → m ≡ d + suc left → is_zero e ≡ false
    → entries_at m j (pos p ∷ e ∷ zs) ≡ option_map (λ r. zeros d ++ e ∷ r) (entries_at left (suc p) zs)
skipped d zero left j p e zs a b s = absurd (omega (arith, b))
skipped zero (suc m) left j p e zs a b s =
    let same : m ≡ left = omega (arith, b) in
    let here : p ≡ j = omega (arith, a) in
    cond-true (nat_eq p j) _ _ (eq-eqb p j here) ∙ cond-false (is_zero e) _ _ s
    ∙ ap (λ (k : ℕ). option_map (λ r. e ∷ r) (entries_at k (suc j) zs)) same
    ∙ ap (λ (k : ℕ). option_map (λ r. e ∷ r) (entries_at left (suc k) zs)) (sym here)
skipped (suc d) (suc m) left j p e zs a b s =
    cond-false (nat_eq p j) _ _ (ne_eqb p j (λ q. omega (arith, a, q)))
    ∙ ap (option_map (λ r. pos 0 ∷ r)) (skipped d m left (suc j) p e zs (omega (arith, a)) (omega (arith, b)) s)
    ∙ twice d e (entries_at left (suc p) zs)

-- an entry 0
zero_named : (m j : ℕ) (p e : ℤ) (zs : List ℤ) → is_zero e ≡ true → entries_at m j (p ∷ e ∷ zs) ≡ None
zero_named zero j p e zs h = refl
zero_named (suc m) j p e zs h = elim (cases_Bool (is_place j p)) [
  | inl here ↦ cond-true (is_place j p) _ _ here ∙ cond-true (is_zero e) _ _ h
  | inr elsewhere ↦ cond-false (is_place j p) _ _ elsewhere ∙ ap (option_map (λ r. pos 0 ∷ r)) (zero_named m (suc j) p e zs h)
]

-- a place that none of those left is
nowhere : (m j : ℕ) (p e : ℤ) (zs : List ℤ) → ((i : ℕ) → j ≤ i → i < j + m → is_place i p ≡ false)
    → entries_at m j (p ∷ e ∷ zs) ≡ None
nowhere zero j p e zs h = refl
nowhere (suc m) j p e zs h =
    cond-false (is_place j p) _ _ (h j (omega arith) (omega arith))
    ∙ ap (option_map (λ r. pos 0 ∷ r)) (nowhere m (suc j) p e zs (λ i a b. h i (omega (arith, a)) (omega (arith, b))))

outside : (next n : ℕ) (p : ℤ) → is_between next n p ≡ false → (i : ℕ) → next ≤ i → i < n → is_place i p ≡ false
outside next n (negsuc k) h i a b = refl
outside next n (pos k) h i a b = elim (cases_Bool (nat_eq k i)) [
  | inl same ↦
      let here : k ≡ i = eqb-true k i same in
      let both : (nat_le next k && nat_lt k n) ≡ true = rw (le-leb next k (omega (arith, a, here)), lt-ltb k n (omega (arith, b, here))) refl in
      absurd (true≢false (sym both ∙ h))
  | inr other ↦ other
]

-- fields that are left name an entry that isn't 0
length-pairs : (j : ℕ) (entries : List ℤ) → length (pairs_from j entries) ≡ 2 * count_by is_entry entries
unfolding ones
length-pairs j [] = refl
length-pairs j (e ∷ entries) =
    omega (arith, length-append (pair_of (j, e)) (pairs_from (j + 1) entries), long (is_zero e), length-pairs (j + 1) entries, sum_by-cons ones e entries)
  where
    long : (b : Bool) → length (if b then [] else pos j ∷ e ∷ []) ≡ 2 * (if not b then 1 else 0)
    long true = refl
    long false = refl

pub some_named : (m j : ℕ) (z : ℤ) (zs r : List ℤ) → entries_at m j (z ∷ zs) ≡ Some r → 0 < count_by is_entry r
some_named m j z zs r e =
    let f : z ∷ zs ≡ pairs_from j r = (entries_found m j (z ∷ zs) r e).1 in
    let l : suc (length zs) ≡ length (pairs_from j r) = ap length f in
    omega (arith, l, length-pairs j r)

-- ---- pairs, one after another

-- so many pairs were read: the entries up to the next place, and what the fields that are left give behind them
pub record ArePaired (keep : Bool) (old new : List ℤ) (n : ℕ) (all : List (List ℕ)) (k next : ℕ)
    (rest : List (List ℕ)) : Type 0 where
  pub front : List ℤ
  pub long : length front ≡ next
  pub within : next ≤ n
  pub many : count_by is_entry front ≡ k
  pub same : option_and_then (entries_at n 0) (numbers_of all)
      ≡ option_and_then (λ zs. option_map (λ r. front ++ r) (entries_at (n - next) next zs)) (numbers_of rest)
  pub added : new ≡ old ++ kept keep front

kept_none : (keep : Bool) (xs : List ℤ) → xs ≡ xs ++ kept keep []
kept_none true xs = sym (append-nil xs)
kept_none false xs = sym (append-nil xs)

as_it_is : (o : Option (List ℤ)) → o ≡ option_map (λ r. [] ++ r) o
as_it_is None = refl
as_it_is (Some r) = refl

each_as_it_is : (f : List ℤ → Option (List ℤ)) (o : Option (List ℤ))
    → option_and_then f o ≡ option_and_then (λ zs. option_map (λ r. [] ++ r) (f zs)) o
each_as_it_is f None = refl
each_as_it_is f (Some zs) = as_it_is (f zs)

pub paired_start : (keep : Bool) (old : List ℤ) (n : ℕ) (all : List (List ℕ)) → ArePaired keep old old n all 0 0 all
paired_start keep old n all = record {
  front = [];
  long = refl;
  within = omega arith;
  many = refl;
  same = each_as_it_is (entries_at n 0) (numbers_of all)
      ∙ ap (λ (m : ℕ). option_and_then (λ zs. option_map (λ r. [] ++ r) (entries_at m 0 zs)) (numbers_of all)) (omega arith);
  added = kept_none keep old;
}

-- two at the front of what is read
behind_two : (f : List ℤ → Option (List ℤ)) (p e : ℤ) (o : Option (List ℤ))
    → option_and_then f (option_map (λ zs. p ∷ e ∷ zs) o) ≡ option_and_then (λ zs. f (p ∷ e ∷ zs)) o
behind_two f p e None = refl
behind_two f p e (Some zs) = refl

each : (f g : List ℤ → Option (List ℤ)) (o : Option (List ℤ)) → ((zs : List ℤ) → f zs ≡ g zs)
    → option_and_then f o ≡ option_and_then g o
each f g None h = refl
each f g (Some zs) h = h zs

none_of : (f : List ℤ → Option (List ℤ)) (o : Option (List ℤ)) → ((zs : List ℤ) → o ≡ Some zs → f zs ≡ None)
    → option_and_then f o ≡ None
none_of f None h = refl
none_of f (Some zs) h = h zs refl

moved : (front : List ℤ) (d : ℕ) (e : ℤ) (o : Option (List ℤ))
    → option_map (λ r. front ++ r) (option_map (λ r. zeros d ++ e ∷ r) o) ≡ option_map (λ r. (front ++ (zeros d ++ e ∷ [])) ++ r) o
moved front d e None = refl
moved front d e (Some r) = ap Some (sym (append_assoc front (zeros d ++ e ∷ []) r
    ∙ ap (λ (t : List ℤ). front ++ t) (append_assoc (zeros d) (e ∷ []) r)))

module _ (keep : Bool) (old new : List ℤ) (n : ℕ) (all : List (List ℕ)) (k next : ℕ) (rest : List (List ℕ))
    (t : ArePaired keep old new n all k next rest) where
  pub paired_more : (p e : ℤ) (more : List (List ℕ)) (behind : ℕ) (now : List ℤ)
      → numbers_of rest ≡ option_map (λ zs. p ∷ e ∷ zs) (numbers_of more)
      → IsPut keep n next p e behind new now → ArePaired keep old now n all (k + 1) behind more
  paired_more p e more behind now f put =
      let d = put.at - next in
      let left = n - next - d - 1 in
      let below : put.at < n = put.below in
      let from : next ≤ put.at = put.from in
      let gone : n - behind ≡ left = omega (arith, below, from, put.behind_is) in
      record {
        front = t.front ++ (zeros d ++ e ∷ []);
        long = omega (arith, t.long, from, put.behind_is, length-append t.front (zeros d ++ e ∷ []), length-append (zeros d) (e ∷ []), length-zeros d);
        within = omega (arith, below, put.behind_is);
        many = count_append t.front (zeros d ++ e ∷ []) ∙ ap (λ (c : ℕ). count_by is_entry t.front + c) (count_append (zeros d) (e ∷ []))
            ∙ one_more put.some;
        same = t.same
            ∙ ap (option_and_then (λ zs. option_map (λ r. t.front ++ r) (entries_at (n - next) next zs))) f
            ∙ behind_two (λ zs. option_map (λ r. t.front ++ r) (entries_at (n - next) next zs)) p e (numbers_of more)
            ∙ each (λ zs. option_map (λ r. t.front ++ r) (entries_at (n - next) next (p ∷ e ∷ zs)))
            (λ zs. option_map (λ r. (t.front ++ (zeros d ++ e ∷ [])) ++ r) (entries_at (n - behind) behind zs)) (numbers_of more)
            (λ zs.
            ap (λ (z : ℤ). option_map (λ r. t.front ++ r) (entries_at (n - next) next (z ∷ e ∷ zs))) put.place_is
            ∙ ap (option_map (λ r. t.front ++ r)) (skipped d (n - next) left next put.at e zs (omega (arith, from)) (omega (arith, below, from)) put.some)
            ∙ moved t.front d e (entries_at left (suc put.at) zs)
            ∙ ap (λ (m : ℕ). option_map (λ r. (t.front ++ (zeros d ++ e ∷ [])) ++ r) (entries_at m (suc put.at) zs)) (sym gone)
            ∙ ap (λ (b : ℕ). option_map (λ r. (t.front ++ (zeros d ++ e ∷ [])) ++ r) (entries_at (n - behind) b zs)) (omega (arith, put.behind_is)));
        added = put.added ∙ ap (λ (l : List ℤ). l ++ kept keep (zeros d ++ e ∷ [])) t.added
            ∙ append_assoc old (kept keep t.front) (kept keep (zeros d ++ e ∷ []))
            ∙ ap (λ (l : List ℤ). old ++ l) (sym (kept_append keep t.front (zeros d ++ e ∷ [])));
      }
    where
      one_more : is_zero e ≡ false
          → count_by is_entry t.front + (count_by is_entry (zeros (put.at - next)) + count_by is_entry (e ∷ [])) ≡ k + 1
      one_more s = rw s (omega (arith, t.many, zeros_none (put.at - next)))

  -- with so many pairs at first, the row is this one, or none
  read_is : (count : ℤ)
      → entries_in n count (numbers_of all)
      ≡ option_and_then (with_count count) (option_and_then (λ zs. option_map (λ r. t.front ++ r) (entries_at (n - next) next zs)) (numbers_of rest))
  read_is count = nested (numbers_of all) ∙ ap (option_and_then (with_count count)) t.same
    where
      nested : (o : Option (List ℤ)) → option_and_then (λ zs. option_and_then (with_count count) (entries_at n 0 zs)) o
          ≡ option_and_then (with_count count) (option_and_then (entries_at n 0) o)
      nested None = refl
      nested (Some zs) = refl

  -- the entries so far and these are another number than so many
  other_count : (count : ℕ) (o : Option (List ℤ)) → ((r : List ℤ) → o ≡ Some r → count_by is_entry (t.front ++ r) ≡ count → ⊥)
      → option_and_then (with_count (pos count)) (option_map (λ r. t.front ++ r) o) ≡ None
  other_count count None h = refl
  other_count count (Some r) h = cond-false (nat_eq count (count_by is_entry (t.front ++ r))) _ _
      (ne_eqb count (count_by is_entry (t.front ++ r)) (λ q. h r refl (sym q)))

  by_numbers : (count : ℕ) (o : Option (List ℤ))
      → ((zs : List ℤ) → o ≡ Some zs
      → option_and_then (with_count (pos count)) (option_map (λ r. t.front ++ r) (entries_at (n - next) next zs)) ≡ None)
      → option_and_then (with_count (pos count)) (option_and_then (λ zs. option_map (λ r. t.front ++ r) (entries_at (n - next) next zs)) o) ≡ None
  by_numbers count None h = refl
  by_numbers count (Some zs) h = h zs refl

  few : (count : ℕ) → k < count → (zs : List ℤ) → length zs < 2
      → option_and_then (with_count (pos count)) (option_map (λ r. t.front ++ r) (entries_at (n - next) next zs)) ≡ None
  few count l [] s =
      ap (λ (o : Option (List ℤ)). option_and_then (with_count (pos count)) (option_map (λ r. t.front ++ r) o)) (none_left (n - next) next)
      ∙ other_count count (Some (zeros (n - next))) (λ r e c.
      let same : zeros (n - next) ≡ r = cc in
      omega (arith, l, c, t.many, count_append t.front r, ap (count_by is_entry) same, zeros_none (n - next)))
  few count l (p ∷ []) s =
      ap (λ (o : Option (List ℤ)). option_and_then (with_count (pos count)) (option_map (λ r. t.front ++ r) o)) (one_left (n - next) next p)
  few count l (p ∷ e ∷ zs) s = absurd (omega (arith, s))

  -- too few pairs
  pub paired_few : (count : ℕ) → k < count → ((zs : List ℤ) → numbers_of rest ≡ Some zs → length zs < 2)
      → entries_in n (pos count) (numbers_of all) ≡ None
  paired_few count l h = read_is (pos count) ∙ by_numbers count (numbers_of rest) (λ zs e. few count l zs (h zs e))

  unput : (p e : ℤ) (zs : List ℤ) → IsUnput n next p e → entries_at (n - next) next (p ∷ e ∷ zs) ≡ None
  unput p e zs h = elim (cases_Bool (is_zero e)) [
    | inl is ↦ zero_named (n - next) next p e zs is
    | inr isnt ↦ nowhere (n - next) next p e zs (λ i a b.
        outside next n p (rw isnt at h) i a (omega (arith, a, b, t.within)))
  ]

  -- a pair that isn't one
  pub paired_wrong : (count : ℕ) (p e : ℤ) (more : List (List ℕ))
      → numbers_of rest ≡ option_map (λ zs. p ∷ e ∷ zs) (numbers_of more) → IsUnput n next p e
      → entries_in n (pos count) (numbers_of all) ≡ None
  paired_wrong count p e more f h =
      read_is (pos count)
      ∙ ap (λ (o : Option (List ℤ)). option_and_then (with_count (pos count)) (option_and_then (λ zs. option_map (λ r. t.front ++ r) (entries_at (n - next) next zs)) o)) f
      ∙ at (numbers_of more)
    where
      at : (o : Option (List ℤ))
          → option_and_then (with_count (pos count)) (option_and_then (λ zs. option_map (λ r. t.front ++ r) (entries_at (n - next) next zs))
          (option_map (λ zs. p ∷ e ∷ zs) o)) ≡ None
      at None = refl
      at (Some zs) = ap (λ (r : Option (List ℤ)). option_and_then (with_count (pos count)) (option_map (λ q. t.front ++ q) r)) (unput p e zs h)

  -- as many pairs as are named
  pub paired_all : rest ≡ [] → (count : ℕ) → k ≡ count → (now : List ℤ) → now ≡ new ++ kept keep (zeros (n - next))
      → RowIs keep old now (entries_in n (pos count) (numbers_of all))
  paired_all e count c now f = record {
    entries = t.front ++ zeros (n - next);
    same = read_is (pos count)
        ∙ ap (λ (ts : List (List ℕ)). option_and_then (with_count (pos count)) (option_and_then (λ zs. option_map (λ r. t.front ++ r) (entries_at (n - next) next zs)) (numbers_of ts))) e
        ∙ ap (λ (o : Option (List ℤ)). option_and_then (with_count (pos count)) (option_map (λ r. t.front ++ r) o)) (none_left (n - next) next)
        ∙ cond-true (nat_eq count (count_by is_entry (t.front ++ zeros (n - next)))) _ _ (eq-eqb count (count_by is_entry (t.front ++ zeros (n - next)))
        (omega (arith, c, t.many, count_append t.front (zeros (n - next)), zeros_none (n - next))));
    added = f ∙ ap (λ (l : List ℤ). l ++ kept keep (zeros (n - next))) t.added
        ∙ append_assoc old (kept keep t.front) (kept keep (zeros (n - next)))
        ∙ ap (λ (l : List ℤ). old ++ l) (sym (kept_append keep t.front (zeros (n - next))));
  }

  -- more fields than are named
  pub paired_past : (text : List ℕ) → rest ≡ slice_split is_blank text → (count : ℕ) → k ≡ count
      → entries_in n (pos count) (numbers_of all) ≡ None
  paired_past text e count c =
      read_is (pos count)
      ∙ ap (λ (ts : List (List ℕ)). option_and_then (with_count (pos count)) (option_and_then (λ zs. option_map (λ r. t.front ++ r) (entries_at (n - next) next zs)) (numbers_of ts))) e
      ∙ some_field (λ o. option_and_then (with_count (pos count)) (option_and_then (λ zs. option_map (λ r. t.front ++ r) (entries_at (n - next) next zs)) o))
      None refl (λ z zs. other_count count (entries_at (n - next) next (z ∷ zs)) (λ r f q.
      omega (arith, c, q, t.many, count_append t.front r, some_named (n - next) next z zs r f))) text
