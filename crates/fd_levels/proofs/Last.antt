-- No level is above the number of buses: a round that finds none is the last, and each other one finds one more.
use Rattle.std.proofs.Common.{◌≡◌, ◌∙◌, ℕ, zero, suc, ◌+◌, ◌-◌, ◌<◌, ◌≤◌, ◌==◌, nat_eq, nat_le, Bool, true, false, ◌&&◌, ◌||◌, List, [], ◌∷◌, ◌⊎◌, inl, inr, Option, Some, None, is_some, refl, sym, ap, arith, if◌then◌else◌}
use Rattle.std.specs.List.{list_any}
use Rattle.std.specs.Option.{option_or}
use Rattle.std.proofs.lemmas.Bool.Decides.{nat_tests}
use Rattle.fd_ladder.specs.dss_layout.fd_exact.First.{first_place}
use Rattle.fd_ladder.specs.dss_layout.fd_exact.FirstLaws.{found, none_holds, place_below}
use Rattle.fd_levels.specs.Levels.{is_led, is_level, level_by, or_level, starts}
use Rattle.fd_levels.specs.LevelLaws.{LastLevelLaw, is_led_by}
use Rattle.fd_levels.specs.declared.feed.Feed.{Feed}
use Rattle.fd_levels.proofs.Least.{least_by, same_level}
use Rattle.fd_levels.proofs.Rounds.{and_none, given_where, level_below, level_or_none, level_past, level_suc, level_zero}

-- ---- how many numbers pass a test

abbrev one : Bool → ℕ
one true = 1
one false = 0

one_most : (b : Bool) → one b ≤ 1
one_most true = omega arith
one_most false = omega arith

one_more : (a b : Bool) → (a ≡ true → b ≡ true) → one a ≤ one b
one_more true b h = let here : one b ≡ 1 = ap one (h refl) in omega (arith, here)
one_more false b h = omega arith

-- of those below m
abbrev passing : (ℕ → Bool) → ℕ → ℕ
passing p zero = 0
passing p (suc m) = passing p m + one (p m)

most : (p : ℕ → Bool) (m : ℕ) → passing p m ≤ m
most p zero = omega arith
most p (suc m) = omega (arith, most p m, one_most (p m))

more : (p q : ℕ → Bool) → ((b : ℕ) → p b ≡ true → q b ≡ true) → (m : ℕ) → passing p m ≤ passing q m
more p q h zero = omega arith
more p q h (suc m) = omega (arith, more p q h m, one_more (p m) (q m) (h m))

last : (k m : ℕ) → k < suc m → (k < m) ⊎ (k ≡ m)
last k m h = grind arith

gains : (p q : ℕ → Bool) → ((b : ℕ) → p b ≡ true → q b ≡ true) → (m k : ℕ) → k < m → p k ≡ false → q k ≡ true
    → passing p m + 1 ≤ passing q m
gains p q h zero k low none some = absurd (omega (arith, low))
gains p q h (suc m) k low none some = by (λ below. gains p q h m k below none some) (last k m low)
  where
    by : (k < m → passing p m + 1 ≤ passing q m) → (k < m) ⊎ (k ≡ m) → passing p m + one (p m) + 1 ≤ passing q m + one (q m)
    by before (inl below) = omega (arith, before below, one_more (p m) (q m) (h m))
    by before (inr same) =
        let before_it : one (p m) ≡ 0 = ap (λ j. one (p j)) (sym same) ∙ ap one none in
        let with_it : one (q m) ≡ 1 = ap (λ j. one (q j)) (sym same) ∙ ap one some in
        omega (arith, before_it, with_it, more p q h m)

-- where as many as there are pass, each passes
each_passes : (p : ℕ → Bool) (m k : ℕ) → m ≤ passing p m → k < m → p k ≡ true
each_passes p m k all low = by (p k) refl
  where
    by : (b : Bool) → p k ≡ b → p k ≡ true
    by true is = is
    by false is =
        let past = gains p (λ _. true) (λ _ _. refl) m k low is refl in
        absurd (omega (arith, past, all, most (λ _. true) m))

-- the first number passes
place_holds : (p : ℕ → Bool) (n k : ℕ) → first_place p n ≡ Some k → p k ≡ true
place_holds p zero k e = absurd (let no : None ≡ Some k = e in cc)
place_holds p (suc n) k e = by (first_place p n) (p n) (place_holds p n k) refl e
  where
    by : (o : Option ℕ) (b : Bool) → (o ≡ Some k → p k ≡ true) → p n ≡ b → option_or o (if b then Some n else None) ≡ Some k → p k ≡ true
    by (Some j) b h is found = h found
    by None true h is found = let same : n ≡ k = cc in ap p (sym same) ∙ is
    by None false h is found = absurd (let no : None ≡ Some k = found in cc)

some_level : (n : ℕ) (x : Option ℕ) → is_level n x ≡ true → is_some x ≡ true
some_level n None h = absurd (let no : false ≡ true = h in cc)
some_level n (Some l) h = refl

kept_some : (x y : Option ℕ) → is_some x ≡ true → is_some (or_level x y) ≡ true
kept_some None y h = absurd (let no : false ≡ true = h in cc)
kept_some (Some l) y h = refl

-- a level that comes with a round wasn't there before
new_level : (x y : Option ℕ) (n : ℕ) → is_level n x ≡ false → is_level n (or_level x y) ≡ true → is_some x ≡ false
new_level None y n old new = refl
new_level (Some l) y n old new = absurd (let never : false ≡ true = sym old ∙ new in cc)

unled : (from : ℕ → Bool) → ((x : ℕ) → from x ≡ false) → (b : ℕ) (fs : List Feed) → is_led fs from b ≡ false
unled from none b [] = refl
unled from none b (f ∷ fs) =
    ap (λ p. ((f.far == b) && p) || is_led fs from b) (none f.near)
    ∙ ap (λ p. p || is_led fs from b) (and_none (f.far == b))
    ∙ unled from none b fs

-- ---- rounds

module _ (count : ℕ) (feeds : List Feed) where
  -- so many buses have a level then
  abbrev known : ℕ → ℕ
  known n = passing (λ b. is_some (level_by count feeds n b)) (count + 1)

  stays : (n : ℕ) → ((b : ℕ) → is_level n (level_by count feeds n b) ≡ false) → (b : ℕ) → level_by count feeds (suc n) b ≡ level_by count feeds n b
  stays n still b =
      level_suc count feeds n b
      ∙ ap (λ p. or_level (level_by count feeds n b) (given_where (nat_le b count && p) (suc n))) (unled (λ near. is_level n (level_by count feeds n near)) still b feeds)
      ∙ ap (λ p. or_level (level_by count feeds n b) (given_where p (suc n))) (and_none (nat_le b count))
      ∙ sym (level_or_none (level_by count feeds n b))

  still_next : (n : ℕ) → ((b : ℕ) → is_level n (level_by count feeds n b) ≡ false) → (b : ℕ) → is_level (suc n) (level_by count feeds (suc n) b) ≡ false
  still_next n still b = ap (is_level (suc n)) (stays n still b) ∙ level_below count feeds n (suc n) b (omega arith)

  abbrev later : ℕ → ℕ → ℕ
  later zero n = n
  later (suc k) n = suc (later k n)

  later_is : (k n : ℕ) → later k n ≡ n + k
  later_is zero n = omega arith
  later_is (suc k) n = ap suc (later_is k n) ∙ (let next : suc (n + k) ≡ n + suc k = omega arith in next)

  still_later : (k n : ℕ) → ((b : ℕ) → is_level n (level_by count feeds n b) ≡ false)
      → ((b : ℕ) → is_level (later k n) (level_by count feeds (later k n) b) ≡ false) × ((b : ℕ) → level_by count feeds (later k n) b ≡ level_by count feeds n b)
  still_later zero n still = (still, λ b. refl)
  still_later (suc k) n still =
      let before = still_later k n still in
      (still_next (later k n) before.0, λ b. stays (later k n) before.0 b ∙ before.1 b)

  -- levels that are found stay
  kept : (k n b : ℕ) → is_some (level_by count feeds n b) ≡ true → is_some (level_by count feeds (later k n) b) ≡ true
  kept zero n b h = h
  kept (suc k) n b h =
      ap is_some (level_suc count feeds (later k n) b) ∙ kept_some (level_by count feeds (later k n) b) _ (kept k n b h)

  starts_here : (fs : List Feed) → list_any (nat_eq count) (starts count fs) ≡ true
  starts_here [] = ap (λ p. p || false) (same_level count)
  starts_here (f ∷ fs) = ap (λ p. p || (nat_eq count f.far || false)) (same_level count)

  low_here : nat_le count count ≡ true
  low_here = grind (arith, nat_tests)

  first_known : 1 ≤ known 0
  first_known =
      let here : is_some (level_by count feeds 0 count) ≡ true =
      ap is_some (level_zero count feeds count)
      ∙ ap (λ p. is_some (given_where (p && list_any (nat_eq count) (starts count feeds)) 0)) low_here
      ∙ ap (λ p. is_some (given_where p 0)) (starts_here feeds) in
      let more : passing (λ _. false) (count + 1) + 1 ≤ passing (λ b. is_some (level_by count feeds 0 b)) (count + 1) =
      gains (λ _. false) (λ b. is_some (level_by count feeds 0 b)) (λ b never. absurd (let no : false ≡ true = never in cc)) (count + 1) count (omega arith) refl here in
      omega (arith, more)

  next_known : (n k : ℕ) → k < count + 1 → is_level (suc n) (level_by count feeds (suc n) k) ≡ true → known n + 1 ≤ known (suc n)
  next_known n k low here =
      gains (λ b. is_some (level_by count feeds n b)) (λ b. is_some (level_by count feeds (suc n) b)) (λ b h. kept 1 n b h) (count + 1) k low
      (new_level (level_by count feeds n k) _ (suc n) (level_below count feeds n (suc n) k (omega arith)) (sym (ap (is_level (suc n)) (level_suc count feeds n k)) ∙ here))
      (some_level (suc n) (level_by count feeds (suc n) k) here)

  none_anywhere : (n : ℕ) → first_place (λ b. is_level n (level_by count feeds n b)) (count + 1) ≡ None → (b : ℕ) → is_level n (level_by count feeds n b) ≡ false
  none_anywhere n none b = by (nat_le b count) refl
    where
      by : (low : Bool) → nat_le b count ≡ low → is_level n (level_by count feeds n b) ≡ false
      by true low =
          let below : b < count + 1 = grind (arith, nat_tests) in
          none_holds (λ c. is_level n (level_by count feeds n c)) (count + 1) b none below
      by false past = ap (is_level n) (level_past count feeds n b past)

  -- a round up to this one finds none, or there are more levels than rounds
  still_or_more : (n : ℕ) → ((m : ℕ) × (m ≤ n) × ((b : ℕ) → is_level m (level_by count feeds m b) ≡ false)) ⊎ (n + 1 ≤ known n)
  still_or_more zero = inr first_known
  still_or_more (suc n) = next n (still_or_more n)
    where
      next : (n : ℕ) → ((m : ℕ) × (m ≤ n) × ((b : ℕ) → is_level m (level_by count feeds m b) ≡ false)) ⊎ (n + 1 ≤ known n)
          → ((m : ℕ) × (m ≤ suc n) × ((b : ℕ) → is_level m (level_by count feeds m b) ≡ false)) ⊎ (suc n + 1 ≤ known (suc n))
      next n (inl still) = inl (still.0, omega (arith, still.1), still.2)
      next n (inr all) = by (first_place (λ b. is_level (suc n) (level_by count feeds (suc n) b)) (count + 1)) refl
        where
          by : (o : Option ℕ) → first_place (λ b. is_level (suc n) (level_by count feeds (suc n) b)) (count + 1) ≡ o
              → ((m : ℕ) × (m ≤ suc n) × ((b : ℕ) → is_level m (level_by count feeds m b) ≡ false)) ⊎ (suc n + 1 ≤ known (suc n))
          by None none = inl (suc n, omega arith, none_anywhere (suc n) none)
          by (Some k) at =
              let more = next_known n k (place_below _ (count + 1) k at) (place_holds (λ b. is_level (suc n) (level_by count feeds (suc n) b)) (count + 1) k at) in
              inr (omega (arith, all, more))

  -- a level that is found at any time is found in as many rounds as there are buses
  found_by : (n b : ℕ) → is_some (level_by count feeds n b) ≡ true → is_some (level_by count feeds count b) ≡ true
  found_by n b h = by (still_or_more count)
    where
      at : (m k : ℕ) → later (k) m ≡ m + k → (j : ℕ) → m + k ≡ j → level_by count feeds (later k m) b ≡ level_by count feeds j b
      at m k is j same = ap (λ i. level_by count feeds i b) (is ∙ same)

      early : n ≤ count → is_some (level_by count feeds count b) ≡ true
      early low = sym (ap is_some (at n (count - n) (later_is (count - n) n) count (omega (arith, low)))) ∙ kept (count - n) n b h

      past : count ≤ n → ((m : ℕ) × (m ≤ count) × ((c : ℕ) → is_level m (level_by count feeds m c) ≡ false)) → is_some (level_by count feeds count b) ≡ true
      past high still =
          let m = still.0 in
          let first = (still_later (count - m) m still.2).1 b in
          let second = (still_later (n - m) m still.2).1 b in
          ap is_some
          (sym (at m (count - m) (later_is (count - m) m) count (omega (arith, still.1)))
          ∙ first
          ∙ sym second
          ∙ at m (n - m) (later_is (n - m) m) n (omega (arith, still.1, high)))
          ∙ h

      full : count + 1 ≤ known count → is_some (level_by count feeds count b) ≡ true
      full all = here (nat_le b count) refl
        where
          here : (low : Bool) → nat_le b count ≡ low → is_some (level_by count feeds count b) ≡ true
          here true low =
              let below : b < count + 1 = grind (arith, nat_tests) in
              each_passes (λ c. is_some (level_by count feeds count c)) (count + 1) b all below
          here false far = absurd (let no : false ≡ true = sym (ap is_some (level_past count feeds n b far)) ∙ h in cc)

      order : (n ≤ count) ⊎ (count ≤ n)
      order = grind arith

      by : ((m : ℕ) × (m ≤ count) × ((c : ℕ) → is_level m (level_by count feeds m c) ≡ false)) ⊎ (count + 1 ≤ known count)
          → is_some (level_by count feeds count b) ≡ true
      by (inr all) = full all
      by (inl still) = which order
        where
          which : (n ≤ count) ⊎ (count ≤ n) → is_some (level_by count feeds count b) ≡ true
          which (inl low) = early low
          which (inr high) = past high still

pub last_level : LastLevelLaw
last_level count feeds n bus h =
    found_by count feeds n bus
    (ap is_some (least_by count feeds n bus) ∙ found (λ k. is_led_by count feeds k bus) (suc n) n (omega arith) h)
