-- A level is the least number of feeds that lead to a bus.
use Rattle.std.proofs.Common.{◌≡◌, ◌∙◌, ℕ, zero, suc, ◌<◌, ◌==◌, nat_le, Bool, true, false, ◌&&◌, ◌||◌, List, [], ◌∷◌, Option, Some, None, refl, sym, ap, add-one, arith, if◌then◌else◌}
use Rattle.std.specs.Option.{option_or}
use Rattle.std.proofs.lemmas.Bool.{or_parts}
use Rattle.std.proofs.lemmas.Bool.Decides.{nat_tests}
use Rattle.fd_ladder.specs.dss_layout.fd_exact.First.{first_place}
use Rattle.fd_ladder.specs.dss_layout.fd_exact.FirstLaws.{first_none, none_holds}
use Rattle.fd_levels.specs.Levels.{is_led, is_level, level_by, or_level}
use Rattle.fd_levels.specs.LevelLaws.{LevelLaw, is_led_by}
use Rattle.fd_levels.specs.declared.feed.Feed.{Feed}
use Rattle.fd_levels.proofs.Rounds.{given_where, level_suc, level_zero}

pub same_level : (n : ℕ) → (n == n) ≡ true
same_level n = grind (arith, nat_tests)

-- the first number up to n is n where no smaller one is
is_last : (q : ℕ → Bool) (n : ℕ) → ((k : ℕ) → k < n → q k ≡ false) → is_level n (first_place q (suc n)) ≡ q n
is_last q n none =
    ap (λ x. is_level n (option_or x (if q n then Some n else None))) (first_none q n none) ∙ by (q n)
  where
    by : (b : Bool) → is_level n (if b then Some n else None) ≡ b
    by true = same_level n
    by false = refl

and_right : (a b : Bool) → a ≡ true → (a && b) ≡ false → b ≡ false
and_right true b is h = h
and_right false b is h = absurd (let never : false ≡ true = is in cc)

-- a level that is found, or else the next one
next_or : (x y : Option ℕ) (p q : Bool) (n : ℕ) → x ≡ y → (y ≡ None → p ≡ q) → or_level x (given_where p n) ≡ option_or y (if q then Some n else None)
next_or x None p q n same tests =
    ap (λ z. or_level z (given_where p n)) same ∙ ap (λ b. given_where b n) (tests refl)
next_or x (Some level) p q n same tests = ap (λ z. or_level z (given_where p n)) same

module _ (count : ℕ) (feeds : List Feed) where
  -- from a bus of level n as by n feeds, where fewer feeds don't lead on to this bus
  same_led : (n b : ℕ) → ((c : ℕ) → level_by count feeds n c ≡ first_place (λ k. is_led_by count feeds k c) (suc n))
      → (fs : List Feed) → ((k : ℕ) → k < n → is_led fs (is_led_by count feeds k) b ≡ false)
      → is_led fs (λ near. is_level n (level_by count feeds n near)) b ≡ is_led fs (is_led_by count feeds n) b
  same_led n b least [] none = refl
  same_led n b least (f ∷ fs) none =
      ap (λ p. p || is_led fs (λ near. is_level n (level_by count feeds n near)) b) (head (f.far == b) refl)
      ∙ ap (λ p. ((f.far == b) && is_led_by count feeds n f.near) || p) (same_led n b least fs (λ k low. (parts k low).1))
    where
      parts : (k : ℕ) → k < n → (((f.far == b) && is_led_by count feeds k f.near) ≡ false) × (is_led fs (is_led_by count feeds k) b ≡ false)
      parts k low = or_parts ((f.far == b) && is_led_by count feeds k f.near) (is_led fs (is_led_by count feeds k) b) (none k low)

      head : (here : Bool) → (f.far == b) ≡ here
          → ((f.far == b) && is_level n (level_by count feeds n f.near)) ≡ ((f.far == b) && is_led_by count feeds n f.near)
      head true is =
          ap (λ p. (f.far == b) && p)
          (ap (is_level n) (least f.near)
          ∙ is_last (λ k. is_led_by count feeds k f.near) n (λ k low. and_right (f.far == b) (is_led_by count feeds k f.near) is (parts k low).0))
      head false is =
          ap (λ p. p && is_level n (level_by count feeds n f.near)) is ∙ ap (λ p. p && is_led_by count feeds n f.near) (sym is)

  pub least_by : (n b : ℕ) → level_by count feeds n b ≡ first_place (λ k. is_led_by count feeds k b) (suc n)
  least_by zero b = level_zero count feeds b
  least_by (suc n) b =
      level_suc count feeds n b
      ∙ next_or (level_by count feeds n b) (first_place (λ k. is_led_by count feeds k b) (suc n)) _ _ (suc n) (least_by n b)
      (λ none. by (least_by n) (nat_le b count) refl none)
    where
      by : ((c : ℕ) → level_by count feeds n c ≡ first_place (λ k. is_led_by count feeds k c) (suc n)) → (low : Bool) → nat_le b count ≡ low
          → first_place (λ k. is_led_by count feeds k b) (suc n) ≡ None
          → (nat_le b count && is_led feeds (λ near. is_level n (level_by count feeds n near)) b) ≡ (nat_le b count && is_led feeds (is_led_by count feeds n) b)
      by least true low none =
          ap (λ p. nat_le b count && p)
          (same_led n b least feeds
          (λ k below. and_right (nat_le b count) (is_led feeds (is_led_by count feeds k) b) low
          (none_holds (λ j. is_led_by count feeds j b) (suc n) (suc k) none (omega (arith, below)))))
      by least false past none =
          ap (λ p. p && is_led feeds (λ near. is_level n (level_by count feeds n near)) b) past
          ∙ ap (λ p. p && is_led feeds (is_led_by count feeds n) b) (sym past)

pub least : LevelLaw
least count feeds bus =
    least_by count feeds count bus ∙ ap (first_place (λ n. is_led_by count feeds n bus)) (sym (add-one count))
