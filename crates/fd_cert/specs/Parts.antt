-- Numbers up to 2^70 in two parts: what is left of each below 2^60, and how often it has 2^60, where it does.
use Rattle.std.specs.Prelude.{◌≡◌, ℕ, ◌+◌, ◌*◌, ◌^◌, ◌<◌, ◌≤◌, eqb, cond, List, [], ◌∷◌, ◌++◌, length, All}
use Rattle.fd_enclosure.specs.fd_exact.Sums.{list_n, sum_n}
use Rattle.fd_enclosure.specs.Sound.{number_at}
use Rattle.fd_cert.specs.declared.parted.High.{High}

-- a place among n at which a number has 2^60, at most 2^10 times
pub record IsHigh (n : ℕ) (h : High) : Type 0 where
  pub place : h.place < n
  pub times : h.times ≤ 2 ^ 10

-- at most n such places
pub record AreHigh (n : ℕ) (hs : List High) : Type 0 where
  pub each : All (IsHigh n) hs
  pub few : length hs ≤ n

-- each of n numbers is below 2^60
abbrev pub AreLow : ℕ → List ℕ → Type 0
AreLow n lows = (l : ℕ) → l < n → number_at lows l < 2 ^ 60

-- a place more, where there is something at it
abbrev pub with_high : List High → ℕ → ℕ → List High
with_high hs place times = cond (eqb times 0) hs (hs ++ record { place = place; times = times } ∷ [])

-- how often each place has 2^60, times f there, added up
abbrev pub high_sum : (ℕ → ℕ) → List High → ℕ
high_sum f hs = list_n (λ h. h.times * f h.place) hs

-- the parts of the first k numbers
pub record AreFront (numbers : List ℕ) (k : ℕ) (lows : List ℕ) (hs : List High) : Type 0 where
  pub long : length lows ≡ k
  pub low : AreLow k lows
  pub each : All (IsHigh (length numbers)) hs
  pub few : length hs ≤ k
  pub sums : (f : ℕ → ℕ)
      → sum_n (λ l. f l * number_at numbers l) k ≡ sum_n (λ l. f l * number_at lows l) k + 2 ^ 60 * high_sum f hs

-- those of all
abbrev pub AreParts : List ℕ → List ℕ → List High → Type 0
AreParts numbers lows hs = AreFront numbers (length numbers) lows hs
