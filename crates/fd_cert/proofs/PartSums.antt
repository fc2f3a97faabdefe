-- Numbers in two parts.
use Rattle.std.proofs.Common.{◌≡◌, ◌∙◌, ℕ, suc, ◌+◌, ◌*◌, ◌<◌, ◌≤◌, ◌^◌, Bool, true, false, cond, eqb, List, [], ◌∷◌, ◌++◌, length, All, arith, ap, refl, sym, subst, inl, inr}
use Rattle.std.proofs.lemmas.Bool.{cases_eq, cases_lt, ne_eqb}
use Rattle.std.proofs.lemmas.List.{get_or_append_left, get_or_push, length_push}
use Rattle.std.proofs.lemmas.List.Elements.{All-push}
use Rattle.fd_enclosure.specs.fd_exact.SumLaws.{list_n-append, sum_n-same}
use Rattle.fd_enclosure.specs.fd_exact.Sums.{sum_n}
use Rattle.fd_enclosure.specs.Sound.{number_at}
use Rattle.fd_cert.specs.Parts.{AreFront, IsHigh, high_sum, with_high}
use Rattle.fd_cert.specs.declared.parted.High.{High}

abbrev pub no_high : High
no_high = record { place = 0; times = 0 }

-- ---- a number more

zero_times : (k : ℕ) → 0 * k ≡ 0
zero_times k = omega arith

module _ (hs : List High) (place times : ℕ) where
  abbrev high : High
  high = record { place = place; times = times }

  by_sum : (f : ℕ → ℕ) (b : Bool) → (b ≡ true → times ≡ 0)
      → high_sum f (cond b hs (hs ++ high ∷ [])) ≡ high_sum f hs + times * f place
  by_sum f true h = let none : times * f place ≡ 0 = ap (λ k. k * f place) (h refl) ∙ zero_times (f place) in omega (arith, none)
  by_sum f false h = let both = list_n-append (λ g. g.times * f g.place) hs (high ∷ []) in omega (arith, both)

  by_length : (b : Bool) → length (cond b hs (hs ++ high ∷ [])) ≤ length hs + 1
  by_length true = omega arith
  by_length false = let e = length_push hs high in omega (arith, e)

  by_each : (P : High → Type 0) (b : Bool) → All P hs → P high → All P (cond b hs (hs ++ high ∷ []))
  by_each P true h p = h
  by_each P false h p = All-push P hs high h p

  none_at : eqb times 0 ≡ true → times ≡ 0
  none_at e = elim (cases_eq times 0) [
    | inl q ↦ q
    | inr ne ↦ let both : false ≡ true = sym (ne_eqb times 0 ne) ∙ e in absurd (cc)
  ]

pub front_more : (numbers : List ℕ) (k : ℕ) (lows : List ℕ) (hs : List High) (low times : ℕ) → k < length numbers
    → number_at numbers k ≡ low + 2 ^ 60 * times → low < 2 ^ 60 → times ≤ 2 ^ 10 → AreFront numbers k lows hs
    → AreFront numbers (k + 1) (lows ++ low ∷ []) (with_high hs k times)
front_more numbers k lows hs low times inside is small few h =
    let before : (l : ℕ) → l < k → number_at (lows ++ low ∷ []) l ≡ number_at lows l
    = λ l m. get_or_append_left lows (low ∷ []) 0 l (omega (arith, m, h.long)) in
    let here : number_at (lows ++ low ∷ []) k ≡ low = get_or_push lows low 0 k h.long in
    record {
      long = let e = length_push lows low in omega (arith, e, h.long);
      low = λ l m. elim (cases_lt l k) [
        | inl lt ↦ let e = before l lt in let s = h.low l lt in omega arith
        | inr ge ↦ let e : k ≡ l = omega arith in subst (λ n. number_at (lows ++ low ∷ []) n < 2 ^ 60) e (omega (arith, here, small))
      ];
      each = by_each hs k times (IsHigh (length numbers)) (eqb times 0) h.each (record { place = inside; times = few });
      few = let e = by_length hs k times (eqb times 0) in omega (arith, e, h.few);
      sums = λ f. next f;
    }
  where
    parted : (z a b n : ℕ) → n ≡ a + 2 ^ 60 * b → z * n ≡ z * a + 2 ^ 60 * (b * z)
    parted z a b n e = ap (λ m. z * m) e ∙ omega arith

    next : (f : ℕ → ℕ)
        → sum_n (λ l. f l * number_at numbers l) (k + 1)
        ≡ sum_n (λ l. f l * number_at (lows ++ low ∷ []) l) (k + 1) + 2 ^ 60 * high_sum f (with_high hs k times)
    next f =
        let new = lows ++ low ∷ [] in
        let step : k + 1 ≡ suc k = omega arith in
        let same = sum_n-same (λ l. f l * number_at new l) (λ l. f l * number_at lows l) k (λ l m.
        ap (λ n. f l * n) (get_or_append_left lows (low ∷ []) 0 l (omega (arith, m, h.long)))) in
        let here : f k * number_at new k ≡ f k * low = ap (λ n. f k * n) (get_or_push lows low 0 k h.long) in
        let more = by_sum hs k times f (eqb times 0) (none_at hs k times) in
        let of_it = parted (f k) low times (number_at numbers k) is in
        let front = h.sums f in
        subst (λ n. sum_n (λ l. f l * number_at numbers l) n ≡ sum_n (λ l. f l * number_at new l) n + 2 ^ 60 * high_sum f (with_high hs k times)) (sym step)
        (omega (arith, same, here, more, of_it, front))
