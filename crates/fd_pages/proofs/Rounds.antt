-- The first round of an hour, as the code made it, and rounds that have no texts by themselves.
use Rattle.std.proofs.Common.{◌≡◌, ◌+◌, ◌++◌, ℕ, List, [], ◌∷◌, slice_get, Option, Some, None, refl, ap, subst}
use Rattle.std.specs.Prelude.{All, option_map}
use Rattle.std.proofs.lemmas.List.Elements.{recursion_from_All}
use Rattle.fd_outcome.specs.fd_settle.declared.round.Round.{Round as Made}
use Rattle.fd_outcome.specs.Settles.{Round, Settle}
use Rattle.fd_pages.specs.Hours.{round_in, rounds_in}
use Rattle.fd_pages.specs.Rounds.{no_texts, rounds_texts}

-- what holds of all rounds holds of the first
pub of_first_round : (P : Round → Type 0) (rounds : List Made) (r : Made) → slice_get rounds 0 ≡ Some r
    → All P (rounds_in rounds)
    → P (round_in r)
of_first_round P [] r first all = absurd (cc first)
of_first_round P (x ∷ rounds) r first all =
    let same : x ≡ r = cc first in
    subst (λ (y : Made). P (round_in y)) same (recursion_from_All P (rounds_in (x ∷ rounds)) all).0

-- the first of the rounds
pub first_round : (rounds : List Made) (first : Option Made) → slice_get rounds 0 ≡ first
    → slice_get (rounds_in rounds) 0 ≡ option_map round_in first
first_round [] None e = refl
first_round [] (Some r) e = absurd (cc e)
first_round (x ∷ rounds) None e = absurd (cc e)
first_round (x ∷ rounds) (Some r) e = let same : x ≡ r = cc e in ap (λ (y : Made). Some (round_in y)) same

none_before : (s : Settle) (k : ℕ) (rounds : List Round) → rounds_texts no_texts s k rounds ≡ []
none_before s k [] = refl
none_before s k (r ∷ rounds) = none_before s (k + 1) rounds

-- where they have none, all texts are the last ones
pub all_last : (s : Settle) (texts : List (List ℕ)) → rounds_texts no_texts s 0 s.rounds ++ texts ≡ texts
all_last s texts = ap (λ (l : List (List ℕ)). l ++ texts) (none_before s 0 s.rounds)
