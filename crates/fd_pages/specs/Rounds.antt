-- The texts of a settle in parts: those that each of its rounds has by itself, and those behind all rounds.
use Rattle.std.specs.Prelude.{ℕ, ◌+◌, List, [], ◌∷◌, ◌++◌, length}
use Rattle.fd_outcome.specs.Certificates.{block_in, block_texts}
use Rattle.fd_outcome.specs.Settles.{Round, Settle, SettleEnd, failed, settled, without_certificate}

-- the texts of rounds of which so many went before, by those of one
abbrev pub rounds_texts : (Settle → ℕ → Round → List (List ℕ)) → Settle → ℕ → List Round → List (List ℕ)
rounds_texts texts_of s k [] = []
rounds_texts texts_of s k (r ∷ rounds) = texts_of s k r ++ rounds_texts texts_of s (k + 1) rounds

-- a round has no text by itself
abbrev pub no_texts : Settle → ℕ → Round → List (List ℕ)
no_texts s k r = []

-- each line of a round's block
abbrev pub round_block : Settle → ℕ → Round → List (List ℕ)
round_block s k r = block_texts (block_in s k r)

-- and of that of the state that has no certificate, behind the rounds
abbrev pub block_behind : Settle → SettleEnd → List (List ℕ)
block_behind s settled = []
block_behind s (failed f) = []
block_behind s (without_certificate r f) = block_texts (block_in s (length s.rounds) r)
