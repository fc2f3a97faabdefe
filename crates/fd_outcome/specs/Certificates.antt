-- What events are printed as in a certificate: the blocks of a settle's rounds.
use Rattle.std.specs.Prelude.{ℕ, pos, ◌+◌, List, [], ◌∷◌, ◌++◌, map}
use Rattle.fd_report.specs.dss_layout.Layout.{layout_of, size_of}
use Rattle.fd_report.specs.fd_equations.Rounded.{list_of}
use Rattle.fd_report.specs.fd_enclosure.Sound.{inverse_in}
use Rattle.fd_report.specs.fd_queue.Machine.{Act}
use Rattle.fd_certfile.specs.Blocks.{Block, block_lines}
use Rattle.fd_certfile.specs.declared.version.Version.TheVariants.{Sparse}
use Rattle.fd_certfile.specs.Blocks as block
use Rattle.fd_certfile.specs.Lines.{line_bytes}
use Rattle.fd_certfile.specs.Rounds.{part_in}
use Rattle.fd_outcome.specs.Events.{Event, asked, settle, waits, swept, row, line}
use Rattle.fd_outcome.specs.Settles.{Round, Settle, SettleEnd, claim_in, settled, failed, without_certificate}

-- an act by its time, its control and its steps
abbrev pub act_in : Act → block.Act
act_in a = record { time = pos a.time; control = pos a.control; steps = a.steps }

-- the block of a round by its number in the settle
abbrev pub block_in : Settle → ℕ → Round → Block
block_in s k r = record {
  number = pos s.number;
  hour = pos s.hour;
  round = pos k;
  size = pos (size_of (layout_of s.circuit.elements));
  parts = list_of (size_of (layout_of s.circuit.elements)) (part_in (claim_in r));
  inverse = inverse_in r.support;
  acts = map act_in r.acts;
}

-- rounds of which so many went before
abbrev pub blocks_from : Settle → ℕ → List Round → List Block
blocks_from s k [] = []
blocks_from s k (r ∷ rounds) = block_in s k r ∷ blocks_from s (k + 1) rounds

-- the rounds, and behind them the state that has no certificate
abbrev pub claimed_rounds : List Round → SettleEnd → List Round
claimed_rounds rounds settled = rounds
claimed_rounds rounds (failed f) = rounds
claimed_rounds rounds (without_certificate r f) = rounds ++ r ∷ []

abbrev pub blocks_of : Settle → List Block
blocks_of s = blocks_from s 0 (claimed_rounds s.rounds s.end)

-- one text for each line
abbrev pub block_texts : Block → List (List ℕ)
block_texts b = map line_bytes (block_lines Sparse b)

abbrev pub blocks_texts : List Block → List (List ℕ)
blocks_texts [] = []
blocks_texts (b ∷ blocks) = block_texts b ++ blocks_texts blocks

-- the text of each line of an event; records of a report aren't printed
abbrev pub certificate_texts : Event → List (List ℕ)
certificate_texts (asked name) = []
certificate_texts (settle s) = blocks_texts (blocks_of s)
certificate_texts (waits c es) = []
certificate_texts (swept c m ladder) = []
certificate_texts (row fields) = []
certificate_texts (line text) = (text ++ 10 ∷ []) ∷ []
