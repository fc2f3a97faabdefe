-- The blocks of an hour's rounds, and the parts of a settle's texts.
use Rattle.std.proofs.Common.{◌≡◌, ◌∙◌, ◌+◌, ◌++◌, ℕ, List, [], ◌∷◌, map, length, refl, sym, ap, arith}
use Rattle.std.proofs.lemmas.List.{append_assoc, append-nil}
use Rattle.std.specs.List.{flat_map}
use Rattle.fd_bases.specs.dss_layout.Layout.{layout_of, size_of}
use Rattle.fd_bases.specs.dss_circuit.Circuit.{CircuitView}
use Rattle.fd_bases.specs.declared.bus_base.BusBase.{BusBase}
use Rattle.fd_outcome.specs.fd_certfile.Blocks.{Block}
use Rattle.fd_outcome.specs.fd_certfile.Blocks as block
use Rattle.fd_outcome.specs.fd_certfile.Rounds.{act_of, block_of}
use Rattle.fd_outcome.specs.fd_report.Bases.{base_fields}
use Rattle.fd_outcome.specs.fd_report.Lines.{line_of}
use Rattle.fd_outcome.specs.fd_settle.Rounds.{seen}
use Rattle.fd_outcome.specs.fd_settle.declared.round.Act.{Act}
use Rattle.fd_outcome.specs.fd_settle.declared.round.Round.{Round as Made}
use Rattle.fd_outcome.specs.Certificates.{act_in, block_in, block_texts, blocks_from, blocks_texts, certificate_texts}
use Rattle.fd_outcome.specs.Certificates.{claimed_rounds}
use Rattle.fd_outcome.specs.Events.{row}
use Rattle.fd_outcome.specs.Pages.{report_texts}
use Rattle.fd_outcome.specs.Settles.{Round, Settle, SettleEnd, failed, settled, without_certificate}
use Rattle.fd_pages.specs.Lines.{line_texts}
use Rattle.fd_pages.specs.Hours.{IsSettleAt, round_in}
use Rattle.fd_pages.specs.Rounds.{block_behind, round_block, rounds_texts}
use Rattle.fd_pages.specs.Bases.{base_texts}

-- the records of bases are the texts of their rows
pub base_lines : (bases : List BusBase)
    → base_texts bases ≡ flat_map report_texts (map (λ b. row (base_fields b.bus b.kv)) bases)
base_lines [] = refl
base_lines (b ∷ bases) = ap (λ (l : List (List ℕ)). line_of (base_fields b.bus b.kv) ∷ l) (base_lines bases)

-- a certificate has no record of a base
pub no_bases : (bases : List BusBase) → [] ≡ flat_map certificate_texts (map (λ b. row (base_fields b.bus b.kv)) bases)
no_bases [] = refl
no_bases (b ∷ bases) = no_bases bases

-- lines of text have none of a base
pub no_base_texts : (bases : List BusBase) → [] ≡ flat_map line_texts (map (λ b. row (base_fields b.bus b.kv)) bases)
no_base_texts [] = refl
no_base_texts (b ∷ bases) = no_base_texts bases

same_acts : (acts : List Act) → map act_of acts ≡ map act_in (map seen acts)
same_acts [] = refl
same_acts (a ∷ acts) = ap (λ (l : List block.Act). act_of a ∷ l) (same_acts acts)

-- the block that is written for a round is the round's
pub same_block : (c : CircuitView) (number hour size place : ℕ) (s : Settle) (made : Made) → IsSettleAt c number hour s
    → size ≡ size_of (layout_of c.elements) → block_of size number hour place made ≡ block_in s place (round_in made)
same_block c number hour size place s made is same =
    rw (same, is.circuit_is, is.number_is, is.hour_is, same_acts made.acts.items) refl

-- ---- a settle in parts

block_parts : (s : Settle) (k : ℕ) (rounds : List Round)
    → rounds_texts round_block s k rounds ≡ blocks_texts (blocks_from s k rounds)
block_parts s k [] = refl
block_parts s k (r ∷ rounds) =
    ap (λ (l : List (List ℕ)). block_texts (block_in s k r) ++ l) (block_parts s (k + 1) rounds)

blocks_more : (s : Settle) (k : ℕ) (rounds : List Round) (r : Round)
    → rounds_texts round_block s k rounds ++ block_texts (block_in s (k + length rounds) r)
    ≡ blocks_texts (blocks_from s k (rounds ++ r ∷ []))
blocks_more s k [] r =
    ap (λ (n : ℕ). block_texts (block_in s n r)) (omega arith) ∙ sym (append-nil (block_texts (block_in s k r)))
blocks_more s k (x ∷ rounds) r =
    append_assoc (block_texts (block_in s k x)) (rounds_texts round_block s (k + 1) rounds)
    (block_texts (block_in s (k + length (x ∷ rounds)) r))
    ∙ ap (λ (l : List (List ℕ)). block_texts (block_in s k x) ++ l)
    (ap (λ (n : ℕ). rounds_texts round_block s (k + 1) rounds ++ block_texts (block_in s n r)) (omega arith)
    ∙ blocks_more s (k + 1) rounds r)

pub blocks_parts : (s : Settle) (end : SettleEnd) → rounds_texts round_block s 0 s.rounds ++ block_behind s end
    ≡ blocks_texts (blocks_from s 0 (claimed_rounds s.rounds end))
blocks_parts s settled = append-nil (rounds_texts round_block s 0 s.rounds) ∙ block_parts s 0 s.rounds
blocks_parts s (failed f) = append-nil (rounds_texts round_block s 0 s.rounds) ∙ block_parts s 0 s.rounds
blocks_parts s (without_certificate r f) =
    ap (λ (n : ℕ). rounds_texts round_block s 0 s.rounds ++ block_texts (block_in s n r)) (omega arith)
    ∙ blocks_more s 0 s.rounds r
