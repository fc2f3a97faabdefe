-- What it means of a certificate that `check` accepts it, for whoever receives it and whoever made it.
use Rattle.std.specs.Prelude.{◌≡◌, ℕ, ◌≤◌, pos, List, Option, Some, None, All}
use Rattle.std.specs.Str.{chars}
use Rattle.fd_checking.specs.dss_model.Names.{bytes}
use Rattle.fd_checking.specs.dss_circuit.Circuit.{CircuitView}
use Rattle.fd_checking.specs.dss_script.Said.{said_of}
use Rattle.fd_bench.specs.fd_outside.Files.{Files, held}
use Rattle.fd_checking.specs.fd_exact.States.{State}
use Rattle.fd_checking.specs.fd_system.Residual.{whole_state}
use Rattle.fd_checking.specs.fd_enclosure.Sound.{Claim}
use Rattle.fd_checking.specs.fd_certfile.Blocks.{Block}
use Rattle.fd_checking.specs.fd_certfile.declared.version.Version.{Version}
use Rattle.fd_checking.specs.fd_certfile.Certificates.{Certificate, ends, trails, refuses, gives, Reads, behind_first}
use Rattle.fd_checking.specs.fd_certfile.Certificates.{version_in}
use Rattle.fd_checking.specs.fd_certfile.Judging.{claim_on}
use Rattle.fd_checking.specs.fd_certfile.Lines.{lines_of}
use Rattle.fd_checking.specs.fd_certfile.Rules.{moves}
use Rattle.fd_checking.specs.fd_check.Checking.{Checking, Settling, behind_round, done, open_solves, sampled_by}
use Rattle.fd_checking.specs.fd_check.Checking.{under_way}
use Rattle.fd_checking.specs.fd_daily.Underway.{no_positions}
use Rattle.fd_checking.specs.fd_outcome.Events.{History}
use Rattle.fd_checking.specs.fd_solving.Headline.{EnclosesOthers, EnclosesSizes, hour_network}
use Rattle.fd_words.specs.Words.{Check}
use Rattle.fd_app.specs.Run.{IsFormHistory}
use Rattle.fd_app.specs.Solves.{solves_of}
use Rattle.fd_app.specs.Steady.{Solves, outcome_at}

-- ---- a round

-- what a block claims of a round: its state, with the trust box around it, its radii and its mismatches
abbrev pub claim_at : Settling → Block → Claim
claim_at s b = claim_on (hour_network s.circuit s.hour s.machine.at) b

-- A block has the numbers of its round and no mismatch above 1,000. Its own state solves the round; each state that
-- does is within the radii, with the sizes of its voltages and currents from low to high; and the acts are those of the
-- queue machine over any of them.
pub record IsCertified (s : Settling) (b : Block) : Type 0 where
  pub number : b.number ≡ pos s.number
  pub hour : b.hour ≡ pos s.hour
  pub round : b.round ≡ pos s.round
  pub mismatches : All (λ e. e ≤ 1000) (claim_at s b).mismatches
  pub solves : Solves s (claim_at s b) (whole_state (claim_at s b).centre)
  pub encloses : EnclosesOthers s.circuit s.hour s.machine.at (claim_at s b)
  pub sizes : EnclosesSizes s.circuit s.hour s.machine.at (claim_at s b)
  pub acts : (x : State) → Solves s (claim_at s b) x → sampled_by (outcome_at s x) ≡ moves b.acts

-- ---- all rounds

-- Each block is of the round that comes next, whatever states are chosen that solve the rounds before, one after
-- another through all hours of all Solves; and behind the last block no round is left.
abbrev pub AreCertified : Certificate → Checking → Type 0
AreCertified (gives b more) done = ⊥
AreCertified (gives b more) (under_way s) =
    IsCertified s b × ((x : State) → Solves s (claim_at s b) x → AreCertified more (behind_round s (outcome_at s x)))
AreCertified ends s = s ≡ done
AreCertified trails s = ⊥
AreCertified (refuses count) s = ⊥

-- bytes that are a certificate of these Solves: it has a block for each of their rounds
pub record AreCertificateOf (solved : List CircuitView) (bytes : List ℕ) : Type 0 where
  pub version : Version
  pub certificate : Certificate
  pub version_is : version_in (lines_of bytes) ≡ Some version
  pub reads : Reads version (behind_first (lines_of bytes)) certificate
  pub certified : AreCertified certificate (open_solves solved no_positions 0)

abbrev pub IsCertificateOf : List CircuitView → Option (List ℕ) → Type 0
IsCertificateOf solved None = ⊥
IsCertificateOf solved (Some bytes) = AreCertificateOf solved bytes

-- ---- the law

-- where `check` ends without a fault, what is held under the certificate's name is one of the script's Solves
abbrev pub MeaningLaw : Type 0
MeaningLaw =
    (files : Files) (script name : List ℕ) (h : History) → IsFormHistory files (Some (Check script name)) h
    → h.end ≡ None
    → IsCertificateOf (solves_of (said_of files (chars script))) (held files (bytes (chars name)))
