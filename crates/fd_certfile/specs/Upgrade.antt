-- A certificate brought over to version 2: the same blocks, line for line, and judged no further than by the grammar.
use Rattle.std.specs.Prelude.{◌≡◌, ◌↔◌, ℕ, ◌+◌, List, ◌∷◌, map, length, Option, Some, None}
use Rattle.std.specs.List.{AllByRecursion, concat}
use Rattle.fd_certfile.specs.Lines.{Line, row, line_bytes, lines_of, IsKnown}
use Rattle.fd_certfile.specs.Blocks.{Version, Whole, Sparse, Block, fields_of}
use Rattle.fd_certfile.specs.Certificates.{Certificate, ends, trails, refuses, gives, Reads, IsWhole, blocks_of, certificate_lines, version_in, behind_first, lines_count}
use Rattle.fd_certfile.specs.Verdict.{Due, Answer, IsAnswer}
use Rattle.fd_certfile.specs.declared.fault.CertFileFault.{CertFileFault}
use Rattle.fd_certfile.specs.declared.fault.CertFileFault.TheVariants as fault
use Rattle.fd_certfile.specs.declared.fault.Stop.{Stop}
use Rattle.fd_certfile.specs.declared.fault.Stop.TheVariants as stop
use Rattle.fd_settle.specs.fd_cert.declared.rule.Rule.TheVariants.{Grammar}

-- ---- what is refused

-- the line that the grammar refuses, or misses, of a certificate whose next line has this number; none of a whole one
abbrev pub outside_at : ℕ → Certificate → Option ℕ
outside_at line ends = None
outside_at line trails = Some (line + 1)
outside_at line (refuses count) = Some (line + count)
outside_at line (gives b more) = outside_at (line + lines_count b) more

-- the lines behind the first one, of which the grammar of a version refuses this one, or none
pub record IsOutside (v : Version) (lines : List Line) (line : Option ℕ) : Type 0 where
  pub certificate : Certificate
  pub reads : Reads v lines certificate
  pub line_is : outside_at 2 certificate ≡ line

-- the line that a block is refused at, whose first line has this number
abbrev pub IsRefusedLine : Stop → ℕ → Option ℕ → Type 0
IsRefusedLine stop.NoMemory line found = ⊥
IsRefusedLine (stop.Refused behind) line found = found ≡ Some (line + behind)

-- the first line, where it names no version; else the first that the grammar of that version refuses, or misses
abbrev pub IsOutsideBy : Option Version → List Line → ℕ → Type 0
IsOutsideBy None lines line = line ≡ 1
IsOutsideBy (Some v) lines line = IsOutside v (behind_first lines) (Some line)

abbrev pub IsFirstOutside : List Line → ℕ → Type 0
IsFirstOutside lines line = IsOutsideBy (version_in lines) lines line

-- why there is no upgrade: that line, as grammar, or want of memory
abbrev pub IsRefusal : List Line → CertFileFault → Type 0
IsRefusal lines fault.NoMemory = Unit {0}
IsRefusal lines (fault.Refused line rule) = (rule ≡ Grammar) × IsFirstOutside lines line

-- ---- what is written

-- a line in version 2: of a row, the entries that aren't 0 behind their places
abbrev pub upgraded : Version → Line → Line
upgraded Whole (row (place ∷ entries)) = row (place ∷ fields_of Sparse entries)
upgraded v line = line

-- the lines are in the grammar of the version that the first of them names, and the pieces are the lines of version 2 of
-- the same blocks, one each
pub record IsUpgraded (lines : List Line) (pieces : List (List ℕ)) : Type 0 where
  pub version : Version
  pub certificate : Certificate
  pub names : version_in lines ≡ Some version
  pub reads : Reads version (behind_first lines) certificate
  pub ends : IsWhole certificate
  pub text : pieces ≡ map line_bytes (certificate_lines Sparse (blocks_of certificate))

-- each of these lines has one of the forms of the grammar
abbrev pub AreKnown : List Line → Type 0
AreKnown lines = AllByRecursion IsKnown lines

-- ---- what a check says of it

-- A certificate and its upgrade have as many lines, and the same answer, whatever is due: accepted alike, or refused at
-- the same line by the same rule.
module _ {S F : Type 0} (due : S → Due F) (after : S → Block → S) where
  pub record UpgradeLaw : Type 0 where
    pub long : (bytes : List ℕ) (pieces : List (List ℕ)) → IsUpgraded (lines_of bytes) pieces
        → length (lines_of bytes) ≡ length (lines_of (concat pieces))
    pub answers : (bytes : List ℕ) (pieces : List (List ℕ)) → IsUpgraded (lines_of bytes) pieces
        → (s : S) (answer : Answer F)
        → IsAnswer due after (Some bytes) s answer ↔ IsAnswer due after (Some (concat pieces)) s answer
