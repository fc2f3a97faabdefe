-- A reader of a certificate as contracts see it.
use Rattle.std.specs.Prelude.{◌≡◌, ℕ, pos, ◌+◌, ◌-◌, Bool, true, false, List, [], ◌∷◌, ◌++◌, length, map, get_or, Option, Some, None, Result, Ok, Err, ◌&&◌}
use Rattle.fd_certfile.specs.Lines.{Line, lines_of}
use Rattle.fd_certfile.specs.Lines as text
use Rattle.fd_certfile.specs.Blocks.{Version, Act, Block, acts_at, block_at, is_place}
use Rattle.fd_certfile.specs.Certificates.{lines_count}
use Rattle.fd_certfile.specs.Readings.{cells_of}
use Rattle.fd_certfile.specs.Rules.{behind_rows, is_numbered, line_at}
use Rattle.fd_certfile.specs.Views.{part}
use Rattle.fd_certfile.specs.declared.ahead.Ahead.{Ahead}
use Rattle.fd_certfile.specs.declared.fault.CertFileFault.{CertFileFault}
use Rattle.fd_certfile.specs.declared.fault.CertFileFault.TheVariants as fault
use Rattle.fd_settle.specs.fd_cert.declared.rule.Rule.{Rule}
use Rattle.fd_settle.specs.fd_cert.declared.rule.Rule.TheVariants.{Count, Grammar, Size}
use Rattle.fd_certfile.specs.declared.reader.Claimed.{Claimed}
use Rattle.fd_settle.specs.fd_mat.Rows.{square}
use Rattle.fd_certfile.specs.declared.reader.Given.{Given}
use Rattle.fd_certfile.specs.declared.ahead.Head.{Head}

-- a block that was given: its acts, and the line behind its inverse
pub record GivenBlock : Type 0 where
  pub acts : List Act
  pub rule_line : ℕ

-- the lines that are left, the number of the first of them, the block that is due, and those that were given
pub record ReaderView : Type 0 where
  pub version : Version
  pub lines : List Line
  pub line : ℕ
  pub number : ℕ
  pub hour : ℕ
  pub round : ℕ
  pub given : List GivenBlock

-- a block of which the reader holds the bytes from its acts on
abbrev pub given_block : Given → GivenBlock
given_block g = record { acts = (acts_at (lines_of g.acts.now)).0; rule_line = g.rule_line }

-- the reader of these lines, with the blocks that were given
abbrev pub viewed : Version → List Line → ℕ → ℕ → ℕ → ℕ → List Given → ReaderView
viewed v lines line number hour round given = record {
  version = v;
  lines = lines;
  line = line;
  number = number;
  hour = hour;
  round = round;
  given = map given_block given;
}

-- whether these are the numbers of the block that is due, of n unknowns
abbrev pub is_headed : ReaderView → ℕ → Head → Bool
is_headed r n h =
    is_place r.number h.number && (is_place r.hour h.hour && (is_place r.round h.round && is_place n h.size))

-- ---- opening

abbrev pub opened_at : Version → List Line → ReaderView
opened_at v lines = record { version = v; lines = lines; line = 2; number = 1; hour = 0; round = 0; given = [] }

-- it is opened exactly where the first line names a version, and takes no memory
abbrev pub IsOpened : Result ReaderView CertFileFault → Option Version → List Line → Type 0
IsOpened (Ok reader) (Some v) lines = reader ≡ opened_at v lines
IsOpened (Ok reader) None lines = ⊥
IsOpened (Err (fault.Refused line rule)) None lines = (line ≡ 1) × (rule ≡ Grammar)
IsOpened (Err (fault.Refused line rule)) (Some v) lines = ⊥
IsOpened (Err fault.NoMemory) version lines = ⊥

-- ---- the next block

abbrev pub is_end : Line → Bool
is_end text.end = true
is_end line = false

abbrev pub is_solution : Line → Bool
is_solution (text.solution number hour round size) = true
is_solution line = false

abbrev pub starts_with_end : List Line → Bool
starts_with_end [] = false
starts_with_end (line ∷ lines) = is_end line

-- the reader behind a block
abbrev pub behind : ReaderView → Block → List Line → ReaderView
behind r b rest = record r {
  lines = rest;
  line = r.line + lines_count b;
  round = r.round + 1;
  given = r.given ++ record { acts = b.acts; rule_line = line_at r.line b behind_rows } ∷ [];
}

abbrev pub unless_other : ReaderView → Block × List Line → Bool → Result (Block × ReaderView) (ℕ × Rule)
unless_other r next true = Ok (next.0, behind r next.0 next.1)
unless_other r next false = Err (r.line, Size)

abbrev pub by_head : ReaderView → ℕ → Bool → Result (Block × List Line) (List Line)
    → Result (Block × ReaderView) (ℕ × Rule)
by_head r n true head = Err (r.line, Count)
by_head r n false (Err rest) = Err (r.line + (length r.lines - length rest), Grammar)
by_head r n false (Ok next) = unless_other r next (is_numbered r.number r.hour r.round n next.0)

-- the next block, which has n unknowns, with the reader behind it: where the next line is `end` there is none, and else
-- it has to be in the grammar and to have the numbers that are due; or the line and the rule that is broken
unfoldable pub next_of : ReaderView → ℕ → Result (Block × ReaderView) (ℕ × Rule)
next_of r n = by_head r n (starts_with_end r.lines) (block_at r.version r.lines)

-- what is read ahead is the next block, which was looked at and not given
pub record HasAhead (r : ReaderView) (n : ℕ) (x : Ahead) : Type 0 where
  pub block : Block
  pub next : next_of r n ≡ Ok (block, behind r block (lines_of x.rest.now))
  pub same : block_at r.version r.lines ≡ Ok (block, lines_of x.rest.now)
  pub size : block.size ≡ pos n
  pub parts : map part x.parts.items ≡ block.parts
  pub cells : x.cells ≡ cells_of block.inverse
  pub acts : (acts_at (lines_of x.acts.now)).0 ≡ block.acts
  pub count : x.lines ≡ lines_count block

abbrev pub FindsAhead : ReaderView → ℕ → Result Ahead CertFileFault → Type 0
FindsAhead r n (Ok x) = HasAhead r n x
FindsAhead r n (Err (fault.Refused line rule)) = next_of r n ≡ Err (line, rule)
FindsAhead r n (Err fault.NoMemory) = Unit {0}

-- these acts, lines and number of lines are those behind the inverse of the next block, behind it, and in it
pub record IsAheadOf (r : ReaderView) (n : ℕ) (acts : List Act) (rest : List Line) (count : ℕ) : Type 0 where
  pub block : Block
  pub next : next_of r n ≡ Ok (block, behind r block rest)
  pub same : block_at r.version r.lines ≡ Ok (block, rest)
  pub size : block.size ≡ pos n
  pub acts_are : acts ≡ block.acts
  pub count_is : count ≡ lines_count block

-- the reader stands behind the next block, or where it stood
abbrev pub Passes : {T F : Type 0} → ReaderView → ℕ → Result T F → ReaderView → Type 0
Passes before n (Ok t) after = (b : Block) (w : ReaderView) → next_of before n ≡ Ok (b, w) → w ≡ after
Passes before n (Err e) after = after ≡ before

-- what a call answers is the next block, and the reader after it stands behind that
pub record IsNext (before : ReaderView) (n : ℕ) (claimed : Claimed) (after : ReaderView) : Type 0 where
  pub block : Block
  pub next : next_of before n ≡ Ok (block, after)
  pub parts : map part claimed.parts.items ≡ block.parts
  pub inverse : square n claimed.cells.items ≡ block.inverse

-- a refusal, or want of memory, leaves the reader as it was
abbrev pub GivesNext : ReaderView → ℕ → Result Claimed CertFileFault → ReaderView → Type 0
GivesNext before n (Ok claimed) after = IsNext before n claimed after
GivesNext before n (Err (fault.Refused line rule)) after = (next_of before n ≡ Err (line, rule)) × (after ≡ before)
GivesNext before n (Err fault.NoMemory) after = after ≡ before

-- ---- blocks that were given

abbrev pub no_block : GivenBlock
no_block = record { acts = []; rule_line = 0 }

abbrev pub given_at : ReaderView → ℕ → GivenBlock
given_at r k = get_or r.given k no_block

-- ---- the end

abbrev pub finished : List Line → ℕ → ℕ → Result ℕ (ℕ × Rule)
finished (text.end ∷ []) line count = Ok count
finished (text.end ∷ next ∷ lines) line count = Err (line + 1, Grammar)
finished (text.solution number hour round size ∷ lines) line count = Err (line, Count)
finished lines line count = Err (line, Grammar)

-- the number of blocks where nothing but `end` is left
abbrev pub finish_of : ReaderView → Result ℕ (ℕ × Rule)
finish_of r = finished r.lines r.line (length r.given)

-- an answer that takes no memory
abbrev pub IsFinished : Result ℕ CertFileFault → Result ℕ (ℕ × Rule) → Type 0
IsFinished (Ok count) answer = answer ≡ Ok count
IsFinished (Err (fault.Refused line rule)) answer = answer ≡ Err (line, rule)
IsFinished (Err fault.NoMemory) answer = ⊥
