-- The forms of the command line, as a table. A word is a list of bytes.
use Rattle.std.specs.Prelude.{ℕ, ◌≡◌, ◌≤◌, ◌==◌, not, Bool, false, List, [], ◌∷◌, if◌then◌else◌, Option, Some, None, find, map, nat_eq, codes, option_and_then}
use Rattle.std.specs.Borrow.{Bor}
use Rattle.std.specs.Cmp.Lexicographic.{pointwise}
use Rattle.fd_words.specs.Numbers.{number_of, sections_of}
use Rattle.fd_words.specs.Shorts.{short_of}
use Rattle.fd_words.specs.declared.shorts.Short.{Short as Kinds}
use Rattle.fd_words.specs.declared.table.Kind.{Kind}
use Rattle.fd_words.specs.declared.table.Kind.TheVariants.{File, Number, Sections, Bus, Short}
use Rattle.fd_words.specs.declared.words.Form.{Form as Words}
use Rattle.fd_words.specs.declared.words.Form.TheVariants as words

pub data Form : Type 0 where
  -- `solve FILE`
  Solve : List ℕ → Form
  -- `cert FILE`
  Cert : List ℕ → Form
  -- `check SCRIPT CERTIFICATE`
  Check : List ℕ → List ℕ → Form
  -- `gen NUMBER SECTIONS`
  Gen : ℕ → ℕ → Form
  -- `bench NUMBER SECTIONS`
  Bench : ℕ → ℕ → Form
  -- `upgrade CERTIFICATE`
  Upgrade : List ℕ → Form
  -- `fault MASTER BUS KIND`
  Fault : List ℕ → List ℕ → Kinds → Form
  -- `ladder MASTER`
  Ladder : List ℕ → Form

-- whether a word may name a file or a bus: it isn't empty and doesn't start with a dash
abbrev pub names_file : List ℕ → Bool
names_file [] = false
names_file (byte ∷ bytes) = not (byte == 45)

-- the value of a word of a kind
abbrev pub Value : Kind → Type 0
Value File = List ℕ
Value Number = ℕ
Value Sections = ℕ
Value Bus = List ℕ
Value Short = Kinds

abbrev pub value_as : (kind : Kind) → List ℕ → Option (Value kind)
value_as File word = if names_file word then Some word else None
value_as Number word = number_of word
value_as Sections word = sections_of word
value_as Bus word = if names_file word then Some word else None
value_as Short word = short_of word

-- a form of values of these kinds
abbrev pub Takes : List Kind → Type 0
Takes [] = Form
Takes (kind ∷ kinds) = Value kind → Takes kinds

-- a form: its first word, the kinds of the words behind it, and what their values are as a form
pub record Row : Type 0 where
  pub word : List ℕ
  pub kinds : List Kind
  pub form : Takes kinds

abbrev pub rows : List Row
rows = record { word = codes "solve"; kinds = File ∷ []; form = Solve }
    ∷ record { word = codes "cert"; kinds = File ∷ []; form = Cert }
    ∷ record { word = codes "check"; kinds = File ∷ File ∷ []; form = Check }
    ∷ record { word = codes "gen"; kinds = Number ∷ Sections ∷ []; form = Gen }
    ∷ record { word = codes "bench"; kinds = Number ∷ Sections ∷ []; form = Bench }
    ∷ record { word = codes "upgrade"; kinds = File ∷ []; form = Upgrade }
    ∷ record { word = codes "fault"; kinds = File ∷ Bus ∷ Short ∷ []; form = Fault }
    ∷ record { word = codes "ladder"; kinds = File ∷ []; form = Ladder }
    ∷ []

-- a row's word and kinds
abbrev pub line_of : Row → List ℕ × List Kind
line_of row = (row.word, row.kinds)

abbrev pub line_in : Bor (List ℕ) × Bor (List Kind) → List ℕ × List Kind
line_in line = (line.0.now, line.1.now)

-- the code's table is this one
abbrev pub IsTable : List (Bor (List ℕ) × Bor (List Kind)) → Type 0
IsTable table = map line_in table ≡ map line_of rows

-- the form of words, one of each kind
abbrev pub form_with : (kinds : List Kind) → Takes kinds → List (List ℕ) → Option Form
form_with [] form [] = Some form
form_with [] form (word ∷ words) = None
form_with (kind ∷ kinds) form [] = None
form_with (kind ∷ kinds) form (word ∷ words) =
    option_and_then (λ value. form_with kinds (form value) words) (value_as kind word)

-- the row of a first word
abbrev pub row_of : List ℕ → Option Row
row_of word = find (λ row. pointwise nat_eq row.word word) rows

abbrev pub form_of : List (List ℕ) → Option Form
form_of [] = None
form_of (word ∷ words) = option_and_then (λ row. form_with row.kinds row.form words) (row_of word)

-- the form that words were found to be
abbrev pub form_in : Words → Form
form_in (words.Solve file) = Solve file.now
form_in (words.Cert file) = Cert file.now
form_in (words.Check script name) = Check script.now name.now
form_in (words.Gen number sections) = Gen number sections
form_in (words.Bench number sections) = Bench number sections
form_in (words.Upgrade name) = Upgrade name.now
form_in (words.Fault master bus kind) = Fault master.now bus.now kind
form_in (words.Ladder master) = Ladder master.now

-- a feeder has a section
abbrev pub has_sections : Words → Type 0
has_sections (words.Gen number sections) = 1 ≤ sections
has_sections (words.Bench number sections) = 1 ≤ sections
has_sections other = Unit {0}
