-- How a line is cut into words and pairs.
use Rattle.std.specs.Prelude.{ℕ, suc, zero, ◌+◌, ◌==◌, nat_lt, Bool, true, false, not, ◌&&◌, ◌||◌, List, [], ◌∷◌, length, take, drop, Option, Some, None, Result, Ok, Err, if◌then◌else◌}
use Rattle.std.specs.Str.{chars, is_utf8}
use Rattle.std.specs.List.{position_or_len, before_first, after_first}
use Rattle.dss_model.specs.dss_lexer.declared.pair.Pair.{Pair}
use Rattle.dss_model.specs.dss_lexer.declared.fault.LineFault.{LineFault}
use Rattle.dss_model.specs.dss_lexer.declared.fault.LineFault.TheVariants as fault
use Rattle.dss_model.specs.dss_lexer.Answers.{◌>>=◌}
use Rattle.dss_model.specs.dss_lexer.Line.{is_separator, skip_blanks}

abbrev pub skip_separators : List ℕ → List ℕ
skip_separators [] = []
skip_separators (c ∷ cs) = if is_separator c then skip_separators cs else c ∷ cs

-- an exclamation mark or two slashes
abbrev pub starts_comment : List ℕ → Bool
starts_comment [] = false
starts_comment (c ∷ []) = c == 33
starts_comment (c ∷ d ∷ cs) = (c == 33) || ((c == 47) && (d == 47))

-- what closes a group that begins so: ( [ { and both quotes
abbrev pub closer_of : ℕ → Option ℕ
closer_of c =
    if c == 40 then Some 41
    else if c == 91 then Some 93
    else if c == 123 then Some 125
    else if c == 34 then Some 34
    else if c == 39 then Some 39
    else None

-- a bare word ends at a separator and at a comment, and a name at an equals sign too
abbrev pub ends_word : Bool → List ℕ → Bool
ends_word is_name [] = true
ends_word is_name (c ∷ cs) = is_separator c || ((c == 61) && is_name) || starts_comment (c ∷ cs)

abbrev pub word_len : Bool → List ℕ → ℕ
word_len is_name [] = 0
word_len is_name (c ∷ cs) = if ends_word is_name (c ∷ cs) then 0 else word_len is_name cs + 1

-- a value: its characters, and whether they stood in a group
pub record Value : Type 0 where
  pub text : List ℕ
  pub grouped : Bool

-- what stands before the closer, and what comes after it
unfoldable pub group_at : ℕ → List ℕ → Result (Value × List ℕ) LineFault
group_at closer cs = if nat_lt (position_or_len (λ c. c == closer) cs) (length cs)
    then Ok (record { text = before_first (λ c. c == closer) cs; grouped = true }, after_first (λ c. c == closer) cs)
    else Err fault.UnclosedGroup

abbrev pub bare_at : Bool → List ℕ → Value × List ℕ
bare_at is_name cs = (record { text = take (word_len is_name cs) cs; grouped = false }, drop (word_len is_name cs) cs)

abbrev pub value_by : Option ℕ → List ℕ → List ℕ → Result (Value × List ℕ) LineFault
value_by None cs rest = Ok (bare_at false cs)
value_by (Some closer) cs rest = group_at closer rest

unfoldable pub value_at : List ℕ → Result (Value × List ℕ) LineFault
value_at [] = Ok (record { text = []; grouped = false }, [])
value_at (c ∷ cs) = value_by (closer_of c) (c ∷ cs) cs

abbrev pub pair : List ℕ → Value → Pair
pair name value = record { name = name; value = value.text; grouped = value.grouped }

-- after a name: an equals sign, blanks round it, makes it a pair
abbrev pub after_name : List ℕ → List ℕ → List ℕ → Result (Pair × List ℕ) LineFault
after_name name rest [] = Ok (pair [] (record { text = name; grouped = false }), rest)
after_name name rest (c ∷ cs) =
    if c == 61 then (value_at (skip_blanks cs) >>= λ v. Ok (pair name v.0, v.1))
    else Ok (pair [] (record { text = name; grouped = false }), rest)

abbrev pub is_group : List ℕ → Bool
is_group [] = false
is_group (c ∷ cs) = elim (closer_of c) [ None ↦ false | Some k ↦ true ]

-- one word or pair, and the text after it
unfoldable pub item_at : List ℕ → Result (Pair × List ℕ) LineFault
item_at cs = if is_group cs then (value_at cs >>= λ v. Ok (pair [] v.0, v.1))
    else let rest = drop (word_len true cs) cs in after_name (take (word_len true cs) cs) rest (skip_blanks rest)

-- nothing is left, or a comment
abbrev pub ends_line : List ℕ → Bool
ends_line [] = true
ends_line (c ∷ cs) = starts_comment (c ∷ cs)

-- at most so many words and pairs
unfoldable pub items_of : ℕ → List ℕ → Result (List Pair) LineFault
items_of zero cs = Ok []
items_of (suc n) cs = let text = skip_separators cs in
    if ends_line text then Ok []
    else (item_at text >>= λ item. items_of n item.1 >>= λ items. Ok (item.0 ∷ items))

-- a line has no more of them than characters
unfoldable pub pairs_of : List ℕ → Result (List Pair) LineFault
pairs_of line = if nat_lt 65536 (length line) then Err fault.LineTooLong
    else if not (is_utf8 line) then Err fault.NotText
    else items_of (length (chars line)) (chars line)
