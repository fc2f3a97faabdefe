-- What a line asks for costs no more than its words and pairs.
use Rattle.std.proofs.Common.{◌≡◌, ◌∙◌, ℕ, ◌+◌, ◌<◌, ◌≤◌, List, [], ◌∷◌, length, take, drop, Option, Some, None, Bool, true, false, not, ◌&&◌, ◌||◌, refl, ap, arith, nat_eq, nat_le, nat_lt, max, length-take, length-drop, if◌then◌else◌}
use Rattle.std.specs.Char.{to_ascii_lowercase}
use Rattle.std.specs.List.{list_all, position_or_len, slice_split}
use Rattle.std.specs.Cmp.Lexicographic.{pointwise}
use Rattle.std.proofs.lemmas.Bool.{leb-true, ltb-true}
use Rattle.std.proofs.lemmas.List.{length-map}
use Rattle.std.proofs.lemmas.Str.{encodes_same}
use Rattle.dss_model.specs.dss_lexer.declared.pair.Pair.{Pair}
use Rattle.std.specs.Prelude.{codes}
use Rattle.dss_model.specs.dss_lexer.Texts.{is_empty, text_eq}
use Rattle.dss_model.proofs.CallerLemmas.dss_lexer.{same_from}
use Rattle.dss_model.specs.Names.{named, bytes, lower, is_name}
use Rattle.dss_script.specs.declared.meaning.Target.{Target}
use Rattle.dss_script.specs.declared.meaning.CommandWord.{CommandWord}
use Rattle.dss_script.specs.declared.meaning.CommandWord.TheVariants as word
use Rattle.dss_script.specs.declared.meaning.Meaning.TheVariants as the
use Rattle.dss_script.specs.declared.meaning.Change.TheVariants as change
use Rattle.dss_model.specs.declared.command.Verb.TheVariants as verb
use Rattle.dss_script.specs.declared.fault.ScriptCause.TheVariants as cause
use Rattle.dss_script.specs.Meaning.{meaning_of, command_of, command_words, element_of, new_element, edited_element, continued, file_in, subject, others, property_of, property_set, is_dot, is_word}
use Rattle.dss_script.specs.Sessions.{paid, price}
use Rattle.dss_script.proofs.Rooms.{both}

-- the least length of a command's word
abbrev least : CommandWord → ℕ
least word.New = 3
least word.Solve = 5
least w = 1

abbrev fits : List ℕ × CommandWord → Bool
fits row = pointwise nat_eq (bytes row.0) row.0 && nat_le (least row.1) (length row.0)

abbrev least_of : Option CommandWord → ℕ
least_of None = 0
least_of (Some w) = least w

named_length : (table : List (List ℕ × CommandWord)) (v : List ℕ) → list_all fits table ≡ true
    → least_of (named table (bytes (lower v))) ≤ length v
named_length [] v h = omega arith
named_length (row ∷ rows) v h = cases (named_length rows v (both (fits row) (list_all fits rows) h).1) (pointwise nat_eq row.0 (bytes (lower v))) refl
  where
    cases : least_of (named rows (bytes (lower v))) ≤ length v → (b : Bool)
        → pointwise nat_eq row.0 (bytes (lower v)) ≡ b
        → least_of (if b then Some row.1 else named rows (bytes (lower v))) ≤ length v
    cases rest true e =
        let row_fits = both (pointwise nat_eq (bytes row.0) row.0) (nat_le (least row.1) (length row.0)) (both (fits row) (list_all fits rows) h).0 in
        let same : row.0 ≡ lower v = encodes_same row.0 (lower v) (same_from (bytes row.0) row.0 row_fits.0 ∙ same_from row.0 (bytes (lower v)) e) in
        let long : least row.1 ≤ length row.0 = leb-true _ _ row_fits.1 in
        omega (arith, ap (λ xs. length xs) same, length-map v to_ascii_lowercase)
    cases rest false e = rest

-- how long an element is written
size_of : Option Target → ℕ
size_of None = 0
size_of (Some t) = length t.class + max (length t.name) 1 + 1

has_name : (b : Bool) (name : List ℕ) → (b || not (is_name name)) ≡ false → is_name name ≡ true
has_name b name h = cases b (is_name name) h
  where
    cases : (b c : Bool) → (b || not c) ≡ false → c ≡ true
    cases true c h = absurd (cc)
    cases false true h = refl
    cases false false h = absurd (cc)

some_name : (name : List ℕ) → is_name name ≡ true → 0 < length name
unfolding is_name
some_name name h = ltb-true _ _ (both (nat_lt 0 (length name)) (list_all _ name) h).0

element_size : (text : List ℕ) → size_of (element_of text) ≤ length text
unfolding size_of
element_size text = cases (is_empty class || not (is_name name)) refl
  where
    at : ℕ
    at = position_or_len is_dot text

    class : List ℕ
    class = take at text

    name : List ℕ
    name = drop (at + 1) text

    cases : (b : Bool) → (is_empty class || not (is_name name)) ≡ b
        → size_of (if b then None else Some (record { class = class; name = name })) ≤ length text
    cases true e = omega arith
    cases false e = let some = some_name name (has_name (is_empty class) name e) in omega (arith, length-take at text, length-drop (at + 1) text)

new_price : (o : Option Target) (ps : List Pair)
    → (price (new_element o ps) ≤ 5 + size_of o) × (size_of o ≡ 0 → price (new_element o ps) ≤ 0)
unfolding size_of
new_price None ps = (omega arith, λ e. omega arith)
new_price (Some t) ps = (omega arith, λ e. absurd (omega arith))

subject_price : (b : Bool) (q : Pair) → length (if b then q.value else []) ≤ length q.value
subject_price true q = omega arith
subject_price false q = omega arith

made_price : (ps : List Pair) → price (new_element (element_of (subject true ps)) (others ps)) ≤ 4 + paid ps
made_price [] = let none = new_price (element_of []) [] in omega (arith, none.1 (omega (arith, element_size [])))
made_price (q ∷ qs) = omega (
  arith,
  (new_price (element_of (subject true (q ∷ qs))) qs).0,
  element_size (subject true (q ∷ qs)),
  subject_price (is_word q || (true && text_eq (bytes (lower q.name)) (codes "object"))) q,
)

edited_price : (o : Option Target) (ps : List Pair) → price (edited_element o ps) ≤ 2
edited_price None ps = omega arith
edited_price (Some t) ps = omega arith

continued_price : (o : Option Target) (ps : List Pair) → price (continued o ps) ≤ 2
continued_price None ps = omega arith
continued_price (Some t) ps = omega arith

file_price : (ps : List Pair) → price (file_in ps) ≤ 2
file_price [] = omega arith
file_price (p ∷ ps) = cases (is_word p && not (is_empty p.value))
  where
    cases : (b : Bool) → price (if b then the.Reads p.value else the.Refused cause.BadValue) ≤ 2
    cases true = omega arith
    cases false = omega arith

command_price : (w : Option CommandWord) (target : Option Target) (n : ℕ) (ps : List Pair) → least_of w ≤ n
    → price (command_of w target ps) ≤ n + 1 + paid ps
command_price None target n ps h = omega arith
command_price (Some word.New) target n ps h = omega (arith, made_price ps)
command_price (Some word.Edit) target n ps h = omega (arith, edited_price (element_of (subject false ps)) (others ps))
command_price (Some word.More) target n ps h = omega (arith, continued_price target ps)
command_price (Some word.Set) target n ps h = omega arith
command_price (Some word.Solve) target n ps h = omega arith
command_price (Some word.Clear) target n ps h = omega arith
command_price (Some word.Bases) target n ps h = omega arith
command_price (Some word.Redirect) target n ps h = omega (arith, file_price ps)
command_price (Some word.Ignored) target n ps h = omega arith

set_price : (class name property : List ℕ) (p : Pair) (ps : List Pair)
    → price (property_set class name property p ps) ≤ 2
set_price class name property p ps = cases (is_empty class || (is_empty name || is_empty property)) (is_name name)
  where
    cases : (b c : Bool)
        → price (if b then the.Refused cause.UnknownCommand else if c then the.Does
        (verb.Edit class name (record { name = property; value = p.value; grouped = p.grouped } ∷ ps)) change.Kept
        else the.Refused cause.BadValue)
        ≤ 2
    cases true c = omega arith
    cases false true = omega arith
    cases false false = omega arith

property_price : (parts : List (List ℕ)) (p : Pair) (ps : List Pair) → price (property_of parts p ps) ≤ 2
property_price [] p ps = omega arith
property_price (a ∷ []) p ps = omega arith
property_price (a ∷ b ∷ []) p ps = omega arith
property_price (a ∷ b ∷ c ∷ []) p ps = set_price a b c p ps
property_price (a ∷ b ∷ c ∷ d ∷ more) p ps = omega arith

some_first : (name : List ℕ) → is_empty name ≡ false → 0 < length name
some_first [] h = absurd (cc)
some_first (c ∷ cs) h = omega arith

all_fit : list_all fits command_words ≡ true
unfolding lib.Utf8.encode
all_fit = refl

pub price_paid : (target : Option Target) (pairs : List Pair) → price (meaning_of target pairs) ≤ max (paid pairs) 1
price_paid target [] = omega arith
price_paid target (p ∷ ps) = cases (is_word p) refl
  where
    cases : (b : Bool) → is_word p ≡ b
        → price (if b then command_of (named command_words (bytes (lower p.value))) target ps
        else property_of (slice_split is_dot p.name) p ps)
        ≤ max (paid (p ∷ ps)) 1
    cases true e = omega (
      arith,
      command_price (named command_words (bytes (lower p.value))) target (length p.value) ps
          (named_length command_words p.value all_fit),
    )
    cases false e = let some = some_first p.name e in omega (arith, property_price (slice_split is_dot p.name) p ps)
