-- The words and pairs of a line are no longer than the line.
use Rattle.std.proofs.Common.{◌≡◌, ◌∙◌, ℕ, zero, suc, ◌+◌, ◌<◌, ◌≤◌, List, [], ◌∷◌, length, take, drop, Option, Some, None, Bool, true, false, not, ◌&&◌, ◌||◌, Result, Ok, Err, refl, sym, ap, subst, arith, nat_lt, length-take, length-drop, add-one, if◌then◌else◌}
use Rattle.std.specs.Prelude.{◌==◌}
use Rattle.std.specs.List.{position_or_len}
use Rattle.std.specs.Str.{chars, is_utf8}
use Rattle.std.proofs.lemmas.Str.{length-le-encodes, encodes-chars, IsUtf8-from_is_utf8}
use Rattle.std.proofs.lemmas.Bool.{eqb-true, ltb-true}
use Rattle.std.proofs.lemmas.Bool.Decides.{nat_tests}
use Rattle.std.proofs.lemmas.Grind.{common_steps}
use Rattle.dss_model.specs.dss_lexer.declared.pair.Pair.{Pair}
use Rattle.dss_model.specs.dss_lexer.declared.fault.LineFault.{LineFault}
use Rattle.dss_model.specs.dss_lexer.declared.fault.LineFault.TheVariants as lex
use Rattle.dss_model.specs.dss_lexer.Answers.{◌>>=◌}
use Rattle.dss_model.specs.dss_lexer.Line.{is_blank, is_separator, skip_blanks}
use Rattle.dss_script.specs.Cutting.{Value, skip_separators, starts_comment, ends_line, ends_word, word_len, closer_of, group_at, value_at, value_by, item_at, items_of, pairs_of, after_name, pair, is_group}
use Rattle.dss_script.specs.Sessions.{paid}

-- the room that words and pairs may take in what comes after a word
after_room : List ℕ → ℕ
after_room cs = if ends_line (skip_separators cs) then 0 else length (skip_separators cs) + 1

separators_off : (cs : List ℕ) → length (skip_separators cs) ≤ length cs
separators_off [] = omega arith
separators_off (c ∷ cs) = cases (is_separator c) (separators_off cs)
  where
    cases : (b : Bool) → length (skip_separators cs) ≤ length cs
        → length (if b then skip_separators cs else c ∷ cs) ≤ length (c ∷ cs)
    cases true h = omega arith
    cases false h = omega arith

blanks_off : (cs : List ℕ) → length (skip_blanks cs) ≤ length cs
blanks_off [] = omega arith
blanks_off (c ∷ cs) = cases (is_blank c) (blanks_off cs)
  where
    cases : (b : Bool) → length (skip_blanks cs) ≤ length cs
        → length (if b then skip_blanks cs else c ∷ cs) ≤ length (c ∷ cs)
    cases true h = omega arith
    cases false h = omega arith

some_room : (b : Bool) (n : ℕ) → (if b then 0 else n + 1) ≤ n + 1
some_room true n = omega arith
some_room false n = omega arith

within_room : (cs : List ℕ) → after_room cs ≤ length cs + 1
unfolding after_room
within_room cs = omega (arith, some_room (ends_line (skip_separators cs)) (length (skip_separators cs)), separators_off cs)

separator_room : (c : ℕ) (cs : List ℕ) → is_separator c ≡ true → after_room (c ∷ cs) ≤ length cs + 1
unfolding after_room
separator_room c cs h =
    let P : List ℕ → Type 0 = λ ds. (if ends_line ds then 0 else length ds + 1) ≤ length cs + 1 in
    subst P (sym (ap (λ b. if b then skip_separators cs else c ∷ cs) h))
    (omega (arith, some_room (ends_line (skip_separators cs)) (length (skip_separators cs)), separators_off cs))

pub both : (a b : Bool) → (a && b) ≡ true → (a ≡ true) × (b ≡ true)
both true b h = (refl, h)
both false b h = absurd (cc)

comment_first : (c : ℕ) (cs : List ℕ) → starts_comment (c ∷ cs) ≡ true → is_separator c ≡ false
comment_first c [] h = rw (eqb-true c 33 h) refl
comment_first c (d ∷ cs) h = cases (c == 33) refl h
  where
    cases : (b : Bool) → (c == 33) ≡ b → (b || ((c == 47) && (d == 47))) ≡ true → is_separator c ≡ false
    cases true e h = rw (eqb-true c 33 e) refl
    cases false e h = rw (eqb-true c 47 (both (c == 47) (d == 47) h).0) refl

comment_room : (c : ℕ) (cs : List ℕ) → starts_comment (c ∷ cs) ≡ true → after_room (c ∷ cs) ≡ 0
unfolding after_room
comment_room c cs h =
    let whole : skip_separators (c ∷ cs) ≡ c ∷ cs = ap (λ b. if b then skip_separators cs else c ∷ cs) (comment_first c cs h) in
    ap (λ ds. if ends_line ds then 0 else length ds + 1) whole ∙ ap (λ b. if b then 0 else length (c ∷ cs) + 1) h

abbrev is_equals : List ℕ → Bool
is_equals [] = false
is_equals (c ∷ cs) = c == 61

-- what a bare word ends before
first_room : (is_name : Bool) (c : ℕ) (cs : List ℕ) → ends_word is_name (c ∷ cs) ≡ true → (is_name && (c == 61)) ≡ false
    → after_room (c ∷ cs) ≤ length (c ∷ cs)
first_room is_name c cs e h = separated (is_separator c) refl
  where
    separated : (b : Bool) → is_separator c ≡ b → after_room (c ∷ cs) ≤ length (c ∷ cs)
    separated true s = omega (arith, separator_room c cs s)
    separated false s = omega (arith, comment_room c cs (grind (arith, common_steps, nat_tests)))

-- a bare word that no equals sign ends
bare_room : (is_name : Bool) (cs : List ℕ) → (is_name && is_equals (drop (word_len is_name cs) cs)) ≡ false
    → after_room (drop (word_len is_name cs) cs) + word_len is_name cs ≤ length cs
unfolding after_room
bare_room is_name [] h = omega arith
bare_room is_name (c ∷ cs) h = cases (λ h. bare_room is_name cs h) (ends_word is_name (c ∷ cs)) refl h
  where
    len : Bool → ℕ
    len b = if b then 0 else word_len is_name cs + 1

    cases : ((is_name && is_equals (drop (word_len is_name cs) cs)) ≡ false → after_room (drop (word_len is_name cs) cs) + word_len is_name cs ≤ length cs)
        → (b : Bool) → ends_word is_name (c ∷ cs) ≡ b → (is_name && is_equals (drop (len b) (c ∷ cs))) ≡ false
        → after_room (drop (len b) (c ∷ cs)) + len b ≤ length (c ∷ cs)
    cases rest true e h = omega (arith, first_room is_name c cs e h)
    cases rest false e h =
        let shorter : drop (word_len is_name cs + 1) (c ∷ cs) ≡ drop (word_len is_name cs) cs = rw add-one refl in
        rw shorter (let r = rest (rw shorter at h) in omega arith)

-- what a value and what comes after it take
value_sum : Result (Value × List ℕ) LineFault → ℕ
value_sum (Ok x) = after_room x.1 + length x.0.text
value_sum (Err e) = 0

take_most : (n : ℕ) (cs : List ℕ) → length (take n cs) ≤ n
take_most n cs = omega (arith, length-take n cs)

group_room : (k : ℕ) (cs : List ℕ) → value_sum (group_at k cs) ≤ length cs
unfolding group_at value_sum
group_room k cs = cases (nat_lt (position_or_len (λ c. c == k) cs) (length cs)) refl
  where
    at : ℕ
    at = position_or_len (λ c. c == k) cs

    cases : (b : Bool) → nat_lt at (length cs) ≡ b
        → value_sum (if b then Ok (record { text = take at cs; grouped = true }, drop (at + 1) cs) else Err lex.UnclosedGroup) ≤ length cs
    cases true e = let inside : at < length cs = ltb-true _ _ e in omega (arith, within_room (drop (at + 1) cs), length-drop (at + 1) cs, take_most at cs)
    cases false e = omega arith

by_room : (o : Option ℕ) (cs rest : List ℕ) → length rest ≤ length cs → value_sum (value_by o cs rest) ≤ length cs
unfolding value_sum
by_room None cs rest h = omega (arith, bare_room false cs refl, take_most (word_len false cs) cs)
by_room (Some k) cs rest h = omega (arith, group_room k rest)

value_room : (cs : List ℕ) → value_sum (value_at cs) ≤ length cs
unfolding value_at value_sum after_room
value_room [] = omega arith
value_room (c ∷ cs) = by_room (closer_of c) (c ∷ cs) cs (omega arith)

-- what a word or pair and what comes after it take
item_sum : Result (Pair × List ℕ) LineFault → ℕ
item_sum (Ok x) = after_room x.1 + (length x.0.name + length x.0.value)
item_sum (Err e) = 0

named_value : (name : List ℕ) (r : Result (Value × List ℕ) LineFault)
    → item_sum (r >>= λ v. Ok (pair name v.0, v.1)) ≤ length name + value_sum r
unfolding item_sum value_sum
named_value name (Ok x) = omega arith
named_value name (Err e) = omega arith

equals_first : (rest : List ℕ) → is_equals rest ≡ true → skip_blanks rest ≡ rest
equals_first [] h = refl
equals_first (c ∷ cs) h =
    let e : c ≡ 61 = eqb-true c 61 h in
    let no_blank : is_blank c ≡ false = rw e refl in
    ap (λ b. if b then skip_blanks cs else c ∷ cs) no_blank

no_equals : (rest skipped : List ℕ) → skipped ≡ skip_blanks rest → is_equals skipped ≡ false → is_equals rest ≡ false
no_equals rest skipped e h = cases (is_equals rest) refl
  where
    cases : (b : Bool) → is_equals rest ≡ b → is_equals rest ≡ false
    cases false k = k
    cases true k = let same : is_equals skipped ≡ true = ap is_equals (e ∙ equals_first rest k) ∙ k in absurd (cc)

name_room : (name rest skipped : List ℕ) (n : ℕ) → skipped ≡ skip_blanks rest
    → (is_equals rest ≡ false → after_room rest + length name ≤ n) → length name + length rest ≤ n
    → item_sum (after_name name rest skipped) ≤ n
unfolding item_sum
name_room name rest [] n e bare all = let less = bare (no_equals rest [] e refl) in omega arith
name_room name rest (c ∷ cs) n e bare all = cases (c == 61) refl
  where
    cases : (b : Bool) → (c == 61) ≡ b
        → item_sum (if b then (value_at (skip_blanks cs) >>= λ v. Ok (pair name v.0, v.1))
        else Ok (pair [] (record { text = name; grouped = false }), rest))
        ≤ n
    cases true k = omega (
      arith,
      named_value name (value_at (skip_blanks cs)),
      value_room (skip_blanks cs),
      blanks_off cs,
      blanks_off rest,
      ap (λ xs. length xs) e,
    )
    cases false k = let less = bare (no_equals rest (c ∷ cs) e k) in omega arith

item_room : (cs : List ℕ) → item_sum (item_at cs) ≤ length cs
unfolding item_at
item_room cs = cases (is_group cs)
  where
    rest : List ℕ
    rest = drop (word_len true cs) cs

    cases : (b : Bool)
        → item_sum (if b then (value_at cs >>= λ v. Ok (pair [] v.0, v.1)) else after_name (take (word_len true cs) cs) rest (skip_blanks rest)) ≤ length cs
    cases true = omega (arith, named_value [] (value_at cs), value_room cs)
    cases false = name_room (take (word_len true cs) cs) rest (skip_blanks rest) (length cs) refl
        (λ bare. omega (arith, bare_room true cs bare, take_most (word_len true cs) cs))
        (omega (arith, length-take (word_len true cs) cs, length-drop (word_len true cs) cs))

-- what all words and pairs take
total : Result (List Pair) LineFault → ℕ
total (Ok pairs) = paid pairs
total (Err e) = 0

more_room : (p : Pair) (n : ℕ) (r : Result (List Pair) LineFault) → total r ≤ n
    → total (r >>= λ items. Ok (p ∷ items)) ≤ length p.name + length p.value + 1 + n
unfolding total
more_room p n (Ok items) h = omega arith
more_room p n (Err e) h = omega arith

next_room : (n k : ℕ) (r : Result (Pair × List ℕ) LineFault) → item_sum r ≤ k
    → ((rest : List ℕ) → total (items_of n rest) ≤ after_room rest)
    → total (r >>= λ item. items_of n item.1 >>= λ items. Ok (item.0 ∷ items)) ≤ k + 1
unfolding total item_sum
next_room n k (Ok x) h others = omega (arith, more_room x.0 (after_room x.1) (items_of n x.1) (others x.1))
next_room n k (Err e) h others = omega arith

items_room : (n : ℕ) (cs : List ℕ) → total (items_of n cs) ≤ after_room cs
unfolding items_of total after_room
items_room zero cs = omega arith
items_room (suc n) cs = cases (λ rest. items_room n rest) (ends_line (skip_separators cs))
  where
    text : List ℕ
    text = skip_separators cs

    cases : ((rest : List ℕ) → total (items_of n rest) ≤ after_room rest)
        → (b : Bool)
        → total (if b then Ok [] else (item_at text >>= λ item. items_of n item.1 >>= λ items. Ok (item.0 ∷ items))) ≤ (if b then 0 else length text + 1)
    cases others true = omega arith
    cases others false = next_room n (length text) (item_at text) (item_room text) others

all_room : (line : List ℕ) → total (pairs_of line) ≤ length line + 1
unfolding pairs_of total
all_room line = long (nat_lt 65536 (length line))
  where
    text : (b : Bool) → is_utf8 line ≡ b
        → total (if not b then Err lex.NotText else items_of (length (chars line)) (chars line)) ≤ length line + 1
    text true u =
        let same = encodes-chars line (IsUtf8-from_is_utf8 line u) in
        let fewer : length (chars line) ≤ length line = omega (arith, length-le-encodes (chars line), ap (λ xs. length xs) same) in
        omega (arith, items_room (length (chars line)) (chars line), within_room (chars line))
    text false u = omega arith

    long : (b : Bool)
        → total (if b then Err lex.LineTooLong
        else if not (is_utf8 line) then Err lex.NotText else items_of (length (chars line)) (chars line))
        ≤ length line + 1
    long true = omega arith
    long false = text (is_utf8 line) refl

pub pairs_room : (line : List ℕ) (pairs : List Pair) → pairs_of line ≡ Ok pairs → paid pairs ≤ length line + 1
unfolding total
pairs_room line pairs h = omega (arith, all_room line, ap total h)
