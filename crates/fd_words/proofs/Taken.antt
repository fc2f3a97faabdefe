-- What `clap` makes of the words of a form: it takes them, and its matches are the form.
use Rattle.std.proofs.Common.{◌≡◌, ◌∙◌, ◌==◌, ◌&&◌, ◌||◌, ◌∷◌, ◌++◌, ◌≤◌, ℕ, List, Option, Some, None, Bool, suc, true, false, not, [], refl, sym, subst, ap, ap₂, cond, codes, nat_eq, nat_le, is_some, length, map, option_map, unwrap_or, append-nil, append_assoc, arith}
use Rattle.std.proofs.lemmas.Bool.Decides.{nat_tests}
use Rattle.std.specs.Prelude.{find, fold, option_and_then}
use Rattle.std.specs.List.{list_all}
use Rattle.std.specs.Cmp.Lexicographic.{pointwise}
use Rattle.std.specs.Option.{option_map_or}
use Rattle.std.specs.Str.{bytes_eq}
use Rattle.std.proofs.lemmas.Slice.Eq.{bytes_eq-Decides}
use Rattle.clap.specs.Lexer.{long_of, short_of}
use Rattle.clap.specs.Matches.{matched_of, raw_values}
use Rattle.clap.specs.Simple.{App, Shape, built, entered, filled_from, label_of, new_shape, rows_at}
use Rattle.clap.specs.Takes.{default_passes, entered_passes, is_valid, level_passes, settle_passes, walk_passes}
use Rattle.clap.specs.Walk.{Names, Rule, Walk, answers_to, finished, idle, nothing_held, rows_after, subcommand_met, walk, walk_from, walked}
use Rattle.clap.specs.Words.{Row as Found, Text, all_of, rows_of, subcommand_of, takes}
use Rattle.clap.specs.declared.parser.matches.Found.{Found as Matches}
use Rattle.clap.proofs.OnLiterals.{clap_on_literals}
use Rattle.clap.proofs.WalkLemmas.{find-map, raw_values-rows}
use Rattle.fd_words.specs.declared.table.Kind.{Kind}
use Rattle.fd_words.specs.declared.table.Kind.TheVariants.{File, Number, Sections, Bus, Short}
use Rattle.fd_words.specs.Lines.{form_of_rows, lines_app, words_rule}
use Rattle.fd_words.specs.Numbers.{value_of, within_sections}
use Rattle.fd_words.specs.Shorts.{short_of as kind_of}
use Rattle.fd_words.specs.declared.shorts.Short.{Short as Kinds}
use Rattle.fd_words.specs.Words.{Form, Row, Takes, Value, form_of, form_with, names_file, row_of, rows, value_as}
use Rattle.fd_words.proofs.Digits.{number_named}

-- the getter of the words reads the rows
pub words_by : (f : Matches) (id : Text) (words : Option (List Text)) → words ≡ option_map raw_values (matched_of f id)
    → words ≡ all_of id (rows_of f)
words_by f id words e = e ∙ raw_values-rows f id

and_split : (a b : Bool) → a && b ≡ true → (a ≡ true) × (b ≡ true)
and_split true b h = (refl, h)
and_split false b h = absurd (cc h)

or_true : (a : Bool) → a || true ≡ true
or_true true = refl
or_true false = refl

-- the first word of a row that a word isn't
pub unlike : (first word : Text) → (word ≡ first → ⊥) → pointwise nat_eq first word ≡ false
unlike first word differ = go (bytes_eq first word) refl
  where
    go : (t : Bool) → bytes_eq first word ≡ t → pointwise nat_eq first word ≡ false
    go true e = absurd (differ (sym ((bytes_eq-Decides first word).0 e)))
    go false e = e

-- ---- the words of a row

sections_named : (word : Text) (value : Option ℕ) (m : ℕ) → value_of 2 word ≡ value →
    option_and_then within_sections value ≡ Some m
    → names_file word ≡ true
sections_named word None m e some = absurd (cc some)
sections_named word (Some k) m e some = number_named 2 word k e

file_named : (word : Text) (b : Bool) (v : Text) → names_file word ≡ b → (cond b (Some word) None) ≡ Some v →
    names_file word ≡ true
file_named word true v e some = e
file_named word false v e some = absurd (cc some)

kind_named : (b : ℕ) (bs : List ℕ) (v : Kinds) (t : Bool) → b == 45 ≡ t → kind_of (b ∷ bs) ≡ Some v → not t ≡ true
kind_named b bs v false e some = refl
kind_named b bs v true e some =
    let is : b ≡ 45 = grind (arith, nat_tests) in
    let none : None ≡ Some v = subst (λ (d : ℕ). kind_of (d ∷ bs) ≡ Some v) is some in
    absurd (cc none)

short_named : (word : Text) (v : Kinds) → kind_of word ≡ Some v → names_file word ≡ true
short_named [] v some = absurd (cc some)
short_named (b ∷ bs) v some = kind_named b bs v (b == 45) refl some

-- a word of any kind may name a file
named : (kind : Kind) (word : Text) (v : Value kind) → value_as kind word ≡ Some v → names_file word ≡ true
named File word v e = file_named word _ v refl e
named Number word v e = number_named 20 word v e
named Sections word v e = sections_named word (value_of 2 word) v refl e
named Bus word v e = file_named word _ v refl e
named Short word v e = short_named word v e

-- there are as many words as kinds, and each may name a file
all_named : (kinds : List Kind) (form : Takes kinds) (words : List Text) → is_some (form_with kinds form words) ≡ true
    → (length kinds ≡ length words) × (list_all names_file words ≡ true)
all_named [] form [] some = (refl, refl)
all_named [] form (word ∷ words) some = absurd (cc some)
all_named (kind ∷ kinds) form [] some = absurd (cc some)
all_named (kind ∷ kinds) form (word ∷ words) some =
    go (value_as kind word) refl some (λ v. all_named kinds (form v) words)
  where
    go : (o : Option (Value kind)) → value_as kind word ≡ o →
        is_some (option_and_then (λ value. form_with kinds (form value) words) o) ≡ true
        → ((v : Value kind) → is_some (form_with kinds (form v) words) ≡ true → (length kinds ≡ length words)
        × (list_all names_file words ≡ true))
        → (length (kind ∷ kinds) ≡ length (word ∷ words)) × (list_all names_file (word ∷ words) ≡ true)
    go None e h more = absurd (cc h)
    go (Some v) e h more =
        let rest = more v h in
        (ap (λ n. suc n) rest.0, ap₂ (λ a b. a && b) (named kind word v e) rest.1)

-- ---- a line

-- the subcommand of a line as it is built
abbrev line : Text → ℕ → Shape
line word count = record (new_shape word) {
  rules = filled_from 1 (words_rule count ∷ []);
  no_binary_name = true;
  disable_help_flag = true;
  disable_help_subcommand = true;
  is_built = true;
}

abbrev leaf : Row → Shape
leaf row = line row.word (length row.kinds)

-- the line takes the words, and its matches give them back
abbrev IsTakenBy : Shape → List Text → Type 0
IsTakenBy shape words = (level_passes shape [] nothing_held words false ≡ true)
    × (all_of (codes "words") (rows_after shape.rules [] words) ≡ Some words)

dashless : (b : ℕ) (bs : List ℕ) → nat_eq b 45 ≡ false → (long_of (b ∷ bs) ≡ None) × (short_of (b ∷ bs) ≡ None)
dashless b bs h = (rw h refl, rw h refl)

other : (b : ℕ) → not (b == 45) ≡ true → nat_eq b 45 ≡ false
other b h = go (b == 45) refl h
  where
    go : (t : Bool) → b == 45 ≡ t → not t ≡ true → nat_eq b 45 ≡ false
    go true e n = absurd (cc n)
    go false e n = e

one_taken : (name word : Text) → names_file word ≡ true → IsTakenBy (line name 1) (word ∷ [])
unfolding clap_on_literals
one_taken name [] n = absurd (cc n)
one_taken name (b ∷ bs) n =
    let h = other b n in
    let d = dashless b bs h in
    (rw (d.0, d.1, h) (refl {a = true}), rw (d.0, d.1, h) (refl {a = Some ((b ∷ bs) ∷ [])}))

two_taken : (name first second : Text) → names_file first ≡ true → names_file second ≡ true →
    IsTakenBy (line name 2) (first ∷ second ∷ [])
unfolding clap_on_literals
two_taken name [] second n m = absurd (cc n)
two_taken name (b ∷ bs) [] n m = absurd (cc m)
two_taken name (b ∷ bs) (c ∷ cs) n m =
    let h = other b n in
    let k = other c m in
    let d = dashless b bs h in
    let e = dashless c cs k in (
      rw (d.0, d.1, h, e.0, e.1, k) (refl {a = true}),
      rw (d.0, d.1, h, e.0, e.1, k) (refl {a = Some ((b ∷ bs) ∷ (c ∷ cs) ∷ [])}),
    )

three_taken : (name first second third : Text) → names_file first ≡ true → names_file second ≡ true → names_file third
    ≡ true
    → IsTakenBy (line name 3) (first ∷ second ∷ third ∷ [])
unfolding clap_on_literals
three_taken name [] second third n m p = absurd (cc n)
three_taken name (b ∷ bs) [] third n m p = absurd (cc m)
three_taken name (b ∷ bs) (c ∷ cs) [] n m p = absurd (cc p)
three_taken name (b ∷ bs) (c ∷ cs) (d ∷ ds) n m p =
    let h = other b n in
    let k = other c m in
    let l = other d p in
    let e = dashless b bs h in
    let f = dashless c cs k in
    let g = dashless d ds l in (
      rw (e.0, e.1, h, f.0, f.1, k, g.0, g.1, l) (refl {a = true}),
      rw (e.0, e.1, h, f.0, f.1, k, g.0, g.1, l) (refl {a = Some ((b ∷ bs) ∷ (c ∷ cs) ∷ (d ∷ ds) ∷ [])}),
    )

true_le : (m n : ℕ) → nat_le m n ≡ true → m ≤ n
true_le m n h = grind (arith, nat_tests)

-- one word to three
abbrev is_few : ℕ → Bool
is_few count = nat_le 1 count && nat_le count 3

few_taken : (name : Text) (words : List Text) → is_few (length words) ≡ true → list_all names_file words ≡ true →
    IsTakenBy (line name (length words)) words
few_taken name [] few all = absurd (cc few)
few_taken name (word ∷ []) few all = one_taken name word (and_split (names_file word) true all).0
few_taken name (first ∷ second ∷ []) few all =
    let rest = and_split (names_file first) _ all in
    two_taken name first second rest.0 (and_split (names_file second) true rest.1).0
few_taken name (first ∷ second ∷ third ∷ []) few all =
    let rest = and_split (names_file first) _ all in
    let last = and_split (names_file second) _ rest.1 in
    three_taken name first second third rest.0 last.0 (and_split (names_file third) true last.1).0
few_taken name (first ∷ second ∷ third ∷ fourth ∷ words) few all =
    let count = length (first ∷ second ∷ third ∷ fourth ∷ words) in
    let most : count ≤ 3 = true_le count 3 (and_split (nat_le 1 count) (nat_le count 3) few).1 in
    absurd (omega arith)

-- ---- the lines

abbrev top : Shape
top = record (new_shape (codes "feeder")) {
  no_binary_name = true;
  disable_help_flag = true;
  disable_help_subcommand =
      true;
  is_leaf = false;
  is_built = true;
}

abbrev app : App
app = record { top = top; subs = map leaf rows }

built_is : built lines_app ≡ app
built_is = refl

-- a row that is found has its word, and what is said of all
found_row : (test : Row → Bool) (rs : List Row) (word : Text) (row : Row) → find (λ r. bytes_eq r.word word) rs
    ≡ Some row → list_all test rs ≡ true
    → (bytes_eq row.word word ≡ true) × (test row ≡ true) × (find (λ s. answers_to word (label_of s)) (map leaf rs)
    ≡ Some (leaf row))
found_row test [] word row h all = absurd (cc h)
found_row test (r ∷ rs) word row h all =
    go (bytes_eq r.word word) refl h (λ found. found_row test rs word row found (and_split (test r) _ all).1)
  where
    go : (t : Bool) → bytes_eq r.word word ≡ t → cond t (Some r) (find (λ r. bytes_eq r.word word) rs) ≡ Some row
        → (find (λ r. bytes_eq r.word word) rs ≡ Some row → (bytes_eq row.word word ≡ true) × (test row ≡ true)
        × (find (λ s. answers_to word (label_of s)) (map leaf rs) ≡ Some (leaf row)))
        → (bytes_eq row.word word ≡ true) × (test row ≡ true)
        × (find (λ s. answers_to word (label_of s)) (map leaf (r ∷ rs)) ≡ Some (leaf row))
    go true e found more =
        let is : r ≡ row = ap (λ o. unwrap_or o r) found in
        subst (λ (x : Row). (bytes_eq x.word word ≡ true) × (test x ≡ true)
        × (find (λ s. answers_to word (label_of s)) (map leaf (r ∷ rs)) ≡ Some (leaf x))) is
        (e, (and_split (test r) _ all).0, rw e refl)
    go false e found more =
        let rest = more found in
        (rest.0, rest.1, rw e rest.2)

-- the walk that met a name, and the words after it
abbrev at : Text → List Text → Walk
at name words = record (walk_from nothing_held) { stopped = Some (name, words) }

later : (c : List Rule) (names : Names) (name : Text) (seen words : List Text) →
    fold (walked c names) (at name seen) words ≡ at name (seen ++ words)
unfolding walked
later c names name seen [] = ap (at name) (sym (append-nil seen))
later c names name seen (word ∷ words) = later c names name (seen ++ word ∷ []) words
    ∙ ap (at name) (append_assoc seen (word ∷ []) words)

first : (c : List Rule) (names : Names) (word name : Text) → subcommand_met names idle word ≡ Some name →
    walked c names (walk_from nothing_held) word ≡ at name []
unfolding walked
first c names word name met = rw met refl

later_passes : (s : Shape) (names : Names) (name : Text) (seen words : List Text) →
    walk_passes s names (at name seen) words ≡ true
unfolding walk_passes walked
later_passes s names name seen [] = refl
later_passes s names name seen (word ∷ words) = later_passes s names name (seen ++ word ∷ []) words

passes : (names : Names) (word name : Text) (words : List Text) → subcommand_met names idle word ≡ Some name
    → walk_passes top names (walk_from nothing_held) (word ∷ words) ≡ true
unfolding walk_passes walked
passes names word name words met = rw (met, or_true (not (bytes_eq name (codes "help"))))
    (later_passes top names name [] words)

-- the command takes a row's word and words that its line takes, and its matches give them back
row_taken : (row : Row) (words : List Text) → find (λ s. answers_to row.word (label_of s)) (map leaf rows)
    ≡ Some (leaf row) → IsTakenBy (leaf row) words
    → (takes lines_app (row.word ∷ words) ≡ true)
    × (subcommand_of lines_app (row.word ∷ words) ≡ Some (row.word, rows_after (leaf row).rules [] words))
row_taken row words found taken =
    let names = map label_of (map leaf rows) in
    let met : subcommand_met names idle row.word ≡ Some row.word =
    ap (option_map (λ (s : Text × List Text). s.0)) (sym (find-map (answers_to row.word) label_of (map leaf rows))
    ∙ ap (option_map label_of) found) in
    let walk_is : walk [] names nothing_held (row.word ∷ words) ≡ at row.word words =
    ap (λ (w : Walk). fold (walked [] names) w words) (first [] names row.word row.word met)
    ∙ later [] names row.word [] words in
    let enters : entered_passes app (at row.word words).stopped ≡ true =
    ap (λ o. option_map_or (λ (s : Shape). level_passes s [] nothing_held words false) o true) found ∙ taken.0 in
    let level : (b : Bool) → level_passes top names nothing_held (row.word ∷ words) b ≡ true =
    λ b. ap₂ (λ (w : Walk) (p : Bool). p && (settle_passes [] false w.held && (list_all default_passes []
    && is_valid top (finished [] w.held) b))) walk_is (passes names row.word row.word words met) in (
      ap₂ (λ (a b : Bool). a && b) (ap (λ (w : Walk). entered_passes app w.stopped) walk_is ∙ enters)
          (level (is_some (entered app (walk [] names nothing_held (row.word ∷ words)).stopped))),
      ap (λ (w : Walk). entered app w.stopped) walk_is ∙ ap (option_map (λ s. rows_at s words)) found,
    )

-- ---- the form

abbrev pub read : Option (Text × List Found) → Option Form
read = option_and_then (λ line. form_of_rows line.0 line.1)

-- the command takes the words, and its matches are their form
abbrev IsRead : List Text → Type 0
IsRead words = (takes lines_app words ≡ true) × (read (subcommand_of lines_app words) ≡ form_of words)

row_read : (row : Row) (words : List Text) → is_some (form_with row.kinds row.form words) ≡ true →
    is_few (length row.kinds) ≡ true
    → find (λ s. answers_to row.word (label_of s)) (map leaf rows) ≡ Some (leaf row) → IsRead (row.word ∷ words)
row_read row words some few found =
    let all = all_named row.kinds row.form words some in
    let by_line = few_taken row.word words (subst (λ n. is_few n ≡ true) all.0 few) all.1 in
    let taken : IsTakenBy (leaf row) words = subst (λ n. IsTakenBy (line row.word n) words) (sym all.0) by_line in
    let is = row_taken row words found taken in
    (is.0, ap read is.1 ∙ ap (option_and_then (λ ws. form_of (row.word ∷ ws))) taken.1)

form_read : (words : List Text) → is_some (form_of words) ≡ true → IsRead words
form_read [] some = absurd (cc some)
form_read (word ∷ words) some = go (row_of word) refl some
  where
    go : (o : Option Row) → row_of word ≡ o → is_some (option_and_then (λ row. form_with row.kinds row.form words) o)
        ≡ true → IsRead (word ∷ words)
    go None e h = absurd (cc h)
    go (Some row) e h =
        let found = found_row (λ r. is_few (length r.kinds)) rows word row e refl in
        let is : row.word ≡ word = (bytes_eq-Decides row.word word).0 found.0 in
        subst (λ w. IsRead (w ∷ words)) is
        (row_read row words h found.1 (subst (λ w. find (λ s. answers_to w (label_of s)) (map leaf rows)
        ≡ Some (leaf row)) (sym is) found.2))

pub is_taken : (words : List Text) → is_some (form_of words) ≡ true → takes lines_app words ≡ true
is_taken words some = (form_read words some).0

pub is_read : (words : List Text) → is_some (form_of words) ≡ true → read (subcommand_of lines_app words)
    ≡ form_of words
is_read words some = (form_read words some).1
