-- A step within the open files.
use Rattle.std.proofs.Common.{◌≡◌, ◌∙◌, ℕ, zero, suc, ◌+◌, ◌-◌, ◌*◌, ◌<◌, ◌≤◌, List, [], ◌∷◌, length, take, length-take, reverse, Option, Some, None, Bool, true, false, Result, Ok, Err, refl, sym, ap, subst, arith, eqb, IsSome, nat_lt, if◌then◌else◌}
use Rattle.std.specs.Prelude.{◌==◌, slice_index}
use Rattle.std.specs.List.{slice_split, onto_first}
use Rattle.std.specs.Str.Lines.{lines, lines_of_parts, strip_carriage_return}
use Rattle.dss_script.specs.Lines.{is_line_feed}
use Rattle.std.proofs.lemmas.List.{length-reverse}
use Rattle.std.proofs.lemmas.Bool.{eqb-true, eqb-false, ltb-true, ltb-false, lt-ltb, le-ltb}
use Rattle.fd_outside.specs.Files.{Files, held}
use Rattle.dss_model.specs.dss_lexer.declared.pair.Pair.{Pair}
use Rattle.dss_model.specs.dss_lexer.declared.fault.LineFault.{LineFault}
use Rattle.dss_script.proofs.Rooms.{pairs_room}
use Rattle.dss_script.specs.Cutting.{pairs_of}
use Rattle.dss_model.specs.Names.{bytes}
use Rattle.dss_model.specs.declared.command.Place.{Place}
use Rattle.dss_model.specs.declared.command.Verb.{Verb}
use Rattle.dss_script.specs.declared.meaning.Change.{Change}
use Rattle.dss_script.specs.declared.fault.SessionFault.{SessionFault}
use Rattle.dss_script.specs.declared.fault.SessionFault.TheVariants as fault
use Rattle.dss_model.specs.declared.command.Command.{Command}
use Rattle.dss_script.specs.declared.session.Turn.{Turn}
use Rattle.dss_script.specs.declared.session.Turn.TheVariants as turn
use Rattle.dss_script.specs.declared.meaning.Meaning.{Meaning}
use Rattle.dss_script.specs.declared.meaning.Meaning.TheVariants as the
use Rattle.dss_script.specs.declared.fault.ScriptCause.{ScriptCause}
use Rattle.dss_script.specs.declared.fault.ScriptCause.TheVariants as cause
use Rattle.dss_script.specs.declared.reading.Taken.{Taken}
use Rattle.dss_script.specs.declared.reading.Taken.TheVariants as taken
use Rattle.dss_script.specs.Readings.{Reading, advanced, next_line, first_of, rest_of}
use Rattle.dss_script.specs.Meaning.{meaning_of, target_after}
use Rattle.dss_script.specs.Script.{Script, finished, Standing, refused, asks, gives, command_says, lines_say, line_says, file_says, found_says, script_of}
use Rattle.dss_script.specs.Paths.{joined}
use Rattle.dss_script.specs.Sessions.{State, start, remaining, waiting_says, remaining_by, remaining_with, entered, opened, is_fresh, taken_says, taken_of, files_after, files_say, deeper, room, left, lines_room, files_room, pays, closes, Spends, Tells, cut_into, next_place}

pub reversed_length : {X : Type 0} (xs : List X) → length (reverse xs) ≡ length xs
reversed_length xs = length-reverse xs

abbrev pub with_files : State → List Reading → State
with_files state files = record { waiting = state.waiting; folder = state.folder; files = files; standing = state.standing; ended = state.ended }

abbrev pub after_line : State → State
after_line state = with_files state (files_after state.files)

open_says : (files : Files) (state : State) → state.waiting ≡ None
    → remaining files state ≡ files_say files state.folder state.files state.standing
unfolding remaining
open_says files state h = ap (λ w. waiting_says files w state) h

pub over_says : (files : Files) (state : State) → state.waiting ≡ None → length state.files ≡ 0
    → remaining files state ≡ finished
over_says files state w h = open_says files state w ∙ none state.files h
  where
    none : (rs : List Reading) → length rs ≡ 0 → files_say files state.folder rs state.standing ≡ finished
    none [] h = refl
    none (r ∷ rs) h = absurd (omega arith)

line_is : (files : Files) (folder : List ℕ) (r : Reading) (outer : List Reading) (standing : Standing)
    → (ls : List (List ℕ)) → r.lines ≡ ls → 0 < length ls
    → files_say files folder (r ∷ outer) standing
    ≡ line_says files (λ p n s g. file_says files folder (deeper (r ∷ outer)) p n s g) folder (next_place r)
    (pairs_of (next_line r)) standing (λ s. files_say files folder (advanced r ∷ outer) s)
line_is files folder r outer standing [] e h = absurd (omega arith)
line_is files folder r outer standing (line ∷ rest) e h =
    ap (λ ls. files_say files folder (record { file = r.file; line = r.line; lines = ls } ∷ outer) standing) e
    ∙ ap (λ ls. line_says files (λ p n s g. file_says files folder (deeper (r ∷ outer)) p n s g) folder (next_place r) (pairs_of (first_of ls)) standing
    (λ s. files_say files folder (record { file = r.file; line = r.line + 1; lines = rest_of ls } ∷ outer) s)) (sym e)

cut_says : (files : Files) (state : State) (place : Place) (said : Result (List Pair) LineFault)
    → line_says files (λ p n s g. file_says files state.folder (deeper state.files) p n s g) state.folder place said
    state.standing (λ s. files_say files state.folder state.files s)
    ≡ taken_says files (cut_into place said) state
unfolding taken_says remaining_by
cut_says files state place (Ok pairs) = refl
cut_says files state place (Err e) = refl

closed_says : (files : Files) (folder : List ℕ) (r : Reading) (outer : List Reading) (standing : Standing)
    → (ls : List (List ℕ)) → r.lines ≡ ls → length ls ≡ 0
    → files_say files folder (r ∷ outer) standing ≡ files_say files folder outer standing
closed_says files folder r outer standing [] e h = ap (λ ls. files_say files folder (record { file = r.file; line = r.line; lines = ls } ∷ outer) standing) e
closed_says files folder r outer standing (line ∷ rest) e h = absurd (omega arith)

pub positive : (n : ℕ) → (n ≡ 0 → ⊥) → 0 < n
positive zero h = absurd (h refl)
positive (suc n) h = omega arith

taken_by : (files : Files) (state : State) → state.waiting ≡ None → (rs : List Reading) → state.files ≡ rs
    → files_say files state.folder rs state.standing ≡ taken_says files (taken_of rs) (record {
      waiting = state.waiting;
      folder = state.folder;
      files = files_after rs;
      standing = state.standing;
      ended = state.ended;
    })
unfolding taken_says
taken_by files state w [] e = sym (open_says files (record {
  waiting = state.waiting;
  folder = state.folder;
  files = [];
  standing = state.standing;
  ended = state.ended;
}) w)
taken_by files state w (r ∷ outer) e = cases (eqb (length r.lines) 0) refl
  where
    after : Bool → State
    after b = record {
      waiting = state.waiting;
      folder = state.folder;
      files = if b then outer else advanced r ∷ outer;
      standing = state.standing;
      ended = state.ended;
    }

    Goal : Bool → Type 0
    Goal b =
        files_say files state.folder (r ∷ outer) state.standing
        ≡ taken_says files (if b then taken.Closed else cut_into (next_place r) (pairs_of (next_line r))) (after b)

    cases : (b : Bool) → eqb (length r.lines) 0 ≡ b → Goal (eqb (length r.lines) 0)
    cases true h =
        subst Goal (sym h)
        (closed_says files state.folder r outer state.standing r.lines refl (eqb-true (length r.lines) 0 h)
        ∙ sym (open_says files (after true) w))
    cases false h =
        subst Goal (sym h) (line_is files state.folder r outer state.standing r.lines refl
        (positive (length r.lines) (eqb-false (length r.lines) 0 h))
        ∙ cut_says files (after false) (next_place r) (pairs_of (next_line r)))

pub taken_is : (files : Files) (state : State) → state.waiting ≡ None
    → remaining files state ≡ taken_says files (taken_of state.files) (after_line state)
taken_is files state h = open_says files state h ∙ taken_by files state h state.files refl

pub says_nothing : (files : Files) (state : State) (place : Place) → state.waiting ≡ None
    → remaining_by files place the.Nothing state ≡ remaining files state
unfolding remaining_by
says_nothing files state place w = sym (open_says files state w)

pub says_refused : (files : Files) (state : State) (place : Place) (c : ScriptCause)
    → remaining_by files place (the.Refused c) state ≡ refused place c
unfolding remaining_by
says_refused files state place c = refl

pub says_command : (files : Files) (state new : State) (place : Place) (verb : Verb) (change : Change)
    → new.waiting ≡ None → new.folder ≡ state.folder → new.files ≡ state.files
    → new.standing ≡ record { target = target_after state.standing.target change; read = state.standing.read }
    → remaining_by files place (the.Does verb change) state ≡ command_says files new.folder (record { place = place; verb = verb }) (remaining files new)
unfolding remaining_by
says_command files state new place verb change w f g h =
    ap (λ folder.
    command_says files folder (record { place = place; verb = verb }) (files_say files state.folder state.files
    (record { target = target_after state.standing.target change; read = state.standing.read })))
    (sym f)
    ∙ ap (λ rest. command_says files new.folder (record { place = place; verb = verb }) rest)
    (ap (files_say files state.folder state.files) (sym h)
    ∙ ap (λ rs. files_say files state.folder rs new.standing) (sym g)
    ∙ ap (λ d. files_say files d new.files new.standing) (sym f) ∙ sym (open_says files new w))

-- a file's name, where so many files may be open within those that are
found_is : (files : Files) (state : State) (place : Place) (name : List ℕ) (n : ℕ) (found : Option (List ℕ))
    → state.waiting ≡ None → deeper state.files ≡ suc n
    → found_says files (λ p m s g. file_says files state.folder n p m s g) state.folder found place name
    state.standing (λ s. files_say files state.folder state.files s)
    ≡ remaining_with files found place name state
unfolding remaining_with
found_is files state place name n None w h = refl
found_is files state place name n (Some bs) w h =
    let st : Standing = record { target = state.standing.target; read = state.standing.read + length bs } in
    ap (λ script. if nat_lt 1_048_576 (state.standing.read + length bs) then refused place cause.TooLong else script)
    (ap (λ d.
    lines_say files (λ p m s g. file_says files state.folder d p m s g) state.folder name 0 (lines bs) st (λ s.
    files_say files state.folder state.files s)) (let e : n ≡ deeper state.files - 1 = omega arith in e)
    ∙ sym (open_says files (entered state name bs) w))

depth : (rs : List Reading) → deeper rs ≡ 9 - length rs
depth [] = refl
depth (r ∷ rs) = omega (arith, depth rs)

reader_is : (files : Files) (state : State) (place : Place) (name : List ℕ) (n : ℕ) → state.waiting ≡ None
    → deeper state.files ≡ suc n
    → file_says files state.folder (deeper state.files) place name state.standing (λ s. files_say files state.folder state.files s)
    ≡ asks name (remaining_with files (held files (bytes name)) place name state)
reader_is files state place name n w h =
    ap (λ d. file_says files state.folder d place name state.standing (λ s. files_say files state.folder state.files s)) h
    ∙ ap (asks name) (found_is files state place name n (held files (bytes name)) w h)

pub deep_enough : (files : Files) (state : State) (place : Place) (name full : List ℕ) → state.waiting ≡ None
    → nat_lt 8 (length state.files) ≡ false → full ≡ joined state.folder name
    → remaining_by files place (the.Reads name) state ≡ asks full (remaining_with files (held files (bytes full)) place full state)
unfolding remaining_by
deep_enough files state place name full w h e =
    let within : length state.files ≤ 8 = ltb-false _ _ h in
    ap (λ f. file_says files state.folder (deeper state.files) place f state.standing (λ s. files_say files state.folder state.files s)) (sym e)
    ∙ reader_is files state place full (8 - length state.files) w (omega (arith, depth state.files))

pub too_deep_for : (files : Files) (state : State) (place : Place) (name : List ℕ)
    → nat_lt 8 (length state.files) ≡ true
    → remaining_by files place (the.Reads name) state ≡ refused place cause.TooDeep
unfolding remaining_by
too_deep_for files state place name h =
    let none : deeper state.files ≡ 0 = (let over : 8 < length state.files = ltb-true _ _ h in omega (arith, depth state.files)) in
    ap (λ d. file_says files state.folder d place (joined state.folder name) state.standing (λ s. files_say files state.folder state.files s)) none

-- MASTER is read first, in a session without open files
pub master_says : (files : Files) (state : State) (master : List ℕ) → state.waiting ≡ Some master
    → length state.files ≡ 0
    → remaining files state ≡ asks master (remaining_with files (held files (bytes master)) (record { file = master; line = 0 }) master
    (record { waiting = None; folder = state.folder; files = state.files; standing = state.standing; ended = state.ended }))
unfolding remaining
master_says files state master w h =
    ap (λ m. waiting_says files m state) w
    ∙ reader_is files (record {
      waiting = None;
      folder = state.folder;
      files = state.files;
      standing = state.standing;
      ended = state.ended;
    }) (record { file = master; line = 0 }) master 8 refl (omega (arith, depth state.files))

-- a line takes at least the room of its words and pairs
pays_cut : (place : Place) (line : List ℕ) (said : Result (List Pair) LineFault) → pairs_of line ≡ said
    → pays (cut_into place said) ≤ length line + 1
pays_cut place line (Err e) h = omega arith
pays_cut place line (Ok pairs) h = omega (arith, pairs_room line pairs h)

pays_line : (place : Place) (line : List ℕ) → pays (cut_into place (pairs_of line)) ≤ length line + 1
pays_line place line = pays_cut place line (pairs_of line) refl

stripped : (x : List ℕ) → length (strip_carriage_return x) ≤ length x
stripped x = cases (slice_index x (length x - 1) == 13)
  where
    cases : (b : Bool) → length (if b then take (length x - 1) x else x) ≤ length x
    cases true = omega (arith, length-take (length x - 1) x)
    cases false = omega arith

closes_none : (place : Place) (said : Result (List Pair) LineFault) → closes (cut_into place said) ≡ 0
closes_none place (Ok pairs) = refl
closes_none place (Err e) = refl

spends : (rs : List Reading) → 0 < length rs
    → (files_room (files_after rs) + pays (taken_of rs) ≤ files_room rs) × (length (files_after rs) + closes (taken_of rs) ≤ length rs)
spends [] h = absurd (omega arith)
spends (r ∷ outer) h = cases (eqb (length r.lines) 0) refl
  where
    Goal : Bool → Type 0
    Goal b =
        (files_room (if b then outer else advanced r ∷ outer)
        + pays (if b then taken.Closed else cut_into (next_place r) (pairs_of (next_line r)))
        ≤ files_room (r ∷ outer))
        × (length (if b then outer else advanced r ∷ outer)
        + closes (if b then taken.Closed else cut_into (next_place r) (pairs_of (next_line r)))
        ≤ length (r ∷ outer))

    some : (ls : List (List ℕ)) → (length ls ≡ 0 → ⊥)
        → lines_room ls ≡ length (first_of ls) + 1 + lines_room (rest_of ls)
    some [] h = absurd (h refl)
    some (line ∷ rest) h = refl

    cases : (b : Bool) → eqb (length r.lines) 0 ≡ b → Goal (eqb (length r.lines) 0)
    cases true e = subst Goal (sym e) (omega arith, omega arith)
    cases false e = subst Goal (sym e) (
      (let line = some r.lines (eqb-false (length r.lines) 0 e) in let paid = pays_line (next_place r) (next_line r) in omega arith),
      (let none = closes_none (next_place r) (pairs_of (next_line r)) in omega arith),
    )

pub line_spends : (state : State) → 0 < length state.files
    → (room (after_line state) + pays (taken_of state.files) ≤ room state)
    × (left (after_line state) + 2 * pays (taken_of state.files) + closes (taken_of state.files) ≤ left state)
line_spends state h = let s = spends state.files h in (omega (arith, s.0), omega (arith, s.0, s.1))

parts_room : (parts : List (List ℕ)) → lines_room (lines_of_parts parts) ≤ lines_room parts
parts_room [] = omega arith
parts_room (x ∷ []) = cases (eqb (length x) 0)
  where
    cases : (b : Bool) → lines_room (if b then [] else x ∷ []) ≤ lines_room (x ∷ [])
    cases true = omega arith
    cases false = omega arith
parts_room (x ∷ y ∷ more) = omega (arith, parts_room (y ∷ more), stripped x)

onto_room : (x : ℕ) (parts : List (List ℕ)) → 0 < lines_room parts
    → lines_room (onto_first x parts) ≡ lines_room parts + 1
onto_room x [] h = absurd (omega arith)
onto_room x (part ∷ parts) h = omega arith

split_room : (bs : List ℕ) → lines_room (slice_split is_line_feed bs) ≡ length bs + 1
split_room [] = refl
split_room (b ∷ bs) = cases (is_line_feed b) (split_room bs)
  where
    cases : (t : Bool) → lines_room (slice_split is_line_feed bs) ≡ length bs + 1
        → lines_room (if t then [] ∷ slice_split is_line_feed bs else onto_first b (slice_split is_line_feed bs)) ≡ length (b ∷ bs) + 1
    cases true e = omega arith
    cases false e = omega (arith, onto_room b (slice_split is_line_feed bs) (omega arith))

pub file_room : (bs : List ℕ) → lines_room (lines bs) ≤ length bs + 1
file_room bs = omega (arith, parts_room (slice_split is_line_feed bs), split_room bs)

-- what a step takes of less room
pub spends_more : (space todo more later : ℕ) (new : State) (r : Result Turn SessionFault) → space ≤ more → todo ≤ later
    → Spends space todo new r → Spends more later new r
spends_more space todo more later new (Ok (turn.Gives command)) h k s = omega arith
spends_more space todo more later new (Ok turn.Goes) h k s = (omega (arith, s.0), omega (arith, s.1))
spends_more space todo more later new (Ok (turn.Reads place name)) h k s = (omega (arith, s.0), omega (arith, s.1))
spends_more space todo more later new (Ok turn.Ends) h k s = omega arith
spends_more space todo more later new (Err e) h k s = tt

-- where MASTER waits, no file is open
pub fresh_files : {Y : Type 0} (waiting : Option (List ℕ)) (files : List Y) → is_fresh waiting files ≡ true
    → IsSome waiting → length (reverse files) ≡ 0
fresh_files None files h k = absurd (cc)
fresh_files (Some master) files h k = length-reverse files ∙ eqb-true (length files) 0 h

pub opened_same : (state : State) → state.waiting ≡ None → opened state ≡ state
opened_same state h = ap (λ w. record { waiting = w; folder = state.folder; files = state.files; standing = state.standing; ended = state.ended }) (sym h)

pub master_step : (files : Files) (old new : State) (master copy : List ℕ) → Some master ≡ old.waiting
    → length old.files ≡ 0 → copy ≡ master → new ≡ opened old
    → remaining files old ≡ asks master (remaining_with files (held files (bytes master)) (record { file = copy; line = 0 }) master new)
master_step files old new master copy w h c n =
    master_says files old master (sym w) h
    ∙ ap (λ f. asks master (remaining_with files (held files (bytes master)) (record { file = f; line = 0 }) master (opened old))) (sym c)
    ∙ ap (λ s. asks master (remaining_with files (held files (bytes master)) (record { file = copy; line = 0 }) master s)) (sym n)

pub says_closed : (files : Files) (state : State) → taken_says files taken.Closed state ≡ remaining files state
unfolding taken_says
says_closed files state = refl

pub says_bad : (files : Files) (state : State) (place : Place) (c : ScriptCause)
    → taken_says files (taken.Refused place c) state ≡ refused place c
unfolding taken_says
says_bad files state place c = refl

pub says_cut : (files : Files) (state : State) (place : Place) (pairs : List Pair) (meaning : Meaning)
    → meaning ≡ meaning_of state.standing.target pairs
    → remaining_by files place meaning state ≡ taken_says files (taken.Cut place pairs) state
unfolding taken_says
says_cut files state place pairs meaning e = ap (λ m. remaining_by files place m state) e

pub lined : (files : Files) (old mid : State) (t : Taken) → old.waiting ≡ None → t ≡ taken_of old.files
    → mid ≡ after_line old → taken_says files t mid ≡ remaining files old
lined files old mid t w e m = ap (λ u. taken_says files u mid) e ∙ ap (taken_says files (taken_of old.files)) m ∙ sym (taken_is files old w)

pub lined_spends : (old mid : State) (t : Taken) (new : State) (r : Result Turn SessionFault) → 0 < length old.files
    → t ≡ taken_of old.files → mid ≡ after_line old
    → Spends (room mid + pays t) (left mid + 2 * pays t + closes t) new r → Spends (room old) (left old) new r
lined_spends old mid t new r some e m s =
    let spent = line_spends old some in
    spends_more (room mid + pays t) (left mid + 2 * pays t + closes t) (room old) (left old) new r (rw (m, e) spent.0) (rw (m, e) spent.1) s

pub says_absent : (files : Files) (state : State) (place : Place) (name : List ℕ)
    → remaining_with files None place name state ≡ refused place cause.AbsentFile
unfolding remaining_with
says_absent files state place name = refl

pub says_long : (files : Files) (state : State) (place : Place) (name bs : List ℕ)
    → 1_048_576 < state.standing.read + length bs
    → remaining_with files (Some bs) place name state ≡ refused place cause.TooLong
unfolding remaining_with
says_long files state place name bs h = ap (λ b. if b then refused place cause.TooLong else remaining files (entered state name bs)) (lt-ltb _ _ h)

pub says_entered : (files : Files) (state : State) (place : Place) (name bs : List ℕ)
    → state.standing.read + length bs ≤ 1_048_576
    → remaining_with files (Some bs) place name state ≡ remaining files (entered state name bs)
unfolding remaining_with
says_entered files state place name bs h = ap (λ b. if b then refused place cause.TooLong else remaining files (entered state name bs)) (le-ltb _ _ h)

abbrev pub placed : State → List Reading → ℕ → State
placed state files read = record {
  waiting = state.waiting;
  folder = state.folder;
  files = files;
  standing = record { target = state.standing.target; read = read };
  ended = state.ended;
}

abbrev pub with_ended : State → Bool → State
with_ended state b = record { waiting = state.waiting; folder = state.folder; files = state.files; standing = state.standing; ended = b }

remaining_ended : (files : Files) (state : State) (b : Bool)
    → remaining files (with_ended state b) ≡ remaining files state
unfolding remaining
remaining_ended files state b = cases state.waiting
  where
    cases : (w : Option (List ℕ)) → waiting_says files w (with_ended state b) ≡ waiting_says files w state
    cases None = refl
    cases (Some master) = refl

-- whether a session has ended says nothing of the script that is left
pub tells_ended : (files : Files) (said : Script) (state new : State) (b : Bool) (r : Result (Option Command) SessionFault)
    → new ≡ with_ended state b → Tells files said state r → Tells files said new r
tells_ended files said state new b (Ok (Some command)) e h = h ∙ ap (gives command) (sym (ap (remaining files) e ∙ remaining_ended files state b))
tells_ended files said state new b (Ok None) e h = (h.0, ap (remaining files) e ∙ remaining_ended files state b ∙ h.1)
tells_ended files said state new b (Err (fault.Script place c)) e h = h
tells_ended files said state new b (Err (fault.Read name)) e h = tt
tells_ended files said state new b (Err fault.Ended) e h = tt
tells_ended files said state new b (Err fault.NoMemory) e h = tt

-- at the start all of the script is left
pub start_says : (files : Files) (master : List ℕ) (state : State) → state ≡ start master
    → remaining files state ≡ script_of files master
unfolding remaining
start_says files master state e = ap (remaining files) e
