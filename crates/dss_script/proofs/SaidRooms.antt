-- What a script says takes no more room than its bytes.
use Rattle.std.proofs.Common.{◌≡◌, ◌∙◌, ℕ, zero, suc, ◌+◌, ◌-◌, ◌≤◌, Bool, true, false, if◌then◌else◌, List, [], ◌∷◌, ◌++◌, length, map, nat_lt, Option, Some, None, Result, Ok, Err, refl, sym, ap, arith}
use Rattle.std.specs.Str.Lines.{lines}
use Rattle.std.proofs.lemmas.Bool.{ltb-false}
use Rattle.dss_model.specs.dss_lexer.Answers.{◌>>=◌}
use Rattle.dss_model.specs.dss_lexer.declared.fault.LineFault.{LineFault}
use Rattle.dss_model.specs.dss_lexer.declared.pair.Pair.{Pair}
use Rattle.dss_model.specs.Names.{bytes}
use Rattle.dss_model.specs.declared.command.Command.{Command}
use Rattle.dss_model.specs.declared.command.Place.{Place}
use Rattle.dss_model.specs.declared.command.Verb.{Verb}
use Rattle.dss_model.specs.declared.command.Verb.TheVariants as verb
use Rattle.fd_outside.specs.Files.{Files, held}
use Rattle.dss_script.specs.Cutting.{pairs_of}
use Rattle.dss_script.specs.Meaning.{meaning_of}
use Rattle.dss_script.specs.Paths.{folder_of}
use Rattle.dss_script.specs.Said.{File, Part, Said, by_command, by_file, by_filled, by_found, by_left, by_line, by_lines, by_meaning, command, followed, name, says, silent, stops}
use Rattle.dss_script.specs.SaidRoom.{SaidRoomLaw, room_of}
use Rattle.dss_script.specs.Script.{Standing}
use Rattle.dss_script.specs.Sessions.{cost, lines_room, price}
use Rattle.dss_script.specs.Shapes.{class_filled, verb_filled}
use Rattle.dss_script.specs.declared.fault.ScriptCause.{ScriptCause}
use Rattle.dss_script.specs.declared.fault.ScriptCause.TheVariants as cause
use Rattle.dss_script.specs.declared.meaning.Meaning.{Meaning}
use Rattle.dss_script.specs.declared.meaning.Meaning.TheVariants as the
use Rattle.dss_script.proofs.Prices.{price_paid}
use Rattle.dss_script.proofs.Rooms.{pairs_room}
use Rattle.dss_script.proofs.Steps.{file_room}

-- ---- lists

room_both : (a b : List Said) → room_of (a ++ b) ≡ room_of a + room_of b
room_both [] b = omega arith
room_both (name n ∷ a) b = room_both a b
room_both (command c ∷ a) b = omega (arith, room_both a b)

no_room : (ns : List (List ℕ)) → room_of (map name ns) ≡ 0
no_room [] = refl
no_room (n ∷ ns) = no_room ns

-- ---- a part takes the room of the lines that it is of, and of the files that it reads

record Fits (lines : ℕ) (s : Standing) (p : Part) : Type 0 where
  most : room_of p.said ≤ lines + (1_048_576 - s.read)
  left : (t : Standing) → p.left ≡ Ok t → (room_of p.said + s.read ≤ lines + t.read) × (t.read ≤ 1_048_576)

wider : (a b : ℕ) (s : Standing) (p : Part) → a ≤ b → Fits a s p → Fits b s p
wider a b s p more h = record {
  most = omega (arith, more, h.most);
  left = λ t is. let own = h.left t is in (omega (arith, more, own.0), own.1);
}

silent_fits : (a : ℕ) (s : Standing) → s.read ≤ 1_048_576 → Fits a s (silent s)
silent_fits a s low = record {
  most = omega arith;
  left = λ t is. let same : s ≡ t = cc is in let read : s.read ≡ t.read = ap (λ (u : Standing). u.read) same in
      (omega (arith, read), omega (arith, read, low));
}

stops_fits : (a : ℕ) (s : Standing) (place : Place) (c : ScriptCause) → Fits a s (stops place c)
stops_fits a s place c = record { most = omega arith; left = λ t is. absurd (let no : ⊥ = cc is in no) }

says_fits : (a b : ℕ) (said : List Said) (s : Standing) (p : Part) → room_of said ≤ a → Fits b s p → Fits (a + b) s (says said p)
says_fits a b said s p low h =
    let both = room_both said p.said in
    record {
      most = omega (arith, both, low, h.most);
      left = λ t is. let own = h.left t is in (omega (arith, both, low, own.0), own.1);
    }

-- a part, and the part behind it
followed_fits : (a b : ℕ) (s : Standing) (p : Part) (next : Standing → Part) → s.read ≤ 1_048_576 → Fits a s p
    → ((t : Standing) → t.read ≤ 1_048_576 → Fits b t (next t)) → Fits (a + b) s (followed p next)
followed_fits a b s p next low h more = by p.left refl
  where
    by : (left : Result Standing (Place × ScriptCause)) → p.left ≡ left → Fits (a + b) s (by_left p.said left next)
    by (Ok t) is =
        let own = h.left t is in
        let rest = more t own.1 in
        let both = room_both p.said (next t).said in
        record {
          most = omega (arith, both, own.0, own.1, rest.most, low);
          left = λ u be. let behind = rest.left u be in (omega (arith, both, own.0, behind.0), behind.1);
        }
    by (Err refusal) is = record { most = omega (arith, h.most); left = λ t be. absurd (let no : ⊥ = cc be in no) }

-- ---- a command

-- with the numbers of its files a command costs the same
made_cost : (make : List Pair → Verb) (n : ℕ) → ((ps : List Pair) → cost (make ps) ≡ n)
    → (r : Result (List Pair) ScriptCause) (v : Verb) → (r >>= λ ps. Ok (make ps)) ≡ Ok v → cost v ≡ n
made_cost make n same (Ok ps) v h = let is : make ps ≡ v = cc h in sym (ap cost is) ∙ same ps
made_cost make n same (Err c) v h = absurd (let no : ⊥ = cc h in no)

filled_cost : (files : Files) (folder : List ℕ) (v new : Verb) → (verb_filled files folder v).filled ≡ Ok new
    → cost new ≡ cost v
filled_cost files folder (verb.New class word pairs) new h =
    made_cost (λ ps. verb.New class word ps) _ (λ ps. refl) (class_filled files folder class pairs).filled new h
filled_cost files folder (verb.Edit class word pairs) new h =
    made_cost (λ ps. verb.Edit class word ps) _ (λ ps. refl) (class_filled files folder class pairs).filled new h
filled_cost files folder (verb.Set pairs) new h = let is : verb.Set pairs ≡ new = cc h in sym (ap cost is)
filled_cost files folder (verb.Solve pairs) new h = let is : verb.Solve pairs ≡ new = cc h in sym (ap cost is)
filled_cost files folder verb.Clear new h = let is : verb.Clear ≡ new = cc h in sym (ap cost is)
filled_cost files folder verb.Bases new h = let is : verb.Bases ≡ new = cc h in sym (ap cost is)

module _ (files : Files) where
  command_fits : (folder : List ℕ) (c : Command) (s : Standing) (a : ℕ) → s.read ≤ 1_048_576 → cost c.verb ≤ a
      → Fits a s (by_command files folder c s)
  command_fits folder c s a low most =
      let f = verb_filled files folder c.verb in
      wider (0 + a) a s _ (omega arith)
      (says_fits 0 a (map name f.names) s (by_filled c.place f.filled s) (omega (arith, no_room f.names)) (by f.filled refl))
    where
      by : (r : Result Verb ScriptCause) → (verb_filled files folder c.verb).filled ≡ r → Fits a s (by_filled c.place r s)
      by (Ok v) is =
          let one = says_fits a 0 (command (record { place = c.place; verb = v }) ∷ []) s (silent s)
          (omega (arith, filled_cost files folder c.verb v is, most)) (silent_fits 0 s low) in
          wider (a + 0) a s _ (omega arith) one
      by (Err x) is = stops_fits a s c.place x

  -- ---- lines

  -- a file takes the room of its bytes, and of a line feed behind the last
  abbrev AreFit : File → Type 0
  AreFit file = (place : Place) (at : List ℕ) (s : Standing) → s.read ≤ 1_048_576 → Fits 1 s (file place at s)

  module _ (file : File) (fit : AreFit file) (folder : List ℕ) where
    meaning_fits : (place : Place) (m : Meaning) (s : Standing) (a : ℕ) → s.read ≤ 1_048_576 → 1 ≤ a → price m ≤ a
        → Fits a s (by_meaning files file folder place m s)
    meaning_fits place the.Nothing s a low some most = silent_fits a s low
    meaning_fits place (the.Refused c) s a low some most = stops_fits a s place c
    meaning_fits place (the.Reads named) s a low some most = wider 1 a s _ some (fit place _ s low)
    meaning_fits place (the.Does v change) s a low some most =
        let made = command_fits folder (record { place = place; verb = v }) (record { target = _; read = s.read }) a low most in
        record { most = made.most; left = made.left }

    line_fits : (place : Place) (line : List ℕ) (s : Standing) → s.read ≤ 1_048_576
        → Fits (length line + 1) s (by_line files file folder place (pairs_of line) s)
    line_fits place line s low = by (pairs_of line) refl
      where
        by : (r : Result (List Pair) LineFault) → pairs_of line ≡ r
            → Fits (length line + 1) s (by_line files file folder place r s)
        by (Err e) is = stops_fits (length line + 1) s place _
        by (Ok pairs) is =
            meaning_fits place (meaning_of s.target pairs) s (length line + 1) low (omega arith)
            (omega (arith, price_paid s.target pairs, pairs_room line pairs is))

    lines_fit : (at : List ℕ) (n : ℕ) (ls : List (List ℕ)) (s : Standing) → s.read ≤ 1_048_576
        → Fits (lines_room ls) s (by_lines files file folder at n ls s)
    lines_fit at n [] s low = silent_fits 0 s low
    lines_fit at n (line ∷ rest) s low =
        followed_fits (length line + 1) (lines_room rest) s _ _ low (line_fits (record { file = at; line = n + 1 }) line s low)
        (λ t k. lines_fit at (n + 1) rest t k)

    found_fits : (found : Option (List ℕ)) (place : Place) (at : List ℕ) (s : Standing) → s.read ≤ 1_048_576
        → Fits 1 s (by_found files file folder found place at s)
    found_fits None place at s low = stops_fits 1 s place _
    found_fits (Some bs) place at s low = by (nat_lt 1_048_576 (s.read + length bs)) refl
      where
        inner : Standing
        inner = record { target = s.target; read = s.read + length bs }

        by : (b : Bool) → nat_lt 1_048_576 (s.read + length bs) ≡ b
            → Fits 1 s (if b then stops place cause.TooLong else by_lines files file folder at 0 (lines bs) inner)
        by true is = stops_fits 1 s place _
        by false is =
            let within : s.read + length bs ≤ 1_048_576 = ltb-false 1_048_576 (s.read + length bs) is in
            let h = lines_fit at 0 (lines bs) inner within in
            let bytes_room = file_room bs in
            record {
              most = omega (arith, h.most, bytes_room, within);
              left = λ t be. let own = h.left t be in (omega (arith, own.0, bytes_room), own.1);
            }

  -- ---- files

  file_fits : (folder : List ℕ) (depth : ℕ) → AreFit (λ p n s. by_file files folder depth p n s)
  file_fits folder zero place at s low = stops_fits 1 s place _
  file_fits folder (suc depth) place at s low =
      says_fits 0 1 (name at ∷ []) s _ (omega arith)
      (found_fits (λ p n s. by_file files folder depth p n s) (file_fits folder depth) folder (held files (bytes at)) place at s low)

pub said_fits : SaidRoomLaw
said_fits files master =
    let h = file_fits files (folder_of master) 9 (record { file = master; line = 0 }) master (record { target = None; read = 0 }) (omega arith) in
    omega (arith, h.most)
