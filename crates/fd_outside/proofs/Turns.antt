-- Reads and writes of the system, one after another.
use Rattle.std.proofs.Common.{◌≡◌, ◌⊎◌, ◌+◌, ◌-◌, ◌<◌, ◌≤◌, ◌∙◌, ℕ, List, [], ◌∷◌, ◌++◌, length, take, drop, true, false, refl, sym, ap, arith, subst, inl, inr, length-append, Result, Ok, Err}
use Rattle.std.proofs.lemmas.List.{append_assoc, append-nil, take-append-drop, length-drop}
use Rattle.std.proofs.Math.Seq.{take-length}
use Rattle.fd_outside.specs.System.{Event, moved, troubled, no_room}
use Rattle.std.specs.List.{flat_map}
use Rattle.std.proofs.lemmas.Grind.{flat_map-append}
use Rattle.fd_outside.specs.Answers.{Answer, answered}
use Rattle.fd_outside.specs.declared.library.Found.{Found}
use Rattle.fd_outside.specs.Reading.{AreReads, Grows, IsReadOf, SystemRead, IsTurn, AreTurns, bytes_in, bytes_moved, EndsWith, IsWhole, IsFaultOf, IsUnread, max_bytes, most_tries}
use Rattle.fd_outside.specs.Writing.{IsFailed, IsTaken, IsWriting}
use Rattle.fd_outside.specs.Pieces.{IsCut, WritesPiece}
use Rattle.fd_outside.specs.Troubles.{is_fatal}
use Rattle.fd_outside.specs.declared.system.Trouble.{Trouble}
use Rattle.fd_outside.specs.declared.system.Trouble.TheVariants as trouble
use Rattle.fd_outside.specs.declared.library.LibFault.{LibFault}
use Rattle.fd_outside.specs.declared.library.LibFault.TheVariants as fault
use Rattle.fd_outside.specs.declared.sink.SinkFault.{SinkFault}
use Rattle.fd_outside.specs.declared.sink.SinkFault.TheVariants as broke

pub turns_more : (es : List Event) (e : Event) → AreTurns es → IsTurn e → AreTurns (es ++ e ∷ [])
turns_more [] e are is = (is, tt)
turns_more (x ∷ es) e are is = (are.0, turns_more es e are.1 is)

pub moved_more : (es : List Event) (e : Event) → bytes_moved (es ++ e ∷ []) ≡ bytes_moved es ++ bytes_in e
moved_more [] e = append-nil (bytes_in e)
moved_more (x ∷ es) e = ap (λ l. bytes_in x ++ l) (moved_more es e) ∙ sym (append_assoc (bytes_in x) (bytes_moved es) (bytes_in e))

pub moved-append : (es fs : List Event) → bytes_moved (es ++ fs) ≡ bytes_moved es ++ bytes_moved fs
moved-append [] fs = refl
moved-append (x ∷ es) fs = ap (λ l. bytes_in x ++ l) (moved-append es fs) ∙ sym (append_assoc (bytes_in x) (bytes_moved es) (bytes_moved fs))

-- trouble other than being interrupted is no turn
pub fatal : (t : Trouble) → is_fatal t ≡ true → IsTurn (troubled t) → ⊥
fatal trouble.Interrupted sure is = absurd (cc)
fatal trouble.Missing sure is = is
fatal trouble.NoMemory sure is = is
fatal trouble.Other sure is = is

pub passing : (t : Trouble) → is_fatal t ≡ false → IsTurn (troubled t)
passing trouble.Interrupted not = tt
passing trouble.Missing not = absurd (cc)
passing trouble.NoMemory not = absurd (cc)
passing trouble.Other not = absurd (cc)

-- so many turns, which moved these bytes
pub record SoFar (before now : List Event) (bytes : List ℕ) (n : ℕ) : Type 0 where
  pub made : List Event
  pub are : now ≡ before ++ made
  pub going : AreTurns made
  pub bytes_are : bytes ≡ bytes_moved made
  pub count : length made ≡ n

pub none_so_far : (before : List Event) → SoFar before before [] 0
none_so_far before = record { made = []; are = sym (append-nil before); going = tt; bytes_are = refl; count = refl }

pub behind : (before made now after : List Event) (e : Event) → now ≡ before ++ made → after ≡ now ++ e ∷ [] → after ≡ before ++ (made ++ e ∷ [])
behind before made now after e are is = is ∙ ap (λ l. l ++ e ∷ []) are ∙ append_assoc before made (e ∷ [])

pub one_more : (before now after : List Event) (bytes more : List ℕ) (n : ℕ) (e : Event) → SoFar before now bytes n
    → after ≡ now ++ e ∷ [] → IsTurn e → more ≡ bytes ++ bytes_in e → SoFar before after more (n + 1)
one_more before now after bytes more n e s is turn bytes_are = record {
  made = s.made ++ e ∷ [];
  are = behind before s.made now after e s.are is;
  going = turns_more s.made e s.going turn;
  bytes_are = bytes_are ∙ ap (λ l. l ++ bytes_in e) s.bytes_are ∙ sym (moved_more s.made e);
  count = omega (arith, length-append s.made (e ∷ []), s.count);
}

pub then_ends : (before now after : List Event) (bytes : List ℕ) (n : ℕ) (e : Event) → SoFar before now bytes n
    → after ≡ now ++ e ∷ [] → Grows before after (EndsWith e)
then_ends before now after bytes n e s is = record {
  made = s.made ++ e ∷ [];
  are = behind before s.made now after e s.are is;
  is = record { turns = s.made; are = refl; going = s.going };
}

-- ---- reading

-- what is read so far is small enough
pub record ReadSoFar (before now : List Event) (bytes : List ℕ) (n : ℕ) : Type 0 where
  pub so_far : SoFar before now bytes n
  pub small : length bytes ≤ max_bytes

pub read_more : (before now after : List Event) (bytes more : List ℕ) (n : ℕ) (e : Event) → ReadSoFar before now bytes n
    → after ≡ now ++ e ∷ [] → IsTurn e → more ≡ bytes ++ bytes_in e → length more ≤ max_bytes → ReadSoFar before after more (n + 1)
read_more before now after bytes more n e s is turn bytes_are small =
    record { so_far = one_more before now after bytes more n e s.so_far is turn bytes_are; small = small }

-- a read that is tried again
pub read_again : (before now after : List Event) (bytes : List ℕ) (n : ℕ) (t : Trouble) → ReadSoFar before now bytes n
    → after ≡ now ++ troubled t ∷ [] → is_fatal t ≡ false → ReadSoFar before after bytes (n + 1)
read_again before now after bytes n t s is not =
    record { so_far = one_more before now after bytes bytes n (troubled t) s.so_far is (passing t not) (sym (append-nil bytes)); small = s.small }

pub whole : (before now after : List Event) (bytes : List ℕ) (n : ℕ) → ReadSoFar before now bytes n
    → after ≡ now ++ moved [] ∷ [] → Grows before after (λ made. IsWhole made bytes)
whole before now after bytes n s is =
    record {
      made = s.so_far.made ++ moved [] ∷ [];
      are = behind before s.so_far.made now after (moved []) s.so_far.are is;
      is = record { turns = s.so_far.made; are = refl; going = s.so_far.going; bytes_are = s.so_far.bytes_are; small = s.small };
    }

pub broken : (before now after : List Event) (bytes : List ℕ) (n : ℕ) (t : Trouble) (f : LibFault) → SoFar before now bytes n
    → after ≡ now ++ troubled t ∷ [] → (IsTurn (troubled t) → ⊥) → IsFaultOf t f → Grows before after (λ made. IsUnread made f)
broken before now after bytes n t fault.NoMemory s is fatal same =
    let e = then_ends before now after bytes n (troubled t) s is in
    record { made = e.made; are = e.are; is = inl (record { why = t; fatal = fatal; ends = e.is; fault_is = same }) }
broken before now after bytes n t fault.Failed s is fatal same =
    let e = then_ends before now after bytes n (troubled t) s is in
    record { made = e.made; are = e.are; is = inl (record { why = t; fatal = fatal; ends = e.is; fault_is = same }) }

pub no_room_left : (before now after : List Event) (bytes : List ℕ) (n : ℕ) (f : LibFault) → SoFar before now bytes n
    → after ≡ now ++ no_room ∷ [] → IsFaultOf trouble.NoMemory f → Grows before after (λ made. IsUnread made f)
no_room_left before now after bytes n f s is same =
    let e = then_ends before now after bytes n no_room s is in
    let P : LibFault → Type 0 = λ x. Grows before after (λ made. IsUnread made x) in
    subst P (sym same) (record { made = e.made; are = e.are; is = inr e.is })

pub too_long : (before now : List Event) (bytes : List ℕ) (n : ℕ) → SoFar before now bytes n → max_bytes < length bytes
    → Grows before now (λ made. IsUnread made fault.Failed)
too_long before now bytes n s long =
    let P : List ℕ → Type 0 = λ l. max_bytes < length l in
    record { made = s.made; are = s.are; is = inr (inl (s.going, subst P s.bytes_are long)) }

pub worn_out : (before now : List Event) (bytes : List ℕ) (n : ℕ) → SoFar before now bytes n → most_tries ≤ n
    → Grows before now (λ made. IsUnread made fault.Failed)
worn_out before now bytes n s most = record { made = s.made; are = s.are; is = inr (inr (s.going, omega (arith, s.count, most))) }

-- ---- writing

-- all but the rest was taken
pub record WrittenSoFar (before now : List Event) (piece rest : List ℕ) (n : ℕ) : Type 0 where
  pub front : List ℕ
  pub parts : piece ≡ front ++ rest
  pub so_far : SoFar before now front n

-- the front of a piece of which more is left
pub cut : (front piece rest : List ℕ) → piece ≡ front ++ rest → (length rest ≡ 0 → ⊥) → IsCut front piece
cut front piece rest parts some =
    let size : length piece ≡ length front + length rest = ap length parts ∙ length-append front rest in
    record { begins = (rest, parts); shorter = omega (arith, size, some) }

pub all_taken : (before now : List Event) (piece rest : List ℕ) (n : ℕ) → WrittenSoFar before now piece rest n → length rest ≡ 0
    → Grows before now (λ made. IsTaken piece made)
all_taken before now piece [] n s none =
    record { made = s.so_far.made; are = s.so_far.are; is = record { going = s.so_far.going; all = sym s.so_far.bytes_are ∙ sym (append-nil s.front) ∙ sym s.parts } }
all_taken before now piece (x ∷ rest) n s none = absurd (omega (arith, none))

pub write_stops : (before now after : List Event) (piece rest : List ℕ) (n : ℕ) (e : Event) → WrittenSoFar before now piece rest n
    → (length rest ≡ 0 → ⊥) → after ≡ now ++ e ∷ [] → bytes_in e ≡ []
    → ((e ≡ moved []) ⊎ ((t : Trouble) × ((e ≡ troubled t) × (IsTurn (troubled t) → ⊥))))
    → Grows before after (λ made. IsFailed piece made)
write_stops before now after piece rest n e s some is none why =
    let same : s.front ≡ bytes_moved (s.so_far.made ++ e ∷ []) =
    s.so_far.bytes_are ∙ sym (append-nil (bytes_moved s.so_far.made)) ∙ ap (λ l. bytes_moved s.so_far.made ++ l) (sym none) ∙ sym (moved_more s.so_far.made e) in
    let P : List ℕ → Type 0 = λ l. IsCut l piece in
    record {
      made = s.so_far.made ++ e ∷ [];
      are = behind before s.so_far.made now after e s.so_far.are is;
      is = record {
        cut = subst P same (cut s.front piece rest s.parts some);
        cause = inl (record { last = e; ends = record { turns = s.so_far.made; are = refl; going = s.so_far.going }; stops = why });
      };
    }

pub write_worn_out : (before now : List Event) (piece rest : List ℕ) (n : ℕ) → WrittenSoFar before now piece rest n
    → (length rest ≡ 0 → ⊥) → most_tries ≤ n → Grows before now (λ made. IsFailed piece made)
write_worn_out before now piece rest n s some most =
    let P : List ℕ → Type 0 = λ l. IsCut l piece in
    record {
      made = s.so_far.made;
      are = s.so_far.are;
      is = record { cut = subst P s.so_far.bytes_are (cut s.front piece rest s.parts some); cause = inr (s.so_far.going, omega (arith, s.so_far.count, most)) };
    }

pub written_more : (before now after : List Event) (piece rest : List ℕ) (n k : ℕ) → WrittenSoFar before now piece rest n
    → after ≡ now ++ moved (take k rest) ∷ [] → WrittenSoFar before after piece (drop k rest) (n + 1)
written_more before now after piece rest n k s is = record {
  front = s.front ++ take k rest;
  parts = s.parts ∙ ap (λ l. s.front ++ l) (sym (take-append-drop k rest)) ∙ sym (append_assoc s.front (take k rest) (drop k rest));
  so_far = one_more before now after s.front (s.front ++ take k rest) n (moved (take k rest)) s.so_far is tt refl;
}

pub written_again : (before now after : List Event) (piece rest : List ℕ) (n : ℕ) (t : Trouble) → WrittenSoFar before now piece rest n
    → after ≡ now ++ troubled t ∷ [] → is_fatal t ≡ false → WrittenSoFar before after piece rest (n + 1)
written_again before now after piece rest n t s is not = record {
  front = s.front;
  parts = s.parts;
  so_far = one_more before now after s.front s.front n (troubled t) s.so_far is (passing t not) (sym (append-nil s.front));
}

-- what stands behind the first n bytes
pub behind_first : (n : ℕ) (bytes : List ℕ) → take (length bytes - n) (drop n bytes) ≡ drop n bytes
behind_first n bytes = ap (λ k. take k (drop n bytes)) (sym (length-drop n bytes)) ∙ take-length (drop n bytes)

-- what one write adds to all that was taken
pub piece_taken : (before after : List Event) (piece : List ℕ) (r : Result Unit SinkFault) → Grows before after (λ made. IsWriting piece made r)
    → WritesPiece (bytes_moved before) (bytes_moved after) piece r
piece_taken before after piece (Ok x) g = ap bytes_moved g.are ∙ moved-append before g.made ∙ ap (λ l. bytes_moved before ++ l) g.is.all
piece_taken before after piece (Err broke.Failed) g = (bytes_moved g.made, g.is.cut, ap bytes_moved g.are ∙ moved-append before g.made)
piece_taken before after piece (Err broke.NoMemory) g = absurd g.is

-- one read more
pub reads_more : (answers more : List Answer) (before after : List Event) (name : List ℕ) (r : Result Found LibFault) → AreReads answers before
    → more ≡ answers ++ answered name r → Grows before after (λ made. IsReadOf name made r) → AreReads more after
reads_more answers more before after name r k told g =
    let new : SystemRead = record { name = name; result = r; made = g.made; is = g.is } in
    record {
      reads = k.reads ++ new ∷ [];
      answers_are = told ∙ ap (λ l. l ++ answered name r) k.answers_are
          ∙ ap (λ l. flat_map (λ (x : SystemRead). answered x.name x.result) k.reads ++ l) (sym (append-nil (answered name r)))
          ∙ sym (flat_map-append (λ (x : SystemRead). answered x.name x.result) k.reads (new ∷ []));
      events_are = g.are ∙ ap (λ l. l ++ g.made) k.events_are
          ∙ ap (λ l. flat_map (λ (x : SystemRead). x.made) k.reads ++ l) (sym (append-nil g.made))
          ∙ sym (flat_map-append (λ (x : SystemRead). x.made) k.reads (new ∷ []));
    }
