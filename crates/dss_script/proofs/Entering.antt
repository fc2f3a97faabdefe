-- What a library's answers come to, and what a call comes to over several steps.
use Rattle.std.proofs.Common.{◌≡◌, ◌∙◌, ℕ, List, [], ◌∷◌, ◌++◌, map, Option, Some, Result, Ok, Err, refl, sym, ap, subst, append_assoc, append-nil}
use Rattle.fd_outside.specs.Files.{Files, held, AnswersHeld}
use Rattle.fd_outside.specs.Answers.{Agrees, AgreesSince, Answer, EndsFailed, IsLater, absent, answered, content, failed, names_asked}
use Rattle.fd_outside.specs.declared.library.Found.{Found}
use Rattle.fd_outside.specs.declared.library.Found.TheVariants as found
use Rattle.fd_outside.specs.declared.library.LibFault.{LibFault}
use Rattle.fd_outside.specs.declared.library.LibFault.TheVariants as broken
use Rattle.fd_outside.proofs.CallerLemmas.{fails_behind, names_behind}
use Rattle.dss_model.specs.Names.{bytes}
use Rattle.dss_model.specs.declared.command.Place.{Place}
use Rattle.dss_model.specs.declared.command.Command.{Command}
use Rattle.dss_script.specs.declared.fault.SessionFault.{SessionFault}
use Rattle.dss_script.specs.declared.fault.SessionFault.TheVariants as fault
use Rattle.dss_script.specs.declared.session.Turn.{Turn}
use Rattle.dss_script.specs.Script.{Script, asks, names_first, after_names}
use Rattle.dss_script.specs.Sessions.{State, remaining_with, Steps, Enters, Tells, Asks, Grows, GrowsUpTo, FailsAt, Reached, EnterAsks, IsNotEnded, IsRead, IsReadOf, ReadsLast, found_bytes}

-- what was found is what files hold that agree with the answer
pub found_is : (files : Files) (before now : List Answer) (name : List ℕ) (what : Found) → AgreesSince files before now
    → now ≡ before ++ answered name (Ok what) → found_bytes what ≡ held files name
found_is files before now name (found.Bytes bytes) agree told = sym (agree.agree ((name, content bytes.items) ∷ []) told).0
found_is files before now name found.Absent agree told = sym (agree.agree ((name, absent) ∷ []) told).0

pub told_by : (files : Files) (before now : List Answer) (what : Found) (place : Place) (name : List ℕ) (old new : State)
    (result : Result Unit SessionFault)
    → AgreesSince files before now → now ≡ before ++ answered (bytes name) (Ok what)
    → Enters files (remaining_with files (found_bytes what) place name old) new result
    → Enters files (remaining_with files (held files (bytes name)) place name old) new result
told_by files before now what place name old new result agree told e =
    let P : Option (List ℕ) → Type 0 = λ there. Enters files (remaining_with files there place name old) new result in
    subst P (found_is files before now (bytes name) what agree told) e

-- ---- a read

held_agrees : (files : Files) (name : List ℕ) (r : Result Found LibFault) → AnswersHeld (Some files) name r
    → Agrees files (answered name r)
held_agrees files name (Ok (found.Bytes b)) h = (h, tt)
held_agrees files name (Ok found.Absent) h = (h, tt)
held_agrees files name (Err broken.Failed) h = (tt, tt)
held_agrees files name (Err broken.NoMemory) h = tt

pub later_read : {L : Type 0} (answers : L → List Answer) (holds : L → Option Files) (old new : L) (name : List ℕ)
    (r : Result Found LibFault) → answers new ≡ answers old ++ answered name r → holds new ≡ holds old
    → AnswersHeld (holds old) name r → IsLater answers holds old new
later_read answers holds old new name r told same h = record {
  since = answered name r;
  told = told;
  same = same;
  held = λ files is. (let P : Option Files → Type 0 = λ o. AnswersHeld o name r in held_agrees files name r (subst P is h));
}

pub not_read : (X : Type 0) (before now : List Answer) (r : Result X SessionFault) → (IsRead r → ⊥) → ReadsLast before now r
not_read X before now (Ok x) no_read = tt
not_read X before now (Err (fault.Script place c)) no_read = tt
not_read X before now (Err (fault.Read name)) no_read = absurd (no_read tt)
not_read X before now (Err fault.Ended) no_read = tt
not_read X before now (Err fault.NoMemory) no_read = tt

pub read_last : (before now : List Answer) (name : List ℕ) → now ≡ before ++ (name, failed) ∷ [] → EndsFailed before now name
read_last before now name told = record { earlier = []; told = told }

-- a read that failed is still the last one
pub last_both : (X Y : Type 0) (old mid new some : List Answer) (e : SessionFault) → mid ≡ old ++ some
    → ReadsLast {X = X} mid new (Err e) → ReadsLast {X = Y} old new (Err e)
last_both X Y old mid new some (fault.Read name) told h = fails_behind old mid new some (bytes name) told h
last_both X Y old mid new some (fault.Script at c) told h = tt
last_both X Y old mid new some fault.NoMemory told h = tt
last_both X Y old mid new some fault.Ended told h = tt

-- ---- the names that were asked

pub grows_none : (old : List (List ℕ)) → Grows old old []
grows_none old = sym (append-nil old)

pub asked_found : (before now : List Answer) (name : List ℕ) (what : Found)
    → now ≡ before ++ answered (bytes name) (Ok what) → Grows (names_asked before) (names_asked now) (name ∷ [])
asked_found before now name (found.Bytes b) told = names_behind before now ((bytes name, content b.items) ∷ []) told
asked_found before now name found.Absent told = names_behind before now ((bytes name, absent) ∷ []) told

pub asked_failed : (before now : List Answer) (name : List ℕ) → now ≡ before ++ (bytes name, failed) ∷ []
    → Grows (names_asked before) (names_asked now) (name ∷ [])
asked_failed before now name told = names_behind before now ((bytes name, failed) ∷ []) told

map_append : (xs ys : List (List ℕ)) → map bytes (xs ++ ys) ≡ map bytes xs ++ map bytes ys
map_append [] ys = refl
map_append (x ∷ xs) ys = ap (λ zs. bytes x ∷ zs) (map_append xs ys)

pub grows_more : (old mid new : List (List ℕ)) (a b : List (List ℕ)) → Grows old mid a → Grows mid new b
    → Grows old new (a ++ b)
grows_more old mid new a b h k =
    k ∙ ap (λ ns. ns ++ map bytes b) h ∙ append_assoc old (map bytes a) (map bytes b)
    ∙ ap (λ zs. old ++ zs) (sym (map_append a b))

pub enter_asked : (old new : List (List ℕ)) (name : List ℕ) (r : Result Unit SessionFault)
    → Grows old new (name ∷ []) → EnterAsks old new name r
enter_asked old new name (Err fault.NoMemory) h = record { front = name ∷ []; rest = []; parts = refl; grown = h }
enter_asked old new name (Err fault.Ended) h = h
enter_asked old new name (Err (fault.Read n)) h = h
enter_asked old new name (Err (fault.Script p c)) h = h
enter_asked old new name (Ok done) h = h

-- ---- within a call

pub reached_same : (from now next : Script) (old new : List (List ℕ)) → Reached from now old new → now ≡ next
    → Reached from next old new
reached_same from now next old new r e = let P : Script → Type 0 = λ s. Reached from s old new in subst P e r

pub reached_read : (from now next : Script) (old mid new : List (List ℕ)) (name : List ℕ)
    → Reached from now old mid → now ≡ asks name next → Grows mid new (name ∷ []) → Reached from next old new
reached_read from now next old mid new name r e g = record {
  names = r.names ++ name ∷ [];
  first = r.first ∙ ap (λ s. r.names ++ names_first s) e ∙ sym (append_assoc r.names (name ∷ []) (names_first next));
  said = r.said ∙ ap after_names e;
  grown = grows_more old mid new r.names (name ∷ []) r.grown g;
}

pub reached_all : (from now said : Script) (old new : List (List ℕ)) → Reached from now old new → now ≡ said
    → names_first said ≡ [] → Grows old new (names_first from)
reached_all from now said old new r e n =
    let P : List (List ℕ) → Type 0 = λ names. Grows old new names in
    subst P (sym (r.first ∙ ap (λ s. r.names ++ names_first s) e ∙ ap (λ ns. r.names ++ ns) n ∙ append-nil r.names)) r.grown

pub reached_said : (from now said : Script) (old new : List (List ℕ)) → Reached from now old new → now ≡ said
    → after_names from ≡ after_names said
reached_said from now said old new r e = r.said ∙ ap after_names e

pub reached_upto : (from now : Script) (old new : List (List ℕ)) → Reached from now old new
    → GrowsUpTo old new (names_first from)
reached_upto from now old new r = record { front = r.names; rest = names_first now; parts = r.first; grown = r.grown }

pub reached_upto_read : (from now next : Script) (old mid new : List (List ℕ)) (name : List ℕ)
    → Reached from now old mid → now ≡ asks name next → GrowsUpTo mid new (name ∷ [])
    → GrowsUpTo old new (names_first from)
reached_upto_read from now next old mid new name r e g = record {
  front = r.names ++ g.front;
  rest = g.rest ++ names_first next;
  parts = r.first ∙ ap (λ s. r.names ++ names_first s) e ∙ ap (λ ns. r.names ++ (ns ++ names_first next)) g.parts
      ∙ ap (λ ns. r.names ++ ns) (append_assoc g.front g.rest (names_first next)) ∙ sym (append_assoc r.names g.front (g.rest ++ names_first next));
  grown = grows_more old mid new r.names g.front r.grown g.grown;
}

-- the read of a name that fails is that of the next name
pub reached_failing : (from now next : Script) (old mid new : List (List ℕ)) (name unread : List ℕ)
    → Reached from now old mid → now ≡ asks name next → Grows mid new (name ∷ []) → unread ≡ name
    → FailsAt old new (names_first from) unread
reached_failing from now next old mid new name unread r e g is =
    let P : List ℕ → Type 0 = λ m. FailsAt old new (names_first from) m in
    subst P (sym is) (record {
      front = r.names;
      rest = names_first next;
      parts = r.first ∙ ap (λ s. r.names ++ names_first s) e;
      grown = grows_more old mid new r.names (name ∷ []) r.grown g;
    })

-- what a step comes to is what the call gives
pub fails_here : (files : Files) (from now : Script) (s new : State) (old asked : List (List ℕ)) (e : SessionFault)
    → Reached from now old asked → Steps files now s (Err e) → Tells files (after_names from) new (Err e)
fails_here files from now s new old asked (fault.Script place c) r h = reached_said from now _ old asked r h
fails_here files from now s new old asked (fault.Read name) r h = tt
fails_here files from now s new old asked fault.Ended r h = tt
fails_here files from now s new old asked fault.NoMemory r h = tt

pub asks_here : (files : Files) (from now : Script) (s : State) (old asked : List (List ℕ)) (e : SessionFault)
    → Reached from now old asked → Steps files now s (Err e) → IsNotEnded {X = Turn} (Err e)
    → (IsRead {X = Turn} (Err e) → ⊥) → Asks {X = Option Command} old asked (names_first from) (Err e)
asks_here files from now s old asked (fault.Script place c) r h n no_read = reached_all from now _ old asked r h refl
asks_here files from now s old asked (fault.Read name) r h n no_read = absurd (no_read tt)
asks_here files from now s old asked fault.Ended r h n no_read = absurd n
asks_here files from now s old asked fault.NoMemory r h n no_read = reached_upto from now old asked r

-- so is a file that can't be entered
pub fails_entering : (files : Files) (from now said : Script) (s new : State) (old asked : List (List ℕ)) (name : List ℕ) (e : SessionFault)
    → Reached from now old asked → now ≡ asks name said
    → Enters files said s (Err e) → Tells files (after_names from) new (Err e)
fails_entering files from now said s new old asked name (fault.Script place c) r e h = reached_said from now _ old asked r e ∙ ap after_names h
fails_entering files from now said s new old asked name (fault.Read n) r e h = tt
fails_entering files from now said s new old asked name fault.Ended r e h = tt
fails_entering files from now said s new old asked name fault.NoMemory r e h = tt

pub asks_entering : (files : Files) (from now said : Script) (s : State) (old mid new : List (List ℕ)) (name : List ℕ) (e : SessionFault)
    → Reached from now old mid → now ≡ asks name said
    → Enters files said s (Err e) → EnterAsks mid new name (Err e) → IsNotEnded {X = Unit} (Err e)
    → IsReadOf {X = Unit} name (Err e) → Asks {X = Option Command} old new (names_first from) (Err e)
asks_entering files from now said s old mid new name (fault.Script place c) r e h g n is =
    let further = reached_read from now said old mid new name r e g in reached_all from said _ old new further h refl
asks_entering files from now said s old mid new name (fault.Read m) r e h g n is = reached_failing from now said old mid new name m r e g is
asks_entering files from now said s old mid new name fault.Ended r e h g n is = absurd n
asks_entering files from now said s old mid new name fault.NoMemory r e h g n is = reached_upto_read from now said old mid new name r e g

pub not_ended : (X Y : Type 0) (e : SessionFault) → IsNotEnded {X = X} (Err e) → IsNotEnded {X = Y} (Err e)
not_ended X Y (fault.Script p c) h = tt
not_ended X Y (fault.Read n) h = tt
not_ended X Y fault.Ended h = absurd h
not_ended X Y fault.NoMemory h = tt
