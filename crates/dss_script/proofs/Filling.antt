-- Files of load shapes, one after another.
use Rattle.std.proofs.Common.{◌≡◌, ◌∙◌, ℕ, List, [], ◌∷◌, ◌++◌, Option, Some, Result, Ok, Err, refl, sym, ap, subst, append_assoc, append-nil}
use Rattle.dss_model.specs.dss_lexer.declared.pair.Pair.{Pair}
use Rattle.dss_model.specs.dss_lexer.Answers.{◌>>=◌}
use Rattle.dss_model.specs.Names.{bytes}
use Rattle.dss_script.specs.ShapeFiles.{file_named}
use Rattle.dss_model.specs.declared.command.Place.{Place}
use Rattle.fd_outside.specs.Answers.{AgreesSince, Answer, answered, names_asked}
use Rattle.fd_outside.specs.Files.{Files, held}
use Rattle.fd_outside.specs.declared.library.Found.{Found}
use Rattle.dss_script.specs.declared.fault.ScriptCause.{ScriptCause}
use Rattle.dss_script.specs.declared.fault.SessionFault.{SessionFault}
use Rattle.dss_script.specs.declared.fault.SessionFault.TheVariants as fault
use Rattle.dss_script.specs.Fills.{Fills, IsFilled}
use Rattle.dss_script.specs.Paths.{joined}
use Rattle.dss_script.specs.Sessions.{FailsAt, Grows, GrowsUpTo, found_bytes}
use Rattle.dss_script.specs.Shapes.{Filling, filled_before, pair_by_name, pair_filled, pairs_filled, with_file}
use Rattle.dss_script.proofs.Entering.{asked_found, found_is, grows_more, grows_none}

-- ---- a file that was asked

fills_found : {X : Type 0} (place : Place) (said : Filling X) (old new : List (List ℕ)) (r : Result X SessionFault)
    → Grows old new said.names → IsFilled place said.filled r
    → Fills place said old new r
fills_found place said old new (Ok x) g h = (h, g)
fills_found place said old new (Err (fault.Script at c)) g h = (h.0, h.1, g)
fills_found place said old new (Err (fault.Read name)) g h = absurd h
fills_found place said old new (Err fault.NoMemory) g h = record { front = said.names; rest = []; parts = sym (append-nil said.names); grown = g }
fills_found place said old new (Err fault.Ended) g h = absurd h

named_so : (files : Files) (folder : List ℕ) (pair : Pair) (written name : List ℕ) → file_named pair ≡ Some written
    → name ≡ joined folder written
    → pair_filled files folder pair ≡ record { names = name ∷ []; filled = with_file pair (held files (bytes name)) }
named_so files folder pair written name e n =
    ap (pair_by_name files folder pair) e
    ∙ ap (λ (m : List ℕ). record { names = m ∷ []; filled = with_file pair (held files (bytes m)) }) (sym n)

pub pair_found : (files : Files) (before now : List Answer) (what : Found) (folder : List ℕ) (place : Place) (pair : Pair)
    (written name : List ℕ) (r : Result Pair SessionFault)
    → AgreesSince files before now → now ≡ before ++ answered (bytes name) (Ok what) → file_named pair ≡ Some written
    → name ≡ joined folder written → IsFilled place (with_file pair (found_bytes what)) r
    → Fills place (pair_filled files folder pair) (names_asked before) (names_asked now) r
pair_found files before now what folder place pair written name r agree told e n h =
    let P : Option (List ℕ) → Type 0 = λ o. IsFilled place (with_file pair o) r in
    let F : Filling Pair → Type 0 = λ f. Fills place f (names_asked before) (names_asked now) r in
    subst F (sym (named_so files folder pair written name e n))
    (fills_found place (record { names = name ∷ []; filled = with_file pair (held files (bytes name)) }) _ _ r
    (asked_found before now name what told) (subst P (found_is files before now (bytes name) what agree told) h))

pub pair_failed : (files : Files) (folder : List ℕ) (place : Place) (pair : Pair) (written name : List ℕ) (old new : List (List ℕ))
    → file_named pair ≡ Some written → name ≡ joined folder written → Grows old new (name ∷ [])
    → FailsAt old new (pair_filled files folder pair).names name
pair_failed files folder place pair written name old new e n g =
    let F : Filling Pair → Type 0 = λ f. FailsAt old new f.names name in
    subst F (sym (named_so files folder pair written name e n)) (record { front = []; rest = []; parts = refl; grown = g })

-- ---- pairs one after another

-- pairs that are done, and the names that they asked for, before what is said of the others
abbrev pub behind : List (List ℕ) → List Pair → Filling (List Pair) → Filling (List Pair)
behind names done rest = record { names = names ++ rest.names; filled = rest.filled >>= λ pairs. Ok (done ++ pairs) }

-- so many pairs are done
pub record Done (files : Files) (folder : List ℕ) (all done left : List Pair)
    (old new : List (List ℕ)) : Type 0 where
  pub names : List (List ℕ)
  pub said : pairs_filled files folder all ≡ behind names done (pairs_filled files folder left)
  pub grown : Grows old new names

same_filling : {X : Type 0} (f : Filling X) → (names : List (List ℕ)) (filled : Result X ScriptCause) → f.names ≡ names
    → f.filled ≡ filled → f ≡ record { names = names; filled = filled }
same_filling f names filled e h = ap (λ (n : List (List ℕ)). record { names = n; filled = f.filled }) e ∙ ap (λ r. record { names = names; filled = r }) h

bind_same : (r : Result (List Pair) ScriptCause) → r ≡ (r >>= λ pairs. Ok ([] ++ pairs))
bind_same (Ok pairs) = refl
bind_same (Err c) = refl

pub none_done : (files : Files) (folder : List ℕ) (all : List Pair) (old : List (List ℕ))
    → Done files folder all [] all old old
none_done files folder all old = record {
  names = [];
  said = ap (λ r. record { names = (pairs_filled files folder all).names; filled = r }) (bind_same (pairs_filled files folder all).filled);
  grown = grows_none old;
}

bind_one : (done : List Pair) (pair : Pair) (r : Result (List Pair) ScriptCause)
    → ((r >>= λ pairs. Ok (pair ∷ pairs)) >>= λ pairs. Ok (done ++ pairs)) ≡ (r >>= λ pairs. Ok ((done ++ (pair ∷ [])) ++ pairs))
bind_one done pair (Ok pairs) = ap Ok (sym (append_assoc done (pair ∷ []) pairs))
bind_one done pair (Err c) = refl

behind_one : (names more : List (List ℕ)) (done : List Pair) (pair : Pair) (rest : Filling (List Pair))
    → behind names done (filled_before more (Ok pair) rest) ≡ behind (names ++ more) (done ++ (pair ∷ [])) rest
behind_one names more done pair rest =
    ap (λ (n : List (List ℕ)).
    record { names = n; filled = (rest.filled >>= λ pairs. Ok (pair ∷ pairs)) >>= λ pairs. Ok (done ++ pairs) })
    (sym (append_assoc names more rest.names))
    ∙ ap (λ r. record { names = (names ++ more) ++ rest.names; filled = r }) (bind_one done pair rest.filled)

pub one_done : (files : Files) (folder : List ℕ) (place : Place) (all done left : List Pair) (pair filled : Pair) (old mid new : List (List ℕ))
    → Done files folder all done (pair ∷ left) old mid → Fills place (pair_filled files folder pair) mid new (Ok filled)
    → Done files folder all (done ++ (filled ∷ [])) left old new
one_done files folder place all done left pair filled old mid new d f =
    let first = pair_filled files folder pair in
    record {
      names = d.names ++ first.names;
      said = d.said ∙ ap (λ r. behind d.names done (filled_before first.names r (pairs_filled files folder left))) f.0
          ∙ behind_one d.names first.names done filled (pairs_filled files folder left);
      grown = grows_more old mid new d.names first.names d.grown f.1;
    }

pub all_done : (files : Files) (folder : List ℕ) (place : Place) (all done : List Pair) (old new : List (List ℕ))
    → Done files folder all done [] old new
    → Fills place (pairs_filled files folder all) old new (Ok done)
all_done files folder place all done old new d =
    let F : Filling (List Pair) → Type 0 = λ f. Fills place f old new (Ok done) in
    let N : List (List ℕ) → Type 0 = λ names. Grows old new names in
    subst F (sym d.said) (ap Ok (append-nil done), subst N (sym (append-nil d.names)) d.grown)

-- memory runs out behind some of the pairs
pub done_upto : (files : Files) (folder : List ℕ) (all done left : List Pair) (old new : List (List ℕ))
    → Done files folder all done left old new
    → GrowsUpTo old new (pairs_filled files folder all).names
done_upto files folder all done left old new d = record {
  front = d.names;
  rest = (pairs_filled files folder left).names;
  parts = ap (λ (f : Filling (List Pair)). f.names) d.said;
  grown = d.grown;
}

-- the first names of a pair are the first of all that are left
first_names : (more : List (List ℕ)) (r : Result Pair ScriptCause) (rest : Filling (List Pair))
    → (tail : List (List ℕ)) × ((filled_before more r rest).names ≡ more ++ tail)
first_names more (Ok pair) rest = (rest.names, refl)
first_names more (Err c) rest = ([], sym (append-nil more))

-- the names of all pairs, of which some are done
split_names : (files : Files) (folder : List ℕ) (all done left : List Pair) (pair : Pair) (old mid : List (List ℕ))
    → (d : Done files folder all done (pair ∷ left) old mid)
    → (tail : List (List ℕ)) × ((pairs_filled files folder all).names ≡ d.names ++ ((pair_filled files folder pair).names ++ tail))
split_names files folder all done left pair old mid d =
    let first = pair_filled files folder pair in
    let (tail, e) = first_names first.names first.filled (pairs_filled files folder left) in
    (tail, ap (λ (f : Filling (List Pair)). f.names) d.said ∙ ap (λ ns. d.names ++ ns) e)

pub fault_done : (files : Files) (folder : List ℕ) (place : Place) (all done left : List Pair) (pair : Pair)
    (e : SessionFault) (old mid new : List (List ℕ))
    → Done files folder all done (pair ∷ left) old mid
    → Fills {X = Pair} place (pair_filled files folder pair) mid new (Err e)
    → Fills {X = List Pair} place (pairs_filled files folder all) old new (Err e)
fault_done files folder place all done left pair (fault.Script at c) old mid new d f =
    let first = pair_filled files folder pair in
    let said = d.said ∙ ap (λ r. behind d.names done (filled_before first.names r (pairs_filled files folder left))) f.1 in
    let F : Filling (List Pair) → Type 0 = λ s. Fills {X = List Pair} place s old new (Err (fault.Script at c)) in
    subst F (sym said) (f.0, refl, grows_more old mid new d.names first.names d.grown f.2)
fault_done files folder place all done left pair (fault.Read name) old mid new d f =
    let (tail, e) = split_names files folder all done left pair old mid d in
    record {
      front = d.names ++ f.front;
      rest = f.rest ++ tail;
      parts = e
          ∙ ap (λ ns. d.names ++ (ns ++ tail)) f.parts
          ∙ ap (λ ns. d.names ++ ns) (append_assoc f.front (name ∷ f.rest) tail)
          ∙ sym (append_assoc d.names f.front (name ∷ (f.rest ++ tail)));
      grown =
          let N : List (List ℕ) → Type 0 = λ names. Grows old new names in
          subst N (sym (append_assoc d.names f.front (name ∷ []))) (grows_more old mid new d.names (f.front ++ (name ∷ [])) d.grown f.grown);
    }
fault_done files folder place all done left pair fault.NoMemory old mid new d f =
    let (tail, e) = split_names files folder all done left pair old mid d in
    record {
      front = d.names ++ f.front;
      rest = f.rest ++ tail;
      parts = e
          ∙ ap (λ ns. d.names ++ (ns ++ tail)) f.parts
          ∙ ap (λ ns. d.names ++ ns) (append_assoc f.front f.rest tail)
          ∙ sym (append_assoc d.names f.front (f.rest ++ tail));
      grown = grows_more old mid new d.names f.front d.grown f.grown;
    }
fault_done files folder place all done left pair fault.Ended old mid new d f = absurd f
