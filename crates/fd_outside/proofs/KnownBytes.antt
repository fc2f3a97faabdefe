-- Readers that tell what they have left, and writers that tell what they hold, a part at a time.
use Rattle.std.proofs.Common.{◌≡◌, ◌<◌, ◌∙◌, ℕ, List, [], ◌∷◌, ◌++◌, length, take, drop, refl, sym, ap, arith, subst, Option, Some, None, IfSome, Result, Ok, Err}
use Rattle.std.proofs.lemmas.List.{append_assoc, append-nil, take-append-drop}
use Rattle.std.specs.Io.KnownBytes.{Appends, Consumes, IsAtEnd, Keeps, ReadConsumes, WriteAppends}
use Rattle.std.specs.declared.io.Error.{Error}
use Rattle.fd_outside.specs.Pieces.{WritesTold}
use Rattle.fd_outside.specs.Troubles.{untroubled}
use Rattle.fd_outside.specs.declared.system.Trouble.{Trouble}
use Rattle.fd_outside.specs.declared.sink.SinkFault.TheVariants as fault
use Rattle.fd_outside.proofs.Turns.{cut}

-- ---- reading

read_untroubled : (a b : Option (List ℕ)) (r : Result ℕ Error) (part : List ℕ) → ReadConsumes a b r part
    → ReadConsumes a b (untroubled r) part
read_untroubled a b (Ok n) part h = h
read_untroubled a b (Err e) part h = h

-- what a read did, by what its answer comes to
pub read_answered : (a b : Option (List ℕ)) (r : Result ℕ Error) (part : List ℕ) (t : Result ℕ Trouble) → ReadConsumes a b r part
    → t ≡ untroubled r → {u : Result ℕ Trouble} → t ≡ u → ReadConsumes a b u part
read_answered a b r part t h is same =
    let P : Result ℕ Trouble → Type 0 = λ x. ReadConsumes a b x part in
    subst P (sym is ∙ same) (read_untroubled a b r part h)

pub consumes_none : (a : Option (List ℕ)) → Consumes a a []
consumes_none None = tt
consumes_none (Some xs) = refl

pub consumes_more : (a b c : Option (List ℕ)) (bs cs : List ℕ) → Consumes a b bs → Consumes b c cs → Consumes a c (bs ++ cs)
consumes_more None b c bs cs first second = tt
consumes_more (Some xs) None c bs cs first second = absurd first
consumes_more (Some xs) (Some ys) None bs cs first second = absurd second
consumes_more (Some xs) (Some ys) (Some zs) bs cs first second = first ∙ ap (λ l. bs ++ l) second ∙ sym (append_assoc bs cs zs)

pub consumes_kept : (a b c : Option (List ℕ)) (bs : List ℕ) → Consumes a b bs → Keeps b c → Consumes a c bs
consumes_kept None b c bs first same = tt
consumes_kept (Some xs) None c bs first same = absurd first
consumes_kept (Some xs) (Some ys) None bs first same = absurd same
consumes_kept (Some xs) (Some ys) (Some zs) bs first same = first ∙ ap (λ l. bs ++ l) (sym same)

ended : (a b : Option (List ℕ)) (bs : List ℕ) → Consumes a b bs → IsAtEnd b → IfSome a (λ left. bs ≡ left)
ended None b bs given end = tt
ended (Some xs) None bs given end = absurd given
ended (Some xs) (Some ys) bs given end = sym (given ∙ ap (λ l. bs ++ l) end ∙ append-nil bs)

-- a reader that gave nothing more has given all that it had
pub consumes_all : (a b c : Option (List ℕ)) (bs part : List ℕ) (n : ℕ) → Consumes a b bs
    → Consumes b c (take n part) × (n ≡ 0 → 0 < length part → IsAtEnd c) → n ≡ 0 → 0 < length part
    → IfSome a (λ left. bs ≡ left)
consumes_all a b c bs part n given last none some =
    let P : ℕ → Type 0 = λ k. Consumes b c (take k part) in
    let Q : List ℕ → Type 0 = λ l. Consumes a c l in
    ended a c bs (subst Q (append-nil bs) (consumes_more a b c bs [] given (subst P none last.0))) (last.1 none some)

-- ---- writing

write_untroubled : (a b : Option (List ℕ)) (r : Result ℕ Error) (bytes : List ℕ) → WriteAppends a b r bytes
    → WriteAppends a b (untroubled r) bytes
write_untroubled a b (Ok n) bytes h = h
write_untroubled a b (Err e) bytes h = h

-- all but the rest was taken
pub record HasWritten (old now : Option (List ℕ)) (piece rest : List ℕ) : Type 0 where
  pub front : List ℕ
  pub parts : piece ≡ front ++ rest
  pub told : Appends old now front

-- what a write did, by what its answer comes to
pub write_answered : (a b : Option (List ℕ)) (r : Result ℕ Error) (bytes : List ℕ) (t : Result ℕ Trouble) → WriteAppends a b r bytes
    → t ≡ untroubled r → {u : Result ℕ Trouble} → t ≡ u → WriteAppends a b u bytes
write_answered a b r bytes t h is same =
    let P : Result ℕ Trouble → Type 0 = λ x. WriteAppends a b x bytes in
    subst P (sym is ∙ same) (write_untroubled a b r bytes h)

appends_none : (a : Option (List ℕ)) → Appends a a []
appends_none None = tt
appends_none (Some xs) = sym (append-nil xs)

appends_more : (a b c : Option (List ℕ)) (bs cs : List ℕ) → Appends a b bs → Appends b c cs → Appends a c (bs ++ cs)
appends_more None b c bs cs first second = tt
appends_more (Some xs) None c bs cs first second = absurd first
appends_more (Some xs) (Some ys) None bs cs first second = absurd second
appends_more (Some xs) (Some ys) (Some zs) bs cs first second = second ∙ ap (λ l. l ++ cs) first ∙ append_assoc xs bs cs

appends_kept : (a b c : Option (List ℕ)) (bs : List ℕ) → Appends a b bs → Keeps b c → Appends a c bs
appends_kept None b c bs first same = tt
appends_kept (Some xs) None c bs first same = absurd first
appends_kept (Some xs) (Some ys) None bs first same = absurd same
appends_kept (Some xs) (Some ys) (Some zs) bs first same = same ∙ first

pub nothing_written : (old : Option (List ℕ)) (piece : List ℕ) → HasWritten old old piece piece
nothing_written old piece = record { front = []; parts = refl; told = appends_none old }

pub more_written : (old mid now : Option (List ℕ)) (piece rest : List ℕ) (n : ℕ) → HasWritten old mid piece rest
    → Appends mid now (take n rest) → HasWritten old now piece (drop n rest)
more_written old mid now piece rest n so_far more = record {
  front = so_far.front ++ take n rest;
  parts = so_far.parts ∙ ap (λ l. so_far.front ++ l) (sym (take-append-drop n rest)) ∙ sym (append_assoc so_far.front (take n rest) (drop n rest));
  told = appends_more old mid now so_far.front (take n rest) so_far.told more;
}

pub no_more_written : (old mid now : Option (List ℕ)) (piece rest : List ℕ) → HasWritten old mid piece rest → Keeps mid now
    → HasWritten old now piece rest
no_more_written old mid now piece rest so_far same =
    record { front = so_far.front; parts = so_far.parts; told = appends_kept old mid now so_far.front so_far.told same }

-- a write that took none of the rest leaves it as it was
pub none_written : (old mid now : Option (List ℕ)) (piece rest : List ℕ) (n : ℕ) → HasWritten old mid piece rest
    → n ≡ 0 → Appends mid now (take n rest) → HasWritten old now piece rest
none_written old mid now piece rest n so_far none more =
    let P : ℕ → Type 0 = λ k. HasWritten old now piece (drop k rest) in
    subst P none (more_written old mid now piece rest n so_far more)

pub all_written : (old now : Option (List ℕ)) (piece rest : List ℕ) → HasWritten old now piece rest → length rest ≡ 0
    → WritesTold old now piece (Ok tt)
all_written None now piece rest so_far none = tt
all_written (Some xs) None piece rest so_far none = absurd so_far.told
all_written (Some xs) (Some ys) piece [] so_far none =
    so_far.told ∙ ap (λ l. xs ++ l) (sym (append-nil so_far.front) ∙ sym so_far.parts)
all_written (Some xs) (Some ys) piece (b ∷ rest) so_far none = absurd (omega (arith, none))

pub part_written : (old now : Option (List ℕ)) (piece rest : List ℕ) → HasWritten old now piece rest → (length rest ≡ 0 → ⊥)
    → WritesTold old now piece (Err fault.Failed)
part_written None now piece rest so_far some = tt
part_written (Some xs) None piece rest so_far some = absurd so_far.told
part_written (Some xs) (Some ys) piece rest so_far some =
    (so_far.front, cut so_far.front piece rest so_far.parts some, so_far.told)
