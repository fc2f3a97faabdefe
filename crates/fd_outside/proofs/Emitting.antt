-- Records handed out one by one.
use Rattle.std.proofs.Common.{◌≡◌, ◌+◌, ◌<◌, ◌∙◌, ℕ, zero, suc, List, [], ◌∷◌, ◌++◌, length, take, drop, refl, sym, ap, arith, Result, Ok, Err, IsErrAnd, OnErr, get_or, add-one}
use Rattle.std.proofs.lemmas.List.{append_assoc, take-append-drop, map-append}
use Rattle.std.specs.List.{concat}
use Rattle.fd_outside.specs.Pieces.{WritesPiece, calls_after}
use Rattle.fd_outside.specs.Emitted.{Takes, TakesFront, Emits, pieces_of}
use Rattle.fd_outside.specs.declared.bytes.Record.{Record}
use Rattle.fd_outside.specs.declared.sink.SinkFault.{SinkFault}
use Rattle.fd_outside.specs.declared.sink.SinkFault.TheVariants as fault
use Rattle.fd_outside.proofs.CallerLemmas.{front_of_short, front_of_torn}

-- an error handed on is the same
pub handed_on : {T : Type 0} (r : Result T SinkFault) (e : SinkFault) → IsErrAnd r (λ x. x ≡ e) → Err e ≡ r
handed_on (Ok x) e is = absurd is
handed_on (Err x) e is = ap Err (sym is)

next_piece_suc : (records : List Record) (i : ℕ) (d : Record) → i < length records
    → pieces_of (take (suc i) records) ≡ pieces_of (take i records) ++ (get_or records i d).bytes ∷ []
next_piece_suc [] i d lt = absurd (omega arith)
next_piece_suc (r ∷ rs) zero d lt = refl
next_piece_suc (r ∷ rs) (suc i) d lt = ap (λ l. r.bytes ∷ l) (next_piece_suc rs i d (omega arith))

-- the pieces after one more record
pub next_piece : (records : List Record) (i : ℕ) (r : Record) (bytes : List ℕ) → i < length records
    → r ≡ get_or records i r → bytes ≡ r.bytes
    → pieces_of (take (i + 1) records) ≡ pieces_of (take i records) ++ bytes ∷ []
next_piece records i r bytes lt is same =
    let one : i + 1 ≡ suc i = add-one i in
    ap (λ k. pieces_of (take k records)) one
    ∙ next_piece_suc records i r lt
    ∙ ap (λ x. pieces_of (take i records) ++ x ∷ []) (ap (λ (x : Record). x.bytes) (sym is) ∙ sym same)

pub rest_of_pieces : (records : List Record) (i : ℕ)
    → pieces_of (take i records) ++ pieces_of (drop i records) ≡ pieces_of records
rest_of_pieces records i = sym (map-append (λ r. r.bytes) (take i records) (drop i records)) ∙ ap pieces_of (take-append-drop i records)

module _ {S : Type 0} (taken : S → List ℕ) (calls : S → ℕ) where
  -- pieces that were taken whole, and then a write that took less than its piece
  pub stops : (old mid new : S) (whole rest : List (List ℕ)) (piece : List ℕ) (e : SinkFault)
      → Takes taken calls old mid whole
      → WritesPiece (taken mid) (taken new) piece (Err e) → calls new ≡ calls_after (calls mid) (Err e)
      → Emits taken calls old new (whole ++ piece ∷ rest) (Err e)
  stops old mid new whole rest piece fault.Failed takes bytes count = record {
    whole = whole;
    piece = piece;
    rest = rest;
    parts = refl;
    front = bytes.0;
    cut = bytes.1;
    bytes = bytes.2 ∙ ap (λ l. l ++ bytes.0) takes.bytes ∙ append_assoc (taken old) (concat whole) bytes.0;
    writes = omega (arith, takes.writes, count);
  }
  stops old mid new whole rest piece fault.NoMemory takes bytes count = record {
    whole = whole;
    piece = piece;
    rest = rest;
    parts = refl;
    takes = record { bytes = bytes ∙ takes.bytes; writes = count ∙ takes.writes };
  }

  -- some of the pieces were taken
  pub some_taken : (old new : S) (pieces : List (List ℕ)) (r : Result Unit SinkFault)
      → Emits taken calls old new pieces r → OnErr r (TakesFront taken calls old new pieces)
  some_taken old new pieces (Ok x) h = tt
  some_taken old new pieces (Err fault.Failed) h = front_of_torn taken calls old new pieces h
  some_taken old new pieces (Err fault.NoMemory) h = front_of_short taken calls old new pieces h
