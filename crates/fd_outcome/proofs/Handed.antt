-- What a sink has taken of texts that are handed to it one behind another.
use Rattle.std.proofs.Common.{◌≡◌, ◌∙◌, ℕ, ◌+◌, length, length-append, Bool, true, List, [], ◌∷◌, ◌++◌, map, Option}
use Rattle.std.proofs.Common.{Some, None, refl, sym, ap, inl, inr, arith}
use Rattle.std.specs.List.{concat}
use Rattle.std.proofs.lemmas.List.{append-nil, map-append}
use Rattle.fd_certfile.specs.fd_outside.Emitted.{Takes, TakesFirst, TakesTorn}
use Rattle.fd_report.specs.dss_model.Names.{bytes}
use Rattle.fd_report.specs.Faults.{status}
use Rattle.fd_report.specs.declared.faults.Fault.{Fault}
use Rattle.fd_outcome.specs.Calls.{Call, writes, fault_text, names_read}
use Rattle.fd_outcome.specs.Done.{Made, IsFrontOf, Sees, torn_bytes, torn_writes}
use Rattle.fd_outcome.specs.Way.{whole}
use Rattle.fd_outcome.specs.Parts.{Wrote, Printed, fault_doing, IsCutIn}
use Rattle.fd_outcome.proofs.Lists.{names-append, names_of_writes, texts_of_writes}
use Rattle.fd_outcome.proofs.Ways.{done_after, front_after, made_after, sees_then}
use Rattle.fd_outcome.proofs.Given.{wrote_nothing}

-- a front behind which something stands isn't all
pub shorter : {A : Type 0} (xs : List A) (y : A) (ys : List A) → xs ≡ xs ++ y ∷ ys → ⊥
shorter xs y ys e =
    let f : length xs ≡ length xs + length (y ∷ ys) = ap length e ∙ length-append xs (y ∷ ys) in
    absurd (omega (arith, f))

-- ---- texts handed to a sink

module _ {S : Type 0} (taken : S → List ℕ) (calls : S → ℕ) where
  wrote_texts : (old new : S) (texts : List (List ℕ)) (torn : Option (List ℕ))
      → taken new ≡ taken old ++ (concat texts ++ torn_bytes torn)
      → calls new ≡ calls old + (length texts + torn_writes torn)
      → Wrote taken calls old new (record { calls = map writes texts; torn = torn })
  wrote_texts old new texts torn bytes_are writes_are = record {
    names = names_of_writes texts;
    bytes_are = bytes_are ∙ ap (λ l. taken old ++ (concat l ++ torn_bytes torn)) (sym (texts_of_writes texts));
    writes_are = writes_are ∙ ap (λ (l : List (List ℕ)). calls old + (length l + torn_writes torn))
        (sym (texts_of_writes texts));
  }

  pub wrote_all : (old new : S) (texts : List (List ℕ)) → Takes taken calls old new texts
      → Wrote taken calls old new (whole (map writes texts))
  wrote_all old new texts takes = wrote_texts old new texts None
      (takes.bytes ∙ ap (λ l. taken old ++ l) (sym (append-nil (concat texts)))) (omega (arith, takes.writes))

  pub cut_by_memory : (old new : S) (texts : List (List ℕ)) → TakesFirst taken calls old new texts
      → IsCutIn taken calls old new (map writes texts) 1
  cut_by_memory old new texts f = record {
    made = whole (map writes f.whole);
    front = inl (record {
      rest = map writes (f.piece ∷ f.rest);
      calls = ap (map writes) f.parts ∙ map-append writes f.whole (f.piece ∷ f.rest);
      torn = refl;
      status_is = refl;
    });
    left = λ e. absurd (shorter (map writes f.whole) (writes f.piece) (map writes f.rest)
        (e ∙ ap (map writes) f.parts ∙ map-append writes f.whole (f.piece ∷ f.rest)));
    wrote = wrote_all old new f.whole f.takes;
  }

  pub cut_by_fault : (old new : S) (texts : List (List ℕ)) → TakesTorn taken calls old new texts
      → IsCutIn taken calls old new (map writes texts) 5
  cut_by_fault old new texts f = record {
    made = record { calls = map writes f.whole; torn = Some f.front };
    front = inr (record {
      text = f.piece;
      rest = map writes f.rest;
      calls = ap (map writes) f.parts ∙ map-append writes f.whole (f.piece ∷ f.rest);
      front = f.front;
      torn = refl;
      cut = f.cut;
      status_is = refl;
    });
    left = λ e. absurd (shorter (map writes f.whole) (writes f.piece) (map writes f.rest)
        (e ∙ ap (map writes) f.parts ∙ map-append writes f.whole (f.piece ∷ f.rest)));
    wrote = wrote_texts old new f.whole (Some f.front) f.bytes f.writes;
  }

  pub cut_before : (out : S) (all : List Call) → IsCutIn taken calls out out all 1
  cut_before out all = record {
    made = whole [];
    front = inl (record { rest = all; calls = refl; torn = refl; status_is = refl });
    left = λ e. sym e;
    wrote = wrote_nothing taken calls out;
  }

  -- a fault's record, by what the sink took of it
  pub fault_whole : (old new : S) (f : Fault) (code : ℕ) → code ≡ status f
      → Takes taken calls old new (fault_text f ∷ []) → Printed taken calls old new true (fault_doing f) code
  fault_whole old new f code is takes = record {
    made = whole (writes (fault_text f) ∷ []);
    done = inl (record { calls = refl; torn = refl; status_is = is });
    wrote = wrote_all old new (fault_text f ∷ []) takes;
  }

  pub fault_cut : (old new : S) (f : Fault) (code : ℕ) → IsCutIn taken calls old new (writes (fault_text f) ∷ []) code
      → Printed taken calls old new true (fault_doing f) code
  fault_cut old new f code c =
      record { made = c.made; done = inr (c.front, λ told all. cc (c.left all)); wrote = c.wrote }

-- ---- writes behind others

module _ {S : Type 0} (taken : S → List ℕ) (calls : S → ℕ) where
  seen_by : (old new : S) (m : Made) → Wrote taken calls old new m
      → Sees {L = Unit {0}} (λ u. []) taken calls tt tt old new m
  seen_by old new m w = record { names = sym w.names; bytes = w.bytes_are; writes = w.writes_are }

  pub wrote_then : (old mid new : S) (a : List Call) (m : Made) → Wrote taken calls old mid (whole a)
      → Wrote taken calls mid new m → Wrote taken calls old new (made_after a m)
  wrote_then old mid new a m first second =
      let both =
      sees_then {L = Unit {0}} (λ u. []) taken calls tt tt tt old mid new a m (seen_by old mid (whole a) first)
      (seen_by mid new m second) in
      record {
        names = names-append a m.calls ∙ ap (λ l. l ++ names_read m.calls) first.names ∙ second.names;
        bytes_are = both.bytes;
        writes_are = both.writes;
      }

  -- what is done of these calls is done of those before and these
  pub printed_then : (tells : Bool) (old mid new : S) (a rest : List Call) (end : Option Fault) (code : ℕ)
      → Wrote taken calls old mid (whole a)
      → Printed taken calls mid new tells (record { calls = rest; end = end }) code
      → Printed taken calls old new tells (record { calls = a ++ rest; end = end }) code
  printed_then tells old mid new a rest end code first p = record {
    made = made_after a p.made;
    done = done_after tells a rest (a ++ rest) end code p.made refl p.done;
    wrote = wrote_then old mid new a p.made first p.wrote;
  }

  -- a front of these calls is a front of those before and these
  pub front_then : (old mid new : S) (a rest : List Call) (code : ℕ) → Wrote taken calls old mid (whole a)
      → (c : IsCutIn taken calls mid new rest code)
      → IsFrontOf (a ++ rest) code (made_after a c.made) × Wrote taken calls old new (made_after a c.made)
  front_then old mid new a rest code first c =
      (front_after a rest code c.made c.front, wrote_then old mid new a c.made first c.wrote)
