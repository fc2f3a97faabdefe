-- What a run of `cert` wrote that answers 0.
use Rattle.std.proofs.Common.{◌≡◌, ◌∙◌, ℕ, List, ◌++◌, length, Option, Some, None, refl, sym, ap, subst, inl, inr, true}
use Rattle.std.specs.Str.{chars}
use Rattle.std.specs.List.{concat}
use Rattle.std.proofs.lemmas.List.{append-nil}
use Rattle.fd_bench.specs.fd_outside.Files.{Files}
use Rattle.fd_checking.specs.dss_script.Said.{said_of}
use Rattle.fd_checking.specs.fd_report.declared.faults.Fault.{Fault}
use Rattle.fd_checking.specs.fd_certfile.Laws.{CertificateLaw}
use Rattle.fd_checking.specs.fd_certfile.RuleLaws.{RuleLaw}
use Rattle.fd_checking.specs.dss_ready.Passed.{PassedLaw}
use Rattle.fd_checking.specs.fd_outcome.Calls.{Doing, certificate, doing, texts_written}
use Rattle.fd_checking.specs.fd_outcome.Done.{IsDone, Made, failing, torn_bytes}
use Rattle.fd_checking.specs.fd_outcome.Events.{History}
use Rattle.fd_checking.specs.fd_outcome.Laws.{ReadLaw, StatusLaw}
use Rattle.fd_checking.specs.fd_outcome.Statuses.{status_of}
use Rattle.fd_checking.specs.fd_solving.SolvedLaw.{SolvedLaw}
use Rattle.fd_app.specs.Run.{FormsLaw, IsFormHistory}
use Rattle.fd_words.specs.Words.{Cert}
use Rattle.fd_app.specs.Accepted.{HaveTaken}
use Rattle.fd_app.specs.Printing.{Outside}
use Rattle.fd_app.specs.Promise.{IsPromised}
use Rattle.fd_app.specs.Written.{RoundTripLaw, WrittenLaw}
use Rattle.fd_app.specs.Printed.{all_rounds, bytes_by}
use Rattle.fd_app.specs.Solves.{solves_of}
use Rattle.fd_app.proofs.RoundTrips.{script_accepted}
use Rattle.fd_app.proofs.Scripts.{cert_is_accepted}

-- a status of 0 is that of no fault
no_fault : StatusLaw → (end : Option Fault) → 0 ≡ status_of end → end ≡ None
no_fault law None h = refl
no_fault law (Some f) h = absurd ((law f).done (sym h))

-- all of it was done, and it has no fault
pub record IsWhole (d : Doing) (m : Made) : Type 0 where
  pub calls : m.calls ≡ d.calls
  pub torn : m.torn ≡ None
  pub end : d.end ≡ None

all_done : StatusLaw → (d : Doing) (m : Made) → IsDone true d 0 m → IsWhole d m
all_done law d m done = elim done [
  | inl all ↦ record { calls = all.calls; torn = all.torn; end = no_fault law d.end all.status_is }
  | inr cut ↦ elim cut.0 [
    | inl short ↦ absurd (let e = short.status_is in let no : ⊥ = cc in no)
    | inr torn ↦ absurd (let e = torn.status_is in let no : ⊥ = cc in no)
  ]
]

-- then no read failed
none_failed : StatusLaw → ReadLaw → (fails : Option ℕ) (d : Doing) (m : Made) → IsDone true (failing fails d) 0 m
    → IsWhole d m
none_failed law read None d m done = all_done law d m done
none_failed law read (Some n) d m done =
    let all = all_done law (failing (Some n) d) m done in
    elim (read n d) [
      | inl same ↦ subst (λ (x : Doing). IsWhole x m) same all
      | inr cut ↦ absurd (let e = sym cut.end_now ∙ all.end in let no : ⊥ = cc in no)
    ]

module _ (law : StatusLaw) (read : ReadLaw) (forms : FormsLaw) (rules : RuleLaw) (passed : PassedLaw)
    (certificates : CertificateLaw)
    (solved : SolvedLaw) where
  -- all of it was done, and its bytes are accepted
  record IsWritten (files : Files) (file : List ℕ) (h : History) (o : Outside) : Type 0 where
    pub end : h.end ≡ None
    pub have_taken : HaveTaken (bytes_by certificate h) (solves_of (said_of files (chars file)))
        (length (all_rounds h.events)) o.taken_before o.taken_now

  of_cert : (files : Files) (file : List ℕ) (h : History) (o : Outside)
      → IsFormHistory files (Some (Cert file)) h → IsPromised o files (Some (Cert file)) 0 → IsWritten files file h o
  of_cert files file h o right r =
      let one = forms files (Some (Cert file)) in
      let p = r.printed in
      let same : r.history ≡ h = one.only r.history r.right ∙ sym (one.only h right) in
      let all : IsWhole (doing certificate h) p.made =
      subst (λ (x : History). IsWhole (doing certificate x) p.made) same
      (none_failed law read p.fails (doing certificate r.history) p.made p.done) in
      let bytes : concat (texts_written p.made.calls) ++ torn_bytes p.made.torn ≡ bytes_by certificate h =
      ap (λ (t : Option (List ℕ)). concat (texts_written p.made.calls) ++ torn_bytes t) all.torn
      ∙ append-nil (concat (texts_written p.made.calls)) ∙ ap (λ c. concat (texts_written c)) all.calls in
      record {
        end = all.end;
        have_taken = record {
          taken = p.bytes_are ∙ ap (λ (bs : List ℕ). o.taken_before ++ bs) bytes;
          are_accepted = cert_is_accepted rules passed certificates solved files (chars file) h right all.end;
        };
      }

  pub written : WrittenLaw
  written files file h o right r = (of_cert files file h o right r).have_taken

  pub round_trip : RoundTripLaw
  round_trip files there file name h g o right r same held_is checks =
      let all = of_cert files file h o right r in
      script_accepted files there (chars name) (bytes_by certificate h)
      (length (all_rounds h.events)) held_is passed forms file name refl h
      right all.end all.have_taken.are_accepted same g checks
