-- The history of `upgrade`: there is exactly one, its texts tell its end, and they have the answer of the old bytes.
use Rattle.std.proofs.Common.{◌≡◌, ◌∙◌, ℕ, true, List, [], ◌∷◌, ◌++◌, inl, inr, map, Option, Some, None, refl, sym, ap, subst}
use Rattle.std.specs.Prelude.{◌↔◌}
use Rattle.std.specs.List.{concat}
use Rattle.std.proofs.lemmas.List.{append-nil}
use Rattle.fd_solving.specs.dss_model.Names.{bytes}
use Rattle.fd_solving.specs.fd_outside.Files.{Files, held}
use Rattle.fd_solving.specs.fd_cert.declared.rule.Rule.TheVariants.{Absent, Grammar}
use Rattle.fd_solving.specs.fd_certfile.declared.version.Version.TheVariants.{Sparse}
use Rattle.fd_solving.specs.fd_certfile.Blocks.{Block}
use Rattle.fd_solving.specs.fd_certfile.Certificates.{Certificate, blocks_of, certificate_lines}
use Rattle.fd_solving.specs.fd_certfile.Lines.{Line, line_bytes, lines_of, text_of}
use Rattle.fd_solving.specs.fd_certfile.Upgrade.{IsFirstOutside, IsUpgraded}
use Rattle.fd_solving.specs.fd_certfile.Verdict.{Due, Answer, IsAnswer}
use Rattle.fd_solving.proofs.CallerLemmas.fd_certfile.{never_both, one_outside, one_upgrade as one_certificate, some_upgrade, upgrade_law}
use Rattle.fd_solving.specs.fd_report.declared.faults.Fault.{Fault}
use Rattle.fd_solving.specs.fd_report.declared.faults.Fault.TheVariants as fault
use Rattle.fd_solving.specs.fd_outcome.Calls.{Call, body, calls_of, doing, opened, reads, report, texts_written, writes}
use Rattle.fd_solving.specs.fd_outcome.Events.{Event, History, asked, before, ended, line}
use Rattle.fd_solving.specs.fd_outcome.Work.{After, ExactlyOne}
use Rattle.fd_solving.proofs.CallerLemmas.fd_outcome.{IsToldBy, exactly_this}
use Rattle.fd_upgrade.specs.Upgrading.{IsUpgradeHistory, IsUpgradeOf, lines_written}

-- ---- exactly one

refusal : ℕ → History
refusal outside = ended [] (fault.Certificate outside Grammar)

module _ (file : List ℕ) where
  if_written : (pieces : List (List ℕ)) → IsUpgraded (lines_of file) pieces → ExactlyOne (IsUpgradeOf (Some file))
  if_written pieces u = record {
    some = lines_written u.certificate;
    is = inl (record { pieces = pieces; upgraded = u; h_is = refl });
    only = λ h is. elim is [
      | inl w ↦ w.h_is ∙ ap lines_written (one_certificate (lines_of file) w.pieces pieces w.upgraded u)
      | inr r ↦ absurd (never_both (lines_of file) pieces r.outside u r.first)
    ];
  }

  if_refused : (outside : ℕ) → IsFirstOutside (lines_of file) outside → ExactlyOne (IsUpgradeOf (Some file))
  unfolding refusal
  if_refused outside o = record {
    some = refusal outside;
    is = inr (record { outside = outside; first = o; h_is = refl });
    only = λ h is. elim is [
      | inl w ↦ absurd (never_both (lines_of file) w.pieces outside w.upgraded o)
      | inr r ↦ r.h_is ∙ ap refusal (one_outside (lines_of file) r.outside outside r.first o)
    ];
  }

pub one_upgrade_of : (found : Option (List ℕ)) → ExactlyOne (IsUpgradeOf found)
one_upgrade_of None = exactly_this (ended [] (fault.Certificate 0 Absent))
one_upgrade_of (Some file) = elim (some_upgrade file) [
  | inl w ↦ if_written file w.0 w.1
  | inr r ↦ if_refused file r.0 r.1
]

one_behind : (events : List Event) (rest : History → Type 0) → ExactlyOne rest → ExactlyOne (After events rest)
one_behind events rest one = record {
  some = before events one.some;
  is = record { more = one.some; right = one.is; h_is = refl };
  only = λ h a. a.h_is ∙ ap (before events) (one.only a.more a.right);
}

pub one_upgrade : (files : Files) (name : List ℕ) → ExactlyOne (λ h. IsUpgradeHistory files name h)
one_upgrade files name =
    one_behind (asked name ∷ []) (IsUpgradeOf (held files (bytes name))) (one_upgrade_of (held files (bytes name)))

-- ---- what is printed

lines_body : (lines : List Line) → body report (map line (map text_of lines)) ≡ map writes (map line_bytes lines)
lines_body [] = refl
lines_body (l ∷ lines) = ap (λ (cs : List Call). writes (line_bytes l) ∷ cs) (lines_body lines)

pub opened_none : (all : List Call) → opened [] all ≡ all
opened_none [] = refl
opened_none (reads name ∷ all) = ap (λ (l : List Call). reads name ∷ l) (opened_none all)
opened_none (writes text ∷ all) = refl

-- the calls of what is written
pub written_calls : (c : Certificate)
    → calls_of report (lines_written c).events None ≡ map writes (map line_bytes (certificate_lines Sparse (blocks_of c)))
written_calls c =
    let lines = certificate_lines Sparse (blocks_of c) in
    opened_none (body report (map line (map text_of lines)) ++ [])
    ∙ append-nil (body report (map line (map text_of lines))) ∙ lines_body lines

-- the name's read tells that it isn't nothing
pub upgrade_tells : (files : Files) (name : List ℕ) (h : History) → IsUpgradeHistory files name h
    → IsToldBy report true h.events h.end
upgrade_tells files name h is told none e =
    let k : body report (asked name ∷ is.more.events) ++ map writes [] ≡ [] =
    sym (ap (λ (x : History). body report x.events ++ map writes []) is.h_is) ∙ e in
    cc k

texts_of : (texts : List (List ℕ)) → texts_written (map writes texts) ≡ texts
texts_of [] = refl
texts_of (text ∷ texts) = ap (λ (ts : List (List ℕ)). text ∷ ts) (texts_of texts)

written_texts : (name : List ℕ) (more : History) (c : Certificate) → more ≡ lines_written c
    → texts_written (doing report (before (asked name ∷ []) more)).calls ≡ map line_bytes (certificate_lines Sparse (blocks_of c))
written_texts name more c e =
    ap (λ (x : History). texts_written (doing report (before (asked name ∷ []) x)).calls) e
    ∙ ap texts_written (written_calls c) ∙ texts_of (map line_bytes (certificate_lines Sparse (blocks_of c)))

-- ---- the answer

no_fault : {X : Type 0} (more : History) (f : Fault) → more ≡ ended [] f → more.end ≡ None → X
no_fault more f e none =
    let k : Some f ≡ None = sym (ap (λ (x : History). x.end) e) ∙ none in
    absurd (let no : ⊥ = cc k in no)

module _ {S F : Type 0} (due : S → Due F) (after : S → Block → S) where
  of_more : (found : Option (List ℕ)) (name : List ℕ) (more : History) → IsUpgradeOf found more → more.end ≡ None
      → (s : S) (answer : Answer F) → IsAnswer due after found s answer
      ↔ IsAnswer due after (Some (concat (texts_written (doing report (before (asked name ∷ []) more)).calls))) s answer
  of_more None name more is none s answer = no_fault more (fault.Certificate 0 Absent) is none
  of_more (Some file) name more (inr r) none s answer = no_fault more (fault.Certificate r.outside Grammar) r.h_is none
  of_more (Some file) name more (inl w) none s answer =
      subst (λ (texts : List (List ℕ)). IsAnswer due after (Some file) s answer ↔ IsAnswer due after (Some (concat texts)) s answer)
      (w.upgraded.text ∙ sym (written_texts name more w.upgraded.certificate w.h_is))
      ((upgrade_law due after).answers file w.pieces w.upgraded s answer)

  pub upgrade_answers : (files : Files) (name : List ℕ) (h : History) → IsUpgradeHistory files name h → h.end ≡ None
      → (s : S) (answer : Answer F) → IsAnswer due after (held files (bytes name)) s answer
      ↔ IsAnswer due after (Some (concat (texts_written (doing report h).calls))) s answer
  upgrade_answers files name h is none s answer =
      subst (λ (x : History). IsAnswer due after (held files (bytes name)) s answer
      ↔ IsAnswer due after (Some (concat (texts_written (doing report x).calls))) s answer)
      (sym is.h_is)
      (of_more (held files (bytes name)) name is.more is.right (sym (ap (λ (x : History). x.end) is.h_is) ∙ none) s answer)
