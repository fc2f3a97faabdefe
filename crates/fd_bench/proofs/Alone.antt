-- A run that asks the library for nothing, and lines that are written.
use Rattle.std.proofs.Common.{◌≡◌, ◌∙◌, ℕ, Bool, true, List, [], ◌∷◌, ◌++◌, map, codes, Option, Some, None, refl, sym, ap, subst, inl}
use Rattle.std.proofs.lemmas.List.{append_assoc, append_cancel_left, append-nil, map-append}
use Rattle.fd_gen.specs.fd_outside.Answers.{Agrees, AgreesSince, Answer, IsLater, names_asked}
use Rattle.fd_gen.specs.fd_outside.Files.{Files}
use Rattle.fd_gen.specs.Script.{ended, head, lines_of, script_of, sections_of}
use Rattle.fd_solving.specs.fd_outcome.Calls.{Call, Style, body, calls_of, doing, opened, reads, report, writes}
use Rattle.fd_solving.specs.fd_outcome.Events.{History, line}
use Rattle.fd_solving.specs.fd_outcome.Parts.{Printed}
use Rattle.fd_solving.specs.fd_outcome.Runs.{Runs}
use Rattle.fd_solving.proofs.CallerLemmas.fd_outcome.{IsToldBy, not_empty}
use Rattle.fd_bench.specs.Alone.{RunsAlone}

-- ---- any library

-- the files that a library tells that it holds agree with its answers
pub agrees_held : {L : Type 0} (answers : L → List Answer) (holds : L → Option Files) (files : Files) (before now : L)
    → holds before ≡ Some files → IsLater answers holds before now → AgreesSince files (answers before) (answers now)
agrees_held answers holds files before now is later = record {
  agree = λ since told. subst (Agrees files)
      (append_cancel_left (answers before) later.since since (sym later.told ∙ told)) (later.held files is);
}

module _ {L S : Type 0} (answers : L → List Answer) (taken : S → List ℕ) (calls : S → ℕ) (lib : L) (old new : S) where
  pub alone_runs : (is_history : History → Type 0) (style : Style) (tells : Bool) (code : ℕ)
      → RunsAlone taken calls old new is_history style tells code
      → Runs answers taken calls lib lib old new is_history style tells code
  alone_runs is_history style tells code r = record {
    history = r.history;
    right = r.right;
    fails = None;
    cause = inl refl;
    made = r.made;
    done = r.done;
    sees = record {
      names = sym (ap (λ l. names_asked (answers lib) ++ l) r.wrote.names ∙ append-nil (names_asked (answers lib)));
      bytes = r.wrote.bytes_are;
      writes = r.wrote.writes_are;
    };
  }

-- a history that is printed
pub printed_alone : {S : Type 0} (taken : S → List ℕ) (calls : S → ℕ) (old new : S) (h : History)
    (style : Style) (tells : Bool) (code : ℕ)
    → Printed taken calls old new tells (doing style h) code → RunsAlone taken calls old new (λ x. x ≡ h) style tells code
printed_alone taken calls old new h style tells code p = record {
  history = h;
  right = refl;
  made = p.made;
  done = p.done;
  wrote = p.wrote;
}

-- ---- lines

pub opened_none : (all : List Call) → opened [] all ≡ all
opened_none [] = refl
opened_none (reads name ∷ all) = ap (λ l. reads name ∷ l) (opened_none all)
opened_none (writes text ∷ all) = refl

lines_body : (lines : List (List ℕ)) → body report (map line lines) ≡ map writes (map ended lines)
lines_body [] = refl
lines_body (text ∷ lines) = ap (λ l. writes (ended text) ∷ l) (lines_body lines)

-- a script's lines with their ends are what is written
pub script_calls : (number sections : ℕ)
    → map writes (lines_of number sections) ≡ calls_of report (map line (script_of number sections)) None
script_calls number sections =
    let lines = script_of number sections in
    sym (opened_none (body report (map line lines) ++ []) ∙ append-nil (body report (map line lines)) ∙ lines_body lines)

-- a script has a line
pub some_line : (number sections : ℕ) → lines_of number sections ≡ [] → ⊥
some_line number sections e =
    not_empty (map ended (head ++ sections_of number sections)) (ended (codes "Solve")) []
    (sym (map-append ended (head ++ sections_of number sections) (codes "Solve" ∷ []))
    ∙ ap (map ended) (append_assoc head (sections_of number sections) (codes "Solve" ∷ [])) ∙ e)

pub no_script : (number sections : ℕ) → calls_of report (map line (script_of number sections)) None ≡ [] → ⊥
no_script number sections e = some_line number sections (no_text (lines_of number sections) (script_calls number sections ∙ e))
  where
    no_text : (texts : List (List ℕ)) → map writes texts ≡ [] → texts ≡ []
    no_text [] none = refl
    no_text (text ∷ texts) none = cc none

pub script_tells : (number sections : ℕ) → IsToldBy report true (map line (script_of number sections)) None
script_tells number sections told none e =
    no_script number sections (opened_none (body report (map line (script_of number sections)) ++ []) ∙ e)
