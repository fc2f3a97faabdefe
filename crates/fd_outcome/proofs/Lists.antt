-- Calls behind calls.
use Rattle.std.proofs.Common.{◌≡◌, ◌∙◌, Bool, true, false, List, [], ◌∷◌, ◌++◌, map, ℕ, refl, sym, ap}
use Rattle.std.specs.List.{flat_map}
use Rattle.std.proofs.lemmas.List.{append_assoc, append-nil, map-append}
use Rattle.std.proofs.lemmas.Grind.{flat_map-append}
use Rattle.fd_report.specs.dss_model.Names.{bytes}
use Rattle.fd_outcome.specs.Events.{Event}
use Rattle.fd_outcome.specs.Calls.{Call, reads, writes, Style, opened, body, name_read, names_read, text_written}
use Rattle.fd_outcome.specs.Calls.{texts_written, calls_in}
use Rattle.fd_outcome.specs.Behind.{has_text, behind, opened_unless}

-- ---- what opens the texts

pub opened-append : (first : List (List ℕ)) (a b : List Call)
    → opened first (a ++ b) ≡ opened first a ++ opened_unless (has_text a) first b
opened-append first [] b = refl
opened-append first (reads name ∷ a) b = ap (λ (l : List Call). reads name ∷ l) (opened-append first a b)
opened-append first (writes text ∷ a) b = sym (append_assoc (map writes first) (writes text ∷ a) b)

pub opened_behind : (style : Style) (t : Bool) (b : List Event)
    → opened_unless t style.opening (body style b) ≡ behind style t b
opened_behind style true b = refl
opened_behind style false b = refl

pub body-append : (style : Style) (a b : List Event) → body style (a ++ b) ≡ body style a ++ body style b
body-append style a b = flat_map-append (λ e. calls_in style e) a b

-- ---- projections

pub names-append : (a b : List Call) → names_read (a ++ b) ≡ names_read a ++ names_read b
names-append a b = flat_map-append name_read a b

pub texts-append : (a b : List Call) → texts_written (a ++ b) ≡ texts_written a ++ texts_written b
texts-append a b = flat_map-append text_written a b

pub names_of_writes : (texts : List (List ℕ)) → names_read (map writes texts) ≡ []
names_of_writes [] = refl
names_of_writes (text ∷ texts) = names_of_writes texts

pub names_of_reads : (names : List (List ℕ)) → names_read (map reads names) ≡ map bytes names
names_of_reads [] = refl
names_of_reads (name ∷ names) = ap (λ (l : List (List ℕ)). bytes name ∷ l) (names_of_reads names)

pub texts_of_writes : (texts : List (List ℕ)) → texts_written (map writes texts) ≡ texts
texts_of_writes [] = refl
texts_of_writes (text ∷ texts) = ap (λ (l : List (List ℕ)). text ∷ l) (texts_of_writes texts)

pub names_of_opened : (first : List (List ℕ)) (calls : List Call) → names_read (opened first calls) ≡ names_read calls
names_of_opened first [] = refl
names_of_opened first (reads name ∷ calls) = ap (λ (l : List (List ℕ)). bytes name ∷ l) (names_of_opened first calls)
names_of_opened first (writes text ∷ calls) =
    names-append (map writes first) (writes text ∷ calls)
    ∙ ap (λ l. l ++ names_read (writes text ∷ calls)) (names_of_writes first)

pub names_of_event : (style : Style) (e : Event) → names_read (calls_in style e) ≡ map bytes (style.asked_in e)
names_of_event style e =
    names-append (map reads (style.asked_in e)) (map writes (style.texts_in e))
    ∙ ap (λ l. names_read (map reads (style.asked_in e)) ++ l) (names_of_writes (style.texts_in e))
    ∙ append-nil (names_read (map reads (style.asked_in e)))
    ∙ names_of_reads (style.asked_in e)

pub names_of_body : (style : Style) (events : List Event)
    → names_read (body style events) ≡ map bytes (flat_map (λ e. style.asked_in e) events)
names_of_body style [] = refl
names_of_body style (e ∷ events) =
    names-append (calls_in style e) (body style events)
    ∙ ap (λ l. l ++ names_read (body style events)) (names_of_event style e)
    ∙ ap (λ l. map bytes (style.asked_in e) ++ l) (names_of_body style events)
    ∙ sym (map-append bytes (style.asked_in e) (flat_map (λ x. style.asked_in x) events))
