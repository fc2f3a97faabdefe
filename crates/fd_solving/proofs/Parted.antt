-- What a sink has taken of texts that are made part by part.
use Rattle.std.proofs.Common.{◌≡◌, ◌∙◌, ◌<◌, ◌+◌, ℕ, Bool, true, false, List, [], ◌∷◌, ◌++◌, length, map, drop, get_or}
use Rattle.std.proofs.Common.{Some, refl, sym, ap, subst, inl, inr}
use Rattle.std.specs.Prelude.{◌||◌}
use Rattle.std.proofs.lemmas.List.{append_assoc, append_cancel_left, append-nil, drop_more, map-append}
use Rattle.fd_pages.specs.fd_report.declared.faults.Fault.{Fault}
use Rattle.fd_pages.specs.fd_outcome.Behind.{has_text, opened_unless}
use Rattle.fd_pages.specs.fd_outcome.Calls.{Call, Style, fault_text, writes}
use Rattle.fd_pages.specs.fd_outcome.Done.{IsFrontOf, Made}
use Rattle.fd_pages.specs.fd_outcome.Events.{settle}
use Rattle.fd_pages.specs.fd_outcome.Parts.{IsCutIn, Printed, Wrote, fault_doing}
use Rattle.fd_pages.specs.fd_outcome.Settles.{Round, Settle}
use Rattle.fd_pages.specs.fd_outcome.Way.{whole}
use Rattle.fd_pages.proofs.CallerLemmas.fd_outcome.{front_then, made_after, not_empty, or_false, printed_then, shorter}
use Rattle.fd_pages.proofs.CallerLemmas.fd_outcome.{wrote_nothing, wrote_then}
use Rattle.fd_pages.specs.Hours.{round_in}
use Rattle.fd_pages.specs.Rounds.{rounds_texts}
use Rattle.fd_daily.specs.fd_settle.declared.round.Round.{Round as Solved}
use Rattle.fd_solving.specs.Printing.{begun_behind, settle_calls}
use Rattle.fd_solving.proofs.Handed.{cut_as, printed_as, printed_cut, silent_begun, silent_calls, texts_alone}

-- ---- texts behind others

opened-append : (begun : Bool) (first a b : List (List ℕ)) → opened_unless begun first (map writes a)
    ++ opened_unless (begun || has_text (map writes a)) first (map writes b)
    ≡ opened_unless begun first (map writes (a ++ b))
opened-append true first a b = sym (map-append writes a b)
opened-append false first [] b = refl
opened-append false first (text ∷ a) b =
    append_assoc (map writes first) (map writes (text ∷ a)) (map writes b)
    ∙ ap (λ l. map writes first ++ l) (sym (map-append writes (text ∷ a) b))

begun-append : (begun : Bool) (a b : List (List ℕ)) → ((begun || has_text (map writes a)) || has_text (map writes b))
    ≡ (begun || has_text (map writes (a ++ b)))
begun-append true a b = refl
begun-append false [] b = refl
begun-append false (text ∷ a) b = refl

opened_some : (begun : Bool) (first texts : List (List ℕ)) → (texts ≡ [] → ⊥)
    → opened_unless begun first (map writes texts) ≡ [] → ⊥
opened_some true first [] some e = some refl
opened_some true first (text ∷ texts) some e = cc e
opened_some false first [] some e = some refl
opened_some false first (text ∷ texts) some e = not_empty (map writes first) (writes text) (map writes texts) e

opened_none : (begun : Bool) (first : List (List ℕ)) → [] ≡ opened_unless begun first []
opened_none true first = refl
opened_none false first = refl

-- the texts of a round, and of those behind it
pub next_texts : (of_round : Settle → ℕ → Round → List (List ℕ)) (s : Settle) (rounds : List Solved) (k : ℕ) (r : Solved)
    → k < length rounds → r ≡ get_or rounds k r → rounds_texts of_round s k (map round_in (drop k rounds))
    ≡ of_round s k (round_in r) ++ rounds_texts of_round s (k + 1) (map round_in (drop (k + 1) rounds))
next_texts of_round s rounds k r within is =
    ap (λ (rs : List Solved). rounds_texts of_round s k (map round_in rs))
    (drop_more rounds k r within ∙ ap (λ (x : Solved). x ∷ drop (k + 1) rounds) (sym is))

-- ---- fronts of calls before others

front_before : (all more : List Call) (code : ℕ) (m : Made) → IsFrontOf all code m → IsFrontOf (all ++ more) code m
front_before all more code m front = elim front [
  | inl x ↦ inl (record {
    rest = x.rest ++ more;
    calls = ap (λ l. l ++ more) x.calls ∙ append_assoc m.calls x.rest more;
    torn = x.torn;
    status_is = x.status_is;
  })
  | inr x ↦ inr (record {
    text = x.text;
    rest = x.rest ++ more;
    calls = ap (λ l. l ++ more) x.calls ∙ append_assoc m.calls (writes x.text ∷ x.rest) more;
    front = x.front;
    torn = x.torn;
    cut = x.cut;
    status_is = x.status_is;
  })
]

front_rest : (all : List Call) (code : ℕ) (m : Made) → IsFrontOf all code m
    → (rest : List Call) × (all ≡ m.calls ++ rest)
front_rest all code m front = elim front [
  | inl x ↦ (x.rest, x.calls)
  | inr x ↦ (writes x.text ∷ x.rest, x.calls)
]

none_left : (made all more rest : List Call) → all ≡ made ++ rest → (made ≡ all → all ≡ []) → made ≡ all ++ more
    → all ++ more ≡ []
none_left made all [] [] is left e = append-nil all ∙ left (sym (is ∙ append-nil made))
none_left made all (c ∷ more) [] is left e =
    absurd (shorter made c more (e ∙ ap (λ l. l ++ c ∷ more) (is ∙ append-nil made)))
none_left made all more (c ∷ rest) is left e =
    absurd (shorter made c (rest ++ more) (e ∙ ap (λ l. l ++ more) is ∙ append_assoc made (c ∷ rest) more))

module _ {S : Type 0} (taken : S → List ℕ) (calls : S → ℕ) where
  cut_more : (old new : S) (all more : List Call) (code : ℕ) → IsCutIn taken calls old new all code
      → IsCutIn taken calls old new (all ++ more) code
  cut_more old new all more code c =
      let rest = front_rest all code c.made c.front in
      record {
        made = c.made;
        front = front_before all more code c.made c.front;
        left = none_left c.made.calls all more rest.0 rest.1 c.left;
        wrote = c.wrote;
      }

  cut_then : (old mid new : S) (a rest : List Call) (code : ℕ) → Wrote taken calls old mid (whole a)
      → IsCutIn taken calls mid new rest code → (rest ≡ [] → ⊥) → IsCutIn taken calls old new (a ++ rest) code
  cut_then old mid new a rest code first c some =
      let both = front_then taken calls old mid new a rest code first c in
      record {
        made = made_after a c.made;
        front = both.0;
        left = λ e. absurd (some (c.left (append_cancel_left a c.made.calls rest e)));
        wrote = both.1;
      }

-- ---- texts that are written part by part

-- Some texts are written, with what opens the first: with those that are left they are all. `now` tells whether a text
-- was written before or among them.
pub record IsWritten {S : Type 0} (taken : S → List ℕ) (calls : S → ℕ) (first : List (List ℕ)) (begun : Bool)
    (old new : S) (now : Bool) (left all : List (List ℕ)) : Type 0 where
  pub texts : List (List ℕ)
  pub parts : texts ++ left ≡ all
  pub wrote : Wrote taken calls old new (whole (opened_unless begun first (map writes texts)))
  pub begun_is : now ≡ (begun || has_text (map writes texts))

module _ {S : Type 0} (taken : S → List ℕ) (calls : S → ℕ) (first : List (List ℕ)) (begun : Bool) where
  pub wrote_no_text : (out : S) (texts : List (List ℕ)) → has_text (map writes texts) ≡ false
      → Wrote taken calls out out (whole (opened_unless begun first (map writes texts)))
  wrote_no_text out [] none =
      subst (λ l. Wrote taken calls out out (whole l)) (opened_none begun first) (wrote_nothing taken calls out)
  wrote_no_text out (text ∷ texts) none = absurd (cc none)

  -- the first part is cut short
  cut_first : (part rest all : List (List ℕ)) (code : ℕ) (old new : S) → part ++ rest ≡ all
      → IsCutIn taken calls old new (opened_unless begun first (map writes part)) code
      → IsCutIn taken calls old new (opened_unless begun first (map writes all)) code
  cut_first part rest all code old new parts cut =
      cut_as taken calls old new _ _ code
      (opened-append begun first part rest
      ∙ ap (λ (l : List (List ℕ)). opened_unless begun first (map writes l)) parts)
      (cut_more taken calls old new (opened_unless begun first (map writes part)) _ code cut)

  pub written_none : (out : S) (all : List (List ℕ)) → IsWritten taken calls first begun out out begun all all
  written_none out all = record {
    texts = [];
    parts = refl;
    wrote = wrote_no_text out [] refl;
    begun_is = sym (or_false begun);
  }

  -- the first part is written whole
  pub rounds_written : (old new : S) (now : Bool) (texts left all : List (List ℕ)) → texts ++ left ≡ all
      → Wrote taken calls old new (whole (opened_unless begun first (map writes texts)))
      → now ≡ (begun || has_text (map writes texts)) → IsWritten taken calls first begun old new now left all
  rounds_written old new now texts left all parts wrote is =
      record { texts = texts; parts = parts; wrote = wrote; begun_is = is }

  -- one more part
  pub written_more : (old mid new : S) (now after : Bool) (part rest left all : List (List ℕ)) → left ≡ part ++ rest
      → IsWritten taken calls first begun old mid now left all
      → Wrote taken calls mid new (whole (opened_unless now first (map writes part)))
      → after ≡ (now || has_text (map writes part)) → IsWritten taken calls first begun old new after rest all
  written_more old mid new now after part rest left all is w more after_is = record {
    texts = w.texts ++ part;
    parts = append_assoc w.texts part rest ∙ ap (λ l. w.texts ++ l) (sym is) ∙ w.parts;
    wrote = subst (λ l. Wrote taken calls old new (whole l)) (opened-append begun first w.texts part)
        (wrote_then taken calls old mid new (opened_unless begun first (map writes w.texts))
        (whole (opened_unless (begun || has_text (map writes w.texts)) first (map writes part))) w.wrote
        (subst (λ (t : Bool). Wrote taken calls mid new (whole (opened_unless t first (map writes part))))
        w.begun_is more));
    begun_is = after_is ∙ ap (λ (t : Bool). t || has_text (map writes part)) w.begun_is
        ∙ begun-append begun w.texts part;
  }

  written_texts : (old new : S) (now : Bool) (all : List (List ℕ))
      → (w : IsWritten taken calls first begun old new now [] all) → w.texts ≡ all
  written_texts old new now all w = sym (append-nil w.texts) ∙ w.parts

  pub written_all : (old new : S) (now : Bool) (all : List (List ℕ))
      → IsWritten taken calls first begun old new now [] all
      → Wrote taken calls old new (whole (opened_unless begun first (map writes all)))
  written_all old new now all w =
      subst (λ (l : List (List ℕ)). Wrote taken calls old new (whole (opened_unless begun first (map writes l))))
      (written_texts old new now all w) w.wrote

  pub written_begun : (old new : S) (now : Bool) (all : List (List ℕ))
      → IsWritten taken calls first begun old new now [] all → now ≡ (begun || has_text (map writes all))
  written_begun old new now all w =
      w.begun_is ∙ ap (λ (l : List (List ℕ)). begun || has_text (map writes l)) (written_texts old new now all w)

  -- a part that has a text is cut short
  pub written_cut : (old mid new : S) (now : Bool) (part rest left all : List (List ℕ)) (code : ℕ)
      → left ≡ part ++ rest → IsWritten taken calls first begun old mid now left all
      → IsCutIn taken calls mid new (opened_unless now first (map writes part)) code → (part ≡ [] → ⊥)
      → IsCutIn taken calls old new (opened_unless begun first (map writes all)) code
  written_cut old mid new now part rest left all code is w cut some =
      let before = begun || has_text (map writes w.texts) in
      cut_first (w.texts ++ part) rest all code old new
      (append_assoc w.texts part rest ∙ ap (λ l. w.texts ++ l) (sym is) ∙ w.parts)
      (cut_as taken calls old new _ _ code (opened-append begun first w.texts part)
      (cut_then taken calls old mid new (opened_unless begun first (map writes w.texts))
      (opened_unless before first (map writes part)) code w.wrote
      (subst (λ (t : Bool). IsCutIn taken calls mid new (opened_unless t first (map writes part)) code) w.begun_is cut)
      (opened_some before first part some)))

  -- behind texts that are written a text is left, with which the calls end
  cut_before_last : (old mid new : S) (now : Bool) (left all : List (List ℕ)) (last : Call) (code : ℕ)
      → IsWritten taken calls first begun old mid now left all
      → IsCutIn taken calls mid new (opened_unless now first (map writes left) ++ last ∷ []) code
      → IsCutIn taken calls old new (opened_unless begun first (map writes all) ++ last ∷ []) code
  cut_before_last old mid new now left all last code w cut =
      let front = opened_unless begun first (map writes w.texts) in
      let back = opened_unless now first (map writes left) in
      cut_as taken calls old new _ _ code
      (sym (append_assoc front back (last ∷ []))
      ∙ ap (λ (l : List Call). l ++ last ∷ [])
      (ap (λ (t : Bool). front ++ opened_unless t first (map writes left)) w.begun_is
      ∙ opened-append begun first w.texts left
      ∙ ap (λ (l : List (List ℕ)). opened_unless begun first (map writes l)) w.parts))
      (cut_then taken calls old mid new front (back ++ last ∷ []) code w.wrote cut (not_empty back last []))

-- ---- a settle

module _ {S : Type 0} (taken : S → List ℕ) (calls : S → ℕ) (style : Style) (begun : Bool) (x : Settle)
    (silent : style.asked_in (settle x) ≡ []) where
  abbrev texts : List (List ℕ)
  texts = style.texts_in (settle x)

  calls_are : opened_unless begun style.opening (map writes texts) ≡ settle_calls style begun x
  calls_are =
      silent_calls style begun (settle x ∷ []) texts (silent, tt) (texts_alone style (settle x) texts refl)

  pub settle_wrote : (old new : S) (now : Bool) → IsWritten taken calls style.opening begun old new now [] texts
      → Wrote taken calls old new (whole (settle_calls style begun x))
  settle_wrote old new now w =
      subst (λ l. Wrote taken calls old new (whole l)) calls_are
      (written_all taken calls style.opening begun old new now texts w)

  pub settle_begun : (old new : S) (now : Bool) → IsWritten taken calls style.opening begun old new now [] texts
      → now ≡ begun_behind style begun x
  settle_begun old new now w =
      written_begun taken calls style.opening begun old new now texts w
      ∙ silent_begun style begun (settle x ∷ []) texts (silent, tt) (texts_alone style (settle x) texts refl)

  pub settle_first_cut : (old new : S) (part rest : List (List ℕ)) (code : ℕ) → part ++ rest ≡ texts
      → IsCutIn taken calls old new (opened_unless begun style.opening (map writes part)) code
      → IsCutIn taken calls old new (settle_calls style begun x) code
  settle_first_cut old new part rest code parts cut =
      cut_as taken calls old new _ _ code calls_are
      (cut_first taken calls style.opening begun part rest texts code old new parts cut)

  pub settle_last_cut : (old mid new : S) (now : Bool) (part left : List (List ℕ)) (code : ℕ) → left ≡ part
      → IsWritten taken calls style.opening begun old mid now left texts
      → IsCutIn taken calls mid new (opened_unless now style.opening (map writes part)) code → (part ≡ [] → ⊥)
      → IsCutIn taken calls old new (settle_calls style begun x) code
  settle_last_cut old mid new now part left code is w cut some =
      cut_as taken calls old new _ _ code calls_are
      (written_cut taken calls style.opening begun old mid new now part [] left texts code (is ∙ sym (append-nil part))
      w cut some)

  -- ---- and the fault in which it ended

  pub failed_cut : (old mid new : S) (now : Bool) (part rest left : List (List ℕ)) (f : Fault) (code : ℕ)
      → left ≡ part ++ rest → IsWritten taken calls style.opening begun old mid now left texts
      → IsCutIn taken calls mid new (opened_unless now style.opening (map writes part)) code
      → Printed taken calls old new true
      (record { calls = settle_calls style begun x ++ writes (fault_text f) ∷ []; end = Some f }) code
  failed_cut old mid new now part rest left f code is w cut =
      let last = writes (fault_text f) in
      printed_cut taken calls true old new (settle_calls style begun x ++ last ∷ []) (Some f) code
      (λ told none. not_empty (settle_calls style begun x) last [] none)
      (cut_as taken calls old new _ _ code (ap (λ (l : List Call). l ++ last ∷ []) calls_are)
      (cut_before_last taken calls style.opening begun old mid new now left texts last code w
      (cut_more taken calls mid new (opened_unless now style.opening (map writes left)) (last ∷ []) code
      (cut_first taken calls style.opening now part rest left code mid new (sym is) cut))))

  pub failed_printed : (old mid new : S) (now : Bool) (f : Fault) (code : ℕ)
      → IsWritten taken calls style.opening begun old mid now [] texts
      → Printed taken calls mid new true (fault_doing f) code
      → Printed taken calls old new true
      (record { calls = settle_calls style begun x ++ writes (fault_text f) ∷ []; end = Some f }) code
  failed_printed old mid new now f code w printed =
      printed_then taken calls true old mid new (settle_calls style begun x) (writes (fault_text f) ∷ []) (Some f) code
      (settle_wrote old mid now w) printed
