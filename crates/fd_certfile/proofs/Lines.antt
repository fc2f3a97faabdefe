-- Each line has one text, and a text one list of lines.
use Rattle.std.proofs.Common.{◌≡◌, ℕ, ◌<◌, false, ℤ, List, [], ◌∷◌, ◌++◌, length, All, ◌⊎◌, inl, inr, Option, Some, None, refl, ap, sym, subst, ◌∙◌, arith, Bool, true, cond}
use Rattle.std.specs.Prelude.{map, codes}
use Rattle.std.specs.List.{AllByRecursion, slice_split, join_with_byte}
use Rattle.std.specs.Fmt.{signed_decimal}
use Rattle.std.proofs.lemmas.Bool.{cond_both, cases_Bool, eqb-true}
use Rattle.std.proofs.lemmas.List.Elements.{All-from_recursion}
use Rattle.std.proofs.lemmas.List.{append_assoc}
use Rattle.std.proofs.lemmas.List.Concat.{flat_map-cons}
use Rattle.std.proofs.lemmas.List.Splits.{slice_split_at, slice_split_none, length-slice_split, join_with_byte-slice_split}
use Rattle.fd_lines.specs.Numbers.{text_eq, IsNumber, numbers_of}
use Rattle.fd_certfile.specs.Lines.{Line, header, solution, state, row, act, end, other, is_blank, is_feed, word_of, numbers_in, text_of, bytes_of, header_of, solution_of, state_of, act_of, end_of, line_by, line_with, line_in, line_of, rest_of, lines_in, lines_of, IsKnown, IsLine}
use Rattle.fd_lines.proofs.CallerLemmas.{Above, above_by, above_tested, lacks_all, numbers_again, numbers_found, same_from, some_field, split_by}
use Rattle.fd_certfile.specs.Views.{line_by_fields, or_other}

-- ---- the text of a line

above_word : (line : Line) → Above 32 (word_of line)
above_word (header v) = above_tested 32 (word_of (header v)) refl
above_word (solution n h r s) = above_tested 32 (word_of (solution n h r s)) refl
above_word (state p c r m) = above_tested 32 (word_of (state p c r m)) refl
above_word (row fields) = above_tested 32 (word_of (row fields)) refl
above_word (act t c s) = above_tested 32 (word_of (act t c s)) refl
above_word end = above_tested 32 (word_of end) refl
above_word other = tt

split_text : (line : Line) → AllByRecursion IsNumber (numbers_in line)
    → slice_split is_blank (text_of line) ≡ word_of line ∷ map signed_decimal (numbers_in line)
split_text line h = split_by (word_of line) (above_word line) (numbers_in line) h

above_text : (line : Line) → AllByRecursion IsNumber (numbers_in line) → Above 10 (text_of line)
above_text line h = above_by (word_of line) (above_word line) (numbers_in line) h

-- ---- a line is read again

by_again : (line : Line) → IsKnown line → line_by (word_of line) (numbers_in line) ≡ line
unfolding line_by
by_again (header v) h = refl
by_again (solution n o r s) h = refl
by_again (state p c r m) h = refl
by_again (row fields) h = refl
by_again (act t c s) h = refl
by_again end h = refl
by_again other h = absurd h

pub line_again : (line : Line) → IsLine line → line_of (text_of line) ≡ line
unfolding line_of
line_again line h = ap line_in (split_text line h.1)
    ∙ ap (line_with (word_of line)) (numbers_again (numbers_in line) h.1) ∙ by_again line h.0

-- ---- what is read is a line's text

abbrev IsBy : List ℕ → List ℤ → Line → Type 0
IsBy word numbers line = IsKnown line → (word ≡ word_of line) × (numbers ≡ numbers_in line)

header_by : (word : List ℕ) → word ≡ codes "cert" → (numbers : List ℤ) → IsBy word numbers (header_of numbers)
header_by word e [] h = absurd h
header_by word e (a ∷ []) h = (e, refl)
header_by word e (a ∷ b ∷ ns) h = absurd h

solution_by : (word : List ℕ) → word ≡ codes "solution" → (numbers : List ℤ) → IsBy word numbers (solution_of numbers)
solution_by word e [] h = absurd h
solution_by word e (a ∷ []) h = absurd h
solution_by word e (a ∷ b ∷ []) h = absurd h
solution_by word e (a ∷ b ∷ c ∷ []) h = absurd h
solution_by word e (a ∷ b ∷ c ∷ d ∷ []) h = (e, refl)
solution_by word e (a ∷ b ∷ c ∷ d ∷ f ∷ ns) h = absurd h

state_by : (word : List ℕ) → word ≡ codes "x" → (numbers : List ℤ) → IsBy word numbers (state_of numbers)
state_by word e [] h = absurd h
state_by word e (a ∷ []) h = absurd h
state_by word e (a ∷ b ∷ []) h = absurd h
state_by word e (a ∷ b ∷ c ∷ []) h = absurd h
state_by word e (a ∷ b ∷ c ∷ d ∷ []) h = (e, refl)
state_by word e (a ∷ b ∷ c ∷ d ∷ f ∷ ns) h = absurd h

act_by : (word : List ℕ) → word ≡ codes "act" → (numbers : List ℤ) → IsBy word numbers (act_of numbers)
act_by word e [] h = absurd h
act_by word e (a ∷ []) h = absurd h
act_by word e (a ∷ b ∷ []) h = absurd h
act_by word e (a ∷ b ∷ c ∷ []) h = (e, refl)
act_by word e (a ∷ b ∷ c ∷ d ∷ ns) h = absurd h

end_by : (word : List ℕ) → word ≡ codes "end" → (numbers : List ℤ) → IsBy word numbers (end_of numbers)
end_by word e [] h = (e, refl)
end_by word e (a ∷ ns) h = absurd h

by_found : (word : List ℕ) (numbers : List ℤ) → IsBy word numbers (line_by word numbers)
unfolding line_by
by_found word numbers =
    cond_both (text_eq word (codes "cert")) _ _ (IsBy word numbers) (λ e. header_by word (same_from word _ e) numbers) (λ _.
    cond_both (text_eq word (codes "solution")) _ _ (IsBy word numbers) (λ e. solution_by word (same_from word _ e) numbers) (λ _.
    cond_both (text_eq word (codes "x")) _ _ (IsBy word numbers) (λ e. state_by word (same_from word _ e) numbers) (λ _.
    cond_both (text_eq word (codes "c")) _ _ (IsBy word numbers) (λ e h. (same_from word _ e, refl)) (λ _.
    cond_both (text_eq word (codes "act")) _ _ (IsBy word numbers) (λ e. act_by word (same_from word _ e) numbers) (λ _.
    cond_both (text_eq word (codes "end")) _ _ (IsBy word numbers) (λ e. end_by word (same_from word _ e) numbers) (λ _ h. absurd h))))))

with_found : (word : List ℕ) (fields : List (List ℕ)) (o : Option (List ℤ)) → numbers_of fields ≡ o
    → IsKnown (line_with word o)
    → (word ∷ fields ≡ word_of (line_with word o) ∷ map signed_decimal (numbers_in (line_with word o)))
    × AllByRecursion IsNumber (numbers_in (line_with word o))
with_found word fields None f h = absurd h
with_found word fields (Some zs) f h =
    let a = numbers_found fields zs f in
    let b = by_found word zs h in
    let w : word ≡ word_of (line_by word zs) = b.0 in
    let ns : zs ≡ numbers_in (line_by word zs) = b.1 in
    let fs : fields ≡ map signed_decimal zs = a.0 in
    let P : List ℤ → Type 0 = λ ys. (word ∷ fields ≡ word_of (line_by word zs) ∷ map signed_decimal ys) × AllByRecursion IsNumber ys in
    subst P ns (ap (λ (v : List ℕ). v ∷ fields) w ∙ ap (λ (gs : List (List ℕ)). word_of (line_by word zs) ∷ gs) fs, a.1)

in_found : (parts : List (List ℕ)) → IsKnown (line_in parts)
    → (parts ≡ word_of (line_in parts) ∷ map signed_decimal (numbers_in (line_in parts))) × AllByRecursion IsNumber (numbers_in (line_in parts))
in_found [] h = absurd h
in_found (word ∷ fields) h = with_found word fields (numbers_of fields) refl h

pub line_found : (text : List ℕ) → IsKnown (line_of text) → (text ≡ text_of (line_of text)) × IsLine (line_of text)
unfolding line_of
line_found text h =
    let a = in_found (slice_split is_blank text) h in
    (sym (join_with_byte-slice_split 32 text) ∙ ap (join_with_byte 32) a.0, (h, a.1))

-- ---- many lines

split_some : (bytes : List ℕ) → 0 < length (slice_split is_feed bytes)
split_some bytes = omega (arith, length-slice_split is_feed bytes)

in_cons : (text : List ℕ) (parts : List (List ℕ)) → 0 < length parts
    → lines_in (text ∷ parts) ≡ line_of text ∷ lines_in parts
in_cons text [] h = absurd (omega (arith, h))
in_cons text (part ∷ parts) h = refl

-- a text, its line feed, and more
pub of_cons : (text bytes : List ℕ) → All (λ c. is_feed c ≡ false) text
    → lines_of (text ++ 10 ∷ bytes) ≡ line_of text ∷ lines_of bytes
unfolding lines_of
of_cons text bytes h = ap lines_in (slice_split_at is_feed text 10 bytes h refl)
    ∙ in_cons text (slice_split is_feed bytes) (split_some bytes)

pub of_last : (bytes : List ℕ) → All (λ c. is_feed c ≡ false) bytes → lines_of bytes ≡ rest_of bytes
unfolding lines_of
of_last bytes h = ap lines_in (slice_split_none is_feed bytes h)

bytes_cons : (line : Line) (lines : List Line) (tail : List ℕ)
    → bytes_of (line ∷ lines) ++ tail ≡ text_of line ++ 10 ∷ (bytes_of lines ++ tail)
bytes_cons line lines tail =
    ap (λ (x : List ℕ). x ++ tail) (flat_map-cons (λ l. text_of l ++ 10 ∷ []) line lines)
    ∙ ap (λ (x : List ℕ). x ++ tail) (append_assoc (text_of line) (10 ∷ []) (bytes_of lines))
    ∙ append_assoc (text_of line) (10 ∷ bytes_of lines) tail

pub lines_again : (lines : List Line) (tail : List ℕ) → AllByRecursion IsLine lines
    → lines_of (bytes_of lines ++ tail) ≡ lines ++ lines_of tail
lines_again [] tail h = refl
lines_again (line ∷ lines) tail h =
    ap lines_of (bytes_cons line lines tail)
    ∙ of_cons (text_of line) (bytes_of lines ++ tail) (lacks_all 10 (text_of line) (above_text line h.0.1))
    ∙ ap (λ (l : Line). l ∷ lines_of (bytes_of lines ++ tail)) (line_again line h.0)
    ∙ ap (λ (ls : List Line). line ∷ ls) (lines_again lines tail h.1)

-- bytes up to the first line feed, if there is one
record Cut (bytes : List ℕ) : Type 0 where
  text : List ℕ
  more : List ℕ
  lacks : AllByRecursion (λ c. is_feed c ≡ false) text
  whole : bytes ≡ text ++ 10 ∷ more

cut_more : (c : ℕ) (bytes : List ℕ) → is_feed c ≡ false → Cut bytes → Cut (c ∷ bytes)
cut_more c bytes h k = record { text = c ∷ k.text; more = k.more; lacks = (h, k.lacks); whole = ap (λ (b : List ℕ). c ∷ b) k.whole }

cut : (bytes : List ℕ) → AllByRecursion (λ c. is_feed c ≡ false) bytes ⊎ Cut bytes
cut [] = inl tt
cut (c ∷ bytes) =
    let rest = cut bytes in
    elim (cases_Bool (is_feed c)) [
      | inl is ↦ inr (record { text = []; more = bytes; lacks = tt; whole = ap (λ (d : ℕ). d ∷ bytes) (eqb-true c 10 is) })
      | inr isnt ↦ elim rest [ inl none ↦ inl (isnt, none) | inr k ↦ inr (cut_more c bytes isnt k) ]
    ]

-- some bytes have some line
pub lines_some : (bytes : List ℕ) → 0 < length bytes → 0 < length (lines_of bytes)
lines_some [] l = absurd (omega (arith, l))
lines_some (c ∷ bytes) l =
    elim (cut (c ∷ bytes)) [
      | inl none ↦ omega (arith, ap length (of_last (c ∷ bytes) (All-from_recursion (λ d. is_feed d ≡ false) (c ∷ bytes) none)))
      | inr k ↦ omega (arith, ap length (ap lines_of k.whole ∙ of_cons k.text k.more (All-from_recursion (λ d. is_feed d ≡ false) k.text k.lacks)))
    ]

rest_known : (bytes : List ℕ) (line : Line) (lines : List Line) → rest_of bytes ≡ line ∷ lines → IsKnown line → ⊥
rest_known [] line lines e h = absurd cc
rest_known (c ∷ bytes) line lines e h = let o : other ≡ line = cc in subst IsKnown (sym o) h

-- bytes that begin with the texts of these lines
pub record Begins (bytes : List ℕ) (lines rest : List Line) : Type 0 where
  pub tail : List ℕ
  pub whole : bytes ≡ bytes_of lines ++ tail
  pub rest_is : lines_of tail ≡ rest
  pub fits : AllByRecursion IsLine lines

begins_more : (bytes : List ℕ) (line : Line) (lines rest : List Line) (k : Cut bytes) → line_of k.text ≡ line
    → IsKnown line → Begins k.more lines rest → Begins bytes (line ∷ lines) rest
begins_more bytes line lines rest k e h b =
    let found = line_found k.text (subst IsKnown (sym e) h) in
    let text : k.text ≡ text_of line = found.0 ∙ ap text_of e in
    record {
      tail = b.tail;
      whole = k.whole ∙ ap (λ (t : List ℕ). t ++ 10 ∷ k.more) text ∙ ap (λ (t : List ℕ). text_of line ++ 10 ∷ t) b.whole
          ∙ sym (bytes_cons line lines b.tail);
      rest_is = b.rest_is;
      fits = (subst IsLine e found.1, b.fits);
    }

pub lines_found : (lines rest : List Line) (bytes : List ℕ) → AllByRecursion IsKnown lines
    → lines_of bytes ≡ lines ++ rest → Begins bytes lines rest
lines_found [] rest bytes h e = record { tail = bytes; whole = refl; rest_is = e; fits = tt }
lines_found (line ∷ lines) rest bytes h e =
    let go = lines_found lines rest in
    elim (cut bytes) [
      | inl none ↦ absurd (rest_known bytes line (lines ++ rest) (sym (of_last bytes (All-from_recursion (λ c. is_feed c ≡ false) bytes none)) ∙ e) h.0)
      | inr k ↦
          let f : line_of k.text ∷ lines_of k.more ≡ line ∷ (lines ++ rest) = sym
          (of_cons k.text k.more (All-from_recursion (λ c. is_feed c ≡ false) k.text k.lacks))
          ∙ sym (ap lines_of k.whole) ∙ e in
          let first : line_of k.text ≡ line = cc in
          let others : lines_of k.more ≡ lines ++ rest = cc in
          begins_more bytes line lines rest k first h.0 (go k.more h.1 others)
    ]

-- ---- the line of a text by its word and what the fields behind it spell

either : (b : Bool) (l : Line) → l ≡ other → cond b other l ≡ other
either true l e = refl
either false l e = e

-- a field that spells no number makes no line
pub by_none : (word : List ℕ) → line_by_fields word None ≡ other
unfolding line_by_fields
by_none word =
    either (text_eq word (codes "cert")) _ (either (text_eq word (codes "solution")) _ (either (text_eq word (codes "x")) _
    (either (text_eq word (codes "c")) _ (either (text_eq word (codes "act")) _ (either (text_eq word (codes "end")) other refl)))))

pub by_fields : (word : List ℕ) (o : Option (List ℤ)) → line_by_fields word o ≡ line_with word o
unfolding line_by_fields line_by
by_fields word None = by_none word
by_fields word (Some numbers) = refl

pub line_parted : (text word : List ℕ) (fields : List (List ℕ)) → slice_split is_blank text ≡ word ∷ fields
    → line_by_fields word (numbers_of fields) ≡ line_of text
unfolding line_of
line_parted text word fields e = by_fields word (numbers_of fields) ∙ sym (ap line_in e)

-- a field behind the word `end` makes no line
pub end_more : (text : List ℕ) → other ≡ or_other end_of (numbers_of (slice_split is_blank text))
end_more text = sym (some_field (or_other end_of) other refl (λ z zs. refl) text)
