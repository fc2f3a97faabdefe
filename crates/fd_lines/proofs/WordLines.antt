-- Each line of a word and numbers has one text, and a text one list of lines.
use Rattle.std.proofs.Common.{◌≡◌, ℕ, ◌<◌, false, ℤ, List, [], ◌∷◌, ◌++◌, length, All, ◌⊎◌, inl, inr, Option, Some, None, refl, ap, sym, subst, ◌∙◌, arith}
use Rattle.std.specs.List.{AllByRecursion, slice_split, join_with_byte}
use Rattle.std.proofs.lemmas.Bool.{cases_Bool, eqb-true}
use Rattle.std.proofs.lemmas.List.Elements.{All-from_recursion}
use Rattle.std.proofs.lemmas.List.{append_assoc}
use Rattle.std.proofs.lemmas.List.Concat.{flat_map-cons}
use Rattle.std.proofs.lemmas.List.Splits.{slice_split_at, slice_split_none, length-slice_split, join_with_byte-slice_split}
use Rattle.fd_lines.specs.Cuts.{Lacks}
use Rattle.fd_lines.specs.Numbers.{IsNumber, numbers_of}
use Rattle.fd_lines.specs.Lines.{is_blank, is_feed, text_by}
use Rattle.fd_lines.specs.WordLines.{IsLine, IsWord, Line, bytes_of, line, line_bytes, line_in, line_of, line_with, lines_in, lines_of, other, rest_of}
use Rattle.fd_lines.proofs.Inked.{above_by, lacks_all, split_by}
use Rattle.fd_lines.proofs.Numbers.{numbers_again, numbers_found}

abbrev pub IsKnown : Line → Type 0
IsKnown (line word numbers) = Unit {0}
IsKnown other = ⊥

pub line_parted : (text word : List ℕ) (fields : List (List ℕ)) → slice_split is_blank text ≡ word ∷ fields
    → line_with word (numbers_of fields) ≡ line_of text
unfolding line_of
line_parted text word fields e = sym (ap line_in e)

-- ---- a line is read again

line_again : (word : List ℕ) (numbers : List ℤ) → IsWord word → AllByRecursion IsNumber numbers
    → line_of (text_by word numbers) ≡ line word numbers
unfolding line_of
line_again word numbers h k = ap line_in (split_by word h numbers k) ∙ ap (line_with word) (numbers_again numbers k)

-- ---- what is read is a line's text

with_found : (text word : List ℕ) (fields : List (List ℕ)) (found : List ℕ) (numbers : List ℤ) (o : Option (List ℤ))
    → slice_split is_blank text ≡ word ∷ fields → numbers_of fields ≡ o → line_with word o ≡ line found numbers
    → (text ≡ text_by found numbers) × AllByRecursion IsNumber numbers
with_found text word fields found numbers None s f e = absurd cc
with_found text word fields found numbers (Some zs) s f e =
    let w : word ≡ found = cc in
    let ns : zs ≡ numbers = cc in
    let a = numbers_found fields zs f in (
      sym (join_with_byte-slice_split 32 text) ∙ ap (join_with_byte 32) (s ∙ ap (λ (fs : List (List ℕ)). word ∷ fs) a.0)
          ∙ ap (λ (v : List ℕ). text_by v zs) w ∙ ap (text_by found) ns,
      subst (AllByRecursion IsNumber) ns a.1,
    )

in_found : (text : List ℕ) (parts : List (List ℕ)) (found : List ℕ) (numbers : List ℤ)
    → slice_split is_blank text ≡ parts → line_in parts ≡ line found numbers
    → (text ≡ text_by found numbers) × AllByRecursion IsNumber numbers
in_found text [] found numbers s e = absurd cc
in_found text (word ∷ fields) found numbers s e = with_found text word fields found numbers (numbers_of fields) s refl e

pub line_found : (text word : List ℕ) (numbers : List ℤ) → line_of text ≡ line word numbers
    → (text ≡ text_by word numbers) × AllByRecursion IsNumber numbers
unfolding line_of
line_found text word numbers e = in_found text (slice_split is_blank text) word numbers refl e

-- ---- many lines

split_some : (bytes : List ℕ) → 0 < length (slice_split is_feed bytes)
split_some bytes = omega (arith, length-slice_split is_feed bytes)

in_cons : (text : List ℕ) (parts : List (List ℕ)) → 0 < length parts
    → lines_in (text ∷ parts) ≡ line_of text ∷ lines_in parts
in_cons text [] h = absurd (omega (arith, h))
in_cons text (part ∷ parts) h = refl

-- a text, its line feed, and more
of_cons : (text bytes : List ℕ) → All (λ c. is_feed c ≡ false) text
    → lines_of (text ++ 10 ∷ bytes) ≡ line_of text ∷ lines_of bytes
unfolding lines_of
of_cons text bytes h = ap lines_in (slice_split_at is_feed text 10 bytes h refl)
    ∙ in_cons text (slice_split is_feed bytes) (split_some bytes)

pub lines_cut : (bytes text more : List ℕ) → Lacks 10 text → bytes ≡ text ++ 10 ∷ more
    → lines_of bytes ≡ line_of text ∷ lines_of more
lines_cut bytes text more h e = ap lines_of e ∙ of_cons text more h

pub of_last : (bytes : List ℕ) → Lacks 10 bytes → lines_of bytes ≡ rest_of bytes
unfolding lines_of
of_last bytes h = ap lines_in (slice_split_none is_feed bytes h)

bytes_cons : (word : List ℕ) (numbers : List ℤ) (lines : List Line) (tail : List ℕ)
    → bytes_of (line word numbers ∷ lines) ++ tail ≡ text_by word numbers ++ 10 ∷ (bytes_of lines ++ tail)
bytes_cons word numbers lines tail =
    ap (λ (x : List ℕ). x ++ tail) (flat_map-cons line_bytes (line word numbers) lines)
    ∙ ap (λ (x : List ℕ). x ++ tail) (append_assoc (text_by word numbers) (10 ∷ []) (bytes_of lines))
    ∙ append_assoc (text_by word numbers) (10 ∷ bytes_of lines) tail

pub lines_again : (lines : List Line) (tail : List ℕ) → AllByRecursion IsLine lines
    → lines_of (bytes_of lines ++ tail) ≡ lines ++ lines_of tail
lines_again [] tail h = refl
lines_again (other ∷ lines) tail h = absurd h.0
lines_again (line word numbers ∷ lines) tail h =
    ap lines_of (bytes_cons word numbers lines tail)
    ∙ of_cons (text_by word numbers) (bytes_of lines ++ tail)
    (lacks_all 10 (text_by word numbers) (above_by word h.0.0 numbers h.0.1))
    ∙ ap (λ (l : Line). l ∷ lines_of (bytes_of lines ++ tail)) (line_again word numbers h.0.0 h.0.1)
    ∙ ap (λ (ls : List Line). line word numbers ∷ ls) (lines_again lines tail h.1)

-- bytes up to the first line feed, if there is one
record FirstFeed (bytes : List ℕ) : Type 0 where
  text : List ℕ
  more : List ℕ
  lacks : AllByRecursion (λ c. is_feed c ≡ false) text
  whole : bytes ≡ text ++ 10 ∷ more

feed_more : (c : ℕ) (bytes : List ℕ) → is_feed c ≡ false → FirstFeed bytes → FirstFeed (c ∷ bytes)
feed_more c bytes h k = record { text = c ∷ k.text; more = k.more; lacks = (h, k.lacks); whole = ap (λ (b : List ℕ). c ∷ b) k.whole }

first_feed : (bytes : List ℕ) → AllByRecursion (λ c. is_feed c ≡ false) bytes ⊎ FirstFeed bytes
first_feed [] = inl tt
first_feed (c ∷ bytes) =
    let rest = first_feed bytes in
    elim (cases_Bool (is_feed c)) [
      | inl is ↦ inr (record { text = []; more = bytes; lacks = tt; whole = ap (λ (d : ℕ). d ∷ bytes) (eqb-true c 10 is) })
      | inr isnt ↦ elim rest [ inl none ↦ inl (isnt, none) | inr k ↦ inr (feed_more c bytes isnt k) ]
    ]

rest_known : (bytes : List ℕ) (l : Line) (lines : List Line) → rest_of bytes ≡ l ∷ lines → IsKnown l → ⊥
rest_known [] l lines e h = absurd cc
rest_known (c ∷ bytes) l lines e h = let o : other ≡ l = cc in subst IsKnown (sym o) h

-- bytes that begin with the texts of these lines
pub record Begins (bytes : List ℕ) (lines rest : List Line) : Type 0 where
  pub tail : List ℕ
  pub whole : bytes ≡ bytes_of lines ++ tail
  pub rest_is : lines_of tail ≡ rest

begins_more : (bytes : List ℕ) (l : Line) (lines rest : List Line) (k : FirstFeed bytes) → line_of k.text ≡ l
    → IsKnown l → Begins k.more lines rest → Begins bytes (l ∷ lines) rest
begins_more bytes other lines rest k e h b = absurd h
begins_more bytes (line word numbers) lines rest k e h b = record {
  tail = b.tail;
  whole = k.whole ∙ ap (λ (t : List ℕ). t ++ 10 ∷ k.more) (line_found k.text word numbers e).0
      ∙ ap (λ (t : List ℕ). text_by word numbers ++ 10 ∷ t) b.whole ∙ sym (bytes_cons word numbers lines b.tail);
  rest_is = b.rest_is;
}

pub lines_found : (lines rest : List Line) (bytes : List ℕ) → AllByRecursion IsKnown lines
    → lines_of bytes ≡ lines ++ rest → Begins bytes lines rest
lines_found [] rest bytes h e = record { tail = bytes; whole = refl; rest_is = e }
lines_found (l ∷ lines) rest bytes h e =
    let go = lines_found lines rest in
    elim (first_feed bytes) [
      | inl none ↦ absurd (rest_known bytes l (lines ++ rest)
          (sym (of_last bytes (All-from_recursion (λ c. is_feed c ≡ false) bytes none)) ∙ e) h.0)
      | inr k ↦
          let f : line_of k.text ∷ lines_of k.more ≡ l ∷ (lines ++ rest) =
          sym (of_cons k.text k.more (All-from_recursion (λ c. is_feed c ≡ false) k.text k.lacks))
          ∙ sym (ap lines_of k.whole) ∙ e in
          let first : line_of k.text ≡ l = cc in
          let others : lines_of k.more ≡ lines ++ rest = cc in
          begins_more bytes l lines rest k first h.0 (go k.more h.1 others)
    ]
