-- The lines of bytes, one by one.
use Rattle.std.proofs.Common.{◌≡◌, ◌∙◌, ℕ, ◌+◌, ◌-◌, ⊎_elim, length-drop, if◌then◌else◌, ◌<◌, ◌≤◌, List, [], ◌∷◌, length, take, drop, Bool, false, refl, sym, ap, arith}
use Rattle.std.specs.Prelude.{All}
use Rattle.std.proofs.lemmas.Bool.{cases_lt, le-ltb, lt-ltb, ne_eqb}
use Rattle.std.proofs.lemmas.List.{drop_all, take_all, drop-drop}
use Rattle.std.proofs.lemmas.List.Sums.{fails_before_first}
use Rattle.std.proofs.lemmas.List.Splits.{slice_split_first, slice_split_none, length-slice_split}
use Rattle.std.specs.List.{position_or_len, before_first, after_first, slice_split}
use Rattle.std.specs.Str.Lines.{lines, lines_of_parts, strip_carriage_return}
use Rattle.dss_script.specs.Lines.{is_line_feed, first_line}
use Rattle.dss_script.specs.Readings.{first_of, rest_of}

parts_cons : (part : List ℕ) (parts : List (List ℕ)) → 0 < length parts
    → lines_of_parts (part ∷ parts) ≡ strip_carriage_return part ∷ lines_of_parts parts
parts_cons part [] h = absurd (omega arith)
parts_cons part (next ∷ more) h = refl

fails_all : (p : ℕ → Bool) (xs : List ℕ) → length xs ≤ position_or_len p xs → All (λ x. p x ≡ false) xs
fails_all p xs h = λ k d less. fails_before_first p xs k d (omega arith)

-- a list without a line feed is its own last line
last_line : (bs : List ℕ) → 0 < length bs → lines_of_parts (bs ∷ []) ≡ bs ∷ []
last_line [] h = absurd (omega arith)
last_line (b ∷ bs) h = ap (λ t. if t then [] else (b ∷ bs) ∷ []) (ne_eqb (length (b ∷ bs)) 0 (λ e. omega arith))

pub lines_cons : (bs : List ℕ) → 0 < length bs → lines bs ≡ first_line bs ∷ lines (after_first is_line_feed bs)
lines_cons bs h =
    ⊎_elim (λ (found : position_or_len is_line_feed bs < length bs).
    let split : slice_split is_line_feed bs
    ≡ before_first is_line_feed bs ∷ slice_split is_line_feed (after_first is_line_feed bs) =
    slice_split_first is_line_feed bs 0 found in
    let some : 0 < length (slice_split is_line_feed (after_first is_line_feed bs)) =
    omega (arith, length-slice_split is_line_feed (after_first is_line_feed bs)) in
    ap lines_of_parts split
    ∙ parts_cons (before_first is_line_feed bs) (slice_split is_line_feed (after_first is_line_feed bs)) some
    ∙ ap (λ b.
    (if b then strip_carriage_return (before_first is_line_feed bs) else bs) ∷ lines (after_first is_line_feed bs))
    (sym (lt-ltb _ _ found)))
    (λ (none : length bs ≤ position_or_len is_line_feed bs).
    let over : after_first is_line_feed bs ≡ [] = drop_all (position_or_len is_line_feed bs + 1) bs (omega arith) in
    ap lines_of_parts (slice_split_none is_line_feed bs (fails_all is_line_feed bs none)) ∙ last_line bs h
    ∙ ap (λ ls. bs ∷ lines ls) (sym over)
    ∙ ap (λ b.
    (if b then strip_carriage_return (before_first is_line_feed bs) else bs) ∷ lines (after_first is_line_feed bs))
    (sym (le-ltb _ _ none)))
    (cases_lt (position_or_len is_line_feed bs) (length bs))

pub no_line : (bs : List ℕ) → length bs ≡ 0 → length (lines bs) ≡ 0
no_line [] h = refl
no_line (b ∷ bs) h = absurd (omega arith)

pub some_line : (bs : List ℕ) → 0 < length bs → 0 < length (lines bs)
some_line bs h = rw (lines_cons bs h) (omega arith)

pub next_is : (bs : List ℕ) → 0 < length (lines bs) → first_of (lines bs) ≡ first_line bs
next_is [] h = absurd (omega arith)
next_is (b ∷ bs) h = ap first_of (lines_cons (b ∷ bs) (omega arith))

pub rest_is : (bs : List ℕ) → 0 < length (lines bs) → rest_of (lines bs) ≡ lines (after_first is_line_feed bs)
rest_is [] h = absurd (omega arith)
rest_is (b ∷ bs) h = ap rest_of (lines_cons (b ∷ bs) (omega arith))

-- what is left of a list, found again by its length
pub back_from_end : {X : Type 0} (xs : List X) (m : ℕ) → drop (length xs - length (drop m xs)) xs ≡ drop m xs
back_from_end xs m =
    ⊎_elim
    (λ (over : length xs < m). let none : drop m xs ≡ [] = drop_all m xs (omega arith) in
    let end : length (drop m xs) ≡ 0 = ap length none in
    drop_all (length xs - length (drop m xs)) xs (omega arith) ∙ sym none)
    (λ (within : m ≤ length xs). ap (λ k. drop k xs) (omega (arith, length-drop m xs)))
    (cases_lt (length xs) m)

-- what is left after the first line of the bytes from a place on
pub advanced_is : (bytes whole after : List ℕ) (at n : ℕ)
    → after ≡ after_first is_line_feed (take (length whole - at) (drop at whole)) → whole ≡ bytes → n ≡ length bytes
    → 0 < length (lines (drop at bytes)) → lines (drop (n - length after) bytes) ≡ rest_of (lines (drop at bytes))
advanced_is bytes whole after at n e₁ e₂ e₃ some =
    let part : take (length whole - at) (drop at whole) ≡ drop at bytes =
    take_all (length whole - at) (drop at whole) (omega (arith, length-drop at whole)) ∙ ap (drop at) e₂ in
    let m : ℕ = at + (position_or_len is_line_feed (drop at bytes) + 1) in
    let after_is : after ≡ after_first is_line_feed (drop at bytes) = e₁ ∙ ap (after_first is_line_feed) part in
    let further : after ≡ drop m bytes = after_is ∙ drop-drop (position_or_len is_line_feed (drop at bytes) + 1) at bytes in
    ap lines (ap (λ k. drop (k - length after) bytes) e₃ ∙ ap (λ xs. drop (length bytes - length xs) bytes) further
    ∙ back_from_end bytes m ∙ sym further ∙ after_is)
    ∙ sym (rest_is (drop at bytes) some)
