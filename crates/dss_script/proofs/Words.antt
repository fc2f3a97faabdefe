-- Steps along a word and along a line.
use Rattle.std.proofs.Common.{◌≡◌, ◌∙◌, ℕ, zero, suc, ◌+◌, ◌<◌, ◌≤◌, Bool, true, false, List, [], ◌∷◌, ◌++◌, length, drop, get_or, refl, sym, ap, arith, Ok, Err, Result, if◌then◌else◌, add-one, drop-cons}
use Rattle.std.specs.Str.{IsUtf8, is_utf8}
use Rattle.std.proofs.lemmas.Bool.{false_from_ne_true}
use Rattle.std.proofs.lemmas.Str.{IsUtf8-from_is_utf8, is_utf8-from_IsUtf8}
use Rattle.dss_model.specs.dss_lexer.declared.pair.Pair.{Pair}
use Rattle.dss_model.specs.dss_lexer.declared.fault.LineFault.{LineFault}
use Rattle.dss_model.specs.dss_lexer.declared.fault.LineFault.TheVariants as fault
use Rattle.dss_model.proofs.CallerLemmas.dss_lexer.{after, joined}
use Rattle.dss_script.specs.Cutting.{word_len, ends_word, skip_separators, ends_line, item_at, items_of}

pub word_ends : (is_name : Bool) (cs : List ℕ) → ends_word is_name cs ≡ true → word_len is_name cs ≡ 0
word_ends is_name [] h = refl
word_ends is_name (c ∷ cs) h = ap (λ b. if b then 0 else word_len is_name cs + 1) h

one_on : (is_name : Bool) (c : ℕ) (cs : List ℕ) → ends_word is_name (c ∷ cs) ≡ false
    → word_len is_name (c ∷ cs) ≡ word_len is_name cs + 1
one_on is_name c cs h = ap (λ b. if b then 0 else word_len is_name cs + 1) h

pub word_goes : (is_name : Bool) (cs : List ℕ) (i : ℕ) → i < length cs → ends_word is_name (drop i cs) ≡ false
    → word_len is_name (drop i cs) ≡ word_len is_name (drop (i + 1) cs) + 1
word_goes is_name cs i less h =
    let e : drop i cs ≡ get_or cs i 0 ∷ drop (i + 1) cs = rw add-one (drop-cons cs i 0 less) in
    ap (word_len is_name) e ∙ one_on is_name (get_or cs i 0) (drop (i + 1) cs) (sym (ap (ends_word is_name) e) ∙ h)

pub word_over : (is_name : Bool) (cs : List ℕ) (i : ℕ) → length cs ≤ i → word_len is_name (drop i cs) ≡ 0
word_over is_name [] zero h = refl
word_over is_name [] (suc i) h = refl
word_over is_name (c ∷ cs) zero h = absurd (omega arith)
word_over is_name (c ∷ cs) (suc i) h = word_over is_name cs i (omega arith)

pub read_text : (line text : List ℕ) → (text ≡ line) × IsUtf8 line
    → ◌≡◌ {A = Result (List ℕ) LineFault} (if is_utf8 line then Ok line else Err fault.NotText) (Ok text)
read_text line text h = ap (λ b. if b then Ok line else Err fault.NotText) (is_utf8-from_IsUtf8 line h.1) ∙ ap Ok (sym h.0)

pub read_no_text : (line : List ℕ) → ¬ (IsUtf8 line)
    → ◌≡◌ {A = Result (List ℕ) LineFault} (if is_utf8 line then Ok line else Err fault.NotText) (Err fault.NotText)
read_no_text line h = ap (λ b. if b then Ok line else Err fault.NotText) (false_from_ne_true (is_utf8 line) (λ e. h (IsUtf8-from_is_utf8 line e)))

-- no text holds nothing
pub items_end : (n : ℕ) (cs : List ℕ) → ends_line (skip_separators cs) ≡ true → items_of n cs ≡ Ok []
unfolding items_of
items_end zero cs h = refl
items_end (suc n) cs h = rw h refl

pub items_none : (cs : List ℕ) → items_of 0 cs ≡ Ok []
unfolding items_of
items_none cs = refl

pub items_more : (n : ℕ) (cs rest : List ℕ) (pair : Pair) (front : List Pair) → ends_line (skip_separators cs) ≡ false
    → item_at (skip_separators cs) ≡ Ok (pair, rest)
    → after (front ++ pair ∷ []) (items_of n rest) ≡ after front (items_of (suc n) cs)
unfolding items_of
items_more n cs rest pair front h e = rw (h, e) (joined front pair (items_of n rest))

pub items_fault : (n : ℕ) (cs : List ℕ) (front : List Pair) (e : LineFault) → ends_line (skip_separators cs) ≡ false
    → item_at (skip_separators cs) ≡ Err e
    → after front (items_of (suc n) cs) ≡ Err e
unfolding items_of
items_fault n cs front e h was = rw (h, was) refl
