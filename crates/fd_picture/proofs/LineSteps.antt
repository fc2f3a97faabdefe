-- What the bytes before a place make of the lines behind it.
use Rattle.std.proofs.Common.{◌≡◌, ◌∙◌, ◌+◌, ◌-◌, ◌<◌, ◌≤◌, ◌==◌, ◌&&◌, ℕ, List, [], ◌∷◌, ◌++◌, length, take, drop, get_or, Bool, true, false, not, refl, sym, ap, add-one, drop-cons, length-drop, arith}
use Rattle.std.proofs.Math.Seq.{take-length, take-suc}
use Rattle.std.specs.List.{onto_first}
use Rattle.std.proofs.lemmas.List.{append-nil, drop_all, take_all}
use Rattle.fd_picture.specs.Lines.{is_quoted_after, lines_from, lines_of}

-- bytes before the first of these lines
abbrev pub before : List ℕ → List (List ℕ) → List (List ℕ)
before [] lines = lines
before (c ∷ cs) lines = onto_first c (before cs lines)

pub before_push : (cs : List ℕ) (c : ℕ) (lines : List (List ℕ))
    → before (cs ++ c ∷ []) lines ≡ before cs (onto_first c lines)
before_push [] c lines = refl
before_push (d ∷ cs) c lines = ap (onto_first d) (before_push cs c lines)

pub before_line : (cs : List ℕ) (line : List ℕ) (lines : List (List ℕ))
    → before cs (line ∷ lines) ≡ (cs ++ line) ∷ lines
before_line [] line lines = refl
before_line (c ∷ cs) line lines = ap (onto_first c) (before_line cs line lines)

pub before_none : (c : ℕ) (cs : List ℕ) → before (c ∷ cs) [] ≡ (c ∷ cs) ∷ []
before_none c [] = refl
before_none c (d ∷ cs) = ap (onto_first c) (before_none d cs)

pub line_ends : (c : ℕ) (cs : List ℕ) (quoted : Bool) → ((c == 10) && not quoted) ≡ true
    → lines_from quoted (c ∷ cs) ≡ [] ∷ lines_from false cs
line_ends c cs quoted e = rw e refl

pub line_goes_on : (c : ℕ) (cs : List ℕ) (quoted : Bool) → ((c == 10) && not quoted) ≡ false
    → lines_from quoted (c ∷ cs) ≡ onto_first c (lines_from (is_quoted_after c quoted) cs)
line_goes_on c cs quoted e = rw e refl

pub none_read : (bytes : List ℕ) → lines_of bytes ≡ before (take 0 bytes) (lines_from false (drop 0 bytes))
unfolding lines_of
none_read bytes = refl

pub byte_next : (bytes : List ℕ) (i : ℕ) → i < length bytes → drop i bytes ≡ get_or bytes i 0 ∷ drop (i + 1) bytes
byte_next bytes i h = rw add-one (drop-cons bytes i 0 h)

pub taken_next : (bytes : List ℕ) (i : ℕ) → i < length bytes
    → take (i + 1) bytes ≡ take i bytes ++ get_or bytes i 0 ∷ []
taken_next bytes i h = rw add-one (take-suc bytes i 0 h)

-- a byte that ends no line
pub byte_read : (bytes : List ℕ) (i : ℕ) (quoted next : Bool) (lines : List (List ℕ)) → i < length bytes
    → ((get_or bytes i 0 == 10) && not quoted) ≡ false
    → next ≡ is_quoted_after (get_or bytes i 0) quoted
    → lines ≡ before (take i bytes) (lines_from quoted (drop i bytes))
    → lines ≡ before (take (i + 1) bytes) (lines_from next (drop (i + 1) bytes))
byte_read bytes i quoted next lines h goes e so =
    so
    ∙ ap (λ rest. before (take i bytes) (lines_from quoted rest)) (byte_next bytes i h)
    ∙ ap (before (take i bytes)) (line_goes_on (get_or bytes i 0) (drop (i + 1) bytes) quoted goes)
    ∙ ap (λ q. before (take i bytes) (onto_first (get_or bytes i 0) (lines_from q (drop (i + 1) bytes)))) (sym e)
    ∙ sym (before_push (take i bytes) (get_or bytes i 0) (lines_from next (drop (i + 1) bytes)))
    ∙ ap (λ taken. before taken (lines_from next (drop (i + 1) bytes))) (sym (taken_next bytes i h))

pub whole_tail : (bytes : List ℕ) (k : ℕ) → take (length bytes - k) (drop k bytes) ≡ drop k bytes
whole_tail bytes k = ap (λ n. take n (drop k bytes)) (sym (length-drop k bytes)) ∙ take-length (drop k bytes)

-- a byte that ends a line
pub line_read : (bytes : List ℕ) (i : ℕ) (quoted : Bool) (lines : List (List ℕ)) → i < length bytes
    → ((get_or bytes i 0 == 10) && not quoted) ≡ true
    → lines ≡ before (take i bytes) (lines_from quoted (drop i bytes))
    → lines ≡ take i bytes ∷ lines_of (take (length bytes - (i + 1)) (drop (i + 1) bytes))
unfolding lines_of
line_read bytes i quoted lines h ends so =
    so
    ∙ ap (λ rest. before (take i bytes) (lines_from quoted rest)) (byte_next bytes i h)
    ∙ ap (before (take i bytes)) (line_ends (get_or bytes i 0) (drop (i + 1) bytes) quoted ends)
    ∙ before_line (take i bytes) [] (lines_from false (drop (i + 1) bytes))
    ∙ ap (λ line. line ∷ lines_from false (drop (i + 1) bytes)) (append-nil (take i bytes))
    ∙ ap (λ rest. take i bytes ∷ lines_from false rest) (sym (whole_tail bytes (i + 1)))

before_end : (bytes : List ℕ) → 0 < length bytes → before bytes [] ≡ bytes ∷ []
before_end [] h = absurd (omega arith)
before_end (c ∷ cs) h = before_none c cs

-- the last line, which no line feed ends
pub last_read : (bytes : List ℕ) (i : ℕ) (quoted : Bool) (lines : List (List ℕ)) → 0 < length bytes → length bytes ≤ i
    → lines ≡ before (take i bytes) (lines_from quoted (drop i bytes)) → lines ≡ bytes ∷ lines_of []
unfolding lines_of
last_read bytes i quoted lines some h so =
    so
    ∙ ap (λ taken. before taken (lines_from quoted (drop i bytes))) (take_all i bytes h)
    ∙ ap (λ rest. before bytes (lines_from quoted rest)) (drop_all i bytes h)
    ∙ before_end bytes some
