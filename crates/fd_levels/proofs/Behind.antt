-- The far buses behind each bus.
use Rattle.std.proofs.Common.{◌≡◌, ℕ, zero, suc, ◌+◌, ◌<◌, ◌≤◌, ◌==◌, nat_eq, nat_lt, Bool, true, false, ◌&&◌, ◌||◌, List, [], ◌∷◌, ◌++◌, get_or, length, set, take, slice_get, refl, sym, ap, ◌∙◌, arith}
use Rattle.std.specs.List.{list_any}
use Rattle.std.specs.Global.{Vec}
use Rattle.std.proofs.lemmas.Bool.Decides.{nat_tests}
use Rattle.std.proofs.lemmas.List.{length-set, take_all}
use Rattle.std.proofs.lemmas.List.Folds.{list_any-append, list_any_more}
use Rattle.fd_levels.specs.Marking.{AreBehind, NotesBehind, buses_behind, is_behind, leads}
use Rattle.fd_levels.specs.declared.feed.Feed.{Feed}

-- one more empty list
pub empty_more : (lists : List (Vec ℕ)) (v : Vec ℕ) → v.items ≡ [] → ((near far : ℕ) → is_behind lists near far ≡ false)
    → (near far : ℕ) → is_behind (lists ++ v ∷ []) near far ≡ false
empty_more [] v empty h zero far = ap (list_any (nat_eq far)) empty
empty_more [] v empty h (suc near) far = refl
empty_more (x ∷ lists) v empty h zero far = h zero far
empty_more (x ∷ lists) v empty h (suc near) far = empty_more lists v empty (λ n f. h (suc n) f) near far

none_behind : (b : Bool) → false ≡ (b && false)
none_behind true = refl
none_behind false = refl

-- behind no bus is another at first
pub none_noted : (count : ℕ) (feeds : List Feed) (behind : List (Vec ℕ)) → length behind ≡ count
    → ((near far : ℕ) → is_behind behind near far ≡ false) → AreBehind count (take 0 feeds) behind
none_noted count feeds behind long none = record {
  long = long;
  noted = λ near far. none near far ∙ none_behind (nat_lt near count);
}

-- ---- one feed

pushed_here : (far x n : ℕ) → (nat_eq far x || false) ≡ (nat_lt 0 (suc n) && ((x == far) && (0 == 0)))
pushed_here far x n = grind (arith, nat_tests)

not_behind : (far x near n : ℕ) → (nat_lt (suc near) (suc n) && ((x == far) && (0 == suc near))) ≡ false
not_behind far x near n = grind (arith, nat_tests)

not_before : (far x k n : ℕ) → (nat_lt 0 (suc n) && ((x == far) && (suc k == 0))) ≡ false
not_before far x k n = grind (arith, nat_tests)

next_too : (far x near k n : ℕ) → (nat_lt near n && ((x == far) && (k == near))) ≡ (nat_lt (suc near) (suc n) && ((x == far) && (suc k == suc near)))
next_too far x near k n = grind (arith, nat_tests)

as_before : (b p : Bool) → p ≡ false → b ≡ (b || p)
as_before true p is = refl
as_before false p is = sym is

set_behind : (behind : List (Vec ℕ)) (k near far x : ℕ) (v : Vec ℕ) → k < length behind
    → v.items ≡ buses_behind (slice_get behind k) ++ x ∷ [] → is_behind (set behind k v) near far
    ≡ (is_behind behind near far || (nat_lt near (length behind) && ((x == far) && (k == near))))
set_behind [] k near far x v low is = absurd (omega (arith, low))
set_behind (y ∷ ys) zero zero far x v low is =
    ap (list_any (nat_eq far)) is
    ∙ list_any-append (nat_eq far) y.items (x ∷ [])
    ∙ ap (λ p. list_any (nat_eq far) y.items || p) (pushed_here far x (length ys))
set_behind (y ∷ ys) zero (suc near) far x v low is = as_before (is_behind ys near far) _ (not_behind far x near (length ys))
set_behind (y ∷ ys) (suc k) zero far x v low is = as_before (list_any (nat_eq far) y.items) _ (not_before far x k (length ys))
set_behind (y ∷ ys) (suc k) (suc near) far x v low is =
    set_behind ys k near far x v (omega (arith, low)) is
    ∙ ap (λ p. is_behind ys near far || p) (next_too far x near k (length ys))

-- its near bus is there
pub one_noted : (behind : List (Vec ℕ)) (f : Feed) (v : Vec ℕ) → f.near < length behind
    → v.items ≡ buses_behind (slice_get behind f.near) ++ f.far ∷ [] → NotesBehind behind (set behind f.near v) f
one_noted behind f v low is = record {
  long = length-set behind f.near v;
  noted = λ near far. set_behind behind f.near near far f.far v low is;
}

-- ---- all feeds

both : (a b c : Bool) → ((a && b) || (a && c)) ≡ (a && (b || c))
both true b c = refl
both false b c = refl

-- the far bus of one more feed
pub feeds_more : (count : ℕ) (feeds : List Feed) (i : ℕ) (d : Feed) (before after : List (Vec ℕ)) → i < length feeds
    → AreBehind count (take i feeds) before → NotesBehind before after (get_or feeds i d) → AreBehind count (take (i + 1) feeds) after
feeds_more count feeds i d before after low h notes = record {
  long = notes.long ∙ h.long;
  noted = λ near far.
      notes.noted near far
      ∙ ap (λ n. is_behind before near far || (nat_lt near n && leads near far (get_or feeds i d))) h.long
      ∙ ap (λ b. b || (nat_lt near count && leads near far (get_or feeds i d))) (h.noted near far)
      ∙ both (nat_lt near count) (list_any (leads near far) (take i feeds)) (leads near far (get_or feeds i d))
      ∙ ap (λ b. nat_lt near count && b) (sym (list_any_more (leads near far) feeds i d low));
}

pub feeds_all : (count : ℕ) (feeds : List Feed) (i : ℕ) (behind : List (Vec ℕ)) → length feeds ≤ i
    → AreBehind count (take i feeds) behind → AreBehind count feeds behind
feeds_all count feeds i behind past h =
    let whole : take i feeds ≡ feeds = take_all i feeds past in
    record { long = h.long; noted = λ near far. h.noted near far ∙ ap (λ fs. nat_lt near count && list_any (leads near far) fs) whole }
