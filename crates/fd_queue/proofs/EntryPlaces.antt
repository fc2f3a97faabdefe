-- Entries put in at their place and taken out.
use Rattle.std.proofs.Common.{◌≡◌, ◌≢◌, ⊎_elim, ℕ, zero, suc, ◌+◌, ◌<◌, ◌≤◌, Bool, true, false, cond, not, List, [], ◌∷◌, ◌++◌, length, get_or, Some, None, refl, sym, ap, ◌∙◌, arith}
use Rattle.std.specs.Prelude.{nat_le, nat_lt, ◌==◌, slice_get, insert, remove}
use Rattle.std.specs.List.{AllByRecursion, filter, position_or_len}
use Rattle.std.proofs.lemmas.List.Folds.{find_at}
use Rattle.std.proofs.lemmas.List.Sums.{prefix_len-le-length}
use Rattle.std.proofs.lemmas.Bool.Decides.{nat_tests}
use Rattle.fd_queue.specs.declared.entry.Entry.{Entry}
use Rattle.fd_queue.specs.Queue.{InPairs, IsBefore, IsQueue, entry_of, queued, without}
use Rattle.fd_queue.proofs.Pairs.{each_weaker}

-- ---- an entry put in

none_pass : (p : Entry → Bool) (es : List Entry) → AllByRecursion (λ x. p x ≡ false) es → filter p es ≡ []
none_pass p [] h = refl
none_pass p (x ∷ xs) h = ap (λ t. cond t (x ∷ filter p xs) (filter p xs)) h.0 ∙ none_pass p xs h.1

all_pass : (p : Entry → Bool) (es : List Entry) → AllByRecursion (λ x. p x ≡ true) es → filter p es ≡ es
all_pass p [] h = refl
all_pass p (x ∷ xs) h = ap (λ t. cond t (x ∷ filter p xs) (filter p xs)) h.0
    ∙ ap (λ (ys : List Entry). x ∷ ys) (all_pass p xs h.1)

later_times : (t : ℕ) (x y : Entry) → nat_lt t x.time ≡ true → IsBefore x y →
    (nat_le y.time t ≡ false) × (nat_lt t y.time ≡ true)
later_times t x y h b = ⊎_elim (λ less. grind (arith, nat_tests)) (λ same. let e = same.0 in grind (arith, nat_tests)) b

flipped : (a b : ℕ) → nat_le a b ≡ not (nat_lt b a)
flipped a b = grind (arith, nat_tests)

one_more : (n : ℕ) → 1 + n ≡ suc n
one_more n = omega arith

insert_more : (x : Entry) (xs : List Entry) (n : ℕ) (e : Entry) → insert (x ∷ xs) (1 + n) e ≡ x ∷ insert xs n e
insert_more x xs n e = ap (λ (k : ℕ). insert (x ∷ xs) k e) (one_more n)

remove_more : (x : Entry) (xs : List Entry) (n : ℕ) → remove (x ∷ xs) (1 + n) ≡ x ∷ remove xs n
remove_more x xs n = ap (λ (k : ℕ). remove (x ∷ xs) k) (one_more n)

put_by : (t : Bool) (e x : Entry) (xs front back : List Entry) (place : ℕ) → (t ≡ true → (front ≡ []) × (back ≡ xs)) →
    front ++ e ∷ back ≡ insert xs place e →
    cond (not t) (x ∷ front) front ++ e ∷ cond t (x ∷ back) back ≡ insert (x ∷ xs) (cond (not t) (1 + place) 0) e
put_by true e x xs front back place h i = let both = h refl in ap (λ (ys : List Entry). ys ++ e ∷ x ∷ back) both.0
    ∙ ap (λ (ys : List Entry). e ∷ x ∷ ys) both.1
put_by false e x xs front back place h i = ap (λ (ys : List Entry). x ∷ ys) i ∙ sym (insert_more x xs place e)

pub put_at_place : (e : Entry) (es : List Entry) → InPairs IsBefore es →
    queued e es ≡ insert es (position_or_len (λ x. nat_lt e.time x.time) es) e
put_at_place e [] h = refl
put_at_place e (x ∷ xs) h =
    let front : Entry → Bool = λ y. nat_le y.time e.time in
    let back : Entry → Bool = λ y. nat_lt e.time y.time in
    ap (λ (t : Bool). cond t (x ∷ filter front xs) (filter front xs) ++ e ∷ cond (nat_lt e.time x.time)
    (x ∷ filter back xs) (filter back xs)) (flipped x.time e.time)
    ∙ put_by (nat_lt e.time x.time) e x xs (filter front xs) (filter back xs) (position_or_len back xs)
    (λ t. (
      none_pass front xs (each_weaker (IsBefore x) (λ y. front y ≡ false) (λ y b. (later_times e.time x y t b).0)
          xs h.0),
      all_pass back xs (each_weaker (IsBefore x) (λ y. back y ≡ true) (λ y b. (later_times e.time x y t b).1)
          xs h.0),
    ))
    (put_at_place e xs h.1)

-- ---- an entry taken out

out_by : (t : Bool) (x : Entry) (xs rest : List Entry) (place : ℕ) → (t ≡ true → rest ≡ xs) →
    (t ≡ false → remove xs place ≡ rest) → remove (x ∷ xs) (cond (not t) (1 + place) 0) ≡ cond (not t) (x ∷ rest) rest
out_by true x xs rest place h i = sym (h refl)
out_by false x xs rest place h i = remove_more x xs place ∙ ap (λ (ys : List Entry). x ∷ ys) (i refl)

others_stay : (k : ℕ) (x y : Entry) → (x.control == k) ≡ true → x.control ≢ y.control → not (y.control == k) ≡ true
others_stay k x y h d = grind (arith, nat_tests)

less_by : (t : Bool) (place n : ℕ) → t ≡ false → cond (not t) (1 + place) 0 < suc n → place < n
less_by true place n e h = absurd (cc)
less_by false place n e h = omega arith

pub taken_out : (k : ℕ) (es : List Entry) → InPairs (λ a b. a.control ≢ b.control) es →
    position_or_len (λ e. e.control == k) es < length es →
    remove es (position_or_len (λ e. e.control == k) es) ≡ without k es
taken_out k [] h l = absurd (omega arith)
taken_out k (x ∷ xs) h l = out_by (x.control == k) x xs (without k xs) (position_or_len (λ e. e.control == k) xs)
    (λ t. all_pass (λ e. not (e.control == k)) xs
    (each_weaker (λ y. x.control ≢ y.control) (λ y. not (y.control == k) ≡ true) (λ y d. others_stay k x y t d)
    xs h.0))
    (λ f. taken_out k xs h.1 (less_by (x.control == k) (position_or_len (λ e. e.control == k) xs) (length xs) f l))

stay_by : (t : Bool) (x : Entry) (xs rest : List Entry) (place n : ℕ) → suc n ≤ cond (not t) (1 + place) 0 →
    (n ≤ place → rest ≡ xs) → cond (not t) (x ∷ rest) rest ≡ x ∷ xs
stay_by true x xs rest place n l h = absurd (omega arith)
stay_by false x xs rest place n l h = ap (λ (ys : List Entry). x ∷ ys) (h (omega arith))

pub none_out : (k : ℕ) (es : List Entry) → length es ≤ position_or_len (λ e. e.control == k) es → without k es ≡ es
none_out k [] l = refl
none_out k (x ∷ xs) l = stay_by (x.control == k) x xs (without k xs) (position_or_len (λ e. e.control == k) xs)
    (length xs) l (λ m. none_out k xs m)

-- ---- an entry found

slice_past : (es : List Entry) (i : ℕ) → length es ≤ i → slice_get es i ≡ None
slice_past [] i l = refl
slice_past (x ∷ xs) zero l = absurd (omega arith)
slice_past (x ∷ xs) (suc i) l = slice_past xs i (omega arith)

slice_in : (es : List Entry) (i : ℕ) (d : Entry) → i < length es → slice_get es i ≡ Some (get_or es i d)
slice_in [] i d l = absurd (omega arith)
slice_in (x ∷ xs) zero d l = refl
slice_in (x ∷ xs) (suc i) d l = slice_in xs i d (omega arith)

pub found : (k : ℕ) (es : List Entry) (i : ℕ) (e : Entry) → i ≡ position_or_len (λ x. x.control == k) es →
    i < length es → e ≡ get_or es i e → Some e ≡ entry_of k es
found k es i e p l h = ap Some h ∙ sym (slice_in es i e l) ∙ ap (slice_get es) p
    ∙ sym (find_at (λ x. x.control == k) es)

pub not_found : (k : ℕ) (es : List Entry) (i : ℕ) → i ≡ position_or_len (λ x. x.control == k) es → length es ≤ i →
    None ≡ entry_of k es
not_found k es i p l = sym (slice_past es i l) ∙ ap (slice_get es) p ∙ sym (find_at (λ x. x.control == k) es)

-- ---- in the words of the code: `xs` is what a slice of the entries `es` holds

pub at_place : (p : Entry → Bool) (es xs : List Entry) (i : ℕ) → i ≡ position_or_len p xs → xs ≡ es →
    i ≡ position_or_len p es
at_place p es xs i h q = h ∙ ap (position_or_len p) q

pub in_list : (p : Entry → Bool) (xs : List Entry) (i n : ℕ) → i ≡ position_or_len p xs → length xs ≡ n → i ≤ n
in_list p xs i n h e = omega (arith, prefix_len-le-length (λ x. not (p x)) xs)

pub pushed : (es new xs : List Entry) (e : Entry) (i next : ℕ) → IsQueue next es → new ≡ insert es i e →
    i ≡ position_or_len (λ x. nat_lt e.time x.time) xs → xs ≡ es → new ≡ queued e es
pushed es new xs e i next h n p q =
    n ∙ ap (λ (k : ℕ). insert es k e) (at_place (λ x. nat_lt e.time x.time) es xs i p q)
    ∙ sym (put_at_place e es h.sorted)

pub removed : (k : ℕ) (es new xs : List Entry) (i next : ℕ) → IsQueue next es → new ≡ remove es i →
    i ≡ position_or_len (λ x. x.control == k) xs → xs ≡ es → i < length es → new ≡ without k es
removed k es new xs i next h n p q l =
    let place : i ≡ position_or_len (λ x. x.control == k) es = at_place (λ x. x.control == k) es xs i p q in
    n ∙ ap (remove es) place ∙ taken_out k es h.one_each (omega (arith, place, l))

pub stays : (k : ℕ) (es xs : List Entry) (i : ℕ) → i ≡ position_or_len (λ x. x.control == k) xs → xs ≡ es →
    length es ≤ i → es ≡ without k es
stays k es xs i p q l =
    let place : i ≡ position_or_len (λ x. x.control == k) es = at_place (λ x. x.control == k) es xs i p q in
    sym (none_out k es (omega (arith, place, l)))
