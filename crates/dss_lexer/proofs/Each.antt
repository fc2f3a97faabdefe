-- Steps along a list whose elements are read one by one.
use Rattle.std.proofs.Common.{◌≡◌, ◌∙◌, ℕ, zero, suc, ◌+◌, ◌<◌, ◌≤◌, List, [], ◌∷◌, ◌++◌, length, drop, get_or, map, refl, sym, ap, arith, Ok, Err, Result, add-one, drop-cons, append_assoc, append-nil}
use Rattle.dss_lexer.specs.declared.fault.LexError.{LexError}
use Rattle.dss_lexer.specs.declared.fault.LexError.TheVariants as error
use Rattle.dss_lexer.specs.Answers.{Fails, ◌>>=◌, each}

-- what is found first, and what is found in the rest
abbrev pub after : {A F : Type 0} → List A → Result (List A) F → Result (List A) F
after front (Ok items) = Ok (front ++ items)
after front (Err e) = Err e

pub after-nil : {A F : Type 0} (front : List A) → after {F = F} front (Ok []) ≡ Ok front
after-nil front = ap Ok (append-nil front)

-- one more element, and the rest
pub joined : {A F : Type 0} (front : List A) (y : A) (said : Result (List A) F)
    → after (front ++ y ∷ []) said ≡ after front (said >>= λ ys. Ok (y ∷ ys))
joined front y (Ok ys) = ap Ok (append_assoc front (y ∷ []) ys)
joined front y (Err e) = refl

-- a fault goes on
pub fails_further : {X Y F : Type 0} (e : LexError F) (r : Result X F) (s : Result Y F)
    → ((fault : F) → r ≡ Err fault → s ≡ Err fault) → Fails e r → Fails e s
fails_further (error.Fault fault) r s f h = f fault h
fails_further error.NoMemory r s f h = tt

module _ {X A B F : Type 0} (view : X → A) (f : A → Result B F) (xs : List X) (i : ℕ) (d : X)
    (less : i < length xs) where
  this : drop i xs ≡ get_or xs i d ∷ drop (i + 1) xs
  this = rw add-one (drop-cons xs i d less)

  pub each_step : each f (map view (drop i xs)) ≡ (f (view (get_or xs i d)) >>= λ y. each f (map view (drop (i + 1) xs)) >>= λ ys. Ok (y ∷ ys))
  each_step = ap (λ ys. each f (map view ys)) this

  pub each_more : (front : List B) (y : B) → f (view (get_or xs i d)) ≡ Ok y
      → after (front ++ y ∷ []) (each f (map view (drop (i + 1) xs))) ≡ after front (each f (map view (drop i xs)))
  each_more front y e =
      joined front y (each f (map view (drop (i + 1) xs)))
      ∙ sym (ap (after front) (each_step ∙ ap (λ r. r >>= λ z. each f (map view (drop (i + 1) xs)) >>= λ ys. Ok (z ∷ ys)) e))

  pub each_fault : (front : List B) (e : F) → f (view (get_or xs i d)) ≡ Err e
      → after front (each f (map view (drop i xs))) ≡ Err e
  each_fault front e was = ap (after front) (each_step ∙ ap (λ r. r >>= λ z. each f (map view (drop (i + 1) xs)) >>= λ ys. Ok (z ∷ ys)) was)

pub drop_over : {X : Type 0} (xs : List X) (i : ℕ) → length xs ≤ i → drop i xs ≡ []
drop_over [] zero h = refl
drop_over [] (suc i) h = refl
drop_over (x ∷ xs) zero h = absurd (omega arith)
drop_over (x ∷ xs) (suc i) h = drop_over xs i (omega arith)

pub each_end : {X A B F : Type 0} (view : X → A) (f : A → Result B F) (xs : List X) (i : ℕ) (front : List B)
    → length xs ≤ i → after front (each f (map view (drop i xs))) ≡ Ok front
each_end view f xs i front h = ap (λ ys. after front (each f (map view ys))) (drop_over xs i h) ∙ after-nil front
