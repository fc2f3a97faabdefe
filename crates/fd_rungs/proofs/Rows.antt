-- Lists of numbers and of branches, one item after another.
use Rattle.std.proofs.Common.{◌≡◌, ◌∙◌, ℕ, zero, suc, ◌+◌, ◌≤◌, ◌^◌, ℤ, pos, nat_abs, List, [], ◌∷◌, ◌++◌, append_assoc, length, get_or, refl, sym, ap, subst, arith}
use Rattle.std.specs.List.{All}
use Rattle.std.proofs.lemmas.List.{length_push}
use Rattle.std.proofs.lemmas.List.Elements.{All-append, All-cons, All-nil}
use Rattle.fd_pattern.specs.fd_load.fd_exact.States.{part}
use Rattle.fd_pattern.specs.fd_system.Contributions.{concat_below}
use Rattle.fd_rungs.specs.Elements.{each_below}
use Rattle.fd_rungs.specs.Numbers.{SizedBy}

pushed_at : (n : ℕ) (xs : List ℤ) (z : ℤ) (j : ℕ) → SizedBy n xs → nat_abs z ≤ n → nat_abs (part (xs ++ z ∷ []) j) ≤ n
pushed_at n [] z zero h k = k
pushed_at n [] z (suc zero) h k = omega arith
pushed_at n [] z (suc (suc j)) h k = omega arith
pushed_at n (x ∷ xs) z zero h k = h zero
pushed_at n (x ∷ xs) z (suc j) h k = pushed_at n xs z j (λ i. h (suc i)) k

pub pushed_sized : (n : ℕ) (xs : List ℤ) (z : ℤ) → SizedBy n xs → nat_abs z ≤ n → SizedBy n (xs ++ z ∷ [])
pushed_sized n xs z h k = λ j. pushed_at n xs z j h k

next_is : {A : Type 0} (f : ℕ → A) (m : ℕ) → each_below f (suc m) ≡ each_below f (m + 1)
next_is f m = let next : suc m ≡ m + 1 = omega arith in ap (each_below f) next

pub one_more : {A : Type 0} (f : ℕ → A) (m : ℕ) (xs new : List A) (x : A) → new ≡ xs ++ x ∷ [] → xs ≡ each_below f m → x ≡ f m
    → new ≡ each_below f (m + 1)
one_more f m xs new x made so_far here =
    made ∙ (λ i. so_far i ++ here i ∷ []) ∙ next_is f m

pub one_more_behind : {A : Type 0} (f : ℕ → A) (m : ℕ) (old xs new : List A) (x : A) → new ≡ xs ++ x ∷ []
    → xs ≡ old ++ each_below f m → x ≡ f m → new ≡ old ++ each_below f (m + 1)
one_more_behind f m old xs new x made so_far here =
    made ∙ (λ i. so_far i ++ here i ∷ []) ∙ append_assoc old (each_below f m) (f m ∷ [])
    ∙ ap (λ t. old ++ t) (next_is f m)

concat_next : {A : Type 0} (f : ℕ → List A) (m : ℕ) → concat_below f (suc m) ≡ concat_below f (m + 1)
concat_next f m = let next : suc m ≡ m + 1 = omega arith in ap (concat_below f) next

pub some_more_behind : {A : Type 0} (f : ℕ → List A) (m : ℕ) (old xs new : List A) → new ≡ xs ++ f m
    → xs ≡ old ++ concat_below f m → new ≡ old ++ concat_below f (m + 1)
some_more_behind f m old xs new made so_far =
    made ∙ ap (λ t. t ++ f m) so_far ∙ append_assoc old (concat_below f m) (f m) ∙ ap (λ t. old ++ t) (concat_next f m)

pub one_longer : {A : Type 0} (m : ℕ) (xs new : List A) (x : A) → new ≡ xs ++ x ∷ [] → length xs ≡ m → length new ≡ m + 1
one_longer m xs new x made count = ap length made ∙ length_push xs x ∙ ap (λ n. n + 1) count

pub all_more : {A : Type 0} (P : A → Type 0) (xs new : List A) (x : A) → new ≡ xs ++ x ∷ [] → All P xs → P x → All P new
all_more P xs new x made h p = subst (All P) (sym made) (All-append P xs (x ∷ []) h (All-cons P x [] p (All-nil P)))
