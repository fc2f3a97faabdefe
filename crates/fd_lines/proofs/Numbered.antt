-- Numbered lines: what is written is read again, what is read is what was written, and a refused line is the first that
-- isn't.
use Rattle.std.proofs.Common.{◌≡◌, ℕ, zero, suc, ◌+◌, ◌-◌, ◌<◌, ◌≤◌, List, [], ◌∷◌, ◌++◌, length, replicate, Option, Some, None, Result, Ok, Err, refl, ap, subst, ◌∙◌, arith, add-one}
use Rattle.std.specs.List.{AllByRecursion}
use Rattle.std.proofs.lemmas.List.{length-append, length-replicate}
use Rattle.fd_lines.specs.Numbered.{numbered_at, numbered_lines, or_refused, with_first, ◌>>=◌}

pub bind_ok : {L A B : Type 0} (r : Result A (List L)) (f : A → Result B (List L)) (y : B) → (r >>= f) ≡ Ok y
    → (x : A) × (r ≡ Ok x) × (f x ≡ Ok y)
bind_ok (Ok x) f y e = (x, refl, e)
bind_ok (Err d) f y e = absurd cc

pub read_ok : {L X : Type 0} (lines : List L) (o : Option X) (x : X) → or_refused lines o ≡ Ok x → o ≡ Some x
read_ok lines None x e = absurd cc
read_ok lines (Some y) x e = cc

-- ---- numbered lines

module _ {L X : Type 0} (read : ℕ → L → Option X) (line : ℕ → X → L) (IsRight : X → Type 0) where
  abbrev pub ReadsAgain : Type 0
  ReadsAgain = (i : ℕ) (x : X) → IsRight x → read i (line i x) ≡ Some x

  abbrev pub IsFound : Type 0
  IsFound = (i : ℕ) (l : L) (x : X) → read i l ≡ Some x → (l ≡ line i x) × IsRight x

  pub numbered_again : ReadsAgain → (i : ℕ) (xs : List X) (rest : List L) → AllByRecursion IsRight xs
      → numbered_at read (length xs) i (numbered_lines line i xs ++ rest) ≡ Ok (xs, rest)
  numbered_again each i [] rest h = refl
  numbered_again each i (x ∷ xs) rest h =
      let first = each i x h.0 in
      let others : numbered_at read (length xs) (suc i) (numbered_lines line (suc i) xs ++ rest) ≡ Ok (xs, rest) = numbered_again each (suc i) xs rest h.1 in
      rw (first, add-one, others) refl

  pub numbered_found : IsFound → (n i : ℕ) (lines : List L) (y : List X × List L)
      → numbered_at read n i lines ≡ Ok y
      → (lines ≡ numbered_lines line i y.0 ++ y.1) × (length y.0 ≡ n) × AllByRecursion IsRight y.0
  numbered_found each zero i lines y e =
      let same : ([], lines) ≡ y = cc in
      subst (λ (z : List X × List L). (lines ≡ numbered_lines line i z.0 ++ z.1) × (length z.0 ≡ 0) × AllByRecursion IsRight z.0) same (refl, refl, tt)
  numbered_found each (suc n) i [] y e = absurd cc
  numbered_found each (suc n) i (l ∷ lines) y e =
      let a = bind_ok (or_refused (l ∷ lines) (read i l)) (λ x. numbered_at read n (suc i) lines >>= λ xs. Ok (x ∷ xs.0, xs.1)) y e in
      let b = bind_ok (numbered_at read n (suc i) lines) (λ xs. Ok (a.0 ∷ xs.0, xs.1)) y a.2 in
      let first = each i l a.0 (read_ok (l ∷ lines) (read i l) a.0 a.1) in
      let rest = numbered_found each n (suc i) lines b.0 b.1 in
      let same : (a.0 ∷ b.0.0, b.0.1) ≡ y = (let c = b.2 in cc) in
      subst (λ (z : List X × List L). (l ∷ lines ≡ numbered_lines line i z.0 ++ z.1) × (length z.0 ≡ suc n) × AllByRecursion IsRight z.0) same
      (ap (λ (k : L). k ∷ lines) first.0 ∙ ap (λ (ls : List L). line i a.0 ∷ ls) (rw add-one rest.0), ap suc rest.1, (first.1, rest.2))

pub length-numbered : {L X : Type 0} (line : ℕ → X → L) (i : ℕ) (xs : List X)
    → length (numbered_lines line i xs) ≡ length xs
length-numbered line i [] = refl
length-numbered line i (x ∷ xs) = ap suc (length-numbered line (i + 1) xs)

-- ---- what is refused

pub bind_err : {L A B : Type 0} (r : Result A (List L)) (f : A → Result B (List L)) (d : List L) (P : Type 0)
    → (r >>= f) ≡ Err d → (r ≡ Err d → P) → ((x : A) → r ≡ Ok x → f x ≡ Err d → P) → P
bind_err (Ok x) f d P e at_err at_ok = at_ok x refl e
bind_err (Err c) f d P e at_err at_ok = at_err cc

pub made_ok : {L B : Type 0} (x : B) (d : List L) (P : Type 0) → (let r : Result B (List L) = Ok x in r ≡ Err d) → P
made_ok x d P e = absurd cc

pub record Cut {L X : Type 0} (read : ℕ → L → Option X) (line : ℕ → X → L) (IsRight : X → Type 0) (n i : ℕ)
    (lines rest : List L) : Type 0 where
  pub xs : List X
  pub lines_are : lines ≡ numbered_lines line i xs ++ rest
  pub short : length xs < n
  pub right : AllByRecursion IsRight xs
  pub refused : (more : List L)
      → numbered_at read n i (numbered_lines line i xs ++ with_first rest more) ≡ Err (with_first rest more)

module _ {L X : Type 0} (read : ℕ → L → Option X) (line : ℕ → X → L) (IsRight : X → Type 0) where
  read_err : (lines : List L) (o : Option X) (d : List L) → or_refused lines o ≡ Err d → (o ≡ None) × (lines ≡ d)
  read_err lines None d e = (refl, cc)
  read_err lines (Some x) d e = absurd cc

  cut_more : (n i : ℕ) (l : L) (lines rest : List L) (x : X) → ReadsAgain read line IsRight
      → (l ≡ line i x) × IsRight x → Cut read line IsRight n (suc i) lines rest
      → Cut read line IsRight (suc n) i (l ∷ lines) rest
  cut_more n i l lines rest x again first k = record {
    xs = x ∷ k.xs;
    lines_are = ap (λ (m : L). m ∷ lines) first.0 ∙ ap (λ (ls : List L). line i x ∷ ls) (rw add-one k.lines_are);
    short = omega (arith, k.short);
    right = (first.1, k.right);
    refused = λ more.
        let here = again i x first.1 in
        let there : numbered_at read n (suc i) (numbered_lines line (suc i) k.xs ++ with_first rest more) ≡ Err (with_first rest more) = k.refused more in
        rw (here, add-one, there) refl;
  }

  refused_here : (n i : ℕ) (l : L) (lines : List L) → read i l ≡ None
      → Cut read line IsRight (suc n) i (l ∷ lines) (l ∷ lines)
  refused_here n i l lines e = record { xs = []; lines_are = refl; short = omega arith; right = tt; refused = λ more. rw e refl }

  pub numbered_refused : ReadsAgain read line IsRight → IsFound read line IsRight → (n i : ℕ) (lines rest : List L)
      → numbered_at read n i lines ≡ Err rest → Cut read line IsRight n i lines rest
  numbered_refused again found zero i lines rest e = absurd cc
  numbered_refused again found (suc n) i [] rest e =
      let same : [] ≡ rest = cc in
      subst (λ (r : List L). Cut read line IsRight (suc n) i [] r) same
      (record { xs = []; lines_are = refl; short = omega arith; right = tt; refused = λ more. refl })
  numbered_refused again found (suc n) i (l ∷ lines) rest e =
      let below = λ (h : numbered_at read n (suc i) lines ≡ Err rest). numbered_refused again found n (suc i) lines rest h in
      bind_err (or_refused (l ∷ lines) (read i l))
      (λ x. numbered_at read n (suc i) lines >>= λ xs. Ok (x ∷ xs.0, xs.1)) rest _ e (λ failed.
      let r = read_err (l ∷ lines) (read i l) rest failed in
      subst (λ (d : List L). Cut read line IsRight (suc n) i (l ∷ lines) d) r.1 (refused_here n i l lines r.0))
      (λ x done f.
      bind_err (numbered_at read n (suc i) lines) (λ xs. Ok (x ∷ xs.0, xs.1)) rest _ f (λ failed.
      cut_more n i l lines rest x again (found i l x (read_ok (l ∷ lines) (read i l) x done)) (below failed))
      (λ ys made g. made_ok (x ∷ ys.0, ys.1) rest _ g))

-- ---- lists that are filled up

pub enumerate-append : {L X : Type 0} (line : ℕ → X → L) (i : ℕ) (xs ys : List X)
    → numbered_lines line i (xs ++ ys) ≡ numbered_lines line i xs ++ numbered_lines line (i + length xs) ys
enumerate-append {L} line i [] ys = ap (λ (k : ℕ). numbered_lines line k ys) (omega arith)
enumerate-append {L} line i (x ∷ xs) ys =
    ap (λ (ls : List L). line i x ∷ ls) (enumerate-append line (i + 1) xs ys
    ∙ ap (λ (k : ℕ). numbered_lines line (i + 1) xs ++ numbered_lines line k ys) (omega arith))

pub filled : {X : Type 0} (xs : List X) (x : X) (n : ℕ) → length xs ≤ n → length (xs ++ replicate (n - length xs) x) ≡ n
filled xs x n h = omega (arith, length-append xs (replicate (n - length xs) x), length-replicate (n - length xs) x)

pub right_append : {X : Type 0} (P : X → Type 0) (xs ys : List X) → AllByRecursion P xs → AllByRecursion P ys
    → AllByRecursion P (xs ++ ys)
right_append P [] ys h k = k
right_append P (x ∷ xs) ys h k = (h.0, right_append P xs ys h.1 k)

pub right_replicate : {X : Type 0} (P : X → Type 0) (n : ℕ) (x : X) → P x → AllByRecursion P (replicate n x)
right_replicate P zero x h = tt
right_replicate P (suc n) x h = (h, right_replicate P n x h)
