-- The numbers of a column that are kept so far, and those behind them: they are those that count.
use Rattle.std.proofs.Common.{◌≡◌, ◌∙◌, ◌+◌, ◌<◌, All, unsigned_abs, nat_lt, Bool, true, false, ℕ, zero, suc, length, take, drop, filter, fold, lt-ltb, arith, ℤ, List, [], ◌∷◌, ◌++◌, Some, None, Result, Ok, Err, refl, ap, append_assoc}
use Rattle.std.proofs.lemmas.List.{append-nil, length-append}
use Rattle.std.proofs.lemmas.List.Elements.{All-push}
use Rattle.dss_lexer.specs.Answers.{◌>>=◌}
use Rattle.fd_shape.specs.Column.{column_from, counted, first_number, is_unfit}
use Rattle.fd_shape.specs.Left.{kept, room_for}

-- the numbers that are kept, and then those of a column that are
abbrev pub after : List ℤ → Result (List ℤ) ℕ → Result (List ℤ) ℕ
after values (Ok more) = Ok (fold kept values more)
after values (Err n) = Err n

after_value : (values : List ℤ) (value : ℤ) (column : Result (List ℤ) ℕ)
    → after values (column >>= λ more. Ok (value ∷ more)) ≡ after (kept values value) column
after_value values value (Ok more) = refl
after_value values value (Err n) = refl

-- ---- those that are kept are those that count

kept_in : (values : List ℤ) (value : ℤ) → length values < 8760 → kept values value ≡ values ++ value ∷ []
kept_in values value low = by (is_unfit value) refl
  where
    by : (b : Bool) → is_unfit value ≡ b → kept values value ≡ values ++ value ∷ []
    by true e = rw (e, lt-ltb (length values) 8761 (omega (arith, low))) refl
    by false e = rw (e, lt-ltb (length values) 8760 low) refl

kept_unfit : (values : List ℤ) (value : ℤ) → length values ≡ 8760 → is_unfit value ≡ true
    → kept values value ≡ values ++ value ∷ []
kept_unfit values value full e = rw (e, full) refl

kept_fit : (values : List ℤ) (value : ℤ) → length values ≡ 8760 → is_unfit value ≡ false → kept values value ≡ values
kept_fit values value full e = rw (e, full) refl

kept_none : (values : List ℤ) (value : ℤ) → length values ≡ 8761 → kept values value ≡ values
kept_none values value full = by (is_unfit value) refl
  where
    by : (b : Bool) → is_unfit value ≡ b → kept values value ≡ values
    by true e = rw (e, full) refl
    by false e = rw (e, full) refl

closed : (values more : List ℤ) → length values ≡ 8761 → fold kept values more ≡ values
closed values [] full = refl
closed values (value ∷ more) full = rw (kept_none values value full) (closed values more full)

length_push : (values : List ℤ) (value : ℤ) → length (values ++ value ∷ []) ≡ length values + 1
length_push values value = length-append values (value ∷ [])

behind : (values more : List ℤ) → length values ≡ 8760 → fold kept values more ≡ values ++ take 1 (filter is_unfit more)
behind values [] full = rw (append-nil values) refl
behind values (value ∷ more) full = by (is_unfit value) refl (behind values more full)
  where
    by : (b : Bool) → is_unfit value ≡ b → fold kept values more ≡ values ++ take 1 (filter is_unfit more)
        → fold kept (kept values value) more ≡ values ++ take 1 (filter is_unfit (value ∷ more))
    by true e rest =
        let one_more : length (values ++ value ∷ []) ≡ 8761 = length_push values value ∙ ap (λ k. k + 1) full in
        rw (kept_unfit values value full e, e) (closed (values ++ value ∷ []) more one_more)
    by false e rest = rw (kept_fit values value full e, e) rest

first_ones : (k : ℕ) (values more : List ℤ) → length values + k ≡ 8760
    → fold kept values more ≡ values ++ (take k more ++ take 1 (filter is_unfit (drop k more)))
first_ones zero values more full = behind values more (omega (arith, full))
first_ones (suc k) values [] low = rw (append-nil values) refl
first_ones (suc k) values (value ∷ more) low =
    let one_more : length (values ++ value ∷ []) ≡ length values + 1 = length_push values value in
    rw (kept_in values value (omega (arith, low)))
    (first_ones k (values ++ value ∷ []) more (omega (arith, low, one_more))
    ∙ append_assoc values (value ∷ []) (take k more ++ take 1 (filter is_unfit (drop k more))))

pub after_nothing : (column : Result (List ℤ) ℕ) → after [] column ≡ (column >>= λ values. Ok (counted values))
after_nothing (Ok more) = ap Ok (first_ones 8760 [] more refl)
after_nothing (Err n) = refl

pub after_all : (n : ℕ) (values : List ℤ) → after values (column_from n []) ≡ Ok values
after_all n values = refl

column_some : (n : ℕ) (fields : List (List ℕ)) (rows : List (List (List ℕ))) (value : ℤ)
    → first_number fields ≡ Some value
    → column_from n (fields ∷ rows) ≡ (column_from (n + 1) rows >>= λ more. Ok (value ∷ more))
column_some n fields rows value e = rw (e, column_from) refl

column_none : (n : ℕ) (fields : List (List ℕ)) (rows : List (List (List ℕ))) → first_number fields ≡ None
    → column_from n (fields ∷ rows) ≡ Err n
column_none n fields rows e = rw (e, column_from) refl

pub after_some : (n : ℕ) (values : List ℤ) (fields : List (List ℕ)) (rows : List (List (List ℕ))) (value : ℤ)
    → first_number fields ≡ Some value
    → after values (column_from n (fields ∷ rows)) ≡ after (kept values value) (column_from (n + 1) rows)
after_some n values fields rows value e = ap (after values) (column_some n fields rows value e) ∙ after_value values value (column_from (n + 1) rows)

pub after_none : (n : ℕ) (values : List ℤ) (fields : List (List ℕ)) (rows : List (List (List ℕ)))
    → first_number fields ≡ None
    → after values (column_from n (fields ∷ rows)) ≡ Err n
after_none n values fields rows e = ap (after values) (column_none n fields rows e)

pub sizes_after : (values : List ℤ) (value : ℤ) → All (λ n. unsigned_abs n < 1_000_000_000_000_000_000) values
    → unsigned_abs value < 1_000_000_000_000_000_000
    → All (λ n. unsigned_abs n < 1_000_000_000_000_000_000) (kept values value)
sizes_after values value h k = by (nat_lt (length values) (room_for value)) refl
  where
    by : (b : Bool) → nat_lt (length values) (room_for value) ≡ b
        → All (λ n. unsigned_abs n < 1_000_000_000_000_000_000) (kept values value)
    by true e = rw e (All-push (λ n. unsigned_abs n < 1_000_000_000_000_000_000) values value h k)
    by false e = rw e h
