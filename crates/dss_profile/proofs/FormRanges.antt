-- The ranges of what the forms of values give.
use Rattle.std.proofs.Common.{◌≡◌, ℕ, zero, suc, ◌*◌, ◌%◌, ◌≤◌, ℤ, pos, negsuc, neg_ℤ, unsigned_abs, int_div, min, max, Bool, true, false, List, [], ◌∷◌, length, get_or, Option, Some, None, Result, Ok, Err, if◌then◌else◌, ◌||◌, ◌&&◌, ◌⊎◌, inl, inr, nat_le, ◌==◌, IsTrue, IfOk, IfSome, All, take, lit<, arith, refl, ap}
use Rattle.std.proofs.lemmas.Int.{ints}
use Rattle.std.proofs.lemmas.Bool.Decides.{nat_tests}
use Rattle.std.proofs.lemmas.Result.{IfOk-weaker}
use Rattle.std.specs.Char.{is_ascii_digit}
use Rattle.std.proofs.lemmas.List.Elements.{All-nil, All-cons, All-head, All-tail, All-append, All-push}
use Rattle.std.specs.List.{list_all, slice_split}
use Rattle.std.specs.Ordering.{int_eq}
use Rattle.dss_values.specs.dss_lexer.declared.pair.Pair.{Pair}
use Rattle.dss_values.specs.dss_lexer.Arrays.{matrix_of}
use Rattle.dss_values.specs.dss_model.declared.fault.ModelFault.{ModelFault}
use Rattle.dss_values.specs.dss_model.Answers.{◌>>=◌, or_fault, each}
use Rattle.dss_values.specs.dss_model.Causes.{from_lexer}
use Rattle.dss_values.specs.dss_model.declared.fault.ModelFault.TheVariants as fault
use Rattle.dss_values.specs.dss_model.Names.{is_name, lower}
use Rattle.dss_values.specs.dss_model.Ranges.{ones, IsBetween, IsCountBetween, IsOneOf, IsAngle, IsRatio, IsPowerFactor, IsTap, IsTime, IsPhaseNumber, IsShare}
use Rattle.dss_values.specs.Forms.{number_in, numbers_in, is_within, within, number_between, has_power_factor, power_factor_in, whole_in, count_of, whole_between, one_of, whole_among, supported_among, nearest_count, tap_of, tap_in, milliseconds_in, ratio_in, half, has_angle, angle_in, phase_in, all_within, numbers_between, two, two_numbers_between, two_taps_in, word_in, is_point, node_of, bus_of_parts, bus_of, bus_in, cells_in, bus_of_cell, two_buses_in, shares_of, shares_within, shares_in}
use Rattle.dss_values.specs.Matrices.{cell, mirrored, first_of, row_by_row, joined, symmetric, is_square, is_triangle_from, whole_matrix, rows_within, matrix_between}
use Rattle.dss_values.specs.dss_model.InRange.{BusInRange, ZipSharesInRange}

-- ---- steps

-- what is made of an answer with P has Q
pub then_ok : {A B : Type 0} (P : A → Type 0) (Q : B → Type 0) (r : Result A ModelFault) (f : A → Result B ModelFault)
    → IfOk r P → ((a : A) → P a → IfOk (f a) Q) → IfOk (r >>= f) Q
then_ok P Q (Ok a) f h k = k a h
then_ok P Q (Err e) f h k = tt

pub any_ok : {A B : Type 0} (Q : B → Type 0) (r : Result A ModelFault) (f : A → Result B ModelFault)
    → ((a : A) → IfOk (f a) Q) → IfOk (r >>= f) Q
any_ok Q (Ok a) f k = k a
any_ok Q (Err e) f k = tt

-- what is made of it without fail, likewise
pub made_ok : {A B : Type 0} (P : A → Type 0) (Q : B → Type 0) (r : Result A ModelFault) (f : A → B) → IfOk r P
    → ((a : A) → P a → Q (f a)) → IfOk (r >>= λ a. Ok (f a)) Q
made_ok P Q r f h k = then_ok P Q r (λ a. Ok (f a)) h k

pub kept_ok : {A B : Type 0} (Q : B → Type 0) (r : Result A ModelFault) (f : A → B) → ((a : A) → Q (f a))
    → IfOk (r >>= λ a. Ok (f a)) Q
kept_ok Q r f k = any_ok Q r (λ a. Ok (f a)) k

pub if_ok : {A : Type 0} (Q : A → Type 0) (b : Bool) (x : A) (e : ModelFault) → (IsTrue b → Q x)
    → IfOk (if b then Ok x else Err e) Q
if_ok Q true x e h = h refl
if_ok Q false x e h = tt

weaker_some : {A : Type 0} (o : Option A) (P Q : A → Type 0) → ((a : A) → P a → Q a) → IfSome o P → IfSome o Q
weaker_some (Some x) P Q k h = k x h
weaker_some None P Q k h = tt

pub found_ok : {A : Type 0} (Q : A → Type 0) (o : Option A) (e : ModelFault) → IfSome o Q → IfOk (or_fault e o) Q
found_ok Q (Some x) e h = h
found_ok Q None e h = tt

-- ---- numbers

pub between_by_test : (low high n : ℤ) → IsTrue (is_within low high n) → IsBetween low high n
between_by_test low high n h = record { least = grind (arith, ints); most = grind (arith, ints) }

pub count_by_test : (low high n : ℕ) → IsTrue (nat_le low n && nat_le n high) → IsCountBetween low high n
count_by_test low high n h = record { least = grind (arith, nat_tests); most = grind (arith, nat_tests) }

within_ok : (low high n : ℤ) → IfOk (within low high n) (IsBetween low high)
within_ok low high n = if_ok _ _ n _ (between_by_test low high n)

pub number_ok : (low high : ℤ) (pair : Pair) → IfOk (number_between low high pair) (IsBetween low high)
unfolding number_between
number_ok low high pair = any_ok _ (number_in pair) (within low high) (within_ok low high)

either : {P Q : Type 0} (a b : Bool) → (IsTrue a → P) → (IsTrue b → Q) → IsTrue (a || b) → P ⊎ Q
either true b p q h = inl (p refl)
either false b p q h = inr (q h)

power_factor_by_test : (n : ℤ) → IsTrue (has_power_factor n) → IsPowerFactor n
power_factor_by_test n = either _ _ (between_by_test (pos 10_000_000) (ones 1) n) (between_by_test (neg_ℤ (ones 1)) (neg_ℤ (pos 10_000_000)) n)

pub power_factor_ok : (pair : Pair) → IfOk (power_factor_in pair) IsPowerFactor
unfolding power_factor_in
power_factor_ok pair = any_ok _ (number_in pair) _ (λ n. if_ok _ _ n _ (power_factor_by_test n))

count_between : (low high : ℕ) (n : ℤ) → IsBetween (ones low) (ones high) n → IsCountBetween low high (count_of n)
count_between low high (pos a) h = record { least = omega (arith, ints); most = omega (arith, ints) }
count_between low high (negsuc a) h = absurd (omega (arith, ints))

pub whole_ok : (low high : ℕ) (pair : Pair) → IfOk (whole_between low high pair) (IsCountBetween low high)
unfolding whole_between
whole_ok low high pair =
    then_ok _ _ (whole_in pair >>= within (ones low) (ones high)) (λ n. Ok (count_of n))
    (any_ok _ (whole_in pair) _ (within_ok (ones low) (ones high))) (count_between low high)

-- ---- one of a few

one_first : (m : ℕ) (ms : List ℕ) → IsOneOf (m ∷ ms) m
one_first m [] = refl
one_first m (k ∷ ms) = inl refl

one_later : (m n : ℕ) (ms : List ℕ) → IsOneOf ms n → IsOneOf (m ∷ ms) n
one_later m n [] h = absurd h
one_later m n (k ∷ ms) h = inr h

one_found : (m : ℕ) (ms : List ℕ) (n : ℤ) (b : Bool) → IfSome (one_of ms n) (IsOneOf ms)
    → IfSome (if b then Some m else one_of ms n) (IsOneOf (m ∷ ms))
one_found m ms n true h = one_first m ms
one_found m ms n false h = weaker_some (one_of ms n) _ _ (λ k. one_later m k ms) h

one_of_some : (ms : List ℕ) (n : ℤ) → IfSome (one_of ms n) (IsOneOf ms)
one_of_some [] n = tt
one_of_some (m ∷ ms) n = one_found m ms n (int_eq (ones m) n) (one_of_some ms n)

pub supported_ok : (values : List ℕ) (pair : Pair) → IfOk (supported_among values pair) (IsOneOf values)
unfolding supported_among
supported_ok values pair = any_ok _ (number_in pair) _ (λ n. found_ok _ (one_of values n) _ (one_of_some values n))

pub among_ok : (values : List ℕ) (pair : Pair) → IfOk (whole_among values pair) (IsOneOf values)
unfolding whole_among
among_ok values pair = any_ok _ (whole_in pair) _ (λ n. found_ok _ (one_of values n) _ (one_of_some values n))

-- ---- rounded numbers

tap_between : (n : ℤ) → IsBetween (pos 500_000_000) (ones 2) n → IsTap (tap_of n)
tap_between (pos a) h = record { least = omega (arith, ints); most = omega (arith, ints) }
tap_between (negsuc a) h = absurd (omega (arith, ints))

pub tap_ok : (pair : Pair) → IfOk (tap_in pair) IsTap
unfolding tap_in
tap_ok pair = then_ok _ _ (number_between (pos 500_000_000) (ones 2) pair) _ (number_ok _ _ pair) tap_between

time_between : (n : ℤ) → IsBetween (pos 0) (ones 1_000_000) n → IsTime (nearest_count 1_000_000 n)
time_between (pos a) h = omega (arith, ints)
time_between (negsuc a) h = absurd (omega (arith, ints))

pub time_ok : (pair : Pair) → IfOk (milliseconds_in pair) IsTime
unfolding milliseconds_in
time_ok pair = then_ok _ _ (number_between (pos 0) (ones 1_000_000) pair) _ (number_ok _ _ pair) time_between

ratio_between : (n : ℤ) → IsBetween (pos 0) (ones 100) n → IsRatio (pos (nearest_count 100_000 n * 100_000))
ratio_between (pos a) h = record { within = record { least = omega (arith, ints); most = omega (arith, ints) }; multiple = omega (arith, ints) }
ratio_between (negsuc a) h = absurd (omega (arith, ints))

pub ratio_ok : (pair : Pair) → IfOk (ratio_in pair) IsRatio
unfolding ratio_in
ratio_ok pair = then_ok _ _ (number_between (pos 0) (ones 100) pair) _ (number_ok _ _ pair) ratio_between

pub half_between : (n : ℤ) → IsBetween (pos 0) (ones 200) n → IsBetween (pos 0) (ones 100) (half n)
half_between (pos a) h = record { least = omega (arith, ints); most = omega (arith, ints) }
half_between (negsuc a) h = absurd (omega (arith, ints))

both : (a b : Bool) → IsTrue (a && b) → IsTrue a × IsTrue b
both true b h = (refl, h)
both false b h = absurd cc

-- the size of an angle that passes the test
record IsTurn (a : ℕ) : Type 0 where
  pub few : a ≤ 360_000_000_000
  pub multiple : a % 30_000_000_000 ≡ 0

turn_by_test : (n : ℤ) → IsTrue (has_angle n) → IsTurn (unsigned_abs n)
turn_by_test n h =
    let t = both (unsigned_abs n % 30_000_000_000 == 0) (nat_le (unsigned_abs n) 360_000_000_000) h in
    record { few = grind (arith, nat_tests, t.1); multiple = grind (arith, nat_tests, t.0) }

angle_of_turn : (n : ℤ) → IsTurn (unsigned_abs n) → IsAngle (int_div n (pos 1_000_000_000))
angle_of_turn (pos a) h = record { within = record { least = omega (arith, ints); most = omega (arith, ints) }; multiple = omega (arith, ints) }
angle_of_turn (negsuc a) h = record { within = record { least = omega (arith, ints); most = omega (arith, ints) }; multiple = omega (arith, ints) }

pub angle_ok : (pair : Pair) → IfOk (angle_in pair) IsAngle
unfolding angle_in
angle_ok pair = any_ok _ (number_in pair) _ (λ n. if_ok _ (has_angle n) _ _ (λ h. angle_of_turn n (turn_by_test n h)))

phase_between : (n : ℤ) → IsBetween (neg_ℤ (ones 1_000_000_000)) (ones 1_000_000_000) n
    → IsPhaseNumber (int_div n (pos 1_000_000_000))
phase_between (pos a) h = record { least = omega (arith, ints); most = omega (arith, ints) }
phase_between (negsuc a) h = record { least = omega (arith, ints); most = omega (arith, ints) }

pub phase_ok : (pair : Pair) → IfOk (phase_in pair) IsPhaseNumber
unfolding phase_in
phase_ok pair =
    then_ok _ _ (whole_in pair >>= within (neg_ℤ (ones 1_000_000_000)) (ones 1_000_000_000)) _
    (any_ok _ (whole_in pair) _ (within_ok (neg_ℤ (ones 1_000_000_000)) (ones 1_000_000_000))) phase_between

-- ---- arrays

each_by_test : (low high : ℤ) (ns : List ℤ) → IsTrue (list_all (is_within low high) ns) → All (IsBetween low high) ns
each_by_test low high [] h = All-nil _
each_by_test low high (n ∷ ns) h =
    let t = both (is_within low high n) (list_all (is_within low high) ns) h in
    All-cons (IsBetween low high) n ns (between_by_test low high n t.0) (each_by_test low high ns t.1)

pub numbers_ok : (low high : ℤ) (pair : Pair) → IfOk (numbers_between low high pair) (All (IsBetween low high))
unfolding numbers_between
numbers_ok low high pair = any_ok _ (numbers_in pair) (all_within low high) (λ ns. if_ok _ (list_all (is_within low high) ns) ns _ (each_by_test low high ns))

-- six shares and a cutoff; another count is refused
seven_ok : (a1 a2 a3 b1 b2 b3 cutoff : ℤ) → All IsShare (a1 ∷ a2 ∷ a3 ∷ b1 ∷ b2 ∷ b3 ∷ [])
    → IfOk (shares_of (a1 ∷ a2 ∷ a3 ∷ b1 ∷ b2 ∷ b3 ∷ cutoff ∷ [])) ZipSharesInRange
seven_ok a1 a2 a3 b1 b2 b3 cutoff h = if_ok ZipSharesInRange (int_eq cutoff (pos 0)) _ _ (λ zero. record {
  p = record { impedance = h 0 (pos 0) (lit< tt); current = h 1 (pos 0) (lit< tt); power = h 2 (pos 0) (lit< tt) };
  q = record { impedance = h 3 (pos 0) (lit< tt); current = h 4 (pos 0) (lit< tt); power = h 5 (pos 0) (lit< tt) };
})

counted_ok : (ns : List ℤ) → All IsShare (take 6 ns) → IfOk (shares_of ns) ZipSharesInRange
counted_ok [] h = tt
counted_ok (a ∷ []) h = tt
counted_ok (a ∷ b ∷ []) h = tt
counted_ok (a ∷ b ∷ c ∷ []) h = tt
counted_ok (a ∷ b ∷ c ∷ d ∷ []) h = tt
counted_ok (a ∷ b ∷ c ∷ d ∷ e ∷ []) h = tt
counted_ok (a ∷ b ∷ c ∷ d ∷ e ∷ f ∷ []) h = tt
counted_ok (a ∷ b ∷ c ∷ d ∷ e ∷ f ∷ g ∷ []) h = seven_ok a b c d e f g h
counted_ok (a ∷ b ∷ c ∷ d ∷ e ∷ f ∷ g ∷ i ∷ ns) h = tt

if_then_ok : {A : Type 0} (Q : A → Type 0) (b : Bool) (r : Result A ModelFault) (e : ModelFault) → (IsTrue b → IfOk r Q)
    → IfOk (if b then r else Err e) Q
if_then_ok Q true r e h = h refl
if_then_ok Q false r e h = tt

shares_within_ok : (ns : List ℤ) → IfOk (shares_within ns) ZipSharesInRange
shares_within_ok ns = if_then_ok ZipSharesInRange (list_all (is_within (neg_ℤ (ones 10)) (ones 10)) (take 6 ns)) (shares_of ns) _
    (λ t. counted_ok ns (each_by_test (neg_ℤ (ones 10)) (ones 10) (take 6 ns) t))

pub shares_ok : (pair : Pair) → IfOk (shares_in pair) ZipSharesInRange
unfolding shares_in
shares_ok pair = any_ok _ (numbers_in pair) shares_within shares_within_ok

two_of_all : {A : Type 0} (P : A → Type 0) (xs : List A) → All P xs → IfOk (two xs) (λ x. P x.0 × P x.1)
two_of_all P [] h = tt
two_of_all P (a ∷ []) h = tt
two_of_all P (a ∷ b ∷ []) h = (All-head P a (b ∷ []) h, All-head P b [] (All-tail P a (b ∷ []) h))
two_of_all P (a ∷ b ∷ c ∷ xs) h = tt

pub two_numbers_ok : (low high : ℤ) (pair : Pair)
    → IfOk (two_numbers_between low high pair) (λ n. IsBetween low high n.0 × IsBetween low high n.1)
unfolding two_numbers_between
two_numbers_ok low high pair = then_ok _ _ (numbers_between low high pair) _ (numbers_ok low high pair) (two_of_all _)

pub two_taps_ok : (pair : Pair) → IfOk (two_taps_in pair) (λ n. IsTap n.0 × IsTap n.1)
unfolding two_taps_in
two_taps_ok pair =
    then_ok _ _ (two_numbers_between (pos 500_000_000) (ones 2) pair) _ (two_numbers_ok _ _ pair)
    (λ n h. (tap_between n.0 h.0, tap_between n.1 h.1))

-- ---- buses

node_ok : (part : List ℕ) → IfOk (node_of part) (λ n. n ≤ 9)
node_ok [] = tt
node_ok (digit ∷ []) = if_ok (λ n. n ≤ 9) (is_ascii_digit digit) _ _ (λ h. grind (arith, nat_tests, h))
node_ok (a ∷ b ∷ part) = tt

-- so many answers, each with P
each_ok : {A B : Type 0} (P : B → Type 0) (f : A → Result B ModelFault) → ((a : A) → IfOk (f a) P) → (xs : List A)
    → IfOk (each f xs) (λ ys. All P ys × (length ys ≡ length xs))
each_ok P f h [] = (All-nil P, refl)
each_ok P f h (x ∷ xs) =
    then_ok P _ (f x) _ (h x) (λ y p.
    made_ok (λ ys. All P ys × (length ys ≡ length xs)) _ (each f xs) (λ ys. y ∷ ys) (each_ok P f h xs) (λ ys q.
    (All-cons P y ys p q.0, ap suc q.1)))

parts_ok : (parts : List (List ℕ)) → IfOk (bus_of_parts parts) BusInRange
parts_ok [] = tt
parts_ok (name ∷ parts) = by (is_name name && nat_le (length parts) 4) refl
  where
    few : (nodes : List ℕ) → length nodes ≡ length parts → nat_le (length parts) 4 ≡ true → length nodes ≤ 4
    few nodes same t = grind (arith, nat_tests, same, t)

    by : (b : Bool) → (is_name name && nat_le (length parts) 4) ≡ b
        → IfOk (if b then (each node_of parts >>= λ nodes. Ok (record { name = name; nodes = nodes })) else Err fault.BadValue) BusInRange
    by true t =
        let most = (both (is_name name) (nat_le (length parts) 4) t).1 in
        made_ok (λ nodes. All (λ n. n ≤ 9) nodes × (length nodes ≡ length parts)) BusInRange (each node_of parts)
        (λ nodes. record { name = name; nodes = nodes }) (each_ok (λ n. n ≤ 9) node_of node_ok parts)
        (λ nodes q. record { few = few nodes q.1 most; digits = q.0 })
    by false t = tt

word_bus_ok : (word : List ℕ) → IfOk (bus_of word) BusInRange
unfolding bus_of
word_bus_ok word = parts_ok (slice_split is_point word)

pub bus_ok : (pair : Pair) → IfOk (bus_in pair) BusInRange
unfolding bus_in
bus_ok pair = any_ok BusInRange (word_in pair) bus_of word_bus_ok

cell_buses_ok : (cells : List (List ℕ)) → IfOk (each bus_of_cell cells) (All BusInRange)
cell_buses_ok cells = IfOk-weaker (each bus_of_cell cells) _ _ (λ buses q. q.0) (each_ok BusInRange bus_of_cell (λ cell. word_bus_ok (lower cell)) cells)

pub two_buses_ok : (pair : Pair) → IfOk (two_buses_in pair) (λ b. BusInRange b.0 × BusInRange b.1)
unfolding two_buses_in
two_buses_ok pair =
    then_ok (All BusInRange) _ (cells_in pair >>= each bus_of_cell) two
    (any_ok (All BusInRange) (cells_in pair) (each bus_of_cell) cell_buses_ok) (two_of_all BusInRange)

-- ---- matrices

rows_by_test : (low high : ℤ) (rows : List (List ℤ)) → IsTrue (list_all (list_all (is_within low high)) rows)
    → All (All (IsBetween low high)) rows
rows_by_test low high [] h = All-nil _
rows_by_test low high (row ∷ rows) h =
    let t = both (list_all (is_within low high) row) (list_all (list_all (is_within low high)) rows) h in
    All-cons (All (IsBetween low high)) row rows (each_by_test low high row t.0) (rows_by_test low high rows t.1)

all_joined : (P : ℤ → Type 0) (rows : List (List ℤ)) → All (All P) rows → All P (joined rows)
all_joined P [] h = All-nil P
all_joined P (row ∷ rows) h = All-append P row (joined rows) (All-head (All P) row rows h) (all_joined P rows (All-tail (All P) row rows h))

at_or : {A : Type 0} (P : A → Type 0) (xs : List A) (i : ℕ) (d : A) → P d → All P xs → P (get_or xs i d)
at_or P [] i d p h = p
at_or P (x ∷ xs) zero d p h = All-head P x xs h
at_or P (x ∷ xs) (suc i) d p h = at_or P xs i d p (All-tail P x xs h)

cell_has : (P : ℤ → Type 0) (rows : List (List ℤ)) (i j : ℕ) → P (pos 0) → All (All P) rows → P (cell rows i j)
cell_has P rows i j p h = at_or P (get_or rows i []) j (pos 0) p (at_or (All P) rows i [] (All-nil P) h)

mirrored_has : (P : ℤ → Type 0) (rows : List (List ℤ)) (i j : ℕ) → P (pos 0) → All (All P) rows → P (mirrored rows i j)
unfolding mirrored
mirrored_has P rows i j p h = cell_has P rows (max i j) (min i j) p h

all_first : (P : ℤ → Type 0) (f : ℕ → ℤ) (n : ℕ) → ((k : ℕ) → P (f k)) → All P (first_of f n)
all_first P f zero h = All-nil P
all_first P f (suc n) h = All-push P (first_of f n) (f n) (all_first P f n h) (h n)

all_rows : (P : ℤ → Type 0) (row : ℕ → List ℤ) (n : ℕ) → ((k : ℕ) → All P (row k)) → All P (row_by_row row n)
all_rows P row zero h = All-nil P
all_rows P row (suc n) h = All-append P (row_by_row row n) (row n) (all_rows P row n h) (h n)

all_symmetric : (P : ℤ → Type 0) (rows : List (List ℤ)) → P (pos 0) → All (All P) rows → All P (symmetric rows)
all_symmetric P rows p h = all_rows P _ (length rows) (λ i. all_first P (mirrored rows i) (length rows) (λ j. mirrored_has P rows i j p h))

whole_or : (P : ℤ → Type 0) (square triangle : Bool) (xs ys : List ℤ) (e : ModelFault) → All P xs → All P ys
    → IfOk (if square then Ok xs else if triangle then Ok ys else Err e) (All P)
whole_or P true triangle xs ys e p q = p
whole_or P false true xs ys e p q = q
whole_or P false false xs ys e p q = tt

whole_matrix_ok : (P : ℤ → Type 0) (rows : List (List ℤ)) → P (pos 0) → All (All P) rows
    → IfOk (whole_matrix rows) (All P)
unfolding whole_matrix
whole_matrix_ok P rows p h =
    whole_or P (is_square rows) (is_triangle_from 0 rows) (joined rows) (symmetric rows) _ (all_joined P rows h)
    (all_symmetric P rows p h)

matrix_or : (Q : List ℤ → Type 0) (grouped : Bool) (r : Result (List ℤ) ModelFault) (e : ModelFault) → IfOk r Q
    → IfOk (if grouped then r else Err e) Q
matrix_or Q true r e h = h
matrix_or Q false r e h = tt

rows_ok : (low high : ℤ) (rows : List (List ℤ)) → IfOk (rows_within low high rows) (All (All (IsBetween low high)))
rows_ok low high rows = if_ok _ (list_all (list_all (is_within low high)) rows) rows _ (rows_by_test low high rows)

-- a range of a matrix includes 0
pub matrix_ok : (low high : ℤ) (pair : Pair) → IsBetween low high (pos 0)
    → IfOk (matrix_between low high pair) (All (IsBetween low high))
unfolding matrix_between
matrix_ok low high pair p =
    matrix_or _ pair.grouped _ _ (then_ok _ _ (from_lexer (matrix_of pair.value) >>= rows_within low high)
    whole_matrix (any_ok _ (from_lexer (matrix_of pair.value)) _ (rows_ok low high)) (λ rows h.
    whole_matrix_ok (IsBetween low high) rows p h))
