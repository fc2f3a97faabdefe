-- The acts follow from the decisions alone.
use Rattle.std.proofs.Common.{◌≡◌, ℕ, zero, suc, List, [], ◌∷◌, length, take, refl, ap, sym, ◌∙◌, arith}
use Rattle.fd_sample.specs.fd_queue.Controls.{Positions}
use Rattle.fd_sample.specs.fd_queue.Decisions.{Decision}
use Rattle.fd_sample.specs.fd_queue.Machine.{Machine, Setup, Act}
use Rattle.fd_settle.specs.Sampling.{Sampling, Decided, Unclear}
use Rattle.fd_settle.specs.Settle.{Open, Settled, Limited, Undecidable, Outcome, Ends, Moves, outcome_of, before_rest, Settle, settle_of}
use Rattle.fd_settle.specs.Chosen.{AreOfHeld, GoesOn, AreChosen}
use Rattle.fd_settle.specs.Laws.{ThenAgree, Agree}

-- rests that agree where they are taken
same_rest : (o : Outcome) (f g : Machine → Settle) → ThenAgree o (λ n. f n ≡ g n) → before_rest o f ≡ before_rest o g
same_rest (Ends end m) f g h = refl
same_rest (Moves acts m) f g h = ap (λ (after : Settle). record after { rounds = acts ∷ after.rounds }) h

agree_weaker : (o : Outcome) (P Q : Machine → Type 0) → ((n : Machine) → P n → Q n) → ThenAgree o P → ThenAgree o Q
agree_weaker (Ends end m) P Q f h = tt
agree_weaker (Moves acts m) P Q f h = f m h

pub agreeing : {X Y : Type 0} (s : Setup) (f : Positions → X → Sampling) (g : Positions → Y → Sampling) (m : Machine) (xs : List X) (ys : List Y)
    → Agree s f g m xs ys → settle_of s f m xs ≡ settle_of s g m ys
agreeing s f g m [] [] h = refl
agreeing s f g m [] (y ∷ ys) h = absurd h
agreeing s f g m (x ∷ xs) [] h = absurd h
agreeing s f g m (x ∷ xs) (y ∷ ys) h =
    same_rest (outcome_of s m (f m.at x)) (λ n. settle_of s f n xs) (λ n. settle_of s g n ys)
    (agree_weaker (outcome_of s m (f m.at x)) (λ n. Agree s f g n xs ys) (λ n. settle_of s f n xs ≡ settle_of s g n ys) (λ n k. agreeing s f g n xs ys k) h.1)
    ∙ ap (λ (w : Sampling). before_rest (outcome_of s m w) (λ n. settle_of s g n ys)) h.0

-- a ball's sampling after which the settle goes on, or ends well, is decided, so it is that of a state
held_sampling : {X : Type 0} (s : Setup) (m : Machine) (w v : Sampling) (xs : List X) (P : Machine → Type 0)
    → ((ds : List Decision) → w ≡ Decided ds → v ≡ Decided ds) → GoesOn (outcome_of s m w) xs P → v ≡ w
held_sampling s m (Decided ds) v xs P h k = h ds refl
held_sampling s m (Unclear k u) v xs P h never = absurd never

-- ---- the acts of the rounds that are chosen

none : List (List Act)
none = []

none_left : (n : ℕ) → take n none ≡ none
unfolding none
none_left zero = refl
none_left (suc n) = refl

no_acts : List (List Act) → List (List Act)
no_acts rounds = [] ∷ rounds

one_round : (n : ℕ) → no_acts none ≡ no_acts (take n none)
one_round n = ap no_acts (sym (none_left n))

front_of_rest : {X : Type 0} (o : Outcome) (x : X) (xs : List X) (P : Machine → Type 0) (f g : Machine → Settle)
    → GoesOn o xs P →
    ((n : Machine) → P n → (f n).rounds ≡ take (length xs) (g n).rounds) → (before_rest o f).rounds ≡ take (length (x ∷ xs)) (before_rest o g).rounds
unfolding none no_acts
front_of_rest (Moves acts m) x xs P f g h k = ap (λ (rounds : List (List Act)). acts ∷ rounds) (k m h)
front_of_rest (Ends (Undecidable j u) m) x xs P f g h k = absurd h
front_of_rest (Ends Open m) x xs P f g h k = one_round (length xs)
front_of_rest (Ends Settled m) x xs P f g h k = one_round (length xs)
front_of_rest (Ends Limited m) x xs P f g h k = one_round (length xs)

pub history : {Y X : Type 0} (holds : Positions → Y → X → Type 0) (of_ball : Positions → Y → Sampling)
    (of_state : Positions → X → Sampling)
    → AreOfHeld holds of_ball of_state → (s : Setup) (m : Machine) (ys : List Y) (xs : List X)
    → AreChosen s holds of_ball m ys xs
    → (settle_of s of_state m xs).rounds ≡ take (length xs) (settle_of s of_ball m ys).rounds
history holds of_ball of_state h s m ys [] k = refl
history holds of_ball of_state h s m [] (x ∷ xs) k = absurd k
history holds of_ball of_state h s m (y ∷ ys) (x ∷ xs) k =
    let P : Machine → Type 0 = λ n. AreChosen s holds of_ball n ys xs in
    let same : of_state m.at x ≡ of_ball m.at y = held_sampling s m (of_ball m.at y) (of_state m.at x) xs P (λ ds e. h m.at y x ds k.0 e) k.1 in
    ap (λ (w : Sampling). (before_rest (outcome_of s m w) (λ n. settle_of s of_state n xs)).rounds) same
    ∙ front_of_rest (outcome_of s m (of_ball m.at y)) x xs P (λ n. settle_of s of_state n xs)
    (λ n. settle_of s of_ball n ys) k.1 (λ n c. history holds of_ball of_state h s n ys xs c)

-- ---- a state for each solve

whole_rest : {X : Type 0} (o : Outcome) (xs : List X) (P : Machine → Type 0) (f g : Machine → Settle) → GoesOn o xs P
    → ((n : Machine) → P n → f n ≡ g n) → before_rest o f ≡ before_rest o g
whole_rest (Moves acts m) xs P f g h k = ap (λ (after : Settle). record after { rounds = acts ∷ after.rounds }) (k m h)
whole_rest (Ends end m) xs P f g h k = refl

pub whole : {Y X : Type 0} (holds : Positions → Y → X → Type 0) (of_ball : Positions → Y → Sampling)
    (of_state : Positions → X → Sampling)
    → AreOfHeld holds of_ball of_state → (s : Setup) (m : Machine) (ys : List Y) (xs : List X)
    → AreChosen s holds of_ball m ys xs → length xs ≡ length ys → settle_of s of_state m xs ≡ settle_of s of_ball m ys
whole holds of_ball of_state h s m [] [] k e = refl
whole holds of_ball of_state h s m (y ∷ ys) [] k e = absurd (omega arith)
whole holds of_ball of_state h s m [] (x ∷ xs) k e = absurd k
whole holds of_ball of_state h s m (y ∷ ys) (x ∷ xs) k e =
    let P : Machine → Type 0 = λ n. AreChosen s holds of_ball n ys xs in
    let same : of_state m.at x ≡ of_ball m.at y = held_sampling s m (of_ball m.at y) (of_state m.at x) xs P (λ ds e. h m.at y x ds k.0 e) k.1 in
    let each : length xs ≡ length ys = omega arith in
    ap (λ (w : Sampling). before_rest (outcome_of s m w) (λ n. settle_of s of_state n xs)) same
    ∙ whole_rest (outcome_of s m (of_ball m.at y)) xs P (λ n. settle_of s of_state n xs)
    (λ n. settle_of s of_ball n ys) k.1 (λ n c. whole holds of_ball of_state h s n ys xs c each)
