-- One more section of a script: its draws, and its lines behind those before.
use Rattle.std.proofs.Common.{◌≡◌, ◌≤◌, ◌+◌, ◌-◌, ◌*◌, ◌∙◌, ℕ, zero, suc, List, [], ◌∷◌, ◌++◌, map, sym, ap, arith, add-zero}
use Rattle.std.proofs.lemmas.List.{append_assoc, append-nil, map-append}
use Rattle.std.specs.List.{range_with_len, flat_map}
use Rattle.fd_gen.specs.Draws.{drawn, next, number_after}
use Rattle.fd_gen.specs.Script.{ended, section, section_by, sections_of}

step : (first n m : ℕ) (x : ℕ) → x ≡ number_after first n → m ≡ suc n → next x ≡ number_after first m
unfolding number_after
step first n m x is e = rw e (ap next is)

first_draw : (first k x : ℕ) → 1 ≤ k → x ≡ number_after first (3 * (k - 1)) → next x ≡ number_after first (3 * k - 2)
first_draw first k x some is = step first (3 * (k - 1)) (3 * k - 2) x is (omega arith)

second_draw : (first k x : ℕ) → 1 ≤ k → x ≡ number_after first (3 * (k - 1))
    → next (next x) ≡ number_after first (3 * k - 1)
second_draw first k x some is = step first (3 * k - 2) (3 * k - 1) (next x) (first_draw first k x some is) (omega arith)

pub third_draw : (first k x : ℕ) → 1 ≤ k → x ≡ number_after first (3 * (k - 1))
    → next (next (next x)) ≡ number_after first (3 * k)
third_draw first k x some is = step first (3 * k - 1) (3 * k) (next (next x)) (second_draw first k x some is) (omega arith)

-- a section by the draws behind those of the sections before it is the section by its number
same_section : (first k x : ℕ) → 1 ≤ k → x ≡ number_after first (3 * (k - 1))
    → section_by k (drawn (next x)) (drawn (next (next x))) (drawn (next (next (next x)))) ≡ section first k
same_section first k x some is =
    ap (λ n. section_by k (drawn n) (drawn (next (next x))) (drawn (next (next (next x))))) (first_draw first k x some is)
    ∙ ap (λ n. section_by k (drawn (number_after first (3 * k - 2))) (drawn n) (drawn (next (next (next x))))) (second_draw first k x some is)
    ∙ ap (λ n. section_by k (drawn (number_after first (3 * k - 2))) (drawn (number_after first (3 * k - 1))) (drawn n)) (third_draw first k x some is)

range_more : (a n : ℕ) → range_with_len a (suc n) ≡ range_with_len a n ++ (a + n) ∷ []
range_more a zero = ap (λ k. k ∷ []) (sym (add-zero a))
range_more a (suc n) = ap (λ l. a ∷ l) (range_more (a + 1) n ∙ ap (λ k. range_with_len (a + 1) n ++ k ∷ []) (omega arith))

flat_map-one_more : {X : Type 0} (f : ℕ → List X) (xs : List ℕ) (x : ℕ)
    → flat_map f (xs ++ x ∷ []) ≡ flat_map f xs ++ f x
flat_map-one_more f [] x = append-nil (f x)
flat_map-one_more f (y ∷ ys) x = ap (λ l. f y ++ l) (flat_map-one_more f ys x) ∙ sym (append_assoc (f y) (flat_map f ys) (f x))

-- the lines of one more section stand behind the others
sections_more : (first k n : ℕ) → k ≡ suc n → sections_of first k ≡ sections_of first n ++ section first k
sections_more first k n e =
    let one : sections_of first (suc n) ≡ sections_of first n ++ section first (1 + n) =
    ap (λ l. flat_map (section first) l) (range_more 1 n) ∙ flat_map-one_more (section first) (range_with_len 1 n) (1 + n) in
    let j : 1 + n ≡ k = omega (arith, e) in
    ap (λ m. sections_of first m) e ∙ one ∙ ap (λ m. sections_of first n ++ section first m) j

-- what stands in the records after one more section
pub lines_more : (first k x : ℕ) → 1 ≤ k → x ≡ number_after first (3 * (k - 1)) → (all before old : List (List ℕ))
    → before ≡ old ++ map ended (sections_of first (k - 1))
    → all ≡ before ++ map ended (section_by k (drawn (next x)) (drawn (next (next x))) (drawn (next (next (next x)))))
    → all ≡ old ++ map ended (sections_of first k)
lines_more first k x some is all before old so_far now =
    let more = sections_more first k (k - 1) (omega arith) in
    now ∙ ap (λ l. before ++ map ended l) (same_section first k x some is)
    ∙ ap (λ l. l ++ map ended (section first k)) so_far
    ∙ append_assoc old (map ended (sections_of first (k - 1))) (map ended (section first k))
    ∙ ap (λ l. old ++ l) (sym (map-append ended (sections_of first (k - 1)) (section first k)) ∙ ap (λ l. map ended l) (sym more))

-- a line is pushed
pub pushed : (before after : List (List ℕ)) (bytes line : List ℕ) → after ≡ before ++ ended bytes ∷ [] → bytes ≡ line
    → after ≡ before ++ ended line ∷ []
pushed before after bytes line e same = e ∙ ap (λ t. before ++ ended t ∷ []) same

-- lines that are pushed one by one stand in order
pub two_pushed : (a b c : List (List ℕ)) (x y : List ℕ) → b ≡ a ++ x ∷ [] → c ≡ b ++ y ∷ [] → c ≡ a ++ x ∷ y ∷ []
two_pushed a b c x y first second = second ∙ ap (λ l. l ++ y ∷ []) first ∙ append_assoc a (x ∷ []) (y ∷ [])

pub three_pushed : (a b c d : List (List ℕ)) (x y z : List ℕ) → b ≡ a ++ x ∷ [] → c ≡ b ++ y ∷ [] → d ≡ c ++ z ∷ []
    → d ≡ a ++ x ∷ y ∷ z ∷ []
three_pushed a b c d x y z first second third = third ∙ ap (λ l. l ++ z ∷ []) (two_pushed a b c x y first second) ∙ append_assoc a (x ∷ y ∷ []) (z ∷ [])
