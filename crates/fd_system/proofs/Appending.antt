-- Items added at the end of a list one by one.
use Rattle.std.proofs.Common.{◌≡◌, ◌+◌, ◌<◌, ◌≤◌, ◌∙◌, ℕ, List, [], ◌∷◌, ◌++◌, length, get_or, take, ap, sym}
use Rattle.std.proofs.lemmas.List.{append_assoc, take_more, take_all}

-- one item more
pub one_more : {A : Type 0} (start more now : List A) (i : ℕ) (x : A) → i < length more → x ≡ get_or more i x
    → now ≡ start ++ take i more → now ++ x ∷ [] ≡ start ++ take (i + 1) more
one_more start more now i x h is e =
    ap (λ l. l ++ x ∷ []) e
    ∙ append_assoc start (take i more) (x ∷ [])
    ∙ ap (λ l. start ++ l) (ap (λ y. take i more ++ y ∷ []) is ∙ sym (take_more more i x h))

-- all of them
pub all_added : {A : Type 0} (start more now : List A) (i : ℕ) → length more ≤ i → now ≡ start ++ take i more
    → now ≡ start ++ more
all_added start more now i h e = e ∙ ap (λ l. start ++ l) (take_all i more h)
