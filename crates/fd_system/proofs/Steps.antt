-- Contributions that are added one after another.
use Rattle.std.proofs.Common.{◌≡◌, ◌∙◌, ℕ, ◌+◌, List, ◌++◌, append_assoc, add-one, ap}
use Rattle.fd_arith.specs.declared.terms.Term.{Term}
use Rattle.fd_system.specs.Contributions.{concat_below}

-- what was added so far, and what this step of a loop adds
pub one_more : (old loop new s : List Term) (f : ℕ → List Term) (m : ℕ) → new ≡ loop ++ s → loop ≡ old ++ concat_below f m
    → s ≡ f m → new ≡ old ++ concat_below f (m + 1)
one_more old loop new s f m e h p =
    rw (add-one m) (e ∙ ap (λ t. t ++ s) h ∙ append_assoc old (concat_below f m) s ∙ ap (λ t. old ++ (concat_below f m ++ t)) p)

-- two steps, and four
pub joined_two : (o n1 n2 a b : List Term) → n1 ≡ o ++ a → n2 ≡ n1 ++ b → n2 ≡ o ++ (a ++ b)
joined_two o n1 n2 a b e1 e2 = e2 ∙ ap (λ s. s ++ b) e1 ∙ append_assoc o a b

pub joined_four : (o n1 n2 n3 n4 a b c d : List Term) → n1 ≡ o ++ a → n2 ≡ n1 ++ b → n3 ≡ n2 ++ c → n4 ≡ n3 ++ d
    → n4 ≡ o ++ ((a ++ b) ++ (c ++ d))
joined_four o n1 n2 n3 n4 a b c d e1 e2 e3 e4 =
    e4 ∙ ap (λ s. s ++ d) (e3 ∙ ap (λ s. s ++ c) (e2 ∙ ap (λ s. s ++ b) e1)) ∙ simp append_assoc
