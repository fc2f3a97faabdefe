-- Laws of the rules.
use Rattle.std.specs.Prelude.{◌≡◌, ℕ, ◌<◌, ◌↔◌, Bool, true, false, List, ◌∷◌, ◌++◌, length, Option, Some, None}
use Rattle.std.specs.List.{AllByRecursion}
use Rattle.fd_certfile.specs.Blocks.{Block}
use Rattle.fd_certfile.specs.Certificates.{Certificate, blocks_of}
use Rattle.fd_certfile.specs.Rules.{Judge, Broken, Holds, rules, first_broken, least_from}
use Rattle.fd_certfile.specs.Verdict.{Due, Answer, accepted, verdict, IsAnswer, AllHold}

-- every rule before the one that is named holds
pub record IsFirst (judge : Judge) (b : Block) (broken : Broken) : Type 0 where
  pub before : List (Option Broken)
  pub after : List (Option Broken)
  pub rules_are : rules judge b ≡ before ++ Some broken ∷ after
  pub hold : AllByRecursion (λ o. o ≡ None) before

pub record RuleLaw : Type 0 where
  -- no rule is named exactly where all hold
  pub none : (judge : Judge) (b : Block) → (first_broken judge b ≡ None) ↔ Holds judge b
  -- the rule that is named is the first that is broken
  pub named : (judge : Judge) (b : Block) (broken : Broken)
      → first_broken judge b ≡ Some broken → IsFirst judge b broken
  -- the place that is named is the least
  pub least : (n i : ℕ) (test : ℕ → Bool) → least_from 0 n test ≡ Some i
      → (i < n) × (test i ≡ false) × ((j : ℕ) → j < i → test j ≡ true)

-- a script, as what is due in each of its states and the state after a block
module _ {S F : Type 0} (due : S → Due F) (after : S → Block → S) where
  pub record AnswersLaw : Type 0 where
    -- bytes have exactly one answer
    pub some : (held : Option (List ℕ)) (s : S) → (answer : Answer F) × IsAnswer due after held s answer
    pub one : (held : Option (List ℕ)) (s : S) (a b : Answer F)
        → IsAnswer due after held s a → IsAnswer due after held s b → a ≡ b
    -- a certificate is accepted exactly where each of its blocks is due and holds and none is missing, with the number
    -- of its blocks
    pub accepts : (c : Certificate) (s : S) (count : ℕ)
        → (verdict due after 2 0 c s ≡ accepted count) ↔ (AllHold due after c s × (count ≡ length (blocks_of c)))
