-- The point of a node's name.
use Rattle.std.proofs.Common.{◌≡◌, ◌∙◌, ◌+◌, ◌-◌, ◌<◌, ◌≤◌, ◌==◌, ℕ, List, [], ◌∷◌, ◌++◌, length, take, drop, get_or, true, false, refl, sym, ap, append_assoc}
use Rattle.std.proofs.lemmas.List.{append-nil, drop_all, take_all}
use Rattle.fd_picture.specs.Numbers.{before_dot, behind_dot}
use Rattle.fd_picture.proofs.LineSteps.{byte_next, taken_next, whole_tail}

-- no point stands before a place
pub record NoDot (name : List ℕ) (i : ℕ) : Type 0 where
  pub before : before_dot name ≡ take i name ++ before_dot (drop i name)
  pub behind : behind_dot name ≡ behind_dot (drop i name)

pub dot_none : (name : List ℕ) → NoDot name 0
dot_none name = record { before = refl; behind = refl }

before_goes : (c : ℕ) (cs : List ℕ) → (c == 46) ≡ false → before_dot (c ∷ cs) ≡ c ∷ before_dot cs
before_goes c cs e = rw e refl

behind_goes : (c : ℕ) (cs : List ℕ) → (c == 46) ≡ false → behind_dot (c ∷ cs) ≡ behind_dot cs
behind_goes c cs e = rw e refl

before_ends : (c : ℕ) (cs : List ℕ) → (c == 46) ≡ true → before_dot (c ∷ cs) ≡ []
before_ends c cs e = rw e refl

behind_ends : (c : ℕ) (cs : List ℕ) → (c == 46) ≡ true → behind_dot (c ∷ cs) ≡ cs
behind_ends c cs e = rw e refl

pub dot_later : (name : List ℕ) (i : ℕ) → i < length name → (get_or name i 0 == 46) ≡ false → NoDot name i
    → NoDot name (i + 1)
dot_later name i h e so = record {
  before = so.before
      ∙ ap (λ rest. take i name ++ before_dot rest) (byte_next name i h)
      ∙ ap (λ rest. take i name ++ rest) (before_goes (get_or name i 0) (drop (i + 1) name) e)
      ∙ sym (append_assoc (take i name) (get_or name i 0 ∷ []) (before_dot (drop (i + 1) name)))
      ∙ ap (λ taken. taken ++ before_dot (drop (i + 1) name)) (sym (taken_next name i h));
  behind = so.behind ∙ ap behind_dot (byte_next name i h) ∙ behind_goes (get_or name i 0) (drop (i + 1) name) e;
}

pub before_here : (name : List ℕ) (i : ℕ) → i < length name → (get_or name i 0 == 46) ≡ true → NoDot name i
    → take i name ≡ before_dot name
before_here name i h e so =
    sym (so.before ∙ ap (λ rest. take i name ++ before_dot rest) (byte_next name i h)
    ∙ ap (λ rest. take i name ++ rest) (before_ends (get_or name i 0) (drop (i + 1) name) e)
    ∙ append-nil (take i name))

pub behind_here : (name : List ℕ) (i : ℕ) → i < length name → (get_or name i 0 == 46) ≡ true → NoDot name i
    → take (length name - (i + 1)) (drop (i + 1) name) ≡ behind_dot name
behind_here name i h e so =
    whole_tail name (i + 1) ∙ sym (so.behind ∙ ap behind_dot (byte_next name i h) ∙ behind_ends (get_or name i 0) (drop (i + 1) name) e)

pub before_nowhere : (name : List ℕ) (i : ℕ) → length name ≤ i → NoDot name i → name ≡ before_dot name
before_nowhere name i h so =
    sym (so.before ∙ ap (λ rest. take i name ++ before_dot rest) (drop_all i name h) ∙ append-nil (take i name) ∙ take_all i name h)

pub behind_nowhere : (name : List ℕ) (i : ℕ) → length name ≤ i → NoDot name i → [] ≡ behind_dot name
behind_nowhere name i h so = sym (so.behind ∙ ap behind_dot (drop_all i name h))
