-- A further pass takes none: each pass that takes one is the last to leave some section untaken.
use Rattle.std.proofs.Common.{◌≡◌, ℕ, zero, suc, ◌+◌, ◌≤◌, ◌<◌, nat_eq, Bool, true, false, cond, not, ◌&&◌, List, [], ◌∷◌, length, ◌⊎◌, inl, inr, refl, sym, ap, ◌∙◌, subst, arith}
use Rattle.std.specs.List.{list_any}
use Rattle.std.proofs.lemmas.List.Folds.{list_any-append}
use Rattle.fd_ladder.specs.declared.section.Section.{Section}
use Rattle.fd_ladder.specs.Radial.{Reach, is_taken, is_next, can_be_taken, with_taken, taken, pass, passes, reach_of}
use Rattle.fd_ladder.specs.RadialLaws.{RadialLaw}
use Rattle.fd_ladder.proofs.Noting.{or_left}
use Rattle.fd_ladder.proofs.Waking.{taken_last}
use Rattle.fd_ladder.proofs.Passing.{stays}

-- ---- what is taken stays taken

abbrev pub Keeps : Reach → Reach → Type 0
Keeps r t = (number : ℕ) → is_taken r.order number ≡ true → is_taken t.order number ≡ true

pub taken_keeps : (s : Section) (r : Reach) → Keeps r (taken s r)
taken_keeps s r number h = by (is_next r s)
  where
    by : (b : Bool) → is_taken (cond b (with_taken r s) r).order number ≡ true
    by true = list_any-append (nat_eq number) r.order (s.element ∷ []) ∙ or_left (is_taken r.order number) (list_any (nat_eq number) (s.element ∷ [])) h
    by false = h

pub pass_keeps : (sections : List Section) (r : Reach) → Keeps r (pass sections r)
pass_keeps [] r number h = h
pass_keeps (s ∷ sections) r number h = pass_keeps sections (taken s r) number (taken_keeps s r number h)

abbrev pub is_done : Section → Reach → Bool
is_done s r = is_taken r.order s.element

-- a section changes nothing, or it wasn't taken and is
pub first_time : (s : Section) (r : Reach) → (taken s r ≡ r) ⊎ ((is_done s r ≡ false) × (is_done s (taken s r) ≡ true))
first_time s r = by (is_taken r.order s.element) refl (can_be_taken r.nodes s) refl
  where
    by : (b : Bool) → is_taken r.order s.element ≡ b → (c : Bool) → can_be_taken r.nodes s ≡ c
        → (taken s r ≡ r) ⊎ ((is_done s r ≡ false) × (is_done s (taken s r) ≡ true))
    by true is c can = inl (ap (λ b. cond (not b && can_be_taken r.nodes s) (with_taken r s) r) is)
    by false is true can =
        let next : is_next r s ≡ true = (λ i. not (is i) && can i) in
        let whole : taken s r ≡ with_taken r s = ap (λ b. cond b (with_taken r s) r) next in
        inr (is, ap (is_done s) whole ∙ taken_last r.order s.element)
    by false is false can =
        let next : is_next r s ≡ false = (λ i. not (is i) && can i) in
        inl (ap (λ b. cond b (with_taken r s) r) next)

-- ---- how many sections are taken

abbrev pub one : Bool → ℕ
one b = cond b 1 0

abbrev pub done_count : List Section → Reach → ℕ
done_count [] r = 0
done_count (s ∷ sections) r = one (is_done s r) + done_count sections r

at_most_one : (b : Bool) → one b ≤ 1
at_most_one true = omega arith
at_most_one false = omega arith

pub one_kept : (b c : Bool) → (b ≡ true → c ≡ true) → one b ≤ one c
one_kept true c h = rw (h refl) (omega arith)
one_kept false c h = omega arith

pub done_most : (sections : List Section) (r : Reach) → done_count sections r ≤ length sections
done_most [] r = omega arith
done_most (s ∷ sections) r = omega (arith, at_most_one (is_done s r), done_most sections r)

pub count_kept : (sections : List Section) (r t : Reach) → Keeps r t → done_count sections r ≤ done_count sections t
count_kept [] r t keeps = omega arith
count_kept (s ∷ sections) r t keeps =
    omega (arith, one_kept (is_done s r) (is_done s t) (keeps s.element), count_kept sections r t keeps)

-- a pass changes nothing, or more sections are taken
pass_counts : (sections : List Section) (r : Reach)
    → (pass sections r ≡ r) ⊎ (done_count sections r < done_count sections (pass sections r))
pass_counts [] r = inl refl
pass_counts (s ∷ sections) r = by (first_time s r) (pass_counts sections r)
  where
    u : Reach
    u = taken s r

    t : Reach
    t = pass sections u

    keeps : Keeps r t
    keeps number h = pass_keeps sections u number (taken_keeps s r number h)

    kept_first : one (is_done s r) ≤ one (is_done s t)
    kept_first = one_kept (is_done s r) (is_done s t) (keeps s.element)

    unchanged : u ≡ r → (pass sections r ≡ r) ⊎ (done_count sections r < done_count sections (pass sections r))
        → (t ≡ r) ⊎ (done_count (s ∷ sections) r < done_count (s ∷ sections) t)
    unchanged f (inl h) = inl (ap (pass sections) f ∙ h)
    unchanged f (inr h) =
        inr (let more : done_count sections r < done_count sections t =
        subst (λ x. done_count sections r < done_count sections (pass sections x)) (sym f) h in
        omega (arith, kept_first, more))

    by : (u ≡ r) ⊎ ((is_done s r ≡ false) × (is_done s u ≡ true))
        → (pass sections r ≡ r) ⊎ (done_count sections r < done_count sections (pass sections r))
        → (t ≡ r) ⊎ (done_count (s ∷ sections) r < done_count (s ∷ sections) t)
    by (inl f) h = unchanged f h
    by (inr f) h =
        let before : one (is_done s r) ≡ 0 = ap one f.0 in
        let after : one (is_done s t) ≡ 1 = ap one (pass_keeps sections u s.element f.1) in
        inr (omega (arith, before, after, count_kept sections r t keeps))

-- as many passes as there are sections that aren't taken are enough
settles : (n : ℕ) (sections : List Section) (r : Reach) → length sections ≤ n + done_count sections r
    → pass sections (passes n sections r) ≡ passes n sections r
settles zero sections r h = by (pass_counts sections r)
  where
    by : (pass sections r ≡ r) ⊎ (done_count sections r < done_count sections (pass sections r)) → pass sections r ≡ r
    by (inl e) = e
    by (inr more) = absurd (omega (arith, h, more, done_most sections (pass sections r)))
settles (suc n) sections r h = by (pass_counts sections r) (λ enough. settles n sections (pass sections r) enough)
  where
    by : (pass sections r ≡ r) ⊎ (done_count sections r < done_count sections (pass sections r))
        → (length sections ≤ n + done_count sections (pass sections r)
        → pass sections (passes n sections (pass sections r)) ≡ passes n sections (pass sections r))
        → pass sections (passes n sections (pass sections r)) ≡ passes n sections (pass sections r)
    by (inl e) rest = let whole : passes n sections (pass sections r) ≡ r = ap (passes n sections) e ∙ stays n sections r e in ap (pass sections) whole ∙ e ∙ sym whole
    by (inr more) rest = rest (omega (arith, h, more))

pub settled : RadialLaw
unfolding reach_of
settled sections nodes = settles (length sections) sections _ (omega arith)
