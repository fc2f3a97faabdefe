-- Groups of pairs by levels, while feeds are added one after another.
use Rattle.std.proofs.Common.{◌≡◌, ◌∙◌, ℕ, zero, suc, ◌+◌, ◌<◌, ◌≤◌, nat_eq, Bool, true, false, List, [], ◌∷◌, ◌++◌, get_or, length, set, take, slice_get, Option, Some, None, refl, sym, ap, subst, add-one, append_assoc, arith, if◌then◌else◌}
use Rattle.std.specs.List.{flat_map}
use Rattle.std.proofs.Math.Seq.{take-suc}
use Rattle.std.proofs.lemmas.Bool.{eqb-true}
use Rattle.std.proofs.lemmas.Bool.Decides.{nat_tests}
use Rattle.std.proofs.lemmas.List.{append-nil, length-set, take_all}
use Rattle.std.proofs.lemmas.List.Elements.{filter-append}
use Rattle.std.proofs.lemmas.List.Concat.{flat_map-append}
use Rattle.std.proofs.lemmas.Option.{slice_get_read, slice_get_within}
use Rattle.fd_triangles.specs.declared.pair.Pair.{Pair}
use Rattle.fd_levels.specs.Grouping.{Adds, AreGroupsOf, IsGroupOf}
use Rattle.fd_levels.specs.Levels.{is_level}
use Rattle.fd_levels.specs.Order.{at_level, current_pairs, down_from, level_pairs, voltage_pairs}
use Rattle.fd_levels.specs.declared.feed.Feed.{Feed}
use Rattle.fd_levels.specs.declared.group.Group.{Group}

-- a feed whose far bus hasn't this level changes nothing of it
pub at_other : (level : ℕ → Option ℕ) (feeds : List Feed) (f : Feed) (n : ℕ) → is_level n (level f.far) ≡ false
    → at_level level (feeds ++ f ∷ []) n ≡ at_level level feeds n
at_other level feeds f n other =
    filter-append (λ g. is_level n (level g.far)) feeds (f ∷ [])
    ∙ ap (λ b. at_level level feeds n ++ (if b then f ∷ [] else [])) other
    ∙ append-nil (at_level level feeds n)

-- one whose far bus has it comes last
pub at_own : (level : ℕ → Option ℕ) (feeds : List Feed) (f : Feed) (n : ℕ) → is_level n (level f.far) ≡ true
    → at_level level (feeds ++ f ∷ []) n ≡ at_level level feeds n ++ f ∷ []
at_own level feeds f n own =
    filter-append (λ g. is_level n (level g.far)) feeds (f ∷ [])
    ∙ ap (λ b. at_level level feeds n ++ (if b then f ∷ [] else [])) own

one_more : {Y : Type 0} (pairs : Feed → List Y) (before after : List Y) (feeds more : List Feed) (f : Feed)
    → after ≡ before ++ pairs f → before ≡ flat_map pairs feeds → more ≡ feeds ++ f ∷ [] → after ≡ flat_map pairs more
one_more pairs before after feeds more f pushed were is =
    pushed
    ∙ ap (λ ps. ps ++ pairs f) were
    ∙ ap (λ ps. flat_map pairs feeds ++ ps) (sym (append-nil (pairs f)))
    ∙ sym (flat_map-append pairs feeds (f ∷ []))
    ∙ ap (flat_map pairs) (sym is)

-- a group that has a further feed
pub group_own : (level : ℕ → Option ℕ) (feeds : List Feed) (f : Feed) (n : ℕ) (before after : Group) → is_level n (level f.far) ≡ true
    → after.currents.items ≡ before.currents.items ++ current_pairs f → after.voltages.items ≡ before.voltages.items ++ voltage_pairs f
    → IsGroupOf before (at_level level feeds n) → IsGroupOf after (at_level level (feeds ++ f ∷ []) n)
group_own level feeds f n before after own currents voltages was = record {
  currents = one_more current_pairs before.currents.items after.currents.items (at_level level feeds n) _ f currents was.currents (at_own level feeds f n own);
  voltages = one_more voltage_pairs before.voltages.items after.voltages.items (at_level level feeds n) _ f voltages was.voltages (at_own level feeds f n own);
}

pub group_other : (level : ℕ → Option ℕ) (feeds : List Feed) (f : Feed) (n : ℕ) (group : Group) → is_level n (level f.far) ≡ false
    → IsGroupOf group (at_level level feeds n) → IsGroupOf group (at_level level (feeds ++ f ∷ []) n)
group_other level feeds f n group other was =
    subst (IsGroupOf group) (sym (at_other level feeds f n other)) was

-- the groups of one more feed
pub groups_more : (level : ℕ → Option ℕ) (feeds : List Feed) (i : ℕ) (f : Feed) (before after : List Group) → i < length feeds
    → f ≡ get_or feeds i f → AreGroupsOf level (take i feeds) before → Adds level before after f → AreGroupsOf level (take (i + 1) feeds) after
groups_more level feeds i f before after low is were adds n group at =
    let more : take i feeds ++ f ∷ [] ≡ take (i + 1) feeds =
    ap (λ (g : Feed). take i feeds ++ g ∷ []) is ∙ sym (ap (λ k. take k feeds) (add-one i) ∙ take-suc feeds i f low) in
    subst (λ fs. IsGroupOf group (at_level level fs n)) more (adds.each n group (take i feeds) at (λ old was. were n old was))

pub groups_all : (level : ℕ → Option ℕ) (feeds : List Feed) (i : ℕ) (groups : List Group) → length feeds ≤ i
    → AreGroupsOf level (take i feeds) groups → AreGroupsOf level feeds groups
groups_all level feeds i groups past are n group at =
    subst (λ fs. IsGroupOf group (at_level level fs n)) (take_all i feeds past) (are n group at)

-- ---- one feed

both_next : (k n : ℕ) → nat_eq k n ≡ nat_eq (suc k) (suc n)
both_next k n = grind (arith, nat_tests)

set_here : {X : Type 0} (xs : List X) (k : ℕ) (x y : X) → slice_get (set xs k x) k ≡ Some y → x ≡ y
set_here [] k x y at = absurd (let no : None ≡ Some y = at in cc)
set_here (z ∷ xs) zero x y at = let same : Some x ≡ Some y = at in cc
set_here (z ∷ xs) (suc k) x y at = set_here xs k x y at

set_there : {X : Type 0} (xs : List X) (k n : ℕ) (x : X) → nat_eq k n ≡ false → slice_get (set xs k x) n ≡ slice_get xs n
set_there [] k n x apart = refl
set_there (z ∷ xs) zero zero x apart = absurd (let no : true ≡ false = apart in cc)
set_there (z ∷ xs) zero (suc n) x apart = refl
set_there (z ∷ xs) (suc k) zero x apart = refl
set_there (z ∷ xs) (suc k) (suc n) x apart = set_there xs k n x (both_next k n ∙ apart)

-- its far bus has a level, of which there is a group
pub adds_own : (level : ℕ → Option ℕ) (groups : List Group) (l : ℕ) (f : Feed) (old after : Group) → level f.far ≡ Some l
    → slice_get groups l ≡ Some old → after.currents.items ≡ old.currents.items ++ current_pairs f
    → after.voltages.items ≡ old.voltages.items ++ voltage_pairs f → Adds level groups (set groups l after) f
adds_own level groups l f old after is here currents voltages = record {
  long = length-set groups l after;
  each = λ n group feeds at was. by n group feeds at was (nat_eq l n) refl;
}
  where
    by : (n : ℕ) (group : Group) (feeds : List Feed) → slice_get (set groups l after) n ≡ Some group
        → ((was : Group) → slice_get groups n ≡ Some was → IsGroupOf was (at_level level feeds n))
        → (b : Bool) → nat_eq l n ≡ b → IsGroupOf group (at_level level (feeds ++ f ∷ []) n)
    by n group feeds at was true same =
        let one : l ≡ n = eqb-true l n same in
        let it : after ≡ group = set_here groups l after group (subst (λ k. slice_get (set groups l after) k ≡ Some group) (sym one) at) in
        subst (λ (g : Group). IsGroupOf g (at_level level (feeds ++ f ∷ []) n)) it
        (group_own level feeds f n old after (ap (is_level n) is ∙ same) currents voltages
        (was old (subst (λ k. slice_get groups k ≡ Some old) one here)))
    by n group feeds at was false other =
        group_other level feeds f n group (ap (is_level n) is ∙ other) (was group (sym (set_there groups l n after other) ∙ at))

-- it has none
pub adds_none : (level : ℕ → Option ℕ) (groups : List Group) (f : Feed) → level f.far ≡ None → Adds level groups groups f
adds_none level groups f is = record {
  long = refl;
  each = λ n group feeds at was. group_other level feeds f n group (ap (is_level n) is) (was group at);
}

-- there is no group of its level
pub adds_past : (level : ℕ → Option ℕ) (groups : List Group) (l : ℕ) (f : Feed) → level f.far ≡ Some l → length groups ≤ l
    → Adds level groups groups f
adds_past level groups l f is past = record {
  long = refl;
  each = λ n group feeds at was.
      group_other level feeds f n group (ap (is_level n) is ∙ apart n (slice_get_within groups n group at)) (was group at);
}
  where
    apart : (n : ℕ) → n < length groups → nat_eq l n ≡ false
    apart n low = grind (arith, nat_tests)

-- one more group without pairs
pub empty_more : (level : ℕ → Option ℕ) (groups : List Group) (g : Group) → g.currents.items ≡ [] → g.voltages.items ≡ []
    → AreGroupsOf level [] groups → AreGroupsOf level [] (groups ++ g ∷ [])
empty_more level [] g currents voltages are zero group at =
    let same : g ≡ group = cc in
    subst (λ (x : Group). IsGroupOf x []) same (record { currents = currents; voltages = voltages })
empty_more level [] g currents voltages are (suc n) group at = absurd (let no : None ≡ Some group = at in cc)
empty_more level (x ∷ groups) g currents voltages are zero group at =
    let was = are 0 group at in record { currents = was.currents; voltages = was.voltages }
empty_more level (x ∷ groups) g currents voltages are (suc n) group at =
    let was = empty_more level groups g currents voltages
    (λ k old there. let it = are (suc k) old there in record { currents = it.currents; voltages = it.voltages }) n group at in
    record { currents = was.currents; voltages = was.voltages }

-- ---- all levels

-- the group of a level has its pairs
pub group_pairs : (level : ℕ → Option ℕ) (feeds : List Feed) (groups : List Group) (n : ℕ) (g : Group) → AreGroupsOf level feeds groups
    → n < length groups → g ≡ get_or groups n g → g.currents.items ++ g.voltages.items ≡ level_pairs level feeds n
group_pairs level feeds groups n g are low is =
    let it = are n g (slice_get_read groups (length groups) n g refl low is) in
    ap (λ ps. ps ++ g.voltages.items) it.currents ∙ ap (λ ps. flat_map current_pairs (at_level level feeds n) ++ ps) it.voltages

-- the pairs of one more level
pub level_next : (f : ℕ → List Pair) (before after all now : List Pair) (l n : ℕ) → l ≡ n + 1 → now ≡ f n → after ≡ before ++ now
    → before ++ flat_map f (down_from l) ≡ all → after ++ flat_map f (down_from n) ≡ all
level_next f before after all now l n next is pushed so_far =
    let suc_is : suc n ≡ l = sym (next ∙ add-one n) in
    ap (λ ps. ps ++ flat_map f (down_from n)) (pushed ∙ ap (λ ps. before ++ ps) is)
    ∙ append_assoc before (f n) (flat_map f (down_from n))
    ∙ ap (λ k. before ++ flat_map f (down_from k)) suc_is
    ∙ so_far
