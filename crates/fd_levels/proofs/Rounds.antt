-- A round over the buses of a front finds the buses of the next level.
use Rattle.std.proofs.Common.{◌≡◌, ℕ, zero, suc, ◌+◌, ◌<◌, ◌==◌, nat_eq, nat_lt, nat_le, Bool, true, false, cond, ◌&&◌, ◌||◌, List, [], ◌∷◌, ◌++◌, length, set, replicate, slice_get, Option, Some, None, is_none, refl, sym, ap, subst, ◌∙◌, if◌then◌else◌, add-one, arith}
use Rattle.std.specs.List.{list_any}
use Rattle.std.specs.Global.{Vec}
use Rattle.std.proofs.lemmas.Bool.Decides.{nat_tests}
use Rattle.std.proofs.lemmas.List.Folds.{list_any-append}
use Rattle.std.proofs.lemmas.List.{length-replicate}
use Rattle.fd_levels.specs.Levels.{is_led, is_level, level_by, level_in, or_level, starts}
use Rattle.fd_levels.specs.Marking.{AreBehind, Marking, buses_behind, is_behind, lacks_level, leads, marked, marked_all, marked_behind, marking}
use Rattle.fd_levels.specs.declared.feed.Feed.{Feed}

-- ---- which buses a marking reaches

-- a level for a bus at which it is so
abbrev pub given_where : Bool → ℕ → Option ℕ
given_where b level = (if b then Some level else None)

-- the buses of which at says so get this level where they have none
pub record Marks (level : ℕ) (at : ℕ → Bool) (before after : Marking) : Type 0 where
  pub long : length after.levels ≡ length before.levels
  pub levels : (b : ℕ) → level_in after.levels b
      ≡ or_level (level_in before.levels b) (given_where (nat_lt b (length before.levels) && at b) level)
  pub found : (b : ℕ) → list_any (nat_eq b) after.found
      ≡ (list_any (nat_eq b) before.found || (is_none (level_in before.levels b) && (nat_lt b (length before.levels) && at b)))

-- ---- one after another

levels_both : (x : Option ℕ) (low p q : Bool) (level : ℕ)
    → or_level (or_level x (given_where (low && p) level)) (given_where (low && q) level) ≡ or_level x (given_where (low && (p || q)) level)
levels_both (Some n) low p q level = refl
levels_both None true true q level = refl
levels_both None true false q level = refl
levels_both None false p q level = refl

found_both : (f : Bool) (x : Option ℕ) (low p q : Bool) (level : ℕ)
    → ((f || (is_none x && (low && p))) || (is_none (or_level x (given_where (low && p) level)) && (low && q)))
    ≡ (f || (is_none x && (low && (p || q))))
found_both true x low p q level = refl
found_both false (Some n) low p q level = refl
found_both false None true true q level = refl
found_both false None true false q level = refl
found_both false None false p q level = refl

marks_both : (level : ℕ) (p q : ℕ → Bool) (m u t : Marking) → Marks level p m u → Marks level q u t → Marks level (λ b. p b || q b) m t
marks_both level p q m u t h k = record {
  long = k.long ∙ h.long;
  levels = λ b.
      k.levels b
      ∙ ap (λ n. or_level (level_in u.levels b) (given_where (nat_lt b n && q b) level)) h.long
      ∙ ap (λ x. or_level x (given_where (nat_lt b (length m.levels) && q b) level)) (h.levels b)
      ∙ levels_both (level_in m.levels b) (nat_lt b (length m.levels)) (p b) (q b) level;
  found = λ b.
      k.found b
      ∙ ap (λ n. list_any (nat_eq b) u.found || (is_none (level_in u.levels b) && (nat_lt b n && q b))) h.long
      ∙ ap (λ x. list_any (nat_eq b) u.found || (is_none x && (nat_lt b (length m.levels) && q b))) (h.levels b)
      ∙ ap (λ f. f || (is_none (or_level (level_in m.levels b) (given_where (nat_lt b (length m.levels) && p b) level))
      && (nat_lt b (length m.levels) && q b))) (h.found b)
      ∙ found_both (list_any (nat_eq b) m.found) (level_in m.levels b) (nat_lt b (length m.levels)) (p b) (q b) level;
}

levels_none : (x : Option ℕ) (low : Bool) (level : ℕ) → x ≡ or_level x (given_where (low && false) level)
levels_none (Some n) low level = refl
levels_none None true level = refl
levels_none None false level = refl

found_none : (f : Bool) (x : Option ℕ) (low : Bool) → f ≡ (f || (is_none x && (low && false)))
found_none true x low = refl
found_none false (Some n) low = refl
found_none false None true = refl
found_none false None false = refl

marks_none : (level : ℕ) (m : Marking) → Marks level (λ b. false) m m
marks_none level m = record {
  long = refl;
  levels = λ b. levels_none (level_in m.levels b) (nat_lt b (length m.levels)) level;
  found = λ b. found_none (list_any (nat_eq b) m.found) (level_in m.levels b) (nat_lt b (length m.levels));
}

-- ---- one bus

-- a place within a table, and the same as another
here_first : (n : ℕ) → (nat_lt 0 (suc n) && nat_eq 0 0) ≡ true
here_first n = grind (arith, nat_tests)

here_behind : (n b : ℕ) → (nat_lt (suc b) (suc n) && nat_eq (suc b) 0) ≡ false
here_behind n b = grind (arith, nat_tests)

here_before : (n bus : ℕ) → (nat_lt 0 (suc n) && nat_eq 0 (suc bus)) ≡ false
here_before n bus = grind (arith, nat_tests)

here_next : (n bus b : ℕ) → (nat_lt (suc b) (suc n) && nat_eq (suc b) (suc bus)) ≡ (nat_lt b n && nat_eq b bus)
here_next n bus b = grind (arith, nat_tests)

here_nowhere : (bus b : ℕ) → (nat_lt b 0 && nat_eq b bus) ≡ false
here_nowhere bus b = grind (arith, nat_tests)

first_other : (bus : ℕ) → nat_eq 0 (suc bus) ≡ false
first_other bus = grind (arith, nat_tests)

later_other : (b : ℕ) → nat_eq (suc b) 0 ≡ false
later_other b = grind (arith, nat_tests)

both_next : (b bus : ℕ) → nat_eq (suc b) (suc bus) ≡ nat_eq b bus
both_next b bus = grind (arith, nat_tests)

pub level_or_none : (x : Option ℕ) → x ≡ or_level x None
level_or_none None = refl
level_or_none (Some n) = refl

not_found : (x : Option ℕ) → false ≡ (is_none x && false)
not_found None = refl
not_found (Some n) = refl

-- what a table says of a bus where another gets a level
abbrev levels_at : Option ℕ → ℕ → Bool → Option ℕ
levels_at x level p = or_level x (given_where p level)

-- what the table says of a bus behind one that gets a level
set_levels : (levels : List (Option ℕ)) (bus level b : ℕ) → lacks_level (slice_get levels bus) ≡ true
    → level_in (set levels bus (Some level)) b ≡ or_level (level_in levels b) (given_where (nat_lt b (length levels) && nat_eq b bus) level)
set_levels [] bus level b h = absurd (let no : false ≡ true = h in cc)
set_levels (None ∷ levels) zero level zero h = ap (levels_at None level) (sym (here_first (length levels)))
set_levels (Some n ∷ levels) zero level zero h = absurd (let no : false ≡ true = h in cc)
set_levels (x ∷ levels) zero level (suc b) h =
    level_or_none (level_in levels b) ∙ ap (levels_at (level_in levels b) level) (sym (here_behind (length levels) b))
set_levels (None ∷ levels) (suc bus) level zero h = ap (levels_at None level) (sym (here_before (length levels) bus))
set_levels (Some n ∷ levels) (suc bus) level zero h = refl
set_levels (x ∷ levels) (suc bus) level (suc b) h =
    set_levels levels bus level b h ∙ ap (levels_at (level_in levels b) level) (sym (here_next (length levels) bus b))

-- the bus is found
set_found : (levels : List (Option ℕ)) (bus b : ℕ) → lacks_level (slice_get levels bus) ≡ true
    → nat_eq b bus ≡ (is_none (level_in levels b) && (nat_lt b (length levels) && nat_eq b bus))
set_found [] bus b h = absurd (let no : false ≡ true = h in cc)
set_found (None ∷ levels) zero zero h = sym (here_first (length levels))
set_found (Some n ∷ levels) zero zero h = absurd (let no : false ≡ true = h in cc)
set_found (x ∷ levels) zero (suc b) h =
    later_other b
    ∙ not_found (level_in levels b)
    ∙ ap (λ p. is_none (level_in levels b) && p) (sym (here_behind (length levels) b))
set_found (None ∷ levels) (suc bus) zero h = first_other bus ∙ sym (here_before (length levels) bus)
set_found (Some n ∷ levels) (suc bus) zero h = first_other bus
set_found (x ∷ levels) (suc bus) (suc b) h =
    both_next b bus
    ∙ set_found levels bus b h
    ∙ ap (λ p. is_none (level_in levels b) && p) (sym (here_next (length levels) bus b))

-- one that has a level, or that there isn't, stays as it is
kept_levels : (levels : List (Option ℕ)) (bus level b : ℕ) → lacks_level (slice_get levels bus) ≡ false
    → level_in levels b ≡ or_level (level_in levels b) (given_where (nat_lt b (length levels) && nat_eq b bus) level)
kept_levels [] bus level b h = ap (levels_at None level) (sym (here_nowhere bus b))
kept_levels (None ∷ levels) zero level zero h = absurd (let no : true ≡ false = h in cc)
kept_levels (Some n ∷ levels) zero level zero h = refl
kept_levels (x ∷ levels) zero level (suc b) h =
    level_or_none (level_in levels b) ∙ ap (levels_at (level_in levels b) level) (sym (here_behind (length levels) b))
kept_levels (None ∷ levels) (suc bus) level zero h = ap (levels_at None level) (sym (here_before (length levels) bus))
kept_levels (Some n ∷ levels) (suc bus) level zero h = refl
kept_levels (x ∷ levels) (suc bus) level (suc b) h =
    kept_levels levels bus level b h ∙ ap (levels_at (level_in levels b) level) (sym (here_next (length levels) bus b))

kept_found : (levels : List (Option ℕ)) (bus b : ℕ) → lacks_level (slice_get levels bus) ≡ false
    → false ≡ (is_none (level_in levels b) && (nat_lt b (length levels) && nat_eq b bus))
kept_found [] bus b h = sym (here_nowhere bus b)
kept_found (None ∷ levels) zero zero h = absurd (let no : true ≡ false = h in cc)
kept_found (Some n ∷ levels) zero zero h = refl
kept_found (x ∷ levels) zero (suc b) h =
    not_found (level_in levels b) ∙ ap (λ p. is_none (level_in levels b) && p) (sym (here_behind (length levels) b))
kept_found (None ∷ levels) (suc bus) zero h = sym (here_before (length levels) bus)
kept_found (Some n ∷ levels) (suc bus) zero h = refl
kept_found (x ∷ levels) (suc bus) (suc b) h =
    kept_found levels bus b h ∙ ap (λ p. is_none (level_in levels b) && p) (sym (here_next (length levels) bus b))

long_set : (levels : List (Option ℕ)) (bus : ℕ) (x : Option ℕ) → length (set levels bus x) ≡ length levels
long_set [] zero x = refl
long_set [] (suc bus) x = refl
long_set (y ∷ levels) zero x = refl
long_set (y ∷ levels) (suc bus) x = ap suc (long_set levels bus x)

or_none : (b : Bool) → (b || false) ≡ b
or_none true = refl
or_none false = refl

marks_one : (level bus : ℕ) (m : Marking) → Marks level (λ b. nat_eq b bus) m (marked level bus m)
marks_one level bus m = by (lacks_level (slice_get m.levels bus)) refl
  where
    by : (lacks : Bool) → lacks_level (slice_get m.levels bus) ≡ lacks
        → Marks level (λ b. nat_eq b bus) m (cond lacks (marking (set m.levels bus (Some level)) (m.found ++ bus ∷ [])) m)
    by true lacks = record {
      long = long_set m.levels bus (Some level);
      levels = λ b. set_levels m.levels bus level b lacks;
      found = λ b.
          list_any-append (nat_eq b) m.found (bus ∷ [])
          ∙ ap (λ x. list_any (nat_eq b) m.found || x) (or_none (nat_eq b bus) ∙ set_found m.levels bus b lacks);
    }
    by false has = record {
      long = refl;
      levels = λ b. kept_levels m.levels bus level b has;
      found = λ b. sym (or_none (list_any (nat_eq b) m.found)) ∙ ap (λ x. list_any (nat_eq b) m.found || x) (kept_found m.levels bus b has);
    }

-- ---- several

marks_all : (level : ℕ) (buses : List ℕ) (m : Marking) → Marks level (λ b. list_any (nat_eq b) buses) m (marked_all level buses m)
marks_all level [] m = marks_none level m
marks_all level (bus ∷ buses) m =
    marks_both level (λ b. nat_eq b bus) (λ b. list_any (nat_eq b) buses) m (marked level bus m) (marked_all level buses (marked level bus m))
    (marks_one level bus m) (marks_all level buses (marked level bus m))

marks_behind : (level : ℕ) (behind : List (Vec ℕ)) (front : List ℕ) (m : Marking)
    → Marks level (λ b. list_any (λ near. is_behind behind near b) front) m (marked_behind level behind front m)
marks_behind level behind [] m = marks_none level m
marks_behind level behind (bus ∷ front) m =
    let next : Marking = marked_all level (buses_behind (slice_get behind bus)) m in
    marks_both level (λ b. is_behind behind bus b) (λ b. list_any (λ near. is_behind behind near b) front) m next (marked_behind level behind front next)
    (marks_all level (buses_behind (slice_get behind bus)) m) (marks_behind level behind front next)

-- a level that only None is like is None
pub only_none : (P : Option ℕ → Type 0) → ((level : ℕ) → P (Some level) → ⊥) → (x : Option ℕ) → P x → x ≡ None
only_none P never None h = refl
only_none P never (Some level) h = absurd (never level h)

-- ---- levels of rounds

pub and_none : (a : Bool) → (a && false) ≡ false
and_none true = refl
and_none false = refl

and_or : (a p q : Bool) → (a && (p || q)) ≡ ((a && p) || (a && q))
and_or true p q = refl
and_or false p q = refl

none_led : (a low : Bool) → false ≡ (a && (low && false))
none_led true true = refl
none_led true false = refl
none_led false low = refl

joined : (a low p q u v : Bool) → (((a && (low && p)) || u) || ((a && (low && q)) || v)) ≡ ((a && (low && (p || q))) || (u || v))
joined true true true q u v = refl
joined true true false true true v = refl
joined true true false true false v = refl
joined true true false false u v = refl
joined true false p q u v = refl
joined false low p q u v = refl

module _ (count : ℕ) (feeds : List Feed) where
  -- the levels up to that of a round, and the buses of that level
  pub record IsRound (n : ℕ) (levels : List (Option ℕ)) (front : List ℕ) : Type 0 where
    pub long : length levels ≡ count + 1
    pub levels_are : (b : ℕ) → level_in levels b ≡ level_by count feeds n b
    pub front_is : (b : ℕ) → list_any (nat_eq b) front ≡ is_level n (level_by count feeds n b)

  pub level_zero : (b : ℕ) → level_by count feeds 0 b ≡ given_where (nat_le b count && list_any (nat_eq b) (starts count feeds)) 0
  unfolding level_by
  level_zero b = refl

  pub level_suc : (n b : ℕ) → level_by count feeds (suc n) b
      ≡ or_level (level_by count feeds n b) (given_where (nat_le b count && is_led feeds (λ near. is_level n (level_by count feeds n near)) b) (suc n))
  unfolding level_by
  level_suc n b = refl

  -- there are no buses behind ground
  pub level_past : (n b : ℕ) → nat_le b count ≡ false → level_by count feeds n b ≡ None
  level_past zero b past =
      level_zero b ∙ ap (λ low. given_where (low && list_any (nat_eq b) (starts count feeds)) 0) past
  level_past (suc n) b past =
      let led : Bool = is_led feeds (λ near. is_level n (level_by count feeds n near)) b in
      level_suc n b
      ∙ ap (λ low. or_level (level_by count feeds n b) (given_where (low && led) (suc n))) past
      ∙ ap (λ x. or_level x None) (level_past n b past)

  given_below : (g : Bool) (l k : ℕ) → l < k → is_level k (given_where g l) ≡ false
  given_below true l k below = grind (arith, nat_tests)
  given_below false l k below = refl

  or_below : (x y : Option ℕ) (k : ℕ) → is_level k x ≡ false → is_level k y ≡ false → is_level k (or_level x y) ≡ false
  or_below None y k h i = i
  or_below (Some l) y k h i = h

  -- no level is above that of the round
  pub level_below : (n k b : ℕ) → n < k → is_level k (level_by count feeds n b) ≡ false
  level_below zero k b below =
      ap (is_level k) (level_zero b) ∙ given_below (nat_le b count && list_any (nat_eq b) (starts count feeds)) 0 k below
  level_below (suc n) k b below =
      let led : Bool = is_led feeds (λ near. is_level n (level_by count feeds n near)) b in
      ap (is_level k) (level_suc n b)
      ∙ or_below (level_by count feeds n b) (given_where (nat_le b count && led) (suc n)) k
      (level_below n k b (omega (arith, below))) (given_below (nat_le b count && led) (suc n) k below)

  low_is : (b : ℕ) → nat_lt b (count + 1) ≡ nat_le b count
  low_is b = grind (arith, nat_tests)

  -- ---- the feeds that lead from a front

  led_one : (far b near x m : ℕ) → (nat_lt x m && ((far == b) && (near == x))) ≡ ((far == b) && (nat_lt near m && nat_eq near x))
  led_one far b near x m = grind (arith, nat_tests)

  any_one : (b x m : ℕ) (fs : List Feed)
      → (nat_lt x m && list_any (leads x b) fs) ≡ list_any (λ f. (f.far == b) && (nat_lt f.near m && nat_eq f.near x)) fs
  any_one b x m [] = and_none (nat_lt x m)
  any_one b x m (f ∷ fs) =
      and_or (nat_lt x m) (leads x b f) (list_any (leads x b) fs)
      ∙ ap (λ p. p || (nat_lt x m && list_any (leads x b) fs)) (led_one f.far b f.near x m)
      ∙ ap (λ p. ((f.far == b) && (nat_lt f.near m && nat_eq f.near x)) || p) (any_one b x m fs)

  any_none : (b m : ℕ) (fs : List Feed) → false ≡ list_any (λ f. (f.far == b) && (nat_lt f.near m && false)) fs
  any_none b m [] = refl
  any_none b m (f ∷ fs) = any_none b m fs ∙ ap (λ p. p || list_any (λ g. (g.far == b) && (nat_lt g.near m && false)) fs) (none_led (f.far == b) (nat_lt f.near m))

  any_join : (b x m : ℕ) (front : List ℕ) (fs : List Feed)
      → (list_any (λ f. (f.far == b) && (nat_lt f.near m && nat_eq f.near x)) fs
      || list_any (λ f. (f.far == b) && (nat_lt f.near m && list_any (nat_eq f.near) front)) fs)
      ≡ list_any (λ f. (f.far == b) && (nat_lt f.near m && list_any (nat_eq f.near) (x ∷ front))) fs
  any_join b x m front [] = refl
  any_join b x m front (f ∷ fs) =
      joined (f.far == b) (nat_lt f.near m) (nat_eq f.near x) (list_any (nat_eq f.near) front)
      (list_any (λ g. (g.far == b) && (nat_lt g.near m && nat_eq g.near x)) fs)
      (list_any (λ g. (g.far == b) && (nat_lt g.near m && list_any (nat_eq g.near) front)) fs)
      ∙ ap (λ p. ((f.far == b) && (nat_lt f.near m && (nat_eq f.near x || list_any (nat_eq f.near) front))) || p) (any_join b x m front fs)

  any_front : (behind : List (Vec ℕ)) (b : ℕ) → AreBehind (count + 1) feeds behind → (front : List ℕ)
      → list_any (λ near. is_behind behind near b) front
      ≡ list_any (λ f. (f.far == b) && (nat_lt f.near (count + 1) && list_any (nat_eq f.near) front)) feeds
  any_front behind b noted [] = any_none b (count + 1) feeds
  any_front behind b noted (x ∷ front) =
      ap (λ p. p || list_any (λ near. is_behind behind near b) front) (noted.noted x b ∙ any_one b x (count + 1) feeds)
      ∙ ap (λ p. list_any (λ f. (f.far == b) && (nat_lt f.near (count + 1) && nat_eq f.near x)) feeds || p) (any_front behind b noted front)
      ∙ any_join b x (count + 1) front feeds

  -- the front has the buses of the level
  front_level : (n : ℕ) (front : List ℕ) → ((b : ℕ) → list_any (nat_eq b) front ≡ is_level n (level_by count feeds n b)) → (near : ℕ)
      → (nat_lt near (count + 1) && list_any (nat_eq near) front) ≡ is_level n (level_by count feeds n near)
  front_level n front is near =
      ap (λ p. nat_lt near (count + 1) && p) (is near)
      ∙ ap (λ p. p && is_level n (level_by count feeds n near)) (low_is near)
      ∙ by (nat_le near count) refl
    where
      by : (low : Bool) → nat_le near count ≡ low → (low && is_level n (level_by count feeds n near)) ≡ is_level n (level_by count feeds n near)
      by true low = refl
      by false past = sym (ap (is_level n) (level_past n near past))

  any_level : (n b : ℕ) (front : List ℕ) → ((near : ℕ) → (nat_lt near (count + 1) && list_any (nat_eq near) front) ≡ is_level n (level_by count feeds n near))
      → (fs : List Feed) → list_any (λ f. (f.far == b) && (nat_lt f.near (count + 1) && list_any (nat_eq f.near) front)) fs
      ≡ is_led fs (λ near. is_level n (level_by count feeds n near)) b
  any_level n b front is [] = refl
  any_level n b front is (f ∷ fs) =
      ap (λ p. ((f.far == b) && p) || list_any (λ g. (g.far == b) && (nat_lt g.near (count + 1) && list_any (nat_eq g.near) front)) fs) (is f.near)
      ∙ ap (λ p. ((f.far == b) && is_level n (level_by count feeds n f.near)) || p) (any_level n b front is fs)

  -- ---- rounds

  found_level : (x : Option ℕ) (g : Bool) (n : ℕ) → is_level n x ≡ false → (is_none x && g) ≡ is_level n (or_level x (given_where g n))
  found_level None true n h = grind (arith, nat_tests)
  found_level None false n h = refl
  found_level (Some l) g n h = sym h

  no_level : (k b : ℕ) → level_in (replicate k None) b ≡ None
  no_level zero zero = refl
  no_level zero (suc b) = refl
  no_level (suc k) zero = refl
  no_level (suc k) (suc b) = no_level k b

  -- the levels and the front of a marking
  is_round : (n : ℕ) (levels : List (Option ℕ)) (at : ℕ → Bool) (made : Marking) (more : List (Option ℕ)) (front : List ℕ)
      → length levels ≡ count + 1 → Marks n at (marking levels []) made → made ≡ marking more front
      → ((b : ℕ) → or_level (level_in levels b) (given_where (nat_le b count && at b) n) ≡ level_by count feeds n b)
      → ((b : ℕ) → is_level n (level_in levels b) ≡ false) → IsRound n more front
  is_round n levels at made more front long h is levels_are below = record {
    long = ap (λ (m : Marking). length m.levels) (sym is) ∙ h.long ∙ long;
    levels_are = λ b. made_is b ∙ levels_are b;
    front_is = λ b.
        ap (λ (m : Marking). list_any (nat_eq b) m.found) (sym is)
        ∙ h.found b
        ∙ ap (λ p. is_none (level_in levels b) && (p && at b)) (low b)
        ∙ found_level (level_in levels b) (nat_le b count && at b) n (below b)
        ∙ ap (is_level n) (levels_are b);
  }
    where
      low : (b : ℕ) → nat_lt b (length levels) ≡ nat_le b count
      low b = ap (nat_lt b) long ∙ low_is b

      made_is : (b : ℕ) → level_in more b ≡ or_level (level_in levels b) (given_where (nat_le b count && at b) n)
      made_is b =
          ap (λ (m : Marking). level_in m.levels b) (sym is)
          ∙ h.levels b
          ∙ ap (λ p. or_level (level_in levels b) (given_where (p && at b) n)) (low b)

  -- ground and the bus of the source
  pub round_first : (levels more : List (Option ℕ)) (front : List ℕ) → levels ≡ replicate (count + 1) None
      → marked_all 0 (starts count feeds) (marking levels []) ≡ marking more front → IsRound 0 more front
  round_first levels more front none is =
      is_round 0 levels (λ b. list_any (nat_eq b) (starts count feeds)) _ more front
      (ap length none ∙ length-replicate (count + 1) None)
      (marks_all 0 (starts count feeds) (marking levels [])) is
      (λ b.
      ap (λ x. or_level x (given_where (nat_le b count && list_any (nat_eq b) (starts count feeds)) 0)) (no b) ∙ sym (level_zero b))
      (λ b. ap (is_level 0) (no b))
    where
      no : (b : ℕ) → level_in levels b ≡ None
      no b = ap (λ (ls : List (Option ℕ)). level_in ls b) none ∙ no_level (count + 1) b

  -- the buses behind those of the front
  next_level : (n : ℕ) (behind : List (Vec ℕ)) (levels more : List (Option ℕ)) (front found : List ℕ)
      → AreBehind (count + 1) feeds behind → IsRound n levels front
      → marked_behind (suc n) behind front (marking levels []) ≡ marking more found → IsRound (suc n) more found
  next_level n behind levels more front found noted round is =
      is_round (suc n) levels (λ b. list_any (λ near. is_behind behind near b) front) _ more found round.long
      (marks_behind (suc n) behind front (marking levels [])) is
      (λ b.
      ap (λ x. or_level x (given_where (nat_le b count && list_any (λ near. is_behind behind near b) front) (suc n))) (round.levels_are b)
      ∙ ap (λ p. or_level (level_by count feeds n b) (given_where (nat_le b count && p) (suc n)))
      (any_front behind b noted front ∙ any_level n b front (front_level n front round.front_is) feeds)
      ∙ sym (level_suc n b))
      (λ b. ap (is_level (suc n)) (round.levels_are b) ∙ level_below n (suc n) b (omega arith))

  pub round_next : (n : ℕ) (behind : List (Vec ℕ)) (levels more : List (Option ℕ)) (front found : List ℕ)
      → AreBehind (count + 1) feeds behind → IsRound n levels front
      → marked_behind (n + 1) behind front (marking levels []) ≡ marking more found → IsRound (n + 1) more found
  round_next n behind levels more front found noted round is =
      subst (λ k. IsRound k more found) (sym (add-one n))
      (next_level n behind levels more front found noted round
      (ap (λ k. marked_behind k behind front (marking levels [])) (sym (add-one n)) ∙ is))
