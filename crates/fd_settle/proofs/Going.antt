-- A settle that goes on, over any plant.
use Rattle.std.proofs.Common.{◌≡◌, None, List, [], ◌∷◌, ◌++◌, length, map, Result, Ok, refl, sym, ap, ◌∙◌, subst}
use Rattle.fd_inject.specs.fd_pattern.Views.{NetworkView}
use Rattle.fd_cert.specs.fd_enclosure.Sound.{Claim}
use Rattle.fd_cert.specs.Claims.{claim_in}
use Rattle.fd_sample.specs.fd_queue.Controls.{Positions}
use Rattle.fd_sample.specs.fd_queue.Machine.{Machine, Setup, Act, Step, Quiet, AtLimit, Acts, step_of}
use Rattle.fd_sample.specs.fd_queue.MachineLaws.{CountLaw, CountsActs, IsCounted}
use Rattle.fd_settle.specs.declared.round.Round.{Round}
use Rattle.fd_settle.specs.Sampling.{Sampling, Decided, Unclear}
use Rattle.fd_settle.specs.Settle.{End, Open, Outcome, Ends, Moves, outcome_of, outcome_after, before_rest, Settle, settle_of}
use Rattle.fd_settle.specs.Plant.{Plant}
use Rattle.fd_settle.specs.Rounds.{AtEach, acts_in, after_round, claims_in, left_by, seen, settled}
use Rattle.fd_settle.specs.Calls.{AreCalls, IsLast}

-- ---- one item more at a settle that is open

-- a settle with a round more
abbrev pub with_round : Settle → Outcome → Settle
with_round s (Ends end m) = record { rounds = s.rounds ++ [] ∷ []; end = end; machine = m }
with_round s (Moves acts m) = record { rounds = s.rounds ++ acts ∷ []; end = Open; machine = m }

one_round : (o : Outcome) (m : Machine)
    → before_rest o (λ n. record { rounds = []; end = Open; machine = n }) ≡ with_round (record { rounds = []; end = Open; machine = m }) o
one_round (Ends end n) m = refl
one_round (Moves acts n) m = refl

-- a round that ends leaves no settle open
never_open : (step : Step) (end : End) (m : Machine) → outcome_after step ≡ Ends end m → end ≡ Open → ⊥
never_open (Quiet n) end m e o = cc
never_open (AtLimit n) end m e o = cc
never_open (Acts n acts) end m e o = cc

pub round_ends : (s : Setup) (m : Machine) (w : Sampling) (end : End) (n : Machine) → outcome_of s m w ≡ Ends end n
    → end ≡ Open → ⊥
round_ends s m (Decided ds) end n e o = never_open (step_of s ds m) end n e o
round_ends s m (Unclear k u) end n e o = cc

joined_by : (s : Settle) (o : Outcome) (acts : List Act)
    → (let after = with_round s o in record after { rounds = acts ∷ after.rounds }) ≡ with_round (record s { rounds = acts ∷ s.rounds }) o
joined_by s (Ends end m) acts = refl
joined_by s (Moves more m) acts = refl

-- where a settle is open, one item more adds one round
more_by : (r : Outcome) (f g : Machine → Settle) (next : Machine → Outcome)
    → ((end : End) (m : Machine) → r ≡ Ends end m → end ≡ Open → ⊥) →
    ((n : Machine) → (f n).end ≡ Open → g n ≡ with_round (f n) (next (f n).machine)) →
    (before_rest r f).end ≡ Open → before_rest r g ≡ with_round (before_rest r f) (next (before_rest r f).machine)
more_by (Ends end m) f g next never h o = absurd (never end m refl o)
more_by (Moves acts m) f g next never h o =
    ap (λ (after : Settle). record after { rounds = acts ∷ after.rounds }) (h m o)
    ∙ joined_by (f m) (next (f m).machine) acts

pub settle_more : {X : Type 0} (s : Setup) (look : Positions → X → Sampling) (m : Machine) (xs : List X) (x : X)
    → (settle_of s look m xs).end ≡ Open
    → settle_of s look m (xs ++ x ∷ [])
    ≡ with_round (settle_of s look m xs)
    (outcome_of s (settle_of s look m xs).machine (look (settle_of s look m xs).machine.at x))
settle_more s look m [] x o = one_round (outcome_of s m (look m.at x)) m
settle_more s look m (y ∷ ys) x o =
    more_by (outcome_of s m (look m.at y)) (λ n. settle_of s look n ys) (λ n. settle_of s look n (ys ++ x ∷ []))
    (λ n. outcome_of s n (look n.at x)) (round_ends s m (look m.at y)) (λ n p. settle_more s look n ys x p) o

-- ---- a settle so far

-- these rounds are those of a settle that ends so, with the solver and the machine that they leave
pub record IsStanding {V F : Type 0} (gives : V → NetworkView → Result Claim F → V → Type 0)
    (P : Positions → Claim → Type 0) (p : Plant) (v : V) (m : Machine) (rounds : List Round) (end : End) (n : Machine)
    (w : V) : Type 0 where
  pub is_settle : settled p m rounds ≡ record { rounds = acts_in rounds; end = end; machine = n }
  pub calls : AreCalls gives p v m (claims_in rounds) w
  pub each : AtEach P p m (claims_in rounds)

abbrev pub end_of : Outcome → End
end_of (Ends end m) = end
end_of (Moves acts m) = Open

abbrev pub acts_of : Outcome → List Act
acts_of (Ends end m) = []
acts_of (Moves acts m) = acts

with_round_is : (s : Settle) (o : Outcome)
    → with_round s o ≡ record { rounds = s.rounds ++ acts_of o ∷ []; end = end_of o; machine = left_by o }
with_round_is s (Ends end m) = refl
with_round_is s (Moves acts m) = refl

-- an open settle is that of its rest
record IsRest (s t : Settle) : Type 0 where
  machine : s.machine ≡ t.machine
  open' : t.end ≡ Open

rest_by : (o : Outcome) (f : Machine → Settle) → ((end : End) (m : Machine) → o ≡ Ends end m → end ≡ Open → ⊥)
    → (before_rest o f).end ≡ Open → IsRest (before_rest o f) (f (left_by o))
rest_by (Ends end m) f never o = absurd (never end m refl o)
rest_by (Moves acts m) f never o = record { machine = refl; open' = o }

rest_of : (p : Plant) (m : Machine) (c : Claim) (cs : List Claim) → (settle_of p.setup p.look m (c ∷ cs)).end ≡ Open →
    IsRest (settle_of p.setup p.look m (c ∷ cs)) (settle_of p.setup p.look (after_round p m c) cs)
rest_of p m c cs o = rest_by (outcome_of p.setup m (p.look m.at c)) (λ n. settle_of p.setup p.look n cs) (round_ends p.setup m (p.look m.at c)) o

calls_more : {V F : Type 0} (gives : V → NetworkView → Result Claim F → V → Type 0) (p : Plant) (v : V) (m : Machine)
    (cs : List Claim) (w : V) (c : Claim) (u : V)
    → AreCalls gives p v m cs w → (settle_of p.setup p.look m cs).end ≡ Open
    → p.blame (settle_of p.setup p.look m cs).machine.at ≡ None
    → gives w (p.network (settle_of p.setup p.look m cs).machine.at) (Ok c) u → AreCalls gives p v m (cs ++ c ∷ []) u
calls_more gives p v m [] w c u h o b k = (u, (b, (subst (λ x. gives x (p.network m.at) (Ok c) u) h k, refl)))
calls_more {V} {F} gives p v m (d ∷ ds) w c u h o b k =
    let rest = rest_of p m d ds o in (
      h.0,
      (
        h.1.0,
        (
          h.1.1.0,
          calls_more gives p h.0 (after_round p m d) ds w c u h.1.1.1 rest.open'
              (subst (λ (n : Machine). p.blame n.at ≡ None) rest.machine b)
              (subst (λ (n : Machine). gives w (p.network n.at) (Ok c) u) rest.machine k),
        ),
      ),
    )

each_more : (P : Positions → Claim → Type 0) (p : Plant) (m : Machine) (cs : List Claim) (c : Claim) → AtEach P p m cs
    → (settle_of p.setup p.look m cs).end ≡ Open → P (settle_of p.setup p.look m cs).machine.at c →
    AtEach P p m (cs ++ c ∷ [])
each_more P p m [] c h o k = (k, tt)
each_more P p m (d ∷ ds) c h o k =
    let rest = rest_of p m d ds o in
    (h.0, each_more P p (after_round p m d) ds c h.1 rest.open' (subst (λ (n : Machine). P n.at c) rest.machine k))

claims_more : (rs : List Round) (r : Round) → claims_in (rs ++ r ∷ []) ≡ claims_in rs ++ claim_in r.certified.value ∷ []
claims_more [] r = refl
claims_more (q ∷ qs) r = ap (λ (cs : List Claim). claim_in q.certified.value ∷ cs) (claims_more qs r)

acts_more : (rs : List Round) (r : Round) → acts_in (rs ++ r ∷ []) ≡ acts_in rs ++ map seen r.acts.items ∷ []
acts_more [] r = refl
acts_more (q ∷ qs) r = ap (λ (as' : List (List Act)). map seen q.acts.items ∷ as') (acts_more qs r)

-- one round more
pub round_more : {V F : Type 0} (gives : V → NetworkView → Result Claim F → V → Type 0)
    (P : Positions → Claim → Type 0) (p : Plant) (v : V) (m : Machine) (rs : List Round) (n : Machine) (w : V)
    (r : Round) (o : Outcome) (u : V)
    → IsStanding gives P p v m rs Open n w → p.blame n.at ≡ None
    → gives w (p.network n.at) (Ok (claim_in r.certified.value)) u → P n.at (claim_in r.certified.value)
    → outcome_of p.setup n (p.look n.at (claim_in r.certified.value)) ≡ o → map seen r.acts.items ≡ acts_of o
    → IsStanding gives P p v m (rs ++ r ∷ []) (end_of o) (left_by o) u
round_more gives P p v m rs n w r o u h b k s e a =
    let c = claim_in r.certified.value in
    let is_open : (settled p m rs).end ≡ Open = ap (λ (t : Settle). t.end) h.is_settle in
    let machine : n ≡ (settled p m rs).machine = sym (ap (λ (t : Settle). t.machine) h.is_settle) in
    let claims : claims_in rs ++ c ∷ [] ≡ claims_in (rs ++ r ∷ []) = sym (claims_more rs r) in
    record {
      is_settle = ap (settle_of p.setup p.look m) (claims_more rs r)
          ∙ settle_more p.setup p.look m (claims_in rs) c is_open
          ∙ ap (λ (t : Settle). with_round t (outcome_of p.setup t.machine (p.look t.machine.at c))) h.is_settle
          ∙ ap (λ (q : Outcome). with_round (record { rounds = acts_in rs; end = Open; machine = n }) q) e
          ∙ with_round_is (record { rounds = acts_in rs; end = Open; machine = n }) o
          ∙ ap (λ (as' : List (List Act)). record { rounds = as'; end = end_of o; machine = left_by o })
          (ap (λ (acts : List Act). acts_in rs ++ acts ∷ []) (sym a) ∙ sym (acts_more rs r));
      calls = subst (λ (cs : List Claim). AreCalls gives p v m cs u) claims (calls_more gives p v m
          (claims_in rs) w c u h.calls is_open (subst (λ (q : Machine). p.blame q.at ≡ None) machine b)
          (subst (λ (q : Machine). gives w (p.network q.at) (Ok c) u) machine k));
      each = subst (λ (cs : List Claim). AtEach P p m cs) claims
          (each_more P p m (claims_in rs) c h.each is_open (subst (λ (q : Machine). P q.at c) machine s));
    }

-- ---- the last call

-- one call more at an open settle
pub last_by : {V F : Type 0} (gives : V → NetworkView → Result Claim F → V → Type 0) (P : Positions → Claim → Type 0)
    (p : Plant) (v : V) (m : Machine) (rs : List Round) (end : End) (n : Machine) (w : V) (answer : Result Claim F)
    (u : V)
    → IsStanding gives P p v m rs end n w → p.blame n.at ≡ None → gives w (p.network n.at) answer u
    → IsLast gives p v m rs answer u
last_by gives P p v m rs end n w answer u h b k =
    let machine : n ≡ (settled p m rs).machine = sym (ap (λ (t : Settle). t.machine) h.is_settle) in
    record {
      before = w;
      calls = h.calls;
      in_range = subst (λ (q : Machine). p.blame q.at ≡ None) machine b;
      last = subst (λ (q : Machine). gives w (p.network q.at) answer u) machine k;
    }

-- ---- the acts that are left fall with each round that goes on

counted_by : (s : Setup) (m : Machine) (step : Step) (acts : List Act) (after : Machine) → CountsActs s m step
    → outcome_after step ≡ Moves acts after → IsCounted s m after
counted_by s m (Quiet n) acts after h e = absurd (cc)
counted_by s m (AtLimit n) acts after h e = absurd (cc)
counted_by s m (Acts n more) acts after h e = let same : n ≡ after = cc in subst (IsCounted s m) same h

pub round_counts : CountLaw → (s : Setup) (m : Machine) (w : Sampling) (acts : List Act) (after : Machine)
    → outcome_of s m w ≡ Moves acts after → IsCounted s m after
round_counts law s m (Decided ds) acts after e = counted_by s m (step_of s ds m) acts after (law s ds m) e
round_counts law s m (Unclear k u) acts after e = absurd (cc)
