-- What a settle comes to where its states are computed: there is one computation, and the clauses of `settle` tell it.
use Rattle.std.proofs.Common.{◌≡◌, ℕ, zero, suc, ◌+◌, ◌≤◌, ◌<◌, ℤ, List, [], ◌∷◌, map, Option, Some, None, Result, Ok, Err, refl, sym, ap, ◌∙◌, subst, arith}
use Rattle.fd_sample.specs.dss_model.declared.command.Blame.{Blame}
use Rattle.fd_inject.specs.fd_pattern.Views.{NetworkView}
use Rattle.fd_cert.specs.Claims.{claim_in}
use Rattle.fd_cert.specs.declared.fault.CertFault.TheVariants as cert
use Rattle.fd_cert.specs.fd_enclosure.Sound.{Claim, loose, uncertain}
use Rattle.fd_inject.specs.Faults.{UnlessMemory}
use Rattle.fd_inject.specs.Procedure.{solution_of}
use Rattle.fd_inject.specs.declared.fault.SolveFault.{SolveFault}
use Rattle.fd_inject.specs.declared.fault.SolveFault.TheVariants as solving
use Rattle.fd_inject.specs.declared.limits.Limits.{Limits}
use Rattle.fd_sample.specs.fd_queue.Machine.{Act, Machine}
use Rattle.fd_sample.specs.fd_queue.MachineLaws.{CountLaw}
use Rattle.fd_settle.specs.declared.compute.ComputeFault.{ComputeFault}
use Rattle.fd_settle.specs.declared.compute.ComputeFault.TheVariants as compute
use Rattle.fd_settle.specs.declared.fault.SettleFault.{SettleFault}
use Rattle.fd_settle.specs.declared.fault.SettleFault.TheVariants as fault
use Rattle.fd_settle.specs.declared.round.Round.{Round}
use Rattle.fd_settle.specs.Calls.{AreCalls}
use Rattle.fd_settle.specs.Compute.{ComputeGives, Stop, computed_of, procedure, uncertified}
use Rattle.fd_settle.specs.Computed.{Answering, Computation, ComputationLaw, Ending, EndsBySolver, EndsSo, Follows, HasOneComputation}
use Rattle.fd_settle.specs.Computed.{IsComputedFrom, computed_in, ended, range, stopped}
use Rattle.fd_settle.specs.Contract.{CallsAs, EndsAs}
use Rattle.fd_settle.specs.Plant.{Plant}
use Rattle.fd_settle.specs.Rounds.{acts_in, claims_in, left_by, seen, settled}
use Rattle.fd_settle.specs.Settle.{End, Open, Settled, Limited, Undecidable, Outcome, Ends, Moves, before_rest, outcome_of}
use Rattle.fd_settle.proofs.Computing.{no_certificate, no_point}
use Rattle.fd_settle.proofs.Going.{round_counts, round_ends}

-- ---- one solve

-- a network is out of range, or is answered
data Solved (answer : Answering) (p : Plant) (m : Machine) : Type 0 where
  out_of_range : (blame : Blame) → p.blame m.at ≡ Some blame → Solved answer p m
  gives_none : (s : Stop) → p.blame m.at ≡ None → answer (p.network m.at) ≡ Err s → Solved answer p m
  gives_one : (c : Claim) → p.blame m.at ≡ None → answer (p.network m.at) ≡ Ok c → Solved answer p m

by_answer : (answer : Answering) (p : Plant) (m : Machine) (r : Result Claim Stop) → p.blame m.at ≡ None
    → answer (p.network m.at) ≡ r → Solved answer p m
by_answer answer p m (Ok c) b e = gives_one c b e
by_answer answer p m (Err s) b e = gives_none s b e

by_range : (answer : Answering) (p : Plant) (m : Machine) (b : Option Blame) → p.blame m.at ≡ b → Solved answer p m
by_range answer p m None e = by_answer answer p m (answer (p.network m.at)) e refl
by_range answer p m (Some blame) e = out_of_range blame e

-- ---- one computation

abbrev computation : List (Claim × List Act) → Ending → Machine → Computation
computation rounds ending n = record { rounds = rounds; ending = ending; machine = n }

only_range : (answer : Answering) (p : Plant) (m : Machine) (blame : Blame) → p.blame m.at ≡ Some blame
    → (rounds : List (Claim × List Act)) (ending : Ending) (n : Machine) → IsComputedFrom answer p m rounds ending n
    → computation rounds ending n ≡ computation [] (range blame) m
only_range answer p m blame b [] (ended end) n k = absurd k
only_range answer p m blame b [] (range other) n k = let same : other ≡ blame = cc (b, k.0) in let e = k.1 in cc
only_range answer p m blame b [] (stopped t) n k = absurd (cc (b, k.0))
only_range answer p m blame b (r ∷ rest) ending n k = absurd (cc (b, k.0))

only_stop : (answer : Answering) (p : Plant) (m : Machine) (s : Stop) → p.blame m.at ≡ None
    → answer (p.network m.at) ≡ Err s
    → (rounds : List (Claim × List Act)) (ending : Ending) (n : Machine) → IsComputedFrom answer p m rounds ending n
    → computation rounds ending n ≡ computation [] (stopped s) m
only_stop answer p m s b h [] (ended end) n k = absurd k
only_stop answer p m s b h [] (range blame) n k = absurd (cc (b, k.0))
only_stop answer p m s b h [] (stopped t) n k = let same : t ≡ s = cc (h, k.1.0) in let e = k.1.1 in cc
only_stop answer p m s b h (r ∷ rest) ending n k = absurd (cc (h, k.1.0))

one_ranged : (answer : Answering) (p : Plant) (m : Machine) (blame : Blame) → p.blame m.at ≡ Some blame
    → HasOneComputation answer p m
one_ranged answer p m blame b = record {
  some = computation [] (range blame) m;
  is = (b, refl);
  only = λ c k. only_range answer p m blame b c.rounds c.ending c.machine k;
}

one_stopped : (answer : Answering) (p : Plant) (m : Machine) (s : Stop) → p.blame m.at ≡ None
    → answer (p.network m.at) ≡ Err s → HasOneComputation answer p m
one_stopped answer p m s b h = record {
  some = computation [] (stopped s) m;
  is = (b, (h, refl));
  only = λ c k. only_stop answer p m s b h c.rounds c.ending c.machine k;
}

-- what follows a round, where its outcome is another way of writing it
followed : (o q : Outcome) (acts : List Act) (rest : List (Claim × List Act)) (ending : Ending) (n : Machine) (P : Machine → Type 0)
    → o ≡ q → Follows o acts rest ending n P → Follows q acts rest ending n P
followed o q acts rest ending n P e h = subst (λ (x : Outcome). Follows x acts rest ending n P) e h

only_ended : (answer : Answering) (p : Plant) (m : Machine) (c : Claim) (end : End) (k : Machine) → p.blame m.at ≡ None
    → answer (p.network m.at) ≡ Ok c → outcome_of p.setup m (p.look m.at c) ≡ Ends end k
    → (rounds : List (Claim × List Act)) (ending : Ending) (n : Machine) → IsComputedFrom answer p m rounds ending n
    → computation rounds ending n ≡ computation ((c, []) ∷ []) (ended end) k
only_ended answer p m c end k b s o [] (ended e) n h = absurd h
only_ended answer p m c end k b s o [] (range t) n h = absurd (cc (b, h.0))
only_ended answer p m c end k b s o [] (stopped t) n h = absurd (cc (s, h.1.0))
only_ended answer p m c end k b s o ((d, acts) ∷ rest) ending n h =
    let same : d ≡ c = cc (s, h.1.0) in
    let outcome : outcome_of p.setup m (p.look m.at d) ≡ Ends end k = ap (λ x. outcome_of p.setup m (p.look m.at x)) same ∙ o in
    let f = followed (outcome_of p.setup m (p.look m.at d)) (Ends end k) acts rest ending n (λ j. IsComputedFrom answer p j rest ending n) outcome h.1.1 in
    let none = f.0 in let last = f.1.0 in let ends = f.1.1.0 in let left = f.1.1.1 in
    cc

one_ended : (answer : Answering) (p : Plant) (m : Machine) (c : Claim) (end : End) (k : Machine) → p.blame m.at ≡ None
    → answer (p.network m.at) ≡ Ok c → outcome_of p.setup m (p.look m.at c) ≡ Ends end k
    → HasOneComputation answer p m
one_ended answer p m c end k b s o = record {
  some = computation ((c, []) ∷ []) (ended end) k;
  is = (
    b,
    (
      s,
      followed (Ends end k) (outcome_of p.setup m (p.look m.at c)) [] [] (ended end) k
          (λ j. IsComputedFrom answer p j [] (ended end) k) (sym o) (refl, (refl, (refl, refl))),
    ),
  );
  only = λ d h. only_ended answer p m c end k b s o d.rounds d.ending d.machine h;
}

only_moved : (answer : Answering) (p : Plant) (m : Machine) (c : Claim) (made : List Act) (k : Machine)
    → p.blame m.at ≡ None → answer (p.network m.at) ≡ Ok c → outcome_of p.setup m (p.look m.at c) ≡ Moves made k
    → (one : HasOneComputation answer p k) → (rounds : List (Claim × List Act)) (ending : Ending) (n : Machine)
    → IsComputedFrom answer p m rounds ending n
    → computation rounds ending n ≡ computation ((c, made) ∷ one.some.rounds) one.some.ending one.some.machine
only_moved answer p m c made k b s o one [] (ended e) n h = absurd h
only_moved answer p m c made k b s o one [] (range t) n h = absurd (cc (b, h.0))
only_moved answer p m c made k b s o one [] (stopped t) n h = absurd (cc (s, h.1.0))
only_moved answer p m c made k b s o one ((d, acts) ∷ rest) ending n h =
    let same : d ≡ c = cc (s, h.1.0) in
    let outcome : outcome_of p.setup m (p.look m.at d) ≡ Moves made k = ap (λ x. outcome_of p.setup m (p.look m.at x)) same ∙ o in
    let f = followed (outcome_of p.setup m (p.look m.at d)) (Moves made k) acts rest ending n (λ j. IsComputedFrom answer p j rest ending n) outcome h.1.1 in
    let those : acts ≡ made = f.0 in
    let after : computation rest ending n ≡ one.some = one.only (computation rest ending n) f.1 in
    ap (λ (x : Claim). computation ((x, acts) ∷ rest) ending n) same
    ∙ ap (λ (x : List Act). computation ((c, x) ∷ rest) ending n) those
    ∙ ap (λ (x : Computation). computation ((c, made) ∷ x.rounds) x.ending x.machine) after

one_moved : (answer : Answering) (p : Plant) (m : Machine) (c : Claim) (made : List Act) (k : Machine)
    → p.blame m.at ≡ None → answer (p.network m.at) ≡ Ok c → outcome_of p.setup m (p.look m.at c) ≡ Moves made k
    → HasOneComputation answer p k → HasOneComputation answer p m
one_moved answer p m c made k b s o one = record {
  some = computation ((c, made) ∷ one.some.rounds) one.some.ending one.some.machine;
  is = (
    b,
    (
      s,
      followed (Moves made k) (outcome_of p.setup m (p.look m.at c)) made one.some.rounds one.some.ending
          one.some.machine (λ j. IsComputedFrom answer p j one.some.rounds one.some.ending one.some.machine) (sym o)
          (refl, one.is),
    ),
  );
  only = λ d h. only_moved answer p m c made k b s o one d.rounds d.ending d.machine h;
}

-- where the machine has one computation behind each round that goes on
by_outcome : CountLaw → (answer : Answering) (p : Plant) (m : Machine) (c : Claim) (o : Outcome)
    → ((k : Machine) → k.made ≡ m.made + 1 → m.made < p.setup.limit → HasOneComputation answer p k) →
    p.blame m.at ≡ None → answer (p.network m.at) ≡ Ok c → outcome_of p.setup m (p.look m.at c) ≡ o → HasOneComputation answer p m
by_outcome law answer p m c (Ends end k) next b s o = one_ended answer p m c end k b s o
by_outcome law answer p m c (Moves made k) next b s o =
    let h = round_counts law p.setup m (p.look m.at c) made k o in
    one_moved answer p m c made k b s o (next k h.one_more h.allowed)

by_solve : CountLaw → (answer : Answering) (p : Plant) (m : Machine)
    → ((k : Machine) → k.made ≡ m.made + 1 → m.made < p.setup.limit → HasOneComputation answer p k) → Solved answer p m
    → HasOneComputation answer p m
by_solve law answer p m next (out_of_range blame b) = one_ranged answer p m blame b
by_solve law answer p m next (gives_none s b h) = one_stopped answer p m s b h
by_solve law answer p m next (gives_one c b s) = by_outcome law answer p m c (outcome_of p.setup m (p.look m.at c)) next b s refl

-- by the number of acts that are left
one_with : CountLaw → (answer : Answering) (p : Plant) (left : ℕ) (m : Machine) → p.setup.limit ≤ m.made + left
    → HasOneComputation answer p m
one_with law answer p zero m few = by_solve law answer p m (λ k more allowed. absurd (omega arith)) (by_range answer p m (p.blame m.at) refl)
one_with law answer p (suc left) m few =
    by_solve law answer p m (λ k more allowed. one_with law answer p left k (omega arith))
    (by_range answer p m (p.blame m.at) refl)

pub one_computation : CountLaw → ComputationLaw
one_computation law answer p m h = one_with law answer p p.setup.limit m (omega arith)

-- ---- the clauses of `settle`

-- the ending that the end of a settle is
abbrev Tells : Answering → Plant → Ending → End → Machine → Type 0
Tells answer p (ended e) end n = (end ≡ e) × (e ≡ Open → ⊥)
Tells answer p (range blame) end n = (end ≡ Open) × (p.blame n.at ≡ Some blame)
Tells answer p (stopped s) end n = (end ≡ Open) × ((p.blame n.at ≡ None) × (answer (p.network n.at) ≡ Err s))

no_rounds : (rounds : List Round) → acts_in rounds ≡ [] → computed_in rounds ≡ []
no_rounds [] e = refl
no_rounds (r ∷ rs) e = absurd (cc)

told : (answer : Answering) (p : Plant) (ending : Ending) (end : End) (n : Machine) → (end ≡ Open → ⊥)
    → Tells answer p ending end n → ending ≡ ended end
told answer p (ended e) end n never h = ap ended (sym h.0)
told answer p (range blame) end n never h = absurd (never h.0)
told answer p (stopped s) end n never h = absurd (never h.0)

follows_by : (answer : Answering) (p : Plant) (rs : List Round) (acts : List Act) (ending : Ending) (o : Outcome)
    → ((end : End) (k : Machine) → o ≡ Ends end k → end ≡ Open → ⊥)
    → acts ∷ acts_in rs ≡ (before_rest o (λ n. settled p n rs)).rounds
    → Tells answer p ending (before_rest o (λ n. settled p n rs)).end (before_rest o (λ n. settled p n rs)).machine
    → ((k : Machine) → left_by o ≡ k → acts_in rs ≡ (settled p k rs).rounds
    → Tells answer p ending (settled p k rs).end (settled p k rs).machine
    → IsComputedFrom answer p k (computed_in rs) ending (settled p k rs).machine)
    → Follows o acts (computed_in rs) ending (before_rest o (λ n. settled p n rs)).machine (λ k.
    IsComputedFrom answer p k (computed_in rs) ending (before_rest o (λ n. settled p n rs)).machine)
follows_by answer p rs acts ending (Ends end k) never a t rest =
    let none : acts_in rs ≡ [] = cc in
    (cc, (no_rounds rs none, (told answer p ending end k (never end k refl) t, refl)))
follows_by answer p rs acts ending (Moves made k) never a t rest =
    let same : acts_in rs ≡ (settled p k rs).rounds = cc in
    (cc, rest k refl same t)

-- the solver answers so
abbrev Follow : {V F : Type 0} → Answering → (V → NetworkView → Result Claim F → V → Type 0) → Type 0
Follow {V} {F} answer gives = (v w : V) (net : NetworkView) (c : Claim) → gives v net (Ok c) w → answer net ≡ Ok c

computed_by : {V F : Type 0} (answer : Answering) (gives : V → NetworkView → Result Claim F → V → Type 0)
    → Follow answer gives → (p : Plant) (v : V) (m : Machine) (rs : List Round) (w : V) (ending : Ending)
    → acts_in rs ≡ (settled p m rs).rounds → AreCalls gives p v m (claims_in rs) w
    → Tells answer p ending (settled p m rs).end (settled p m rs).machine
    → IsComputedFrom answer p m (computed_in rs) ending (settled p m rs).machine
computed_by answer gives follow p v m [] w (ended e) a h t = absurd (t.1 (sym t.0))
computed_by answer gives follow p v m [] w (range blame) a h t = (t.1, refl)
computed_by answer gives follow p v m [] w (stopped s) a h t = (t.1.0, (t.1.1, refl))
computed_by answer gives follow p v m (r ∷ rs) w ending a h t = (
  h.1.0,
  (
    follow v h.0 (p.network m.at) (claim_in r.certified.value) h.1.1.0,
    follows_by answer p rs (map seen r.acts.items) ending (outcome_of p.setup m (p.look m.at (claim_in r.certified.value)))
        (round_ends p.setup m (p.look m.at (claim_in r.certified.value))) a t (λ k is b q.
        computed_by answer gives follow p h.0 k rs w ending b
        (subst (λ (n : Machine). AreCalls gives p h.0 n (claims_in rs) w) is h.1.1.1) q),
  ),
)

by_memory : (f : SolveFault) (P Q : Type 0) → (P → Q) → UnlessMemory f P → UnlessMemory f Q
by_memory (solving.NoInverse column cause) P Q g p = g p
by_memory (solving.OutOfRange place step) P Q g p = g p
by_memory (solving.NotConverged place steps update) P Q g p = g p
by_memory solving.NoMemory P Q g p = tt

by_solver : (limits : Limits) (v : NetworkView) (f : ComputeFault) (P : Ending → Type 0) → ComputeGives limits v (Err f)
    → ((s : Stop) → computed_of limits v ≡ Err s → P (stopped s)) → EndsBySolver f P
by_solver limits v (compute.Solve f) P h g =
    by_memory f (solution_of v limits ≡ Err f) (P (stopped (procedure f))) (λ e. g (procedure f) (no_point limits v f e)) h.0
by_solver limits v (compute.Cert (cert.Loose row mismatch)) P h g =
    g (uncertified (loose row mismatch))
    (no_certificate limits v h.0.centre h.0.inverse h.0.point (loose row mismatch) h.0.reason)
by_solver limits v (compute.Cert (cert.NotCertified place sum tried)) P h g =
    g (uncertified (uncertain place sum))
    (no_certificate limits v h.0.centre h.0.inverse h.0.point (uncertain place sum) h.0.reason.refusal)
by_solver limits v (compute.Cert cert.NoMemory) P h g = tt

abbrev EndsSoFar : Limits → Plant → Machine → List Round → Ending → Type 0
EndsSoFar limits p m rs ending = IsComputedFrom (computed_of limits) p m (computed_in rs) ending (settled p m rs).machine

by_calls : {V : Type 0} (limits : Limits) (p : Plant) (v : V) (m : Machine) (rs : List Round) (w : V) (ending : Ending)
    → acts_in rs ≡ (settled p m rs).rounds
    → AreCalls {V = V} {F = ComputeFault} (λ u net answer x. ComputeGives limits net answer) p v m (claims_in rs) w
    → Tells (computed_of limits) p ending (settled p m rs).end (settled p m rs).machine → EndsSoFar limits p m rs ending
by_calls limits p v m rs w ending a calls tells =
    computed_by (computed_of limits) (λ u net answer x. ComputeGives limits net answer) (λ x y net c g. g) p v m rs w ending
    a calls tells

-- from the clauses `acts`, `ends` and `calls`, at the solver that computes
pub computed : {V T : Type 0} (limits : Limits) (p : Plant) (v : V) (m : Machine) (rs : List Round)
    (result : Result T (SettleFault ComputeFault)) (w : V)
    → acts_in rs ≡ (settled p m rs).rounds → EndsAs p result (settled p m rs).end (settled p m rs).machine
    → CallsAs (λ u net answer x. ComputeGives limits net answer) p v m rs result w
    → EndsSo result (λ ending. IsComputedFrom (computed_of limits) p m (computed_in rs) ending (settled p m rs).machine)
computed limits p v m rs (Ok t) w a e h = by_calls limits p v m rs w (ended Settled) a h (e, λ no'. cc)
computed limits p v m rs (Err (fault.Undecided control low high edge)) w a e h =
    by_calls limits p v m rs w (ended (Undecidable control (record { low = low; high = high; edge = edge }))) a h
    (e, λ no'. cc)
computed limits p v m rs (Err (fault.ControlLimit acts)) w a e h = by_calls limits p v m rs w (ended Limited) a h (e.0, λ no'. cc)
computed limits p v m rs (Err (fault.Range blame)) w a e h = by_calls limits p v m rs w (range blame) a h e
computed limits p v m rs (Err (fault.Solver f)) w a e h =
    by_solver limits (p.network (settled p m rs).machine.at) f (EndsSoFar limits p m rs) h.last
    (λ s k. by_calls limits p v m rs h.before (stopped s) a h.calls (e, (h.in_range, k)))
computed limits p v m rs (Err fault.NoMemory) w a e h = tt
