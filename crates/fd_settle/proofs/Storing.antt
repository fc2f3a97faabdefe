-- Certified states that are kept.
use Rattle.std.proofs.Common.{◌≡◌, ◌∙◌, ℕ, ◌+◌, ◌<◌, ◌≤◌, ◌^◌, List, [], ◌∷◌, ◌++◌, drop, get_or, length, All, Ok, Err, Result, IfOk, IfErr, inl, inr, arith, ap, sym, subst, refl}
use Rattle.std.specs.declared.alloc.Global.{Global}
use Rattle.std.specs.declared.rc.Rc.{Rc}
use Rattle.std.specs.List.{remove}
use Rattle.std.proofs.lemmas.Bool.{cases_eq}
use Rattle.std.proofs.lemmas.List.{drop-drop, get_or_read}
use Rattle.std.proofs.lemmas.List.Elements.{All-drop, All-push}
use Rattle.fd_inject.specs.fd_exact.SumLaws.{list_n-append}
use Rattle.fd_inject.specs.fd_pattern.Views.{NetworkView}
use Rattle.fd_inject.specs.declared.fault.SolveFault.TheVariants as solve
use Rattle.fd_inject.specs.declared.limits.Limits.{Limits}
use Rattle.fd_cert.specs.fd_enclosure.Sound.{IsSound}
use Rattle.fd_cert.specs.Claims.{claim_in}
use Rattle.fd_cert.specs.declared.ball.Certified.{Certified}
use Rattle.fd_settle.specs.declared.compute.ComputeFault.{ComputeFault}
use Rattle.fd_settle.specs.declared.compute.ComputeFault.TheVariants as fault
use Rattle.fd_settle.specs.declared.kept_states.KeptState.{KeptState}
use Rattle.fd_settle.specs.Calls.{answer_in}
use Rattle.fd_settle.specs.Compute.{ComputeGives}
use Rattle.fd_settle.specs.KeptStates.{IsCertified, IsKeptStateAt, IsTrimmed, bytes_in, bytes_of}

-- ---- where a state stands

pub is_at : (limits : Limits) (v : NetworkView) (inside ks : List KeptState) (place : ℕ) (k : KeptState) → inside ≡ ks
    → place < length inside → k ≡ get_or inside place k → k.limits ≡ limits → k.network ≡ v
    → IsKeptStateAt limits v ks place
is_at limits v inside ks place k e l r same net = subst (λ l. IsKeptStateAt limits v l place) e (record {
  inside = l;
  limits_are = λ d. ap (λ (p : KeptState). p.limits) (sym (get_or_read inside place k l r d)) ∙ same;
  network_is = λ d. ap (λ (p : KeptState). p.network) (sym (get_or_read inside place k l r d)) ∙ net;
})

pub at_is : (limits : Limits) (v : NetworkView) (inside ks : List KeptState) (place : ℕ) (k : KeptState) → inside ≡ ks
    → k ≡ get_or inside place k → IsKeptStateAt limits v ks place → (k.limits ≡ limits) × (k.network ≡ v)
at_is limits v inside ks place k e r at =
    let a = subst (λ l. IsKeptStateAt limits v l place) (sym e) at in (
      ap (λ (p : KeptState). p.limits) r ∙ a.limits_are k,
      ap (λ (p : KeptState). p.network) r ∙ a.network_is k,
    )

-- ---- the oldest go

-- so many are gone so far, and each had to
pub record IsTrimming (all now : List KeptState) : Type 0 where
  pub gone : ℕ
  pub now_is : now ≡ drop gone all
  pub needed : (n : ℕ) → n < gone → 2 ^ 26 < bytes_in (drop n all)

pub none_gone : (all : List KeptState) → IsTrimming all all
none_gone all = record { gone = 0; now_is = refl; needed = λ n l. absurd (omega (arith, l)) }

-- one more
pub one_gone : (all now next : List KeptState) → IsTrimming all now → 2 ^ 26 < bytes_in now → next ≡ remove now 0
    → IsTrimming all next
one_gone all now next t over e = record {
  gone = t.gone + 1;
  now_is = e ∙ ap (λ (l : List KeptState). remove l 0) t.now_is ∙ drop-drop 1 t.gone all;
  needed = λ n l. elim (cases_eq n t.gone) [
    | inl same ↦ subst (λ (m : ℕ). 2 ^ 26 < bytes_in (drop m all)) (sym same)
        (subst (λ (l : List KeptState). 2 ^ 26 < bytes_in l) t.now_is over)
    | inr other ↦ t.needed n (omega (arith, l, other))
  ];
}

pub trimmed : (all now : List KeptState) → IsTrimming all now → bytes_in now ≤ 2 ^ 26 → IsTrimmed all now
trimmed all now t few = record { gone = t.gone; new_is = t.now_is; within = few; needed = t.needed }

-- what is left counts what the oldest doesn't
pub bytes_left : (now next : List KeptState) (k : KeptState) → 0 < length now → k ≡ get_or now 0 k → next ≡ remove now 0
    → bytes_in now ≡ bytes_of k.network + bytes_in next
bytes_left [] next k l r e = absurd (omega (arith, l))
bytes_left (x ∷ xs) next k l r e =
    ap (λ (p : KeptState). bytes_of p.network + bytes_in xs) (sym r)
    ∙ ap (λ (l : List KeptState). bytes_of k.network + bytes_in l) (sym e)

-- the network of the one behind the others by its view
pub pushed : (ks all : List KeptState) (n v : NetworkView) (limits : Limits) (rc : Rc Certified Global)
    → all ≡ ks ++ record { network = n; limits = limits; certified = rc } ∷ [] → n ≡ v
    → all ≡ ks ++ record { network = v; limits = limits; certified = rc } ∷ []
pushed ks all n v limits rc e f = e ∙ (λ i. ks ++ record { network = f i; limits = limits; certified = rc } ∷ [])

-- one behind the others counts beside them
pub bytes_more : (ks all : List KeptState) (k : KeptState) (a b : ℕ) → a ≡ bytes_in ks → b ≡ bytes_of k.network
    → all ≡ ks ++ k ∷ [] → a + b ≡ bytes_in all
bytes_more ks all k a b f g e =
    (λ i. f i + g i) ∙ more (bytes_in ks) (bytes_of k.network)
    ∙ sym (list_n-append (λ (q : KeptState). bytes_of q.network) ks (k ∷ [])) ∙ sym (ap bytes_in e)
  where
    more : (x y : ℕ) → x + y ≡ x + (y + 0)
    more x y = omega arith

-- where something is counted there is one
pub not_empty : (now : List KeptState) → 0 < bytes_in now → 0 < length now
not_empty [] l = l
not_empty (x ∷ xs) l = omega arith

-- ---- what holds of each

-- a state with what it was computed for
abbrev pub kept_state : NetworkView → Limits → Rc Certified Global → KeptState
kept_state n limits rc = record { network = n; limits = limits; certified = rc }

pub own : (limits : Limits) (v n : NetworkView) (m : Certified) (rc : Rc Certified Global) → n ≡ v → rc.value ≡ m
    → ComputeGives limits v (Ok (claim_in m)) → IsSound v (claim_in m)
    → IsCertified (kept_state n limits rc)
own limits v n m rc e f gives sound = record {
  gives = subst (λ (w : NetworkView). ComputeGives limits w (Ok (claim_in rc.value))) (sym e)
      (subst (λ (x : Certified). ComputeGives limits v (Ok (claim_in x))) (sym f) gives);
  sound = subst (λ (w : NetworkView). IsSound w (claim_in rc.value)) (sym e)
      (subst (λ (x : Certified). IsSound v (claim_in x)) (sym f) sound);
}

pub certified_left : (ks all new : List KeptState) (k : KeptState) → All IsCertified ks → IsCertified k
    → all ≡ ks ++ k ∷ [] → IsTrimmed all new → All IsCertified new
certified_left ks all new k each own e t =
    subst (All IsCertified) (sym (t.new_is ∙ ap (drop t.gone) e))
    (All-drop IsCertified t.gone (ks ++ k ∷ []) (All-push IsCertified ks k each own))

-- ---- a state that was made able to be shared

pub shared_gives : (limits : Limits) (v : NetworkView) (r : Result (Rc Certified Global) ComputeFault) (m : Certified)
    → IfOk r (λ x. x.value ≡ m) → IfErr r (λ f. f ≡ fault.Solve solve.NoMemory)
    → ComputeGives limits v (Ok (claim_in m)) → ComputeGives limits v (answer_in r)
shared_gives limits v (Ok x) m e f h = subst (λ (y : Certified). ComputeGives limits v (Ok (claim_in y))) (sym e) h
shared_gives limits v (Err g) m e f h = subst (λ (y : ComputeFault). ComputeGives limits v (Err y)) (sym f) (tt, tt)
