-- The name of the line is that of the first number without a Line.
use Rattle.std.proofs.Common.{◌≡◌, ◌∙◌, ℕ, zero, suc, ◌<◌, Bool, true, false, cond, Option, Some, None, IsSome, is_none, refl, sym, ap, arith}
use Rattle.std.specs.Map.{lookup}
use Rattle.std.specs.Option.{option_or}
use Rattle.dss_ready.specs.dss_model.SameElement.{same_element}
use Rattle.dss_ready.specs.dss_model.fd_exact.First.{first_place}
use Rattle.dss_ready.specs.dss_model.fd_exact.FirstLaws.{first_some, none_holds, place_below}
use Rattle.dss_ready.specs.dss_circuit.Circuit.{Elements}
use Rattle.fd_fault.specs.ShortNames.{IsShortName, first_free, is_free, line_name}
use Rattle.fd_fault.proofs.Naming.{none_where, some_where}

-- ---- the first number of which a test holds

-- the test holds of it
some_holds : (p : ℕ → Bool) (n k : ℕ) → first_place p n ≡ Some k → p k ≡ true
some_holds p zero k e = cc e
some_holds p (suc n) k e = one (first_place p n) (p n) refl (some_holds p n k) e
  where
    one : (o : Option ℕ) (b : Bool) → p n ≡ b → (o ≡ Some k → p k ≡ true) → option_or o (cond b (Some n) None) ≡ Some k
        → p k ≡ true
    one (Some j) b t h e = h e
    one None true t h e = let same : n ≡ k = cc e in ap p (sym same) ∙ t
    one None false t h e = cc e

-- and of none before it
none_before : (p : ℕ → Bool) (n k j : ℕ) → first_place p n ≡ Some k → j < k → p j ≡ false
none_before p zero k j e l = cc e
none_before p (suc n) k j e l = one (first_place p n) refl (p n) (none_before p n k j) e
  where
    one : (o : Option ℕ) → first_place p n ≡ o → (b : Bool) → (o ≡ Some k → j < k → p j ≡ false)
        → option_or o (cond b (Some n) None) ≡ Some k → p j ≡ false
    one (Some i) t b h e = h e l
    one None t true h e = let same : n ≡ k = cc e in none_holds p n j t (omega (arith, same, l))
    one None t false h e = cc e

-- ---- names

none_of : {X : Type 0} (o : Option X) → IsSome o → is_none o ≡ false
none_of None h = absurd (cc h)
none_of (Some x) h = refl

pub first_is : (es : Elements) (k : ℕ) → IsShortName es k → first_free es ≡ Some k
unfolding first_free
first_is es k h =
    first_some (is_free es) 131_073 k h.few (λ j l. none_of (lookup (same_element (line_name j)) es) (h.taken j l)) (ap is_none h.free)

pub is_first : (es : Elements) (k : ℕ) → first_free es ≡ Some k → IsShortName es k
unfolding first_free
is_first es k e = record {
  few = place_below (is_free es) 131_073 k e;
  free = none_where (lookup (same_element (line_name k)) es) (some_holds (is_free es) 131_073 k e);
  taken = λ j l. some_where (lookup (same_element (line_name j)) es) (none_before (is_free es) 131_073 k j e l);
}
