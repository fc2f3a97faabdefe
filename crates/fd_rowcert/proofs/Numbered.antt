-- What the numbers of a claim are that break no rule.
use Rattle.std.proofs.Common.{◌≡◌, ℕ, ◌<◌, ◌≤◌, ◌^◌, ℤ, pos, nat_abs, nat_lt, Bool, true, false, cond, List, length, Option, Some, None, arith, refl, subst}
use Rattle.std.specs.Prelude.{◌==◌, ◌||◌}
use Rattle.std.specs.List.{All}
use Rattle.std.proofs.lemmas.Bool.{and_parts, eqb-true, ltb-false, or_parts}
use Rattle.std.proofs.lemmas.Int.{ints}
use Rattle.std.proofs.lemmas.List.Elements.{All-from_get_or}
use Rattle.fd_cert.specs.Claims.{proof_in}
use Rattle.fd_cert.specs.Rechecks.{is_untrue}
use Rattle.fd_cert.specs.declared.ball.DerivedRows.{DerivedRows}
use Rattle.fd_cert.specs.fd_enclosure.Sound.{IsShownByRows, IsSound, greatest_mismatch, mismatch_at, number_at}
use Rattle.fd_cert.specs.fd_enclosure.fd_exact.First.{first_place}
use Rattle.fd_cert.specs.fd_enclosure.fd_exact.FirstLaws.{none_holds}
use Rattle.fd_cert.specs.fd_enclosure.fd_exact.States.{part}
use Rattle.fd_cert.specs.fd_enclosure.fd_pattern.Conditions.{IsPart, IsPoint}
use Rattle.fd_cert.specs.fd_enclosure.fd_pattern.Views.{NetworkView}
use Rattle.fd_bounds.specs.fd_derived.declared.entries.Claim.{Claim}
use Rattle.fd_rowcert.specs.Rechecks.{broken_at, first_of_ranges, first_untrue, has_size, is_box, is_far_at, rows_claim}
use Rattle.fd_rowcert.specs.declared.broken.BrokenRow.{BrokenRow}
use Rattle.fd_rowcert.specs.declared.broken.BrokenRow.TheVariants as broken

later_none : (rule : ℕ → BrokenRow) (o : Option ℕ) (later : Option BrokenRow) → broken_at rule o later ≡ None
    → (o ≡ None) × (later ≡ None)
later_none rule None later e = (refl, e)
later_none rule (Some k) later e = let no : ⊥ = cc in absurd no

tested_none : (b : Bool) (o : Option BrokenRow) (k : BrokenRow) → cond b o (Some k) ≡ None → (b ≡ true) × (o ≡ None)
tested_none true o k e = (refl, e)
tested_none false o k e = let no : ⊥ = cc in absurd no

pub record AreSized (n : ℕ) (x : List ℤ) (r e : List ℕ) (c : Claim) : Type 0 where
  pub centre : length x ≡ n
  pub radii : length r ≡ n
  pub mismatches : length e ≡ n
  pub heights : length c.heights.items ≡ length c.rows.items
  pub bounds : length c.bounds.items ≡ n

pub sized : (n : ℕ) (x : List ℤ) (r e : List ℕ) (c : Claim) → has_size n x r e c ≡ true → AreSized n x r e c
sized n x r e c h =
    let a = and_parts (length x == n) _ h in
    let b = and_parts (length r == n) _ a.1 in
    let d = and_parts (length e == n) _ b.1 in
    let f = and_parts (length c.heights.items == length c.rows.items) _ d.1 in
    let g = and_parts (length c.bounding.items == n) (length c.bounds.items == n) f.1 in
    record {
      centre = eqb-true (length x) n a.0;
      radii = eqb-true (length r) n b.0;
      mismatches = eqb-true (length e) n d.0;
      heights = eqb-true (length c.heights.items) (length c.rows.items) f.0;
      bounds = eqb-true (length c.bounds.items) n g.1;
    }

one_of : (a b c p : ℕ) → 2 ≤ a → 2 ≤ b → 2 ≤ c → (p == a) || ((p == b) || (p == c)) ≡ true → 2 ≤ p
one_of a b c p ha hb hc e = by (p == a) (p == b) (p == c) (eqb-true p a) (eqb-true p b) (eqb-true p c) e
  where
    by : (x y z : Bool) → (x ≡ true → p ≡ a) → (y ≡ true → p ≡ b) → (z ≡ true → p ≡ c) → x || (y || z) ≡ true → 2 ≤ p
    by true y z f g h e = let q = f refl in omega (arith, q, ha)
    by false true z f g h e = let q = g refl in omega (arith, q, hb)
    by false false true f g h e = let q = h refl in omega (arith, q, hc)
    by false false false f g h e = let no : ⊥ = cc in absurd no

pub record AreInRange (n : ℕ) (x : List ℤ) (r e : List ℕ) (d : DerivedRows) : Type 0 where
  pub sizes : AreSized n x r e d.claim
  pub box : 2 ≤ d.parts
  pub centre : All IsPart x
  pub radii : (i : ℕ) → i < n → number_at r i ≤ 2 ^ 40

within : (z : ℤ) → nat_abs z ≤ 2 ^ 40 → IsPart z
within z h = (omega (arith, ints, h), omega (arith, ints, h))

pub in_range : (n : ℕ) (x : List ℤ) (r e : List ℕ) (d : DerivedRows) → first_of_ranges n x r e d ≡ None
    → AreInRange n x r e d
unfolding first_of_ranges
in_range n x r e d h =
    let a = tested_none (has_size n x r e d.claim) _ broken.Size h in
    let b = tested_none (is_box d.parts) _ broken.Box a.1 in
    let f = later_none broken.Range (first_place (is_far_at x r) n) _ b.1 in
    let s = sized n x r e d.claim a.0 in
    let near = λ (i : ℕ) (l : i < n). or_parts (nat_lt (2 ^ 40) (nat_abs (part x i))) (nat_lt (2 ^ 40) (number_at r i))
    (none_holds (is_far_at x r) n i f.0 l) in
    record {
      sizes = s;
      box = one_of 200 2000 20000 d.parts (omega arith) (omega arith) (omega arith) b.0;
      centre = All-from_get_or IsPart x (pos 0) (λ i l.
          let m = near i (subst (λ k. i < k) s.centre l) in within (part x i) (ltb-false (2 ^ 40) (nat_abs
          (part x i)) m.0));
      radii = λ i l. let m = near i l in ltb-false (2 ^ 40) (number_at r i) m.1;
    }

module _ (v : NetworkView) (x : List ℤ) (r e : List ℕ) (d : DerivedRows) (range : first_of_ranges v.size x r e d ≡ None)
  where
    pub is_point : IsPoint v x
    is_point = let i = in_range v.size x r e d range in record { long = i.sizes.centre; parts = i.centre }

    module _ (true_rows : first_untrue v x e ≡ None) where
      both : (l : ℕ) → l < v.size → (mismatch_at v x l ≤ number_at e l) × (number_at e l ≤ greatest_mismatch)
      both l lt =
          let m = or_parts (nat_lt (number_at e l) (mismatch_at v x l)) (nat_lt greatest_mismatch (number_at e l))
          (none_holds (λ k. is_untrue (mismatch_at v x k) (number_at e k)) v.size l true_rows lt) in
          (ltb-false (number_at e l) (mismatch_at v x l) m.0, ltb-false greatest_mismatch (number_at e l) m.1)

      pub tight : (l : ℕ) → l < length e → number_at e l ≤ 1000
      tight l lt = let i = in_range v.size x r e d range in let b = both l (subst
          (λ n. l < n) i.sizes.mismatches lt) in b.1

      pub is_sound : IsShownByRows v (rows_claim v x r e d) (proof_in d) → IsSound v (rows_claim v x r e d)
      is_sound shown =
          let i = in_range v.size x r e d range in
          record {
            centre = is_point;
            boxes = refl;
            mismatches_long = i.sizes.mismatches;
            mismatches_least = λ l lt. let b = both l lt in b.0;
            mismatches_most = λ l lt. let b = both l lt in b.1;
            radii_long = i.sizes.radii;
            radii_most = i.radii;
            shown = shown;
          }
