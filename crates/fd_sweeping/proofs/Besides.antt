-- The mismatches of two states, and the places of one beside another.
use Rattle.std.proofs.Common.{◌≡◌, ◌∙◌, ℕ, zero, suc, ◌*◌, ◌-◌, ◌/◌, ◌<◌, ◌≤◌, max, ℤ, nat_lt, Bool, true, false, cond}
use Rattle.std.proofs.Common.{if◌then◌else◌, List, [], ◌++◌, codes, length, slice_get, Option, Some, None, arith, refl}
use Rattle.std.proofs.Common.{sym, ap, subst}
use Rattle.std.specs.Option.{option_map, option_or, unwrap_or}
use Rattle.std.specs.Str.{chars}
use Rattle.std.proofs.lemmas.Bool.{ltb-false, ltb-true}
use Rattle.std.proofs.lemmas.Option.{slice_get_past}
use Rattle.fd_solving.specs.dss_layout.Layout.{LayoutView, complex_count, size_of}
use Rattle.fd_solving.specs.dss_layout.UnknownNames.{complex_name, part_word, phase_text}
use Rattle.fd_solving.specs.fd_report.Names.{name_at}
use Rattle.fd_solving.specs.fd_exact.First.{first_place}
use Rattle.fd_solving.specs.fd_exact.FirstLaws.{none_holds}
use Rattle.fd_solving.specs.fd_exact.Tables.{map-same}
use Rattle.fd_solving.specs.fd_cert.Widening.{AreMismatches}
use Rattle.fd_solving.specs.fd_enclosure.Sound.{Claim, first_loose, greatest_mismatch, mismatch_at, mismatches_of}
use Rattle.fd_solving.specs.fd_enclosure.Sound.{number_at}
use Rattle.fd_solving.specs.fd_equations.Rounded.{list_of}
use Rattle.fd_solving.specs.fd_pattern.Views.{NetworkView}
use Rattle.fd_solving.proofs.CallerLemmas.fd_equations.{get_or-list_of, length-list_of}
use Rattle.fd_sweeping.specs.Beside.{greater_at, greater_mismatches}
use Rattle.fd_sweeping.specs.Stepping.{IsClaimed, IsTight}

first_same : (p q : ℕ → Bool) (n : ℕ) → ((k : ℕ) → k < n → p k ≡ q k) → first_place p n ≡ first_place q n
first_same p q zero h = refl
first_same p q (suc n) h =
    λ i. option_or (first_same p q n (λ k l. h k (omega arith)) i) (cond (h n (omega arith) i) (Some n) None)

module _ (v : NetworkView) (x : List ℤ) (ms : List ℕ) (is : ms ≡ mismatches_of v x) where
  pub long_as : length ms ≡ v.size
  unfolding mismatches_of
  long_as = ap length is ∙ length-list_of v.size (mismatch_at v x)

  pub read_as : (l : ℕ) → l < v.size → number_at ms l ≡ mismatch_at v x l
  unfolding mismatches_of
  read_as l h = ap (λ xs. number_at xs l) is ∙ get_or-list_of v.size (mismatch_at v x) l 0 h

  loose_same : first_place (λ l. nat_lt greatest_mismatch (number_at ms l)) (length ms) ≡ first_loose v x
  unfolding first_loose
  loose_same =
      ap (first_place (λ l. nat_lt greatest_mismatch (number_at ms l))) long_as
      ∙ first_same (λ l. nat_lt greatest_mismatch (number_at ms l))
      (λ l. nat_lt greatest_mismatch (mismatch_at v x l)) v.size
      (λ l h. ap (nat_lt greatest_mismatch) (read_as l h))

  pub is_loose : (row : ℕ) → Some row ≡ first_place (λ l. nat_lt greatest_mismatch (number_at ms l)) (length ms)
      → row < length ms
      → (first_loose v x ≡ Some row) × (row < v.size)
  is_loose row first h = (sym (first ∙ loose_same), subst (λ n. row < n) long_as h)

  pub is_tight : (e : List ℕ) → e ≡ ms → None ≡ first_place (λ l. nat_lt greatest_mismatch (number_at ms l)) (length ms)
      → ((l : ℕ) → l < length ms → number_at ms l ≤ greatest_mismatch) → IsTight v x e
  is_tight e same first tight = record {
    none = sym (first ∙ loose_same);
    own = same ∙ is;
    mismatches = record {
      long = ap length same ∙ long_as;
      most = λ l h. subst (λ xs. number_at xs l ≤ greatest_mismatch) (sym same)
          (tight l (subst (λ n. l < n) (sym long_as) h));
    };
  }

-- the greater of both, as they were made of lists that were read
module _ (v : NetworkView) (m : Claim) (claimed : IsClaimed v m) (first second greater : List ℕ)
    (one : first ≡ m.mismatches)
    (made : greater ≡ list_of (length first) (λ l. max (number_at first l) (number_at second l))) where
  size : length first ≡ v.size
  size = ap length one ∙ claimed.mismatches_long

  sized : greater ≡ list_of v.size (λ l. max (number_at first l) (number_at second l))
  sized = made ∙ ap (λ n. list_of n (λ l. max (number_at first l) (number_at second l))) size

  pub greater_is : (x : List ℤ) → second ≡ mismatches_of v x → greater ≡ greater_mismatches v m x
  greater_is x two =
      sized ∙ map-same (λ l. max (number_at first l) (number_at second l)) (greater_at v m x) v.size 0
      (λ l h. λ i. max (number_at (one i) l) (read_as v x second two l h i))

  pub greater_fits : AreMismatches v second → AreMismatches v greater
  greater_fits fit = record {
    long = ap length sized ∙ length-list_of v.size _;
    most = λ l h.
        let read =
        ap (λ xs. number_at xs l) sized
        ∙ get_or-list_of v.size (λ l. max (number_at first l) (number_at second l)) l 0 h in
        let a = fit.most l h in
        let b : number_at first l ≤ greatest_mismatch =
        subst (λ xs. number_at xs l ≤ greatest_mismatch) (sym one) (claimed.mismatches_most l h) in
        subst (λ n. n ≤ greatest_mismatch) (sym read) (omega (arith, a, b));
  }

-- ---- names

-- no unknown stands at a place past the last one
past_last : (layout : LayoutView) (place : ℕ) → size_of layout ≤ place → (b : Bool)
    → nat_lt place (2 * complex_count layout) ≡ b
    → (if b then option_map (λ t. t ++ chars (part_word place)) (complex_name layout (place / 2))
    else option_map (λ p. phase_text p ++ chars (codes " mag"))
    (slice_get layout.magnitudes (place - 2 * complex_count layout))) ≡ None
past_last layout place past true e = let low =
    ltb-true place (2 * complex_count layout) e in absurd (omega (arith, past, low))
past_last layout place past false e =
    ap (option_map (λ p. phase_text p ++ chars (codes " mag")))
    (slice_get_past layout.magnitudes (place - 2 * complex_count layout) (omega (arith, past)))

pub no_name_past : (layout : LayoutView) (place : ℕ) → size_of layout ≤ place → [] ≡ name_at layout place
unfolding name_at
no_name_past layout place past =
    sym (ap (λ (o : Option (List ℕ)). unwrap_or o [])
    (past_last layout place past (nat_lt place (2 * complex_count layout)) refl))
