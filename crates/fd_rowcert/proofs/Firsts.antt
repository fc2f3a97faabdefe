-- The first rule that is broken, step by step.
use Rattle.std.proofs.Common.{◌≡◌, ◌∙◌, ℕ, ◌*◌, ◌^◌, ◌<◌, ◌≤◌, ℤ, Bool, true, false, cond, List, length, Option, Some, None, ap, refl, sym}
use Rattle.std.proofs.lemmas.Bool.{ltb-false}
use Rattle.fd_cert.specs.declared.ball.DerivedRows.{DerivedRows}
use Rattle.fd_cert.specs.fd_enclosure.Sound.{number_at}
use Rattle.fd_cert.specs.fd_enclosure.fd_exact.First.{first_place}
use Rattle.fd_cert.specs.fd_enclosure.fd_exact.FirstLaws.{none_holds}
use Rattle.fd_rowcert.specs.Rechecks.{broken_at, first_of_ranges, has_size, is_box, is_far_at, is_high_at, is_large_at, is_narrow}
use Rattle.fd_rowcert.specs.declared.broken.BrokenRow.{BrokenRow}
use Rattle.fd_rowcert.specs.declared.broken.BrokenRow.TheVariants as broken
use Rattle.fd_rowcert.proofs.Numbered.{sized}

abbrev steps : Bool → Bool → Option ℕ → Option ℕ → Option ℕ → Option BrokenRow
steps a b f g h =
    cond a (cond b (broken_at broken.Range f (broken_at broken.RowRange g (broken_at broken.BoundRange h None)))
    (Some broken.Box)) (Some broken.Size)

module _ (n : ℕ) (x : List ℤ) (r e : List ℕ) (d : DerivedRows) where
  steps_are : first_of_ranges n x r e d
      ≡ steps (has_size n x r e d.claim) (is_box d.parts) (first_place (is_far_at x r) n)
      (first_place (is_large_at d.claim) (length d.claim.rows.items)) (first_place (is_high_at d.claim.bounds.items) n)
  unfolding first_of_ranges
  steps_are = refl

  pub unsized : has_size n x r e d.claim ≡ false → Some broken.Size ≡ first_of_ranges n x r e d
  unsized p = sym (steps_are ∙ ap (λ a. steps a (is_box d.parts) (first_place (is_far_at x r) n)
      (first_place (is_large_at d.claim) (length d.claim.rows.items)) (first_place
      (is_high_at d.claim.bounds.items) n)) p)

  module _ (p : has_size n x r e d.claim ≡ true) where
    pub unboxed : is_box d.parts ≡ false → Some broken.Box ≡ first_of_ranges n x r e d
    unboxed q = sym (steps_are ∙ (λ i. steps (p i) (q i) (first_place (is_far_at x r) n)
        (first_place (is_large_at d.claim) (length d.claim.rows.items)) (first_place
        (is_high_at d.claim.bounds.items) n)))

    module _ (q : is_box d.parts ≡ true) where
      pub far : (o : Option ℕ) → o ≡ first_place (is_far_at x r) (length x) → (k : ℕ) → o ≡ Some k
          → Some (broken.Range k) ≡ first_of_ranges n x r e d
      far o is k s =
          let z = sized n x r e d.claim p in
          let f = ap (first_place (is_far_at x r)) (sym z.centre) ∙ sym is ∙ s in
          sym (steps_are ∙ (λ i. steps (p i) (q i) (f i)
          (first_place (is_large_at d.claim) (length d.claim.rows.items)) (first_place
          (is_high_at d.claim.bounds.items) n)))

      module _ (o : Option ℕ) (is : o ≡ first_place (is_far_at x r) (length x)) (none : o ≡ None) where
        near : first_place (is_far_at x r) n ≡ None
        near = let z = sized n x r e d.claim p in ap (first_place (is_far_at x r)) (sym z.centre) ∙ sym is ∙ none

        pub large : (k : ℕ) → first_place (is_large_at d.claim) (length d.claim.rows.items) ≡ Some k
            → Some (broken.RowRange k) ≡ first_of_ranges n x r e d
        large k g = sym (steps_are ∙ (λ i. steps (p i) (q i) (near i) (g i) (first_place
            (is_high_at d.claim.bounds.items) n)))

        pub last : first_place (is_large_at d.claim) (length d.claim.rows.items) ≡ None → (bs : List ℕ)
            → bs ≡ d.claim.bounds.items
            → (h : Option ℕ) → h ≡ first_place (is_high_at bs) (length bs) → (found : Option ℕ) → h ≡ found
            → broken_at broken.BoundRange found None ≡ first_of_ranges n x r e d
        last g bs same h high found s =
            let z = sized n x r e d.claim p in
            let t = ap (first_place (is_high_at d.claim.bounds.items)) (sym z.bounds)
            ∙ ap (λ b. first_place (is_high_at b) (length b)) (sym same) ∙ sym high ∙ s in
            sym (steps_are ∙ (λ i. steps (p i) (q i) (near i) (g i) (t i)))

-- no radius is below its bound
pub all_wide : (bs cs radii : List ℕ) → cs ≡ bs → (o : Option ℕ) → o ≡ first_place (is_narrow cs radii) (length cs)
    → o ≡ None → (j : ℕ)
    → j < length bs → number_at bs j ≤ 2 ^ 20 * number_at radii j
all_wide bs cs radii same o is none j l =
    ltb-false (2 ^ 20 * number_at radii j) (number_at bs j)
    (none_holds (is_narrow bs radii) (length bs) j (ap (λ b. first_place (is_narrow b radii) (length b)) (sym same)
    ∙ sym is ∙ none) l)
