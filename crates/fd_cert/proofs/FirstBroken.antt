-- The first rule that a claim breaks, from lists as they were computed.
use Rattle.std.proofs.Common.{◌≡◌, ◌∙◌, ℕ, ◌<◌, ℤ, nat_lt, true, false, cond, List, length, Option, Some, None, ap, refl, sym, subst}
use Rattle.std.specs.Prelude.{◌↔◌}
use Rattle.std.proofs.lemmas.Bool.{ltb-false, or_parts}
use Rattle.fd_enclosure.specs.fd_exact.First.{first_place}
use Rattle.fd_enclosure.specs.fd_exact.FirstLaws.{none_holds}
use Rattle.fd_enclosure.specs.fd_equations.Rounded.{list_of}
use Rattle.fd_enclosure.specs.fd_pattern.Views.{NetworkView}
use Rattle.fd_enclosure.proofs.CallerLemmas.fd_equations.{get_or-list_of, length-list_of}
use Rattle.fd_enclosure.specs.Boxes.{boxes_of}
use Rattle.fd_enclosure.specs.Sound.{IsSound, greatest_mismatch, mismatch_at, mismatches_of, number_at, radius_in}
use Rattle.fd_cert.specs.Reaches.{AreTight}
use Rattle.fd_cert.specs.Rechecks.{boxed_claim, broken_at, first_at_point, first_broken, has_size, is_narrow, is_out_of_range, is_untrue, place_named, refusal_of}
use Rattle.fd_cert.specs.declared.rule.Broken.{Broken}
use Rattle.fd_cert.specs.declared.rule.Rule.TheVariants.{Bound, Mismatch, Radius, Range, Size}
use Rattle.fd_cert.proofs.Certificates.{length-mismatches, numbers_at}
use Rattle.fd_cert.proofs.Rechecks.{sized_parts, sound_exactly}
use Rattle.fd_cert.proofs.Verdict.{first_same}

module _ (v : NetworkView) (x : List ℤ) (r e : List ℕ) (c : List (List ℤ)) where
  -- ---- at a point

  module _ (own : List ℕ) (is : own ≡ mismatches_of v x) where
    untrue_same : first_place (λ l. is_untrue (number_at own l) (number_at e l)) (length own)
        ≡ first_place (λ l. is_untrue (mismatch_at v x l) (number_at e l)) v.size
    untrue_same =
        ap (first_place (λ l. is_untrue (number_at own l) (number_at e l))) (ap length is ∙ length-mismatches v x)
        ∙ first_same (λ l. is_untrue (number_at own l) (number_at e l))
        (λ l. is_untrue (mismatch_at v x l) (number_at e l)) v.size (λ l h.
        ap (λ m. is_untrue m (number_at e l)) (numbers_at v x c own is l h))

    pub untrue_first : (place : ℕ)
        → Some place ≡ first_place (λ l. is_untrue (number_at own l) (number_at e l)) (length own)
        → first_at_point v x r e c ≡ Some (record { rule = Mismatch; place = place })
    unfolding first_at_point
    untrue_first place h =
        ap (λ o.
        broken_at Mismatch o (broken_at Bound (place_named (refusal_of v x e c))
        (broken_at Radius (first_place (is_narrow v x r e c) v.size) None)))
        (sym (h ∙ untrue_same))

    module _ (none : None ≡ first_place (λ l. is_untrue (number_at own l) (number_at e l)) (length own)) where
      pub tight : length e ≡ v.size → AreTight e
      tight long l h =
          ltb-false greatest_mismatch (number_at e l)
          (or_parts (nat_lt (number_at e l) (mismatch_at v x l)) (nat_lt greatest_mismatch (number_at e l))
          (none_holds (λ l. is_untrue (mismatch_at v x l) (number_at e l)) v.size l (sym (none ∙ untrue_same))
          (subst (λ n. l < n) long h))).1

      past_mismatch : first_at_point v x r e c
          ≡ broken_at Bound (place_named (refusal_of v x e c))
          (broken_at Radius (first_place (is_narrow v x r e c) v.size) None)
      unfolding first_at_point
      past_mismatch =
          ap (λ o.
          broken_at Mismatch o (broken_at Bound (place_named (refusal_of v x e c))
          (broken_at Radius (first_place (is_narrow v x r e c) v.size) None)))
          (sym (none ∙ untrue_same))

      pub bound_first : (place : ℕ) (sum : Option ℤ) → refusal_of v x e c ≡ Some (place, sum)
          → first_at_point v x r e c ≡ Some (record { rule = Bound; place = place })
      bound_first place sum h = past_mismatch ∙ ap (λ o. broken_at Bound (place_named o) (broken_at Radius (first_place (is_narrow v x r e c) v.size) None)) h

      module _ (certain : refusal_of v x e c ≡ None) (least : List ℕ)
          (all : least ≡ list_of v.size (radius_in v x c e)) where
        pub least_long : length least ≡ v.size
        least_long = ap length all ∙ length-list_of v.size (radius_in v x c e)

        narrow_same : first_place (λ i. nat_lt (number_at r i) (number_at least i)) (length least) ≡ first_place (is_narrow v x r e c) v.size
        narrow_same =
            ap (first_place (λ i. nat_lt (number_at r i) (number_at least i))) least_long
            ∙ first_same (λ i. nat_lt (number_at r i) (number_at least i)) (is_narrow v x r e c) v.size (λ i h.
            ap (nat_lt (number_at r i))
            (ap (λ xs. number_at xs i) all ∙ get_or-list_of v.size (radius_in v x c e) i 0 h))

        past_bound : first_at_point v x r e c ≡ broken_at Radius (first_place (is_narrow v x r e c) v.size) None
        past_bound = past_mismatch ∙ ap (λ o. broken_at Bound (place_named o) (broken_at Radius (first_place (is_narrow v x r e c) v.size) None)) certain

        pub radius_first : (place : ℕ)
            → Some place ≡ first_place (λ i. nat_lt (number_at r i) (number_at least i)) (length least)
            → first_at_point v x r e c ≡ Some (record { rule = Radius; place = place })
        radius_first place h = past_bound ∙ ap (λ o. broken_at Radius o None) (sym (h ∙ narrow_same))

        pub none_first : None ≡ first_place (λ i. nat_lt (number_at r i) (number_at least i)) (length least)
            → first_at_point v x r e c ≡ None
        none_first h = past_bound ∙ ap (λ o. broken_at Radius o None) (sym (h ∙ narrow_same))

  -- ---- before

  pub size_first : has_size v.size x r e c ≡ false → first_broken v x r e c ≡ Some (record { rule = Size; place = 0 })
  unfolding first_broken
  size_first h =
      ap (λ b.
      cond b (broken_at Range (first_place (is_out_of_range v.size x r c) v.size) (first_at_point v x r e c))
      (Some (record { rule = Size; place = 0 })))
      h

  past_size : has_size v.size x r e c ≡ true
      → first_broken v x r e c ≡ broken_at Range (first_place (is_out_of_range v.size x r c) v.size) (first_at_point v x r e c)
  unfolding first_broken
  past_size h =
      ap (λ b.
      cond b (broken_at Range (first_place (is_out_of_range v.size x r c) v.size) (first_at_point v x r e c))
      (Some (record { rule = Size; place = 0 })))
      h

  module _ (sized : has_size v.size x r e c ≡ true) where
    pub range_same : (o : Option ℕ) → o ≡ first_place (is_out_of_range (length x) x r c) (length x)
        → first_place (is_out_of_range v.size x r c) v.size ≡ o
    range_same o h = sym (h ∙ ap (λ (n : ℕ). first_place (is_out_of_range n x r c) n) (sized_parts v.size x r e c sized).centre)

    pub range_first : (place : ℕ) → Some place ≡ first_place (is_out_of_range (length x) x r c) (length x)
        → first_broken v x r e c ≡ Some (record { rule = Range; place = place })
    range_first place h = past_size sized ∙ ap (λ o. broken_at Range o (first_at_point v x r e c)) (range_same (Some place) h)

    pub past_range : None ≡ first_place (is_out_of_range (length x) x r c) (length x)
        → first_broken v x r e c ≡ first_at_point v x r e c
    past_range h = past_size sized ∙ ap (λ o. broken_at Range o (first_at_point v x r e c)) (range_same None h)

-- an answer says exactly whether the claim is sound
pub says_sound : (v : NetworkView) (x : List ℤ) (r e : List ℕ) (c : List (List ℤ)) (b : Option Broken) → b ≡ first_broken v x r e c
    → (b ≡ None) ↔ IsSound v (boxed_claim v x r e c)
says_sound v x r e c b h = let s = sound_exactly v x r e (boxes_of v x) c (λ point. refl) in (λ i. s.0 (sym h ∙ i), λ i. h ∙ s.1 i)

-- the same lists break the same
pub lists_same : (v : NetworkView) (x y : List ℤ) (r s e f : List ℕ) (c : List (List ℤ)) → x ≡ y → r ≡ s → e ≡ f
    → first_broken v x r e c ≡ first_broken v y s f c
lists_same v x y r s e f c p q t = λ i. first_broken v (p i) (q i) (t i) c

pub broken_same : (v : NetworkView) (x y : List ℤ) (r s e : List ℕ) (c : List (List ℤ)) → x ≡ y → r ≡ s
    → first_broken v x r e c ≡ first_broken v y s e c
broken_same v x y r s e c p q = lists_same v x y r s e e c p q refl
