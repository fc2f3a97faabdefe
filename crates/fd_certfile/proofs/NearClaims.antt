-- A claim whose inverse is kept in 64 bits.
use Rattle.std.proofs.Common.{◌≡◌, ◌∙◌, ◌⊎◌, ℕ, zero, suc, ◌+◌, ◌*◌, ◌<◌, ◌^◌, ℤ, nat_abs, nat_lt, Bool, true, false, cond, List, length, Option, Some, None, Result, Ok, Err, is_some, inl, inr, refl, ap, sym, arith, true≢false}
use Rattle.std.specs.Prelude.{◌||◌, ◌&&◌, ◌==◌, if◌then◌else◌}
use Rattle.std.specs.Option.{option_or}
use Rattle.std.proofs.lemmas.Bool.{lt-ltb}
use Rattle.fd_settle.specs.fd_exact.First.{first_place}
use Rattle.fd_settle.specs.fd_exact.FirstLaws.{found, none_holds}
use Rattle.fd_settle.specs.fd_exact.States.{cell, part}
use Rattle.fd_settle.specs.fd_exact.Tables.{entry-table, length-table, table-same}
use Rattle.fd_settle.specs.fd_mat.Rows.{row_of, square}
use Rattle.fd_settle.specs.fd_pattern.Views.{NetworkView}
use Rattle.fd_settle.specs.fd_enclosure.Sound.{number_at}
use Rattle.fd_settle.specs.fd_cert.Rechecks.{IsBoxed, boxed_claim, broken_at, first_at_point, first_broken, has_size, has_wide_entry, is_out_of_range}
use Rattle.fd_settle.specs.fd_cert.declared.ball.Certified.{Certified}
use Rattle.fd_settle.specs.fd_cert.declared.rule.Broken.{Broken}
use Rattle.fd_settle.specs.fd_cert.declared.rule.Rule.TheVariants.{Range, Size}
use Rattle.fd_certfile.specs.Cells.{AreNear, IsPast}

-- ---- tests

-- a test that tells the same of each place below n finds the same first
first_same : (p q : ℕ → Bool) (n : ℕ) → ((k : ℕ) → k < n → p k ≡ q k) → first_place p n ≡ first_place q n
first_same p q zero h = refl
first_same p q (suc n) h = λ i. option_or (first_same p q n (λ k l. h k (omega (arith, l))) i) (if h n (omega arith) i then Some n else None)

past_same : (a b : ℤ) → (b ≡ a) ⊎ (IsPast a × IsPast b) → nat_lt (2 ^ 56) (nat_abs b) ≡ nat_lt (2 ^ 56) (nat_abs a)
past_same a b (inl e) = ap (λ (z : ℤ). nat_lt (2 ^ 56) (nat_abs z)) e
past_same a b (inr past) = lt-ltb (2 ^ 56) (nat_abs b) past.1 ∙ sym (lt-ltb (2 ^ 56) (nat_abs a) past.0)

or_some : (a b : Bool) → b ≡ true → (a || b) ≡ true
or_some true b e = refl
or_some false b e = e

at_range : (o : Option ℕ) (a b : Option Broken) → (o ≡ None → a ≡ b) → broken_at Range o a ≡ broken_at Range o b
at_range None a b h = h refl
at_range (Some k) a b h = refl

no_range : (o : Option ℕ) (later : Option Broken) → broken_at Range o later ≡ None → o ≡ None
no_range None later h = refl
no_range (Some k) later h = let no : ⊥ = cc in absurd no

no_size : (b : Bool) (later : Option Broken) (f : Broken) → cond b later (Some f) ≡ None → later ≡ None
no_size true later f h = h
no_size false later f h = let no : ⊥ = cc in absurd no

-- ---- a claim with other numbers in place of those that are out of range

module _ (v : NetworkView) (x : List ℤ) (r e : List ℕ) (cells shorts : List ℤ) (near : AreNear cells shorts) where
  at : (xs : List ℤ) (i col : ℕ) → i < v.size → col < v.size → part (row_of (square v.size xs) i) col ≡ cell xs v.size i col
  at xs i col l m = entry-table v.size v.size (cell xs v.size) i col l m

  wide_same : (i : ℕ) → i < v.size
      → has_wide_entry v.size (row_of (square v.size shorts) i) ≡ has_wide_entry v.size (row_of (square v.size cells) i)
  wide_same i l =
      ap is_some
      (first_same (λ col. nat_lt (2 ^ 56) (nat_abs (part (row_of (square v.size shorts) i) col)))
      (λ col. nat_lt (2 ^ 56) (nat_abs (part (row_of (square v.size cells) i) col))) v.size (λ col m.
      ap (λ (z : ℤ). nat_lt (2 ^ 56) (nat_abs z)) (at shorts i col l m)
      ∙ past_same (cell cells v.size i col) (cell shorts v.size i col) (near.each (i * v.size + col))
      ∙ ap (λ (z : ℤ). nat_lt (2 ^ 56) (nat_abs z)) (sym (at cells i col l m))))

  range_same : first_place (is_out_of_range v.size x r (square v.size shorts)) v.size
      ≡ first_place (is_out_of_range v.size x r (square v.size cells)) v.size
  range_same =
      first_same (is_out_of_range v.size x r (square v.size shorts)) (is_out_of_range v.size x r (square v.size cells)) v.size
      (λ i l. ap (λ (t : Bool). nat_lt (2 ^ 40) (nat_abs (part x i)) || (nat_lt (2 ^ 40) (number_at r i) || t)) (wide_same i l))

  -- all numbers are in range
  module _ (fine : first_place (is_out_of_range v.size x r (square v.size cells)) v.size ≡ None) where
    none_past : (i col : ℕ) → i < v.size → col < v.size → IsPast (cell cells v.size i col) → ⊥
    none_past i col l m past =
        let wide = found (λ k. nat_lt (2 ^ 56) (nat_abs (part (row_of (square v.size cells) i) k))) v.size col m
        (ap (λ (z : ℤ). nat_lt (2 ^ 56) (nat_abs z)) (at cells i col l m)
        ∙ lt-ltb (2 ^ 56) (nat_abs (cell cells v.size i col)) past) in
        true≢false (sym (or_some (nat_lt (2 ^ 40) (nat_abs (part x i))) _ (or_some (nat_lt (2 ^ 40) (number_at r i)) _ wide))
        ∙ none_holds (is_out_of_range v.size x r (square v.size cells)) v.size i fine l)

    one : (i col : ℕ) → i < v.size → col < v.size → cell shorts v.size i col ≡ cell cells v.size i col
    one i col l m = elim (near.each (i * v.size + col)) [
      | inl e ↦ e
      | inr past ↦ absurd (none_past i col l m past.0)
    ]

    same : square v.size shorts ≡ square v.size cells
    same = table-same v.size v.size (cell shorts v.size) (cell cells v.size) one

  sized : has_size v.size x r e (square v.size shorts) ≡ has_size v.size x r e (square v.size cells)
  sized =
      ap (λ (k : ℕ). (length x == v.size) && ((length r == v.size) && ((length e == v.size) && (k == v.size))))
      (length-table v.size v.size (cell shorts v.size) ∙ sym (length-table v.size v.size (cell cells v.size)))

  broken_same : first_broken v x r e (square v.size shorts) ≡ first_broken v x r e (square v.size cells)
  unfolding first_broken
  broken_same =
      (λ i. cond (sized i) (broken_at Range (range_same i) (first_at_point v x r e (square v.size shorts))) (Some (record { rule = Size; place = 0 })))
      ∙ ap (λ (o : Option Broken). cond (has_size v.size x r e (square v.size cells)) o (Some (record { rule = Size; place = 0 })))
      (at_range (first_place (is_out_of_range v.size x r (square v.size cells)) v.size) (first_at_point v x r e (square v.size shorts))
      (first_at_point v x r e (square v.size cells)) (λ fine. ap (first_at_point v x r e) (same fine)))

  range_none : first_broken v x r e (square v.size cells) ≡ None
      → first_place (is_out_of_range v.size x r (square v.size cells)) v.size ≡ None
  unfolding first_broken
  range_none h = no_range _ _ (no_size (has_size v.size x r e (square v.size cells)) _ (record { rule = Size; place = 0 }) h)

  pub boxed_same : (t : Result Certified Broken) → IsBoxed v (boxed_claim v x r e (square v.size shorts)) t
      → IsBoxed v (boxed_claim v x r e (square v.size cells)) t
  boxed_same (Ok m) h =
      let whole = sym broken_same ∙ h.0 in
      (whole, h.1 ∙ ap (boxed_claim v x r e) (same (range_none whole)))
  boxed_same (Err b) h = sym broken_same ∙ h
