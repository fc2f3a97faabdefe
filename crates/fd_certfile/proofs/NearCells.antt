-- Numbers in 64 bits, and beside them those that need more.
use Rattle.std.proofs.Common.{◌≡◌, ◌≢◌, ◌∙◌, ℕ, ◌+◌, ◌<◌, ◌⊎◌, ℤ, pos, List, [], ◌∷◌, ◌++◌, length, set, inl, inr, refl, ap, sym, subst, arith}
use Rattle.std.specs.List.{AllByRecursion}
use Rattle.std.proofs.Math.Seq.{set-append_seam}
use Rattle.std.proofs.lemmas.List.{get_or_append_left, get_or-append-add, get_or-set_other, get_or-set_same, length-append, length-set, set-append_left}
use Rattle.std.proofs.lemmas.List.Sums.{fold-append}
use Rattle.fd_settle.specs.fd_exact.States.{part}
use Rattle.fd_certfile.specs.Cells.{AreLong, AreNear, IsLong, IsPast, with_long, with_longs}
use Rattle.fd_certfile.specs.declared.cells.Long.{Long}

weaker : {P Q : Long → Type 0} → ((l : Long) → P l → Q l) → (longs : List Long) → AllByRecursion P longs → AllByRecursion Q longs
weaker f [] h = tt
weaker f (l ∷ longs) h = (f l h.0, weaker f longs h.1)

more : (P : Long → Type 0) (longs : List Long) (l : Long) → AllByRecursion P longs → P l → AllByRecursion P (longs ++ l ∷ [])
more P [] l h p = (p, tt)
more P (k ∷ longs) l h p = (h.0, more P longs l h.1 p)

pub length-longs : (xs : List ℤ) (longs : List Long) → length (with_longs xs longs) ≡ length xs
length-longs xs [] = refl
length-longs xs (l ∷ longs) = length-longs (with_long xs l) longs ∙ length-set xs l.place l.value

-- a number behind those of which some are written anew
behind : (xs : List ℤ) (z : ℤ) (longs : List Long) → AllByRecursion (λ l. l.place < length xs) longs
    → with_longs (xs ++ z ∷ []) longs ≡ with_longs xs longs ++ z ∷ []
behind xs z [] h = refl
behind xs z (l ∷ longs) h =
    ap (λ (ys : List ℤ). with_longs ys longs) (set-append_left xs (z ∷ []) l.place l.value h.0)
    ∙ behind (with_long xs l) z longs
    (subst (λ (n : ℕ). AllByRecursion (λ k. k.place < n) longs) (sym (length-set xs l.place l.value)) h.1)

module _ (shorts : List ℤ) (longs : List Long) (are : AreLong shorts longs) (z : ℤ) where
  -- one of 64 bits more
  pub short_more : with_longs (shorts ++ z ∷ []) longs ≡ with_longs shorts longs ++ z ∷ []
  short_more = behind shorts z longs (weaker (λ l h. h.inside) longs are)

  one : (l : Long) → IsLong shorts l → IsLong (shorts ++ z ∷ []) l
  one l h = record {
    inside = omega (arith, h.inside, length-append shorts (z ∷ []));
    value = h.value;
    stand = subst IsPast (sym (get_or_append_left shorts (z ∷ []) (pos 0) l.place h.inside)) h.stand;
  }

  pub short_long : AreLong (shorts ++ z ∷ []) longs
  short_long = weaker one longs are

  -- one that needs more
  module _ (value : ℤ) (long : IsPast value) (stand : IsPast z) where
    abbrev last : Long
    last = record { place = length shorts; value = value }

    pub long_more : with_longs (shorts ++ z ∷ []) (longs ++ last ∷ []) ≡ with_longs shorts longs ++ value ∷ []
    long_more =
        fold-append with_long (shorts ++ z ∷ []) longs (last ∷ [])
        ∙ ap (λ (xs : List ℤ). set xs (length shorts) value) short_more
        ∙ ap (λ (n : ℕ). set (with_longs shorts longs ++ z ∷ []) n value) (sym (length-longs shorts longs))
        ∙ set-append_seam (with_longs shorts longs) z [] value

    at_end : part (shorts ++ z ∷ []) (length shorts) ≡ z
    at_end = ap (part (shorts ++ z ∷ [])) (end (length shorts)) ∙ get_or-append-add shorts (z ∷ []) 0 (pos 0)
      where
        end : (n : ℕ) → n ≡ n + 0
        end n = omega arith

    pub long_long : AreLong (shorts ++ z ∷ []) (longs ++ last ∷ [])
    long_long = more (IsLong (shorts ++ z ∷ [])) longs last short_long (record {
      inside = omega (arith, length-append shorts (z ∷ []));
      value = long;
      stand = subst IsPast (sym at_end) stand;
    })

-- ---- what stands in the place of a number

same_or : (k n : ℕ) → (k ≡ n) ⊎ (k ≢ n)
same_or k n = grind arith

pub near_none : (xs : List ℤ) → AreNear xs xs
near_none xs = record { long = refl; each = λ k. inl refl }

pub near_from : (shorts now : List ℤ) (longs : List Long) → AreLong shorts longs → AreNear now shorts
    → AreNear (with_longs now longs) shorts
near_from shorts now [] are h = h
near_from shorts now (l ∷ longs) are h = near_from shorts (with_long now l) longs are.1 (record {
  long = h.long ∙ sym (length-set now l.place l.value);
  each = λ k. elim (same_or k l.place) [
    | inl e ↦
        let inside : l.place < length now = omega (arith, are.0.inside, h.long) in
        let value = ap (part (with_long now l)) e ∙ get_or-set_same now l.place l.value (pos 0) inside in
        inr (subst IsPast (sym value) are.0.value, subst IsPast (sym (ap (part shorts) e)) are.0.stand)
    | inr ne ↦ elim (h.each k) [
      | inl same ↦ inl (same ∙ sym (get_or-set_other now l.place k l.value (pos 0) ne))
      | inr past ↦ inr (subst IsPast (sym (get_or-set_other now l.place k l.value (pos 0) ne)) past.0, past.1)
    ]
  ];
})

pub near_all : (shorts : List ℤ) (longs : List Long) → AreLong shorts longs → AreNear (with_longs shorts longs) shorts
near_all shorts longs are = near_from shorts shorts longs are (near_none shorts)
