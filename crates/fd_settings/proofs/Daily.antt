-- What is kept of loads, element by element.
use Rattle.std.proofs.Common.{◌≡◌, ◌∙◌, ◌-◌, ◌≤◌, ℕ, zero, suc, ℤ, arith, List, [], ◌∷◌, ◌++◌, length, map, slice_get, Option, Some, None, is_some, ap, refl, sym, subst}
use Rattle.std.specs.Prelude.{IfSome}
use Rattle.std.proofs.lemmas.Option.{same_Some, slice_get-map}
use Rattle.fd_devices.specs.dss_model.declared.element.Element.{Element}
use Rattle.fd_devices.specs.dss_model.declared.load.Load.{Load}
use Rattle.fd_devices.specs.dss_model.declared.names.Class.TheVariants as class
use Rattle.fd_devices.specs.dss_model.declared.names.ElementName.{ElementName}
use Rattle.fd_devices.specs.dss_circuit.Lookups.{element_given}
use Rattle.fd_devices.specs.dss_layout.Layout.{Elements}
use Rattle.fd_settings.specs.declared.hours.DailyLoad.{DailyLoad}
use Rattle.fd_settings.specs.Daily.{AreDailyOf, IsDailyAt, element_at}
use Rattle.fd_settings.specs.Hours.{followed_point, point_at}

module _ (all : Elements) where
  pub daily_count : (es : Elements) (ds : List DailyLoad) → AreDailyOf all es ds → length ds ≡ length es
  daily_count [] [] h = refl
  daily_count [] (d ∷ ds) h = absurd h
  daily_count (e ∷ es) [] h = absurd h
  daily_count (e ∷ es) (d ∷ ds) h = ap suc (daily_count es ds h.1)

  pub daily_at : (es : Elements) (ds : List DailyLoad) (k : ℕ) (e : ElementName × Element) (d : DailyLoad) → AreDailyOf all es ds
      → slice_get es k ≡ Some e → slice_get ds k ≡ Some d → IsDailyAt all e.1 d
  daily_at [] ds zero e d h at own = absurd (cc)
  daily_at [] ds (suc k) e d h at own = absurd (cc)
  daily_at (x ∷ es) [] k e d h at own = absurd h
  daily_at (x ∷ es) (y ∷ ds) zero e d h at own =
      subst (λ (z : ElementName × Element). IsDailyAt all z.1 d) (same_Some x e at)
      (subst (IsDailyAt all x.1) (same_Some y d own) h.0)
  daily_at (x ∷ es) (y ∷ ds) (suc k) e d h at own = daily_at es ds k e d h.1 at own

  pub daily_more : (es : Elements) (ds : List DailyLoad) (e : ElementName × Element) (d : DailyLoad) → AreDailyOf all es ds
      → IsDailyAt all e.1 d → AreDailyOf all (es ++ e ∷ []) (ds ++ d ∷ [])
  daily_more [] [] e d h own = (own, tt)
  daily_more [] (y ∷ ds) e d h own = absurd h
  daily_more (x ∷ es) [] e d h own = absurd h
  daily_more (x ∷ es) (y ∷ ds) e d h own = (h.0, daily_more es ds e d h.1 own)

-- the element at a place that was looked up
pub found_at : (es : Elements) (o : Option ℕ) (v w : Option Element) → v ≡ w → is_some o ≡ is_some w
    → IfSome o (λ k. slice_get (map (λ e. e.1) es) k ≡ v) → element_at es o ≡ w
found_at es None v None same found h = refl
found_at es None v (Some w) same found h = absurd (cc)
found_at es (Some k) v w same found h = sym (slice_get-map (λ (e : ElementName × Element). e.1) es k) ∙ h ∙ same

-- the point at an hour behind the first
pub later_point : (es : Elements) (load : Load) (hour : ℕ) (o : Option Element) (z : ℤ) → 1 ≤ hour
    → o ≡ element_given es class.Loadshape load.daily → z ≡ followed_point o (hour - 1) → z ≡ point_at es load hour
later_point es load zero o z h same is = absurd (omega (arith, h))
later_point es load (suc n) o z h same is =
    let passed : suc n - 1 ≡ n = omega arith in
    is ∙ ap (followed_point o) passed ∙ ap (λ (w : Option Element). followed_point w n) same
