-- The powers of loads at an hour: those of the snapshot at hour 0, and at each hour as many as the loads have phases.
use Rattle.std.proofs.Common.{◌≡◌, ◌∙◌, ℕ, ◌+◌, List, [], ◌∷◌, length, length-append, replicate, refl}
use Rattle.std.specs.List.{flat_map}
use Rattle.std.proofs.lemmas.List.{length-replicate}
use Rattle.fd_devices.specs.fd_exact.Sums.{list_n}
use Rattle.fd_devices.specs.dss_model.declared.element.Element.{Element}
use Rattle.fd_devices.specs.dss_model.declared.load.Load.{Load}
use Rattle.fd_devices.specs.dss_model.declared.names.ElementName.{ElementName}
use Rattle.fd_devices.specs.dss_layout.Layout.{Elements}
use Rattle.fd_devices.specs.Kinds.{loads_in}
use Rattle.fd_devices.specs.Settings.{power_count}
use Rattle.fd_settings.specs.Hours.{HoursLaw, element_powers, hour_powers, point_at}
use Rattle.fd_settings.specs.Snapshot.{power_of}

-- where each gives so many, all give the sum
pub counted : {A B : Type 0} (f : A → List B) (n : A → ℕ) → ((a : A) → length (f a) ≡ n a) → (xs : List A) → length (flat_map f xs) ≡ list_n n xs
counted f n h [] = refl
counted f n h (a ∷ xs) = length-append (f a) (flat_map f xs) ∙ (λ i. h a i + counted f n h xs i)

module _ (elements : Elements) (hour : ℕ) where
  hour_counted : (e : Element) → length (element_powers elements hour e) ≡ power_count e
  hour_counted e =
      counted (λ (l : Load). replicate l.phases (power_of l (point_at elements l hour))) (λ (l : Load). l.phases)
      (λ l. length-replicate l.phases (power_of l (point_at elements l hour))) (loads_in e)

  pub all_counted : (es : Elements)
      → length (flat_map (λ (x : ElementName × Element). element_powers elements hour x.1) es)
      ≡ list_n (λ (x : ElementName × Element). power_count x.1) es
  all_counted es =
      counted (λ (x : ElementName × Element). element_powers elements hour x.1)
      (λ (x : ElementName × Element). power_count x.1) (λ x. hour_counted x.1) es

pub hour_powers_are : HoursLaw
hour_powers_are elements = record {
  snapshot = λ i. hour_powers elements 0;
  count = λ hour. all_counted elements hour elements;
}
