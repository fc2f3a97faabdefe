-- What elements added before: the first of it, and the others.
use Rattle.std.proofs.Common.{◌≡◌, ◌∙◌, ℕ, ◌+◌, ◌<◌, ◌≤◌, List, [], ◌∷◌, length, take, drop, map, get_or, Option, Some, None, IfSome, arith, ap, subst, sym}
use Rattle.std.specs.List.{All}
use Rattle.std.specs.Option.{option_map}
use Rattle.std.proofs.lemmas.List.{length-take}
use Rattle.std.proofs.lemmas.List.Elements.{All-head, All-tail, All-take}
use Rattle.dss_ready.specs.dss_model.declared.element.Element.{Element}
use Rattle.dss_ready.specs.dss_model.declared.names.ElementName.{ElementName}
use Rattle.dss_ready.specs.dss_layout.Layout.{Elements, LayoutView}
use Rattle.fd_devices.specs.fd_system.System.{StampView}
use Rattle.fd_devices.specs.Building.{DeviceFits, IsModest}
use Rattle.fd_devices.specs.Devices.{Device, device_stamp}
use Rattle.fd_devices.specs.Kept.{AreFewOf}
use Rattle.fd_devices.specs.Scripted.{device_of, devices_from}
use Rattle.fd_devices.specs.Settings.{AreSettings, HasOwn, Settings, after, own, power_count, settings_in}
use Rattle.fd_devices.specs.Standing.{IsSettledAt}
use Rattle.fd_devices.proofs.CallerLemmas.{few_of, settled_at}
use Rattle.fd_devices.specs.declared.settings.SettingSlices.{SettingSlices}
use Rattle.fd_network.specs.declared.assembly.Parts.{Parts}
use Rattle.fd_network.specs.declared.extents.Extent.{Extent}
use Rattle.fd_network.specs.declared.former.Former.{Former}
use Rattle.fd_network.specs.Collecting.{IsTakenAt}
use Rattle.fd_network.specs.Former.{AreExact, AreFormerFrom, FormerView, HasFirst, IsFormerOf, StampLists, after_first, after_former, first_extent, first_stamp, former_at, former_in, formers_in, stamps_in}
use Rattle.fd_network.specs.Stamps.{extent_of, extents_of, parted}
use Rattle.fd_network.proofs.Taking.{own_settings, settings_first, settings_rest}

-- ---- the first stamp

cons_head : {A : Type 0} (x y : A) (xs ys : List A) → x ∷ xs ≡ y ∷ ys → x ≡ y
cons_head x y xs ys h = cc

module _ (v : StampLists) (s : StampView) (ss : List StampView) (rest : List Extent)
    (extents : v.extents ≡ extent_of s ∷ rest) (stamps : stamps_in v ≡ s ∷ ss) where
  abbrev shown : StampView
  shown = record {
    constants = take (length s.constants) v.constants;
    terms = take (length s.terms) v.terms;
    loads = take (length s.loads) v.loads;
    draw = s.draw;
  }

  abbrev others : List StampView
  others = parted rest (drop (length s.constants) v.constants) (drop (length s.terms) v.terms) (drop (length s.loads) v.loads)

  opened : shown ∷ others ≡ s ∷ ss
  opened = (λ i. parted (sym extents i) v.constants v.terms v.loads) ∙ stamps

  shown_is : shown ≡ s
  shown_is = cons_head shown s others ss opened

  pub extent_here : first_extent v ≡ extent_of s
  extent_here = ap (λ l. get_or l 0 (record { constants = 0; terms = 0; loads = 0; draw = 0 })) extents

  pub stamp_here : first_stamp v ≡ s
  stamp_here =
      (λ i. record {
        constants = take (extent_here i).constants v.constants;
        terms = take (extent_here i).terms v.terms;
        loads = take (extent_here i).loads v.loads;
        draw = (extent_here i).draw;
      })
      ∙ shown_is

  pub first_here : HasFirst v
  first_here = record {
    some = omega (arith, ap length extents);
    constants = omega (
      arith,
      ap (λ (x : Extent). x.constants) extent_here,
      ap (λ (x : StampView). length x.constants) shown_is,
      length-take (length s.constants) v.constants,
    );
    terms = omega (
      arith,
      ap (λ (x : Extent). x.terms) extent_here,
      ap (λ (x : StampView). length x.terms) shown_is,
      length-take (length s.terms) v.terms,
    );
    loads = omega (
      arith,
      ap (λ (x : Extent). x.loads) extent_here,
      ap (λ (x : StampView). length x.loads) shown_is,
      length-take (length s.loads) v.loads,
    );
  }

  pub extents_after : (after_first v).extents ≡ rest
  extents_after = ap (drop 1) extents

  pub stamps_after : stamps_in (after_first v) ≡ ss
  stamps_after =
      (λ i. parted (extents_after i) (drop (extent_here i).constants v.constants) (drop (extent_here i).terms v.terms)
      (drop (extent_here i).loads v.loads))
      ∙ ap (drop 1) opened

-- ---- the first element

module _ (layout : LayoutView) (hertz place : ℕ) (e : ElementName × Element) (es : Elements) where
  former_here : (v : FormerView) → AreFormerFrom layout hertz place (e ∷ es) v → IsFormerOf layout hertz place e.1 v
  former_here v h =
      let d = device_of layout hertz place e.1 (own e.1 v.at) in
      let ds = devices_from layout hertz (place + 1) es (after e.1 v.at) in
      let ss = map device_stamp ds in
      record {
        first = first_here v.stamps (device_stamp d) ss (extents_of ds) h.extents h.stamps;
        settings = settings_first e es v.at h.settings;
        extent = extent_here v.stamps (device_stamp d) ss (extents_of ds) h.extents h.stamps;
        stamp = stamp_here v.stamps (device_stamp d) ss (extents_of ds) h.extents h.stamps;
        fits = All-head DeviceFits d ds h.fits;
      }

  former_next : (v : FormerView) → AreFormerFrom layout hertz place (e ∷ es) v
      → AreFormerFrom layout hertz (place + 1) es (after_former e.1 v)
  former_next v h =
      let d = device_of layout hertz place e.1 (own e.1 v.at) in
      let ds = devices_from layout hertz (place + 1) es (after e.1 v.at) in
      let ss = map device_stamp ds in
      record {
        settings = settings_rest e es v.at h.settings;
        extents = extents_after v.stamps (device_stamp d) ss (extents_of ds) h.extents h.stamps;
        stamps = stamps_after v.stamps (device_stamp d) ss (extents_of ds) h.extents h.stamps;
        fits = All-tail DeviceFits d ds h.fits;
      }

  -- the same, where it is known
  pub known_here : (o : Option FormerView) → IfSome o (AreFormerFrom layout hertz place (e ∷ es))
      → IfSome o (IsFormerOf layout hertz place e.1)
  known_here None h = tt
  known_here (Some v) h = former_here v h

  pub known_next : (o : Option FormerView) → IfSome o (AreFormerFrom layout hertz place (e ∷ es))
      → IfSome (option_map (after_former e.1) o) (AreFormerFrom layout hertz (place + 1) es)
  known_next None h = tt
  known_next (Some v) h = former_next v h

module _ (layout : LayoutView) (hertz place : ℕ) (e : Element) where
  pub first_there : (o : Option FormerView) → IfSome o (IsFormerOf layout hertz place e) → IfSome o (λ v. HasFirst v.stamps)
  first_there None h = tt
  first_there (Some v) h = h.first

  pub own_there : (o : Option FormerView) → IfSome o (IsFormerOf layout hertz place e) → IfSome o (λ v. HasOwn e v.at)
  own_there None h = tt
  own_there (Some v) h = h.settings

pub IfSome_each : {A : Type 0} {P : A → Type 0} (o : Option A) → ((x : A) → P x) → IfSome o P
IfSome_each None h = tt
IfSome_each (Some x) h = h x

-- what holds where it is known holds of what is known
pub of_known : (P : FormerView → Type 0) (o : Option Former) (f : Former) → o ≡ Some f → IfSome (formers_in o) P → P (former_in f)
of_known P o f e h = subst (λ x. IfSome (formers_in x) P) e h

-- ---- the parts

pub known_at : (P : FormerView → Type 0) (p : Parts) (o : Option SettingSlices) → IfSome o (λ s. P (former_at p s))
    → IfSome (option_map (former_at p) o) P
known_at P p None h = tt
known_at P p (Some s) h = h

-- the same of what is equal
pub former_as : (l l' : LayoutView) (h h' : ℕ) (es es' : Elements) (p : Parts) (o : Option SettingSlices) → l ≡ l' → h ≡ h' → es ≡ es'
    → IfSome o (λ s. AreFormerFrom l' h' 0 es' (former_at p s)) → IfSome o (λ s. AreFormerFrom l h 0 es (former_at p s))
former_as l l' h h' es es' p o el eh ees former =
    subst (λ x. IfSome o (λ s. AreFormerFrom x h 0 es (former_at p s))) (sym el)
    (subst (λ x. IfSome o (λ s. AreFormerFrom l' x 0 es (former_at p s))) (sym eh)
    (subst (λ x. IfSome o (λ s. AreFormerFrom l' h' 0 x (former_at p s))) (sym ees) former))

-- parts in which the stamps of elements at these settings stand
pub parts_stand : (layout : LayoutView) (hertz : ℕ) (es : Elements) (p : Parts) (b : SettingSlices) (s : Settings)
    → settings_in b ≡ s → AreSettings es s → AreExact p
    → parted p.extents.items p.constants.items p.rows.terms p.rows.loads ≡ map device_stamp (devices_from layout hertz 0 es s)
    → All DeviceFits (devices_from layout hertz 0 es s) → AreFormerFrom layout hertz 0 es (former_at p b)
parts_stand layout hertz es p b s same settings exact stamps fits =
    subst (λ t. AreFormerFrom layout hertz 0 es (record { stamps = (former_at p b).stamps; at = t })) (sym same)
    (record { settings = settings; extents = exact ∙ ap (map extent_of) stamps; stamps = stamps; fits = fits })

-- ---- an element with the settings that it had

-- the first stamp is what its device adds now, which is settled and few
pub record IsStillOf (layout : LayoutView) (hertz place : ℕ) (e : Element) (left : Settings) (v : StampLists) : Type 0 where
  pub first : HasFirst v
  pub extent : first_extent v ≡ extent_of (device_stamp (device_of layout hertz place e (own e left)))
  pub stamp : first_stamp v ≡ device_stamp (device_of layout hertz place e (own e left))
  pub settled : IsSettledAt layout hertz place e (own e left)
  pub few : AreFewOf e (device_stamp (device_of layout hertz place e (own e left)))

pub still_of : (layout : LayoutView) (hertz place : ℕ) (e : Element) (left : Settings) (v : FormerView)
    → IsTakenAt layout hertz place e left → IsFormerOf layout hertz place e v → own e v.at ≡ own e left
    → IsStillOf layout hertz place e left v.stamps
still_of layout hertz place e left v taken h same =
    let d = device_of layout hertz place e (own e left) in
    let device : device_of layout hertz place e (own e v.at) ≡ d = ap (device_of layout hertz place e) same in
    let settled = settled_at layout hertz place (own e left) e taken.known taken.ready (own_settings layout hertz place e left taken)
    (All-take IsModest (power_count e) left.powers taken.modest) (subst DeviceFits device h.fits) in
    record {
      first = h.first;
      extent = h.extent ∙ ap (λ x. extent_of (device_stamp x)) device;
      stamp = h.stamp ∙ ap device_stamp device;
      settled = settled;
      few = few_of layout hertz place e (own e left) taken.ready settled;
    }
