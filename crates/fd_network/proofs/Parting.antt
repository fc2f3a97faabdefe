-- Stamps that stand one after another in lists are found again by how much of each list each has.
use Rattle.std.proofs.Common.{◌≡◌, ◌∙◌, ℕ, ◌≤◌, List, [], ◌∷◌, ◌++◌, length, map, take, ap, arith, refl, sym}
use Rattle.std.proofs.Math.Seq.{drop-append_seam, take-append_seam}
use Rattle.std.proofs.lemmas.List.{length-map, length-take, map-append}
use Rattle.dss_ready.specs.fd_arith.declared.terms.Term.{Term}
use Rattle.fd_devices.specs.fd_system.declared.constants.Constant.{Constant}
use Rattle.fd_devices.specs.fd_system.declared.loads.LoadAt.{LoadAt}
use Rattle.fd_devices.specs.fd_system.System.{StampView, joined, stamp_with}
use Rattle.fd_equations.specs.fd_pattern.declared.layout.Layout.{Layout}
use Rattle.fd_equations.specs.fd_pattern.Views.{network_of}
use Rattle.fd_devices.specs.Devices.{Device, device_stamp, stamp_of_all}
use Rattle.fd_network.specs.declared.assembly.Parts.{Parts}
use Rattle.fd_network.specs.declared.extents.Extent.{Extent}
use Rattle.fd_network.specs.Former.{AreExact}
use Rattle.fd_network.specs.Stamps.{extent_of, extents_of, parted}

found_again : (ss : List StampView) → parted (map extent_of ss) (joined ss).constants (joined ss).terms (joined ss).loads ≡ ss
found_again [] = refl
found_again (s ∷ ss) =
    let constants = take-append_seam s.constants (joined ss).constants in
    let terms = take-append_seam s.terms (joined ss).terms in
    let loads = take-append_seam s.loads (joined ss).loads in
    let constants_left = drop-append_seam s.constants (joined ss).constants in
    let terms_left = drop-append_seam s.terms (joined ss).terms in
    let loads_left = drop-append_seam s.loads (joined ss).loads in
    (λ i. record { constants = constants i; terms = terms i; loads = loads i; draw = s.draw }
    ∷ parted (map extent_of ss) (constants_left i) (terms_left i) (loads_left i))
    ∙ ap (λ rest. s ∷ rest) (found_again ss)

-- those of devices, in the lists of all
pub stamps_again : (ds : List Device) (es : List Extent) (cs : List Constant) (ts : List Term) (us : List LoadAt) (draw : ℕ)
    → es ≡ extents_of ds → stamp_with cs ts us draw ≡ stamp_of_all ds → parted es cs ts us ≡ map device_stamp ds
stamps_again ds es cs ts us draw extents stamp =
    (λ i. parted (extents i) (stamp i).constants (stamp i).terms (stamp i).loads) ∙ found_again (map device_stamp ds)

-- the rows of these lists are those of the stamps that stand in them, joined
pub joined_rows : (ds : List Device) (counts at : Layout) (p : Parts) → counts ≡ at → p.extents.items ≡ extents_of ds
    → stamp_with p.constants.items p.rows.terms p.rows.loads p.draw ≡ stamp_of_all ds
    → network_of counts (stamp_with p.constants.items p.rows.terms p.rows.loads p.draw)
    ≡ network_of at (joined (parted p.extents.items p.constants.items p.rows.terms p.rows.loads))
joined_rows ds counts at p same extents stamp =
    let stamps = stamps_again ds p.extents.items p.constants.items p.rows.terms p.rows.loads p.draw extents stamp in
    let whole = stamp ∙ ap joined (sym stamps) in
    λ i. network_of (same i) (whole i)

-- each of these stamps has as much as is said of it
pub exact_parts : (ds : List Device) (p : Parts) → p.extents.items ≡ extents_of ds
    → stamp_with p.constants.items p.rows.terms p.rows.loads p.draw ≡ stamp_of_all ds → AreExact p
exact_parts ds p extents stamp =
    let stamps = stamps_again ds p.extents.items p.constants.items p.rows.terms p.rows.loads p.draw extents stamp in
    extents ∙ ap (map extent_of) (sym stamps)

-- how much one more device has
pub extents_more : (ds : List Device) (d : Device) → extents_of (ds ++ d ∷ []) ≡ extents_of ds ++ extent_of (device_stamp d) ∷ []
extents_more ds d = ap (map extent_of) (map-append device_stamp ds (d ∷ [])) ∙ map-append extent_of (map device_stamp ds) (device_stamp d ∷ [])

pub extents_few : (ds : List Device) (place : ℕ) → length (extents_of (take place ds)) ≤ place
extents_few ds place =
    let a = length-map (map device_stamp (take place ds)) extent_of in
    let b = length-map (take place ds) device_stamp in
    let t = length-take place ds in
    omega (arith, a, b, t)
