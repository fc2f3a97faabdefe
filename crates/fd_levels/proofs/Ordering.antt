-- The order of a circuit by its parts, and what the order of its Lines and Transformers says of it.
use Rattle.std.proofs.Common.{◌≡◌, ◌∙◌, ℕ, ◌+◌, Bool, List, ◌++◌, length, Option, Some, None, Ok, Err, refl, sym, ap, if◌then◌else◌}
use Rattle.std.specs.List.{flat_map}
use Rattle.fd_ladder.specs.Radial.{radial_unless}
use Rattle.fd_ladder.specs.declared.fault.LadderFault.TheVariants as ladder
use Rattle.fd_ladder.specs.dss_layout.Layout.{Elements, LayoutView, layout_of, size_of}
use Rattle.fd_triangles.specs.declared.pair.Pair.{Pair}
use Rattle.fd_levels.specs.Feeds.{buses_of, feeds_from, feeds_of, turned_in}
use Rattle.fd_levels.specs.Levels.{level_in, level_of}
use Rattle.fd_levels.specs.Order.{down_from, is_paired, level_pairs, magnitude_pairs, ordered_unless, paired_or_fault, pairs_of}
use Rattle.fd_levels.specs.declared.fault.OrderFault.TheVariants.{NotRadial, Unpaired}
use Rattle.fd_levels.specs.declared.feed.Feed.{Feed}

-- the pairs of a layout, its buses and its feeds
abbrev made_of : LayoutView → ℕ → (ℕ → Option ℕ) → List Feed → List Pair
made_of layout count level feeds = magnitude_pairs layout ++ flat_map (level_pairs level feeds) (down_from (count + 1))

feeds_are : (es : Elements) → feeds_of es ≡ feeds_from (layout_of es) (turned_in es) 0 es
unfolding feeds_of
feeds_are es = refl

made_is : (es : Elements) → pairs_of es
    ≡ made_of (layout_of es) (length (buses_of (layout_of es).nodes)) (level_of (length (buses_of (layout_of es).nodes)) (feeds_of es)) (feeds_of es)
unfolding pairs_of
made_is es = refl

pub pairs_made : (es : Elements) (layout : LayoutView) (buses : List (List ℕ)) (turned : List Bool) (feeds : List Feed)
    (levels : List (Option ℕ)) (pairs : List Pair) → layout ≡ layout_of es → buses ≡ buses_of layout.nodes → turned ≡ turned_in es
    → feeds ≡ feeds_from layout turned 0 es → ((b : ℕ) → level_in levels b ≡ level_of (length buses) feeds b)
    → pairs ≡ magnitude_pairs layout ++ flat_map (level_pairs (level_in levels) feeds) (down_from (length buses + 1)) → pairs ≡ pairs_of es
pairs_made es layout buses turned feeds levels pairs layout_is buses_are turned_is feeds_is levels_are pairs_are =
    let level : level_in levels ≡ level_of (length buses) feeds = (λ i b. levels_are b i) in
    let all : feeds ≡ feeds_of es =
    feeds_is
    ∙ ap (λ t. feeds_from layout t 0 es) turned_is
    ∙ ap (λ (l : LayoutView). feeds_from l (turned_in es) 0 es) layout_is
    ∙ sym (feeds_are es) in
    let count : length buses ≡ length (buses_of (layout_of es).nodes) =
    ap length (buses_are ∙ ap (λ (l : LayoutView). buses_of l.nodes) layout_is) in
    pairs_are
    ∙ ap (λ f. made_of layout (length buses) f feeds) level
    ∙ ap (λ fs. made_of layout (length buses) (level_of (length buses) fs) fs) all
    ∙ ap (λ n. made_of layout n (level_of n (feeds_of es)) (feeds_of es)) count
    ∙ ap (λ (l : LayoutView). made_of l (length (buses_of (layout_of es).nodes)) (level_of (length (buses_of (layout_of es).nodes)) (feeds_of es)) (feeds_of es)) layout_is
    ∙ sym (made_is es)

-- ---- what the order of Lines and Transformers says

pub not_radial : (first : Option ℕ) (order : List ℕ) (number : ℕ) (es : Elements) → radial_unless first order ≡ Err (ladder.NotRadial number)
    → ordered_unless first es ≡ Err (NotRadial number)
not_radial None order number es told = absurd (let no : Ok order ≡ Err (ladder.NotRadial number) = told in cc)
not_radial (Some other) order number es told =
    let same : ladder.NotRadial other ≡ ladder.NotRadial number = cc in
    let one : other ≡ number = cc in ap (λ n. Err (NotRadial n)) one

pub same_order : (first : Option ℕ) (order numbers : List ℕ) → radial_unless first order ≡ Ok numbers → numbers ≡ order
same_order None order numbers made = let same : order ≡ numbers = cc in sym same
same_order (Some number) order numbers made = absurd (let no : Err (ladder.NotRadial number) ≡ Ok numbers = made in cc)

-- a radial circuit has the order, or isn't paired
pub is_ordered : (first : Option ℕ) (order numbers : List ℕ) (es : Elements) (size : ℕ) (pairs : List Pair) (paired : Bool)
    → radial_unless first order ≡ Ok numbers → size ≡ size_of (layout_of es) → pairs ≡ pairs_of es → paired ≡ is_paired size pairs
    → ordered_unless first es ≡ (if paired then Ok pairs else Err Unpaired)
is_ordered None order numbers es size pairs paired made size_is pairs_are paired_is =
    ap (λ ps. paired_or_fault (size_of (layout_of es)) ps) (sym pairs_are)
    ∙ ap (λ n. paired_or_fault n pairs) (sym size_is)
    ∙ ap (λ b. if b then Ok pairs else Err Unpaired) (sym paired_is)
is_ordered (Some number) order numbers es size pairs paired made size_is pairs_are paired_is =
    absurd (let no : Err (ladder.NotRadial number) ≡ Ok numbers = made in cc)
