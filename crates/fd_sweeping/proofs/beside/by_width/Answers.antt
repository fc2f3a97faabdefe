use Rattle.std.proofs.Common.{◌≡◌, ◌∙◌, ℕ, ◌*◌, ◌≤◌, ℤ, List, length, None, ap, sym, subst, arith}
use Rattle.fd_solving.specs.dss_layout.declared.nodes.NodeName.{NodeName}
use Rattle.fd_solving.specs.fd_exact.Greatest.{greatest}
use Rattle.fd_solving.specs.fd_cert.Claims.{claim_in}
use Rattle.fd_solving.specs.fd_cert.Widening.{widened}
use Rattle.fd_solving.specs.fd_enclosure.Sound.{Claim, inverse_in, number_at, radii_of, radius_in}
use Rattle.fd_solving.specs.fd_pattern.Views.{NetworkView}
use Rattle.fd_solving.specs.fd_report.declared.ladders.Ladder.TheVariants as ladder
use Rattle.fd_solving.proofs.CallerLemmas.fd_equations.{length-list_of}
use Rattle.fd_sweeping.specs.Beside.{apart_at, by_width, greater_mismatches}
use Rattle.fd_sweeping.proofs.beside.by_width.Goals as goal

length-radii : (v : NetworkView) (x : List ℤ) (c : List (List ℤ)) (e : List ℕ) → length (radii_of v x c e) ≡ v.size
unfolding radii_of
length-radii v x c e = length-list_of v.size (radius_in v x c e)

pub greatest-requires : goal.greatest-requires
greatest-requires c =
    let v = c.args.net.now in
    let m = claim_in c.args.certified.now in
    let e = greater_mismatches v m c.args.x.now in
    let made = rw c.in-Made.is at (c.in_ok-place.ensures.widened c.args.x.now c.requires.own) in
    let long : length c.deref-in-Made.result.now ≡ v.size =
    ap length c.deref-in-Made.ensures.value ∙ ap (λ (w : Claim). length w.radii) made.1
    ∙ length-radii v m.centre (inverse_in m.support) e in
    let nodes : length c.nodes.result.now ≡ v.nodes = ap length c.nodes.ensures ∙ c.requires.layout.nodes in
    let few = c.requires.layout.few in
    omega (arith, long, nodes, few)

pub returns-in-Made : goal.returns-in-Made
returns-in-Made c =
    let v = c.args.net.now in
    let m = claim_in c.args.certified.now in
    let x = c.args.x.now in
    let made = rw c.in-Made.is at (c.in_ok-place.ensures.widened x c.requires.own) in
    let nodes : length c.nodes.result.now ≡ v.nodes = ap length c.nodes.ensures ∙ c.requires.layout.nodes in
    let gap_is = c.gap.ensures ∙ (λ i. greatest (λ place. apart_at x (c.deref.ensures.value i) place) (2 * nodes i)) in
    let radii = c.deref-in-Made.ensures.value ∙ ap (λ (w : Claim). w.radii) made.1 in
    let radius_is = c.greatest.ensures ∙ (λ i. greatest (λ place. number_at (radii i) place) (2 * nodes i)) in
    (λ i. ladder.Agrees c.args.sweeps (gap_is i) (radius_is i))
    ∙ ap (by_width v m x c.args.layout.now c.args.sweeps) (sym made.0)
