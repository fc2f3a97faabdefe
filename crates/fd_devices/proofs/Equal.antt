-- Settings that are compared part by part.
use Rattle.std.proofs.Common.{◌≡◌, Bool, true, false, ◌&&◌, ◌==◌, ap, refl}
use Rattle.std.specs.Bool.{Decides}
use Rattle.std.specs.Ordering.{int_eq}
use Rattle.std.proofs.lemmas.Bool.Decides.{Decides-and, Decides-eqb, Decides-int_eq, Decides-like}
use Rattle.dss_layout.specs.fd_arith.declared.terms.TapPair.{TapPair}
use Rattle.fd_elements.specs.declared.powers.LoadPower.{LoadPower}

pub Decides-taps : (a b : TapPair) → Decides ((a.first == b.first) && (a.second == b.second)) (a ≡ b)
Decides-taps a b =
    Decides-like ((a.first == b.first) && (a.second == b.second))
    (λ h. let first = h.0 in let second = h.1 in λ i. record { first = first i; second = second i })
    (λ e. (ap (λ (x : TapPair). x.first) e, ap (λ (x : TapPair). x.second) e))
    (Decides-and (a.first == b.first) (a.second == b.second) (Decides-eqb a.first b.first) (Decides-eqb a.second b.second))

pub Decides-power : (a b : LoadPower) → Decides (int_eq a.p b.p && int_eq a.q b.q) (a ≡ b)
Decides-power a b =
    Decides-like (int_eq a.p b.p && int_eq a.q b.q)
    (λ h. let p = h.0 in let q = h.1 in λ i. record { p = p i; q = q i })
    (λ e. (ap (λ (x : LoadPower). x.p) e, ap (λ (x : LoadPower). x.q) e))
    (Decides-and (int_eq a.p b.p) (int_eq a.q b.q) (Decides-int_eq a.p b.p) (Decides-int_eq a.q b.q))
