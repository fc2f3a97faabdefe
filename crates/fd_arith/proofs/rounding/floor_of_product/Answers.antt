use Rattle.std.proofs.Common.{◌≡◌, ◌∙◌, ◌*◌, ◌≤◌, ◌^◌, ◌<ℤ◌, arith, pos, nat_abs, subst, sym}
use Rattle.std.proofs.lemmas.Int.{ints}
use Rattle.fd_exact.specs.Rounding.{ceil_nat}
use Rattle.fd_exact.specs.Quotients.{ceil_nat_least}
use Rattle.fd_exact.specs.ReadBack.{size_of_opposite}
use Rattle.fd_arith.proofs.Floors.{negative_floor, minus, down_least, up_is, up_room, down_room}
use Rattle.fd_arith.proofs.rounding.floor_of_product.Goals as goal

pub returns-then-n-lt0-clause-value : goal.returns-then-n-lt0-clause-value
returns-then-n-lt0-clause-value c =
    let a = c.args in
    let s = c.unsigned_abs.result in
    let e : s ≡ nat_abs a.n = omega (arith, ints) in
    let room : s * a.factor ≤ 2 ^ 126 = subst (λ t. t * a.factor ≤ 2 ^ 126) (sym e) c.requires.product_fits in
    let below : a.n <ℤ pos 0 = grind (arith, ints) in
    let up : c.div_ceil.result ≡ ceil_nat (s * a.factor) a.divisor = c.div_ceil.ensures ∙ up_is (s * a.factor) a.divisor c.requires.positive in
    rw up (minus _ (up_room (s * a.factor) a.divisor c.requires.positive room) ∙ negative_floor a.n s a.factor a.divisor below e c.requires.positive)

pub returns-then-n-lt0-clause-within : goal.returns-then-n-lt0-clause-within
returns-then-n-lt0-clause-within c = λ q h.
    let a = c.args in
    let s = c.unsigned_abs.result in
    let e : s ≡ nat_abs a.n = omega (arith, ints) in
    let room : s * a.factor ≤ 2 ^ 126 = subst (λ t. t * a.factor ≤ 2 ^ 126) (sym e) c.requires.product_fits in
    let m = minus _ (up_room (s * a.factor) a.divisor c.requires.positive room) in
    let k = ceil_nat_least (s * a.factor) a.divisor q c.requires.positive (subst (λ t. t * a.factor ≤ q * a.divisor) (sym e) h) in
    let up : c.div_ceil.result ≡ ceil_nat (s * a.factor) a.divisor = c.div_ceil.ensures ∙ up_is (s * a.factor) a.divisor c.requires.positive in
    rw up (subst (λ z. nat_abs z ≤ q) (sym m) (subst (λ t. t ≤ q) (sym (size_of_opposite _)) k))

pub returns-else-n-lt0-clause-within : goal.returns-else-n-lt0-clause-within
returns-else-n-lt0-clause-within c = λ q h.
    let a = c.args in
    let s = c.unsigned_abs.result in
    let e : s ≡ nat_abs a.n = omega (arith, ints) in
    let room : s * a.factor ≤ 2 ^ 126 = subst (λ t. t * a.factor ≤ 2 ^ 126) (sym e) c.requires.product_fits in
    let r = down_room (s * a.factor) a.divisor c.requires.positive room in
    let k = down_least (s * a.factor) a.divisor q c.requires.positive (subst (λ t. t * a.factor ≤ q * a.divisor) (sym e) h) in
    omega (arith, ints)
