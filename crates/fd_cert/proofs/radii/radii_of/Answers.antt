use Rattle.std.proofs.Common.{◌∙◌, ◌+◌, arith}
use Rattle.fd_enclosure.specs.fd_slope.Radii.{radii_of}
use Rattle.fd_cert.proofs.Units.{kept_by}
use Rattle.fd_cert.proofs.radii.radii_of.Goals as goal

pub returns-clause-radii : goal.returns-clause-radii
returns-clause-radii c =
    let at = c.voltage_of-at.result in
    let v = c.voltage_of-at.ensures in
    let re = kept_by at.re (omega (arith, v.small.re)) ∙ v.re in
    let im = kept_by at.im (omega (arith, v.small.im)) ∙ v.im in
    let m = kept_by at.magnitude (omega (arith, v.small.magnitude)) ∙ v.magnitude in
    c.load_slope.ensures.radius
    ∙ (λ i.
    radii_of c.args.load.now.load (re i) (im i) (m i) (c.real_width.ensures.value i + c.real_width-2.ensures.value i)
    (c.imaginary_width.ensures.value i + c.imaginary_width-2.ensures.value i)
    (c.magnitude_width-magnitude.ensures.value i))
