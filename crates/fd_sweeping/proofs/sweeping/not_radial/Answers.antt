use Rattle.std.proofs.Common.{◌≡◌, ◌∙◌, [], slice_get, None, ap}
use Rattle.std.specs.Str.{chars}
use Rattle.std.proofs.lemmas.Str.{chars-nil}
use Rattle.fd_solving.specs.dss_model.declared.names.Class.TheVariants as class
use Rattle.fd_solving.specs.fd_report.declared.faults.Fault.TheVariants as fault
use Rattle.fd_sweeping.specs.Sweeping.{not_radial_by}
use Rattle.fd_sweeping.proofs.sweeping.not_radial.Goals as goal

pub returns-in-None-clause-fault : goal.returns-in-None-clause-fault
returns-in-None-clause-fault c =
    let name : c.new-in-None.result ≡ [] = c.new-in-None.ensures ∙ ap chars c.new.ensures.bytes ∙ chars-nil in
    let none =
    c.in-None.ensures.entry ∙ ap (λ es. slice_get es c.args.number)
    (c.as_slice.ensures.entries ∙ c.elements.ensures.entries) in
    (λ i. fault.NotRadial (record { class = class.RegControl; name = name i })) ∙ ap not_radial_by none
