use Rattle.std.proofs.Common.{List, ℕ, sym, subst, arith}
use Rattle.dss_ready.specs.dss_model.declared.names.Class.TheVariants as class
use Rattle.dss_ready.specs.dss_circuit.WellFormed.{IsKey}
use Rattle.fd_fault.proofs.Naming.{short_key}
use Rattle.fd_fault.proofs.names.line_name.Goals as goal

pub returns-clause-key : goal.returns-clause-key
returns-clause-key c =
    subst (λ (name : List ℕ). IsKey (record { class = class.Line; name = name })) (sym c.in_ok-name.ensures)
    (short_key c.args.number (omega arith))
