use Rattle.std.proofs.Common.{subst}
use Rattle.fd_fault.specs.FaultCircuit.{IsCircuitFault, IsFaultCircuit}
use Rattle.fd_shorting.specs.Shorting.{ShortingView}
use Rattle.fd_shorting.proofs.Ended.{no_fault, placed_well, unplaced_end}
use Rattle.fd_shorting.proofs.shorting.Shorting.placed.Goals as goal

pub returns-in_ok-snapshot-in-Ok : goal.returns-in_ok-snapshot-in-Ok
returns-in_ok-snapshot-in-Ok c =
    let s = c.args.self.now in
    let tested = no_fault s c.in_ok-fault.field-0 c.in_ok-fault.ensures c.in_default.not-Some in
    placed_well s tested.0 tested.1 c.in-Ok.circuit c.in_ok-snapshot-in-Ok.field-0
    (subst
    (λ (v : ShortingView). IsFaultCircuit v.circuit v.bus v.kind c.in-Ok.circuit) c.self.view_is
    c.in-Ok.ensures.circuit)
    c.in-Ok.ensures.ready c.in_ok-snapshot-in-Ok.ensures

pub returns-in_ok-unplaced-in-Err : goal.returns-in_ok-unplaced-in-Err
returns-in_ok-unplaced-in-Err c =
    let s = c.args.self.now in
    let tested = no_fault s c.in_ok-fault.field-0 c.in_ok-fault.ensures c.in_default.not-Some in
    unplaced_end s tested.0 tested.1 c.in-Err.fault c.in_ok-unplaced-in-Err.field-0
    (subst
    (λ (v : ShortingView). IsCircuitFault v.circuit v.bus v.kind c.in-Err.fault) c.self.view_is
    c.in-Err.ensures.fault)
    c.in_ok-unplaced-in-Err.ensures
