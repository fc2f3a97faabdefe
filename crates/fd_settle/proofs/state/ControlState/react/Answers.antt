use Rattle.fd_settle.proofs.state.ControlState.react.Goals as goal

pub returns-in-Regulator-clause-step : goal.returns-in-Regulator-clause-step
returns-in-Regulator-clause-step c = rw c.in-Regulator.is (λ m h. (c.react.ensures.step c.in-Regulator.probe.transformer m h).queue)
