use Rattle.std.proofs.Common.{◌∙◌, List, [], ◌∷◌, ◌++◌, ap, refl, subst}
use Rattle.fd_cert.specs.Claims.{claim_in}
use Rattle.fd_settle.specs.KeptStates.{IsTrimmed}
use Rattle.fd_settle.specs.declared.kept_states.KeptState.{KeptState}
use Rattle.fd_settle.proofs.Storing.{bytes_more, certified_left, kept_state, own, pushed}
use Rattle.fd_settle.proofs.kept_states.KeptStates.store.Goals as goal

pub trimmed-self-inside-requires : goal.trimmed-self-inside-requires
trimmed-self-inside-requires c =
    let ks = c.self.inside.states.items in
    bytes_more ks c.push.new.self.items (kept_state c.in_ok-network.network c.args.limits.now c.in_ok-clone.field-0)
    c.self.inside.bytes c.counted-bytes.result c.self.invariant.0 c.counted-bytes.ensures.bytes
    (pushed ks c.push.new.self.items _ c.in_ok-network.network c.args.limits.now c.in_ok-clone.field-0 c.in_ok-push.ensures.items
    c.network.view_is)

pub invariant_of-self-2 : goal.invariant_of-self-2
invariant_of-self-2 c =
    let ks = c.self.inside.states.items in
    let state = kept_state c.in_ok-network.network c.args.limits.now c.in_ok-clone.field-0 in (
      c.trimmed-self-inside.ensures.bytes,
      (
        c.trimmed-self-inside.ensures.trimmed.within,
        certified_left ks c.push.new.self.items c.trimmed-self-inside.new.states.items state c.self.invariant.1.1
            (own c.args.limits.now c.args.net.now c.in_ok-network.network c.args.certified.now.value c.in_ok-clone.field-0 c.in_ok-network.ensures
            c.in_ok-clone.ensures.cases c.requires.gives c.requires.sound)
            (pushed ks c.push.new.self.items _ c.in_ok-network.network c.args.limits.now c.in_ok-clone.field-0 c.in_ok-push.ensures.items
            c.network.view_is)
            c.trimmed-self-inside.ensures.trimmed,
      ),
    )

pub returns-clause-stored : goal.returns-clause-stored
returns-clause-stored c = λ fits.
    let ks = c.self.inside.states.items in
    let state = kept_state c.in_ok-network.network c.args.limits.now c.in_ok-clone.field-0 in
    record {
      state = state;
      limits_are = refl;
      network_is = c.in_ok-network.ensures;
      claim_is = ap claim_in c.in_ok-clone.ensures.cases;
      new_is = subst (λ (l : List KeptState). IsTrimmed l c.trimmed-self-inside.new.states.items)
          (pushed ks c.push.new.self.items _ c.in_ok-network.network c.args.limits.now c.in_ok-clone.field-0 c.in_ok-push.ensures.items
          c.network.view_is
          ∙ ap (λ (l : List KeptState). l ++ state ∷ []) c.self.view_is)
          c.trimmed-self-inside.ensures.trimmed;
    }
