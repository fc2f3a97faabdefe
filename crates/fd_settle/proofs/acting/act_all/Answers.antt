use Rattle.std.proofs.Common.{false, ◌≡◌, ◌+◌, ◌<◌, ◌++◌, ◌∷◌, [], List, length, map, get_or, set, ap, arith, rules, subst, sym, ◌∙◌}
use Rattle.std.proofs.lemmas.List.{length-map, map_push}
use Rattle.fd_sample.specs.fd_queue.Machine.{Act}
use Rattle.fd_sample.specs.fd_queue.declared.entry.Entry.{Entry}
use Rattle.fd_settle.specs.Rounds.{seen}
use Rattle.fd_settle.proofs.Acts.{IsActing, all_acted_acts, all_acted_machine, next_acted, standing_place}
use Rattle.fd_settle.proofs.Lists.{each_at}
use Rattle.fd_settle.proofs.acting.act_all.Goals as goal

abbrev nothing : Entry
nothing = record { time = 0; seq = 0; control = 0; up = false }

pub act-act-requires-clause-place : goal.act-act-requires-clause-place
act-act-requires-clause-place c =
    let e = get_or c.args.due.now c.loop-entry.entry-index nothing in
    let few = each_at (λ x. x.control < length c.args.states.now) c.args.due.now c.loop-entry.entry-index nothing c.requires.controls c.loop-entry-test.true in
    standing_place _ _ _ c.loop-entry.states e.control c.index-states-entry.result c.loop-entry.invariant.acting.standing
    (omega (arith, few, c.loop-entry.invariant.acting.each_state))

pub loop-entry-preserved : goal.loop-entry-preserved
loop-entry-preserved c =
    let e = get_or c.args.due.now c.loop-entry.entry-index nothing in
    let count : length c.loop-entry.acts.items ≡ c.loop-entry.entry-index =
    sym (length-map c.loop-entry.acts.items seen) ∙ c.loop-entry.invariant.acting.count in
    let pushed : c.push.new.self.items ≡ c.loop-entry.acts.items ++ c.act-act.result ∷ [] = search rules in
    let made : map seen c.push.new.self.items ≡ map seen c.loop-entry.acts.items ++ seen c.act-act.result ∷ [] =
    ap (map seen) pushed ∙ map_push seen c.loop-entry.acts.items c.act-act.result in
    record {
      acting = subst (λ (xs : List Act).
          IsActing c.args.timing c.args.now c.args.due.now (c.loop-entry.entry-index + 1) c.args.taps.now c.act-act.new.taps c.args.closed.now
          c.act-act.new.closed c.args.opened.now c.act-act.new.opened c.args.states.now
          (set c.loop-entry.states e.control c.act-act.new.self) xs)
          (sym made) (next_acted c.args.timing c.args.now c.acts_at-time.result c.args.due.now c.loop-entry.entry-index _ c.loop-entry.taps _ _ c.loop-entry.closed
          _ _ c.loop-entry.opened _ _ c.loop-entry.states _ nothing c.index-states-entry.result c.act-act.new.self
          (seen c.act-act.result) c.loop-entry.invariant.acting c.loop-entry-test.true c.requires.one_each
          c.requires.controls c.requires.openings c.requires.now c.acts_at-time.ensures c.act-act.ensures.taps c.act-act.ensures.closed
          c.act-act.ensures.opened c.act-act.ensures.state c.act-act.ensures.act);
      capacity = search rules;
    }

pub returns-clause-acts : goal.returns-clause-acts
returns-clause-acts c = record {
  machine = λ limit m.
      all_acted_machine c.args.timing c.args.now c.args.due.now c.loop-entry.entry-index limit _ _ _ _ _ _ _ _ _ m
      c.loop-entry.invariant.acting c.loop-entry-test.false;
  acts = λ limit m. all_acted_acts c.args.timing c.args.now c.args.due.now c.loop-entry.entry-index limit _ _ _ _ _ _ _ _ _ m c.loop-entry.invariant.acting c.loop-entry-test.false;
}
