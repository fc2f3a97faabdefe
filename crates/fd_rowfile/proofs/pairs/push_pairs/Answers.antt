use Rattle.std.proofs.Common.{FitsSigned, to_z, of_z, rules}
use Rattle.std.specs.Int.{w128}
use Rattle.std.proofs.lemmas.Int.{to_z-of_z}
use Rattle.std.specs.Option.{option_map}
use Rattle.fd_derived.specs.Rows.{entries_of}
use Rattle.fd_lines.specs.WordLines.{numbers_in}
use Rattle.fd_rowfile.specs.Held.{fits}
use Rattle.fd_rowfile.proofs.PairsTaken.{next_same, put_same, taken_more, taken_no_pair, taken_not_next}
use Rattle.fd_rowfile.proofs.pairs.push_pairs.Goals as goal

pub returns-in_default-clause-none : goal.returns-in_default-clause-none
returns-in_default-clause-none c =
    taken_no_pair (fits c.args.fit) c.args.count (numbers_in (option_map (λ t. t.now) c.args.fields)) (entries_of c.args.entries.now.items)
    c.loop-taken._taken c.loop-taken.next (numbers_in (option_map (λ t. t.now) c.loop-taken.rest)) (entries_of c.loop-taken.entries.items)
    c.loop-taken.invariant c.loop-taken-test.true c.in_default.ensures.none

pub returns-in_default-2-clause-none : goal.returns-in_default-2-clause-none
returns-in_default-2-clause-none c =
    let place : FitsSigned w128 c.in-Some.place = search rules in
    let units : FitsSigned w128 c.in-Some.units = search rules in
    taken_not_next (fits c.args.fit) c.args.count (numbers_in (option_map (λ t. t.now) c.args.fields)) (entries_of c.args.entries.now.items)
    c.loop-taken._taken c.loop-taken.next (numbers_in (option_map (λ t. t.now) c.loop-taken.rest)) (entries_of c.loop-taken.entries.items)
    c.loop-taken.invariant c.loop-taken-test.true c.in-Some.place c.in-Some.units (numbers_in (option_map (λ t. t.now) c.in-Some.more))
    c.in-Some.ensures.some
    (next_same (fits c.args.fit) c.loop-taken.next (to_z w128 (of_z w128 c.in-Some.place)) (to_z w128 (of_z w128 c.in-Some.units))
    c.in-Some.place c.in-Some.units (to_z-of_z w128 c.in-Some.place place) (to_z-of_z w128 c.in-Some.units units)
    (rw c.in_default-2.is at c.in_ok-behind.ensures.none))

pub loop-taken-preserved : goal.loop-taken-preserved
loop-taken-preserved c =
    let place : FitsSigned w128 c.in-Some.place = search rules in
    let units : FitsSigned w128 c.in-Some.units = search rules in
    taken_more (fits c.args.fit) c.args.count (numbers_in (option_map (λ t. t.now) c.args.fields)) (entries_of c.args.entries.now.items)
    c.loop-taken._taken c.loop-taken.next (numbers_in (option_map (λ t. t.now) c.loop-taken.rest)) (entries_of c.loop-taken.entries.items)
    c.loop-taken.invariant c.loop-taken-test.true c.in-Some.place c.in-Some.units c.in-Some-2.behind
    (numbers_in (option_map (λ t. t.now) c.in-Some.more)) (entries_of c.push_pair.new.entries.items)
    c.in-Some.ensures.some
    (put_same (fits c.args.fit) c.loop-taken.next (to_z w128 (of_z w128 c.in-Some.place)) (to_z w128 (of_z w128 c.in-Some.units))
    c.in-Some.place c.in-Some.units c.in-Some-2.behind (entries_of c.loop-taken.entries.items) (entries_of c.push_pair.new.entries.items)
    (to_z-of_z w128 c.in-Some.place place) (to_z-of_z w128 c.in-Some.units units)
    (rw c.in-Some-2.is at c.in_ok-behind.ensures.some))
