use Rattle.std.proofs.Common.{FitsSigned, to_z, of_z, rules, ap}
use Rattle.std.specs.Int.{w128}
use Rattle.std.proofs.lemmas.Int.{to_z-of_z}
use Rattle.std.specs.Option.{option_map}
use Rattle.fd_derived.specs.Rows.{entries_of}
use Rattle.fd_lines.specs.WordLines.{numbers_in}
use Rattle.fd_rowfile.specs.Blocks.{is_below}
use Rattle.fd_rowfile.proofs.PairsTaken.{put_same}
use Rattle.fd_rowfile.proofs.Pivots.{no_pivot, pivot_some}
use Rattle.fd_rowfile.proofs.pairs.pivot.Goals as goal

pub returns-in_default-clause-none : goal.returns-in_default-clause-none
returns-in_default-clause-none c =
    no_pivot c.args.below c.args.count (numbers_in (option_map (λ t. t.now) c.args.fields)) c.in_default.ensures.none

pub returns-in-Some-3-clause-some : goal.returns-in-Some-3-clause-some
returns-in-Some-3-clause-some c =
    let place : FitsSigned w128 c.in-Some.place = search rules in
    let units : FitsSigned w128 c.in-Some.units = search rules in
    pivot_some c.args.below c.args.count (numbers_in (option_map (λ t. t.now) c.args.fields)) c.in-Some.place c.in-Some.units
    (numbers_in (option_map (λ t. t.now) c.in-Some.more)) (numbers_in (option_map (λ t. t.now) c.in-Some-3.rest)) c.in-Some-2.behind
    (entries_of c.new-entries.result.items) (entries_of c.push_pair.new.entries.items) (entries_of c.push_pairs.new.entries.items)
    c.in-Some.ensures.some (ap entries_of c.new-entries.ensures.items)
    (put_same (is_below c.args.below) 0 (to_z w128 (of_z w128 c.in-Some.place)) (to_z w128 (of_z w128 c.in-Some.units))
    c.in-Some.place c.in-Some.units c.in-Some-2.behind (entries_of c.new-entries.result.items) (entries_of c.push_pair.new.entries.items)
    (to_z-of_z w128 c.in-Some.place place) (to_z-of_z w128 c.in-Some.units units)
    (rw c.in-Some-2.is at c.in_ok-behind.ensures.some))
    (rw c.in-Some-3.is at c.in_ok-rest.ensures.some)
