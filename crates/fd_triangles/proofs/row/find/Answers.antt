use Rattle.std.proofs.Common.{rules}
use Rattle.std.proofs.lemmas.List.Sorted.{answers_always}
use Rattle.fd_triangles.proofs.Entries.{searched}
use Rattle.fd_triangles.proofs.row.find.Goals as goal

pub returns : goal.returns
returns c =
    let facts = c.binary_search_by_key.ensures in
    let by_key = facts.position (λ entry. entry.place) (answers_always _ _ _ (λ f a r g called. search rules)) in
    searched c.args.row.now c.requires c.args.place c.binary_search_by_key.result facts.bound by_key
