use Rattle.std.proofs.Common.{ℕ, length, ◌++◌, ◌∷◌, [], ap, sym, refl, ◌∙◌}
use Rattle.std.proofs.lemmas.Option.{slice_get_read}
use Rattle.std.specs.Global.{Vec}
use Rattle.fd_levels.specs.Marking.{buses_behind}
use Rattle.fd_levels.proofs.Behind.{one_noted}
use Rattle.fd_levels.proofs.levels.note.Goals as goal

pub returns-in_ok-push : goal.returns-in_ok-push
returns-in_ok-push c =
    let behind = c.args.behind.now in
    let feed = c.args.feed.now in
    let here = slice_get_read behind (length behind) feed.near c.index-behind-feed.result refl c.if-feed-behind.true c.index-behind-feed.is in
    one_noted behind feed c.push.new.self c.if-feed-behind.true
    (c.in_ok-push.ensures.items
    ∙ ap (λ (v : Vec ℕ). v.items ++ feed.far ∷ []) (sym c.index-behind-feed.is)
    ∙ ap (λ b. buses_behind b ++ feed.far ∷ []) (sym here))
