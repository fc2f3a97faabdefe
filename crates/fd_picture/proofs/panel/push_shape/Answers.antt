use Rattle.std.proofs.Common.{◌∙◌, append_assoc, refl}
use Rattle.fd_picture.specs.Panels.{shape_text}
use Rattle.fd_picture.proofs.Appends.{on_ok}
use Rattle.fd_picture.proofs.panel.push_shape.Goals as goal

pub returns : goal.returns
unfolding shape_text
returns c =
    on_ok c.push_place.result (λ added.
    added ∙ rw (c.in_ok-push-3.ensures, c.in_ok-push-2.ensures, c.in_ok-push.ensures) (simp append_assoc refl))
    c.push_place.ensures
