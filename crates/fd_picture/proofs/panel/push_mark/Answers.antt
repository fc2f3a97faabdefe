use Rattle.std.proofs.Common.{◌∙◌, append_assoc, refl}
use Rattle.fd_picture.specs.Panels.{mark_text}
use Rattle.fd_picture.proofs.Appends.{on_ok}
use Rattle.fd_picture.proofs.panel.push_mark.Goals as goal

pub returns : goal.returns
unfolding mark_text
returns c = on_ok c.push-2.result (λ added. added ∙ rw (
  c.in_ok-push_judgement.ensures,
  c.in_ok-push_shape.ensures,
  c.in_ok-push_bar.ensures,
  c.in_ok-push_title.ensures,
  c.in_ok-push.ensures,
  c.shape_name.ensures,
) (simp append_assoc refl)) c.push-2.ensures
