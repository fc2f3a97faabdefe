use Rattle.std.proofs.Common.{◌∙◌, append_assoc, refl}
use Rattle.fd_picture.specs.Panels.{frame_text}
use Rattle.fd_picture.proofs.Appends.{on_ok}
use Rattle.fd_picture.proofs.panel.push_frame.Goals as goal

pub returns : goal.returns
unfolding frame_text
returns c = on_ok c.push-5.result (λ added. added ∙ rw (
  c.in_ok-push_attribute.ensures,
  c.in_ok-push-4.ensures,
  c.in_ok-push-3.ensures,
  c.in_ok-push-2.ensures,
  c.in_ok-push.ensures,
  c.unit_name.ensures,
) (simp append_assoc refl)) c.push-5.ensures
