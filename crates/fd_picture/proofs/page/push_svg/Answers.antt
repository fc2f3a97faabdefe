use Rattle.std.proofs.Common.{◌∙◌, append_assoc, refl}
use Rattle.fd_picture.specs.Pages.{svg_text}
use Rattle.fd_picture.proofs.Appends.{on_ok}
use Rattle.fd_picture.proofs.page.push_svg.Goals as goal

pub returns : goal.returns
unfolding svg_text
returns c = on_ok c.push_view.result (λ added. added ∙ rw (
  c.in_ok-push-2.ensures,
  c.in_ok-push_attribute-2.ensures,
  c.in_ok-push_attribute.ensures,
  c.in_ok-push.ensures,
) (simp append_assoc refl)) c.push_view.ensures
