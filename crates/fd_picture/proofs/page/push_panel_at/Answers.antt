use Rattle.std.proofs.Common.{◌∙◌, append_assoc, refl}
use Rattle.fd_picture.specs.Pages.{panel_at}
use Rattle.fd_picture.proofs.Appends.{on_ok}
use Rattle.fd_picture.proofs.page.push_panel_at.Goals as goal

pub returns : goal.returns
unfolding panel_at
returns c = on_ok c.push-4.result (λ added. added ∙ rw (
  c.in_ok-push_panel.ensures,
  c.in_ok-push-3.ensures,
  c.in_ok-push_number-2.ensures,
  c.in_ok-push-2.ensures,
  c.in_ok-push_number.ensures,
  c.in_ok-push.ensures,
  c.panel_left.ensures,
  c.panel_top.ensures,
) (simp append_assoc refl)) c.push-4.ensures
