use Rattle.fd_gen.proofs.Sections.{pushed, three_pushed}
use Rattle.fd_gen.proofs.script.push_head.Goals as goal

pub returns : goal.returns
returns c = three_pushed _ _ _ _ _ _ _
    (pushed _ _ _ _ c.in_ok-push_line.ensures c.in_ok-to_string.ensures.ok)
    (pushed _ _ _ _ c.in_ok-push_line-2.ensures c.in_ok-to_string-2.ensures.ok)
    (pushed _ _ _ _ c.in_ok-push_line-3.ensures c.in_ok-to_string-3.ensures.ok)
