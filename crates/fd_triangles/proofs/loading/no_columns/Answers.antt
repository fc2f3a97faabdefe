use Rattle.std.proofs.Common.{◌∙◌, ◌+◌, [], ◌∷◌, length, ap, subst}
use Rattle.std.proofs.lemmas.List.{length-append}
use Rattle.fd_triangles.specs.Columns.{Holds}
use Rattle.fd_triangles.proofs.Noted.{none_held, none_more}
use Rattle.fd_triangles.proofs.loading.no_columns.Goals as goal

pub loop-place-init : goal.loop-place-init
loop-place-init c = record {
  long = ap length c.in_ok-columns.ensures.items;
  none = none_held c.in_ok-columns.columns.items c.in_ok-columns.ensures.items;
}

pub loop-place-preserved : goal.loop-place-preserved
loop-place-preserved c = record {
  long = ap length c.in_ok-push.ensures.items ∙ length-append c.loop-place.columns.items (record { rows = c.new.result } ∷ [])
      ∙ ap (λ n. n + 1) c.loop-place.invariant.long;
  none = λ p i h. none_more c.loop-place.columns.items (record { rows = c.new.result }) c.new.ensures.items
      c.loop-place.invariant.none p i (subst (λ l. Holds l p i) c.in_ok-push.ensures.items h);
}
