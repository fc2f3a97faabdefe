use Rattle.fd_rowcert.specs.Boxed.{second, third, widest}
use Rattle.fd_rowcert.proofs.Choosing.{ended, numbers_are, parts_are, stood}
use Rattle.fd_rowcert.proofs.bounding.first_box.Goals as goal

pub returns-in-Ok-clause-told : goal.returns-in-Ok-clause-told
returns-in-Ok-clause-told c = λ e h.
    let v = c.args.net.now in
    let x = c.args.x.now in
    let rows = c.args.rows.now in
    let t = c.in_ok-boxed.field-0 in
    let told = c.in_ok-boxed.ensures in
    widest (parts_are v x rows c.args.equations.now 200 t told.parts c.in-Ok.boxed c.in-Ok.is)
    (stood v x rows c.args.equations.now 200 t told.told c.in-Ok.boxed c.in-Ok.is e h)

pub returns-in-Ok-2-clause-told : goal.returns-in-Ok-2-clause-told
returns-in-Ok-2-clause-told c = λ e h.
    let v = c.args.net.now in
    let x = c.args.x.now in
    let rows = c.args.rows.now in
    let es = c.in_box.new.equations in
    let t = c.in_ok-boxed-2.field-0 in
    let told = c.in_ok-boxed-2.ensures in
    second (parts_are v x rows es 2000 t told.parts c.in-Ok-2.boxed c.in-Ok-2.is) (
      c.in-Err.end,
      ended v x rows c.args.equations.now 200 c.in_ok-boxed.field-0 c.in_ok-boxed.ensures.told
          c.in-Err.end c.in-Err.is e h,
    )
    (stood v x rows es 2000 t told.told c.in-Ok-2.boxed c.in-Ok-2.is e (c.in_ok-boxed.ensures.kept e h))

pub returns-in-Ok-2-clause-numbers : goal.returns-in-Ok-2-clause-numbers
returns-in-Ok-2-clause-numbers c = λ e long h.
    let v = c.args.net.now in
    let x = c.args.x.now in
    let rows = c.args.rows.now in
    let es = c.in_box.new.equations in
    let t = c.in_ok-boxed-2.field-0 in
    let told = c.in_ok-boxed-2.ensures in
    numbers_are v x rows es 2000 t c.in_box-2.new.equations told.numbers c.in-Ok-2.boxed c.in-Ok-2.is
    (parts_are v x rows es 2000 t told.parts c.in-Ok-2.boxed c.in-Ok-2.is) e long (c.in_ok-boxed.ensures.kept e h)

pub returns-in-Ok-3-clause-told : goal.returns-in-Ok-3-clause-told
returns-in-Ok-3-clause-told c = λ e h.
    let v = c.args.net.now in
    let x = c.args.x.now in
    let rows = c.args.rows.now in
    let es = c.in_box-2.new.equations in
    let t = c.in_ok-boxed-3.field-0 in
    let told = c.in_ok-boxed-3.ensures in
    let kept = c.in_ok-boxed.ensures.kept e h in
    third (parts_are v x rows es 20000 t told.parts c.in-Ok-3.boxed c.in-Ok-3.is) (
      c.in-Err.end,
      ended v x rows c.args.equations.now 200 c.in_ok-boxed.field-0 c.in_ok-boxed.ensures.told
          c.in-Err.end c.in-Err.is e h,
    ) (
      c.in-Err-2.end,
      ended v x rows c.in_box.new.equations 2000 c.in_ok-boxed-2.field-0 c.in_ok-boxed-2.ensures.told c.in-Err-2.end
          c.in-Err-2.is e kept,
    )
    (stood v x rows es 20000 t told.told c.in-Ok-3.boxed c.in-Ok-3.is e (c.in_ok-boxed-2.ensures.kept e kept))

pub returns-in-Ok-3-clause-numbers : goal.returns-in-Ok-3-clause-numbers
returns-in-Ok-3-clause-numbers c = λ e long h.
    let v = c.args.net.now in
    let x = c.args.x.now in
    let rows = c.args.rows.now in
    let es = c.in_box-2.new.equations in
    let t = c.in_ok-boxed-3.field-0 in
    let told = c.in_ok-boxed-3.ensures in
    numbers_are v x rows es 20000 t c.in_box-3.new.equations told.numbers c.in-Ok-3.boxed c.in-Ok-3.is
    (parts_are v x rows es 20000 t told.parts c.in-Ok-3.boxed c.in-Ok-3.is) e long
    (c.in_ok-boxed-2.ensures.kept e (c.in_ok-boxed.ensures.kept e h))

pub returns-in-Err-3-clause-told : goal.returns-in-Err-3-clause-told
returns-in-Err-3-clause-told c = λ e h.
    let v = c.args.net.now in
    let x = c.args.x.now in
    let rows = c.args.rows.now in
    let kept = c.in_ok-boxed.ensures.kept e h in
    record {
      first = (
        c.in-Err.end,
        ended v x rows c.args.equations.now 200 c.in_ok-boxed.field-0 c.in_ok-boxed.ensures.told c.in-Err.end
            c.in-Err.is e h,
      );
      second = (
        c.in-Err-2.end,
        ended v x rows c.in_box.new.equations 2000 c.in_ok-boxed-2.field-0 c.in_ok-boxed-2.ensures.told
            c.in-Err-2.end c.in-Err-2.is e kept,
      );
      last = ended v x rows c.in_box-2.new.equations 20000 c.in_ok-boxed-3.field-0 c.in_ok-boxed-3.ensures.told
          c.in-Err-3.end
          c.in-Err-3.is e (c.in_ok-boxed-2.ensures.kept e kept);
    }
