use mathlib.Core.Path.{refl, ap}
use Rattle.std.specs.Prelude.{Err}
use Rattle.answer.specs.declared.Refused.{Refused}
use Rattle.sheet.specs.Read.{place_count}
use Rattle.sheet.proofs.Scan.{plan_scanned, plan_long}
use Rattle.scanner.proofs.check_start.Goals as goal

pub returns-then-sheet-gt-LONGEST : goal.returns-then-sheet-gt-LONGEST
returns-then-sheet-gt-LONGEST c =
    let a = c.args in
    rw (← plan_long place_count a.width a.sheet.now c.if-sheet-gt-LONGEST.true) (record {
      summary_value = ap (λ (e : Refused). Err e) c.from.ensures;
      starts_value = refl;
      offsets_after = refl;
    })

pub returns : goal.returns
returns c =
    let a = c.args in
    rw (← plan_scanned place_count a.width a.sheet.now c.if-sheet-gt-LONGEST.false) (record {
      summary_value = c.scan.ensures.summary_value;
      starts_value = c.scan.ensures.starts_value;
      offsets_after = c.scan.ensures.offsets_after;
    })
