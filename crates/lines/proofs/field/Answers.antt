use Rattle.std.proofs.Common.{arith}
use Rattle.lines.proofs.Scans.{field_past, field_found}
use Rattle.lines.proofs.field.Goals as goal

pub returns-then-text-at : goal.returns-then-text-at
returns-then-text-at c = let a = c.args in field_past a.text.now a.at (omega arith)

pub returns : goal.returns
returns c =
    let a = c.args in
    field_found a.text.now a.at c.lead_of.result c.lead_of.ensures.value c.lead_of.ensures.bound (omega arith)
