use Rattle.std.proofs.Common.{◌-◌, length, arith}
use Rattle.lines.specs.Fields.{unread}
use Rattle.lines.proofs.Moving.{move_stays}
use Rattle.lines.proofs.refill.Goals as goal

pub returns-in_err-got-clause-kept : goal.returns-in_err-got-clause-kept
returns-in_err-got-clause-kept g c =
    let a = c.args in
    let x = c.copy_within.new.self in
    move_stays a.buf.now x c.read_full.new.buf a.used c.min-end.result c.min-start.result (unread a.used a.have (length a.buf.now)) (length x - (c.min-end.result - c.min-start.result)) c.copy_within.ensures.after c.copy_within.ensures.len (omega arith) c.min-start.ensures (omega arith)

pub returns-clause-kept : goal.returns-clause-kept
returns-clause-kept g c =
    let a = c.args in
    let x = c.copy_within.new.self in
    move_stays a.buf.now x c.read_full.new.buf a.used c.min-end.result c.min-start.result (unread a.used a.have (length a.buf.now)) (length x - (c.min-end.result - c.min-start.result)) c.copy_within.ensures.after c.copy_within.ensures.len (omega arith) c.min-start.ensures (omega arith)
