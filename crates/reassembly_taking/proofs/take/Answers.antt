use native.Mathlib.Omega.{arith}
use Rattle.reassembly.specs.Calls.{lent, after}
use Rattle.reassembly.specs.Arrivals.{reply_of}
use Rattle.reassembly.proofs.Branches.{taken_added, taken_opened}
use Rattle.reassembly_taking.proofs.take.Goals as goal

pub returns-in-Some : goal.returns-in-Some
returns-in-Some c =
    let a = c.args in
    taken_added a.rec.now a.room.now a.out.now a.piece.label a.second a.piece.bytes.now (after (reply_of c.add-answer.result) (lent c.add-answer.new.rec c.add-answer.new.room c.add-answer.new.out)) c.remember_finished.new.rec c.in-Some.i c.in-Some.ensures.slot c.in-Some.ensures.below c.add-answer.ensures c.remember_finished.ensures

pub returns : goal.returns
returns c =
    let a = c.args in
    taken_opened a.rec.now a.room.now a.out.now a.piece.label a.second a.piece.bytes.now (after (reply_of c.open.result) (lent c.open.new.rec c.open.new.room a.out.now)) 4 c.in_default.ensures.slot (omega arith) (c.open.ensures a.out.now)
