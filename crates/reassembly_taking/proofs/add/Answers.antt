use Rattle.reassembly.specs.Calls.{lent, after}
use Rattle.reassembly.specs.Arrivals.{reply_of}
use Rattle.refusals.specs.Numbers.{number}
use Rattle.reassembly.proofs.Branches.{added_again, added_55, added_put}
use Rattle.reassembly_taking.proofs.add.Goals as goal

pub returns-then-e-ne0 : goal.returns-then-e-ne0
returns-then-e-ne0 c =
    let a = c.args in
    added_again a.rec.now a.room.now a.out.now a.i a.piece.label a.piece.bytes.now c.load_head-h.result c.number.result c.load_entry-e.result c.load_head-h.ensures c.number.ensures.0 c.load_entry-e.ensures (number c.compare.result) c.if-e-ne0.true c.compare.ensures

pub returns-then-misfits : goal.returns-then-misfits
returns-then-misfits c =
    let a = c.args in
    added_55 a.rec.now a.room.now a.out.now a.i a.piece.label a.piece.bytes.now c.load_head-h.result c.number.result c.load_entry-e.result c.load_head-h.ensures c.number.ensures.0 c.load_entry-e.ensures c.misfits.result c.if-e-ne0.false c.misfits.ensures c.if-misfits.true

pub returns : goal.returns
returns c =
    let a = c.args in
    added_put a.rec.now a.room.now a.out.now a.i a.piece.label a.piece.bytes.now c.load_head-h.result c.number.result c.load_entry-e.result c.load_head-h.ensures c.number.ensures.0 c.load_entry-e.ensures (after (reply_of c.put.result) (lent c.put.new.rec c.put.new.room c.put.new.out)) c.misfits.result c.if-e-ne0.false c.misfits.ensures c.if-misfits.false c.put.ensures
