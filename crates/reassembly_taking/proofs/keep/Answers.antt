use borrow.Author.Rules.{rules}
use Rattle.reassembly.proofs.Branches.{kept_is}
use Rattle.reassembly_taking.proofs.keep.Goals as goal

pub returns : goal.returns
returns c =
    let a = c.args in
    let e = rw (c.number.ensures.0, c.len.ensures.0) at c.save_entry.ensures in
    let k = kept_is a.rec.now c.save_entry.new.rec c.save_head.new.rec a.room.now c.copy_to.new.dst a.i a.piece.label.number a.total a.g a.piece.bytes.now c.from.result (search rules) c.copy_to.ensures e c.save_head.ensures in
    record { rec_after = k.0; room_after = k.1 }
