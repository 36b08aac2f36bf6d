use mathlib.Core.Path.{refl, sym, ap, ◌∙◌}
use borrow.Author.Rules.{rules}
use Rattle.reassembly.specs.Judge.{grown_by}
use Rattle.reassembly.specs.Calls.{lent, after}
use Rattle.reassembly.specs.Arrivals.{reply_of}
use Rattle.reassembly.proofs.Branches.{put_53, put_whole, put_kept, whole_last}
use Rattle.reassembly_taking.proofs.put.Goals as goal

pub returns-then-from-piece-gt-MESSAGE_SIZE : goal.returns-then-from-piece-gt-MESSAGE_SIZE
returns-then-from-piece-gt-MESSAGE_SIZE c =
    let a = c.args in
    put_53 a.rec.now a.room.now a.out.now a.i a.h a.piece.label a.piece.bytes.now (search rules)

pub finish-requires : goal.finish-requires
finish-requires c =
    (search rules, search rules, search rules, whole_last c.grown-g.result (sym c.is_complete.ensures ∙ c.if-is_complete.true))

pub returns-then-is_complete : goal.returns-then-is_complete
returns-then-is_complete c =
    let a = c.args in
    put_whole a.rec.now a.room.now a.out.now a.i a.h a.piece.label a.piece.bytes.now (after (reply_of c.finish.result) (lent c.finish.new.rec a.room.now c.finish.new.out)) c.grown-g.result (search rules) (c.grown-g.ensures ∙ ap (grown_by c.args.h c.args.piece.label) c.len.ensures.0) (sym c.is_complete.ensures ∙ c.if-is_complete.true) c.finish.ensures

pub returns : goal.returns
returns c =
    let a = c.args in
    put_kept a.rec.now a.room.now a.out.now a.i a.h a.piece.label a.piece.bytes.now c.keep.new.rec c.keep.new.room c.grown-g.result a.piece.label.number (search rules) (c.grown-g.ensures ∙ ap (grown_by c.args.h c.args.piece.label) c.len.ensures.0) (sym c.is_complete.ensures ∙ c.if-is_complete.false) refl c.keep.ensures.rec_after c.keep.ensures.room_after
