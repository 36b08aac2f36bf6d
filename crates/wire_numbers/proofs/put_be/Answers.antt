use Rattle.std.proofs.Common.{◌+◌, ◌-◌, ◌∙◌, ap}
use borrow.Rule.Slice.PartMut.{put_mid}
use Rattle.wire_numbers.proofs.Words.{turned}
use Rattle.wire_numbers.proofs.put_be.Goals as goal

pub returns : goal.returns
returns g c =
    let a = c.args in
    let n = c.WIDTH.result in
    ap (put_mid a.at (a.at + n - a.at) c.put_le.new.b) c.reverse.ensures.after
    ∙ turned a.b.now c.put_le.new.b a.at n g.W.Word.WIDTH (g.W.Word.value a.x) c.WIDTH.ensures c.requires c.put_le.ensures
