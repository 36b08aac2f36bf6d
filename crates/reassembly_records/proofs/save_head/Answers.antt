use Prim.Native.Nat.{◌*◌}
use Rattle.reassembly.specs.Sizes.{head_size}
use Rattle.reassembly.specs.Record.{with_head}
use Rattle.reassembly.proofs.Fields.{head_put}
use borrow.Author.Rules.{rules}
use Rattle.reassembly_records.proofs.save_head.Goals as goal

pub returns : goal.returns
unfolding with_head
returns c =
    let a = c.args in
    head_put a.rec.now (a.i * head_size) a.h (search rules)
    c.put_le.ensures
    c.put_le-2.ensures
    c.put_le-3.ensures
    c.put_le-4.ensures
    c.copy_to.ensures
