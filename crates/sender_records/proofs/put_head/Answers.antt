use mathlib.Core.Path.{refl}
use Rattle.wire.specs.Numbers.{little_bytes}
use Rattle.wire.proofs.Parts.{puts}
use Rattle.wire.proofs.Numbers.{length_little}
use borrow.Author.Rules.{rules}
use Rattle.sender_records.proofs.put_head.Goals as goal

pub returns : goal.returns
returns c =
    let a = c.args in
    (puts a.rec.now 0 4 4 4 (little_bytes 4 a.highest) (little_bytes 4 a.count) (length_little 4 a.highest) (length_little 4 a.count) refl (search rules)
    c.put_le.ensures c.put_le-2.ensures).0
