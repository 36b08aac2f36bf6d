use mathlib.Core.Path.{refl, ap, ◌∙◌}
use mathlib.Core.List.{◌++◌, append_assoc}
use Prim.Native.Nat.{◌+◌, ◌*◌}
use Rattle.wire.specs.Parts.{splice}
use Rattle.wire.specs.Numbers.{little_bytes}
use Rattle.wire.proofs.Parts.{puts}
use Rattle.wire.proofs.Numbers.{length_little}
use Rattle.sender.specs.Sizes.{packets_at, packet_size}
use Rattle.sender.specs.Recorded.{packet_bytes}
use borrow.Author.Rules.{rules}
use Rattle.sender_records.proofs.put_packet.Goals as goal

pub returns : goal.returns
unfolding packet_bytes
returns c =
    let a = c.args in
    let p = a.packet in
    let n = little_bytes 4 p.number in
    let r = little_bytes 4 p.resends in
    let s = little_bytes 8 p.second in
    let at = packets_at + a.k * packet_size in
    let two = puts a.rec.now at 4 4 (at + 4) n r (length_little 4 p.number) (length_little 4 p.resends) refl (search rules)
    c.put_le.ensures c.put_le-2.ensures in
    (puts a.rec.now at 8 8 (at + 8) (n ++ r) s two.1 (length_little 8 p.second) refl (search rules) two.0 c.put_le-3.ensures).0
    ∙ ap (splice a.rec.now at) (append_assoc n r s)
