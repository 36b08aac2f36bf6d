use Rattle.std.proofs.Common.{◌+◌, ◌*◌, ap, ◌∙◌, arith}
use Rattle.wire.specs.Parts.{splice}
use Rattle.sender.specs.Sizes.{packets_at, packet_size}
use Rattle.sender.specs.Sender.{Packet}
use Rattle.sender.specs.Recorded.{packet_bytes}
use Rattle.sender.proofs.Packets.{packet_again}
use Rattle.sender_acks.proofs.Branches.{stays_there}
use Rattle.sender_acks.proofs.keep_one.Goals as goal

pub returns-then-kept-k : goal.returns-then-kept-k
returns-then-kept-k c = stays_there _ _ _ (omega arith) (omega arith) (omega arith)

pub returns : goal.returns
returns c =
    let r = c.args.rec.now in
    let at = packets_at + c.args.kept * packet_size in
    c.put_packet.ensures
    ∙ ap (λ (p : Packet). splice r at (packet_bytes p)) c.packet_at-packet.ensures
    ∙ ap (splice r at) (packet_again r c.args.k (λ i. (c.slice_known-1.given i).fits) (omega arith))
