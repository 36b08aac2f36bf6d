-- What an ack's walk over the outstanding packets does with one of them, and with all.
use Rattle.std.specs.Prelude.{◌≡◌, Bool, cond, List, ℕ, ◌+◌, ◌-◌, ◌*◌, length, set}
use Rattle.wire.specs.Parts.{part, splice}
use Rattle.sender.specs.Sizes.{packets_at, packet_size}
use Rattle.sender.specs.Sender.{Call, taken, settled_by}
use Rattle.sender.specs.Recorded.{outstanding_count, packet_at, packets_bytes, sender_at}

-- The k-th packet is passed, kept ones before it: named, its number joins the settled ones; else it is one more kept, and its bytes move down behind those of the others.
pub record Passed (named : Bool) (k kept next : ℕ) (rec after settled told : List ℕ) : Type 0 where
  pub counts : next ≡ cond named kept (kept + 1)
  pub moves : after ≡ cond named rec (splice rec (packets_at + kept * packet_size) (part rec (packets_at + k * packet_size) packet_size))
  pub tells : told ≡ cond named (set settled (k - kept) (packet_at rec k).number) settled

-- All of them are passed, so many kept: those of the sender after the ack stand in front, and the numbers that it settles are told.
pub record Walked (c : Call) (kept : ℕ) (rec after settled told : List ℕ) : Type 0 where
  pub counts : kept ≡ length (taken (sender_at rec) c).packets
  pub moves : after ≡ splice rec packets_at (packets_bytes (taken (sender_at rec) c).packets)
  pub tells : told ≡ splice settled 0 (settled_by (sender_at rec) c)
  pub adds_up : kept + length (settled_by (sender_at rec) c) ≡ outstanding_count rec
