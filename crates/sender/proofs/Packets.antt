-- Laws of packets in bytes: how long they are, that those read are what stands there, and the sender's bytes put in two. Assumes nothing.
use mathlib.Core.Path.{◌≡◌, refl, sym, ap, ap₂, ◌∙◌}
use mathlib.Core.List.{List, [], ◌∷◌, ◌++◌, append_assoc}
use Prim.Native.Nat.{ℕ, zero, suc, ◌+◌, ◌*◌, ◌≤◌}
use native.Mathlib.Omega.{arith}
use lib.ListN.{length, length-append}
use Rattle.wire.specs.Parts.{part, splice}
use Rattle.wire.specs.Numbers.{Bytes, little, little_at, little_bytes}
use Rattle.wire.specs.Series.{series}
use Rattle.wire.proofs.Parts.{part_none, part_join, part_after, splice_join, splice_swap}
use Rattle.wire.proofs.Numbers.{length_little, little_at_again}
use Rattle.sender.specs.Sizes.{packets_at, packet_size}
use Rattle.sender.specs.Sender.{Packet}
use Rattle.sender.specs.Recorded.{packet_at, packet_bytes, packets_bytes, sender_bytes}

-- ---- lengths

pub length_packet : (p : Packet) → length (packet_bytes p) ≡ packet_size
unfolding packet_bytes
length_packet p = simp (length-append, length_little)

pub length_packets : (ps : List Packet) → length (packets_bytes ps) ≡ length ps * packet_size
unfolding packets_bytes
length_packets [] = refl
length_packets (p ∷ ps) =
    let e : length (packets_bytes ps) ≡ length ps * packet_size = length_packets ps in
    omega (arith, length-append (packet_bytes p) (packets_bytes ps), length_packet p)

pub packets_append : (a b : List Packet) → packets_bytes (a ++ b) ≡ packets_bytes a ++ packets_bytes b
unfolding packets_bytes
packets_append [] b = refl
packets_append (p ∷ a) b =
    ap (λ (z : List ℕ). packet_bytes p ++ z) (packets_append a b) ∙ sym (append_assoc (packet_bytes p) (packets_bytes a) (packets_bytes b))

-- ---- packets read, put again: what stood there

pub packet_again : (r : List ℕ) (k : ℕ) → Bytes r → packets_at + k * packet_size + packet_size ≤ length r → packet_bytes (packet_at r k) ≡ part r (packets_at + k * packet_size) packet_size
unfolding packet_bytes packet_at
packet_again r k b h =
    let o : ℕ = packets_at + k * packet_size in
    ap₂ (λ (x y : List ℕ). x ++ y) (little_at_again 4 r o (omega arith) b)
    (ap₂ (λ (x y : List ℕ). x ++ y) (little_at_again 4 r (o + 4) (omega arith) b) (little_at_again 8 r (o + 8) (omega arith) b)
    ∙ part_join r (o + 4) 4 (o + 8) 8 12 (omega arith) refl)
    ∙ part_join r o 4 (o + 4) 12 packet_size refl refl

pub packets_again : (r : List ℕ) (i n : ℕ) → Bytes r → packets_at + (i + n) * packet_size ≤ length r → packets_bytes (series (packet_at r) i n) ≡ part r (packets_at + i * packet_size) (n * packet_size)
unfolding packets_bytes
packets_again r i zero b h = sym (part_none r (packets_at + i * packet_size))
packets_again r i (suc n) b h =
    ap₂ (λ (x y : List ℕ). x ++ y) (packet_again r i b (omega arith)) (packets_again r (i + 1) n b (omega arith))
    ∙ part_join r (packets_at + i * packet_size) packet_size (packets_at + (i + 1) * packet_size) (n * packet_size) (suc n * packet_size) (omega arith) (omega arith)

-- ---- what is put

-- a packet behind what was put is as it was
pub packet_same : (r : List ℕ) (o : ℕ) (v : List ℕ) (k : ℕ) → o + length v ≤ length r → o + length v ≤ packets_at + k * packet_size → packet_at (splice r o v) k ≡ packet_at r k
unfolding packet_at little_at
packet_same r o v k fits h =
    let at : ℕ = packets_at + k * packet_size in
    let x : little (part (splice r o v) at 4) ≡ little (part r at 4) = ap little (part_after r o v fits at 4 (omega arith)) in
    let y : little (part (splice r o v) (at + 8) 8) ≡ little (part r (at + 8) 8) = ap little (part_after r o v fits (at + 8) 8 (omega arith)) in
    let z : little (part (splice r o v) (at + 4) 4) ≡ little (part r (at + 4) 4) = ap little (part_after r o v fits (at + 4) 4 (omega arith)) in
    λ i. record { number = x i; second = y i; resends = z i }

-- the packets put, then the highest number and the count: the bytes of a sender
pub sender_bytes_lem : (r : List ℕ) (highest count : ℕ) (ps : List Packet) → count ≡ length ps → packets_at + length ps * packet_size ≤ length r
    → splice (splice r packets_at (packets_bytes ps)) 0 (little_bytes 4 highest ++ little_bytes 4 count) ≡ splice r 0 (sender_bytes (record { highest = highest; packets = ps }))
unfolding sender_bytes
sender_bytes_lem r highest count ps e fits =
    let head : List ℕ = little_bytes 4 highest ++ little_bytes 4 (length ps) in
    let lh : length head ≡ packets_at = simp (length-append, length_little) in
    let lp : length (packets_bytes ps) ≡ length ps * packet_size = length_packets ps in
    let at : packets_at ≡ 0 + length head = omega arith in
    ap (λ (n : ℕ). splice (splice r packets_at (packets_bytes ps)) 0 (little_bytes 4 highest ++ little_bytes 4 n)) e
    ∙ sym (splice_swap r 0 packets_at head (packets_bytes ps) (omega arith) (omega arith))
    ∙ ap (λ (n : ℕ). splice (splice r 0 head) n (packets_bytes ps)) at
    ∙ splice_join r 0 head (packets_bytes ps) (omega arith)
    ∙ ap (splice r 0) (append_assoc (little_bytes 4 highest) (little_bytes 4 (length ps)) (packets_bytes ps))
