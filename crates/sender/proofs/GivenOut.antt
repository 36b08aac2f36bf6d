-- A packet given out, in the record: it is put behind those that stay, then the highest number and the count are. Assumes nothing.
use mathlib.Core.Path.{◌≡◌, refl, sym, ap, ap₂, ◌∙◌}
use mathlib.Core.List.{List, [], ◌∷◌, ◌++◌, append-nil}
use Prim.Native.Nat.{ℕ, suc, ◌+◌, ◌-◌, ◌*◌, ◌≤◌, ◌<◌}
use native.Mathlib.Omega.{arith}
use lib.ListN.{length, length-append}
use Rattle.wire.specs.Parts.{part, splice}
use Rattle.wire.specs.Numbers.{Bytes, little_at, little_bytes}
use Rattle.wire.specs.Series.{series}
use Rattle.wire.proofs.Parts.{length_part, splice_part, puts}
use Rattle.wire.proofs.Series.{length_series, series_add}
use Rattle.sender.specs.Sizes.{most_outstanding, packets_at, packet_size, sender_size}
use Rattle.sender.specs.Sender.{Packet, send, resend, without, place_of, resends_of, next_packet, taken}
use Rattle.sender.specs.Recorded.{outstanding_count, packet_at, sender_at, packet_bytes, packets_bytes, sender_bytes}
use Rattle.sender.proofs.Packets.{length_packet, length_packets, packets_append, packets_again, sender_bytes_lem}
use Rattle.sender.proofs.Counts.{count_most, length_outstanding}
use Rattle.sender.proofs.Places.{without_at, resends_at}

-- one packet's bytes, as those of a list of one
packets_one : (p : Packet) → packets_bytes (p ∷ []) ≡ packet_bytes p
unfolding packets_bytes
packets_one p = append-nil (packet_bytes p)

-- a packet put behind those that are kept, then the head
last_put : (r : List ℕ) (kept : List Packet) (p : Packet) (highest j count : ℕ) {x y z : List ℕ} → x ≡ splice r packets_at (packets_bytes kept) → length kept ≡ j → count ≡ j + 1 → packets_at + count * packet_size ≤ length r
    → y ≡ splice x (packets_at + j * packet_size) (packet_bytes p) → z ≡ splice y 0 (little_bytes 4 highest ++ little_bytes 4 count) → z ≡ splice r 0 (sender_bytes (record { highest = highest; packets = kept ++ (p ∷ []) }))
last_put r kept p highest j count {x} {y} {z} ex lk ec fits ey ez =
    let all : length (kept ++ (p ∷ [])) ≡ count = length-append kept (p ∷ []) ∙ omega arith in
    let lb : length (packets_bytes kept) ≡ j * packet_size = length_packets kept ∙ ap (λ (n : ℕ). n * packet_size) lk in
    let both : y ≡ splice r packets_at (packets_bytes kept ++ packet_bytes p) = (puts r packets_at (j * packet_size) packet_size (packets_at + j * packet_size) (packets_bytes kept) (packet_bytes p) lb (length_packet p) refl (omega arith) ex ey).0 in
    let bytes : packets_bytes kept ++ packet_bytes p ≡ packets_bytes (kept ++ (p ∷ [])) = sym (packets_append kept (p ∷ []) ∙ ap (λ (l : List ℕ). packets_bytes kept ++ l) (packets_one p)) in
    ez
    ∙ ap (λ (l : List ℕ). splice l 0 (little_bytes 4 highest ++ little_bytes 4 count)) (both ∙ ap (splice r packets_at) bytes)
    ∙ sender_bytes_lem r highest count (kept ++ (p ∷ [])) (sym all) (omega arith)

module _ (r : List ℕ) (bytes : Bytes r) (long : sender_size ≤ length r) (count highest second : ℕ) (is-count : count ≡ outstanding_count r) (is-highest : highest ≡ little_at 4 r 0) where
  -- the packets stand there
  stand : r ≡ splice r packets_at (packets_bytes (sender_at r).packets)
  unfolding sender_at
  stand =
      let most : outstanding_count r ≤ most_outstanding = count_most r in
      sym (ap (splice r packets_at) (packets_again r 0 (outstanding_count r) bytes (omega arith)) ∙ splice_part r packets_at (outstanding_count r * packet_size) (omega arith))

  -- ---- sent

  pub sent : (y z : List ℕ) → count < most_outstanding
      → y ≡ splice r (packets_at + count * packet_size) (packet_bytes (next_packet highest second 0)) → z ≡ splice y 0 (little_bytes 4 (highest + 1) ++ little_bytes 4 (count + 1))
      → z ≡ splice r 0 (sender_bytes (taken (sender_at r) (send second)))
  unfolding taken sender_at
  sent y z room ey ez =
      let ps : List Packet = (sender_at r).packets in
      last_put r ps (next_packet highest second 0) (highest + 1) count (count + 1) stand (length_outstanding r ∙ sym is-count) refl (omega arith) ey ez
      ∙ ap (λ (h : ℕ). splice r 0 (sender_bytes (record { highest = h + 1; packets = ps ++ (next_packet h second 0 ∷ []) }))) is-highest

  -- ---- sent again: those behind the old one move down

  module _ (n k : ℕ) (is-place : k ≡ place_of n (sender_at r).packets) (there : k < count) where
    front : List Packet
    front = series (packet_at r) 0 k

    behind : List Packet
    behind = series (packet_at r) (k + 1) (count - k - 1)

    in_three : (sender_at r).packets ≡ front ++ (packet_at r k ∷ behind)
    unfolding sender_at front behind
    in_three =
        let e : outstanding_count r ≡ k + suc (count - k - 1) = omega arith in
        let z : 0 + k ≡ k = omega arith in
        ap (series (packet_at r) 0) e
        ∙ series_add (packet_at r) 0 k (suc (count - k - 1))
        ∙ ap (λ (i : ℕ). series (packet_at r) 0 k ++ series (packet_at r) i (suc (count - k - 1))) z

    at_place : place_of n (front ++ (packet_at r k ∷ behind)) ≡ length front
    unfolding front
    at_place = ap (place_of n) (sym in_three) ∙ sym is-place ∙ sym (length_series (packet_at r) 0 k)

    left : without n (sender_at r).packets ≡ front ++ behind
    left = ap (without n) in_three ∙ without_at n (packet_at r k) behind front at_place

    old_resends : resends_of (sender_at r).packets n ≡ (packet_at r k).resends
    old_resends = ap (λ (l : List Packet). resends_of l n) in_three ∙ resends_at n (packet_at r k) behind front at_place

    length_left : length (without n (sender_at r).packets) ≡ count - 1
    unfolding front behind
    length_left =
        ap length left
        ∙ length-append front behind
        ∙ omega (arith, length_series (packet_at r) 0 k, length_series (packet_at r) (k + 1) (count - k - 1))

    down : (x : List ℕ) → x ≡ splice r (packets_at + k * packet_size) (part r (packets_at + (k + 1) * packet_size) ((count - k - 1) * packet_size)) → x ≡ splice r packets_at (packets_bytes (without n (sender_at r).packets))
    unfolding front behind
    down x e =
        let most : outstanding_count r ≤ most_outstanding = count_most r in
        let v : List ℕ = part r packets_at (k * packet_size) in
        let w : List ℕ = part r (packets_at + (k + 1) * packet_size) ((count - k - 1) * packet_size) in
        let lv : length v ≡ k * packet_size = length_part r packets_at (k * packet_size) (omega arith) in
        let lw : length w ≡ (count - k - 1) * packet_size = length_part r (packets_at + (k + 1) * packet_size) ((count - k - 1) * packet_size) (omega arith) in
        let stays : r ≡ splice r packets_at v = sym (splice_part r packets_at (k * packet_size) (omega arith)) in
        (puts r packets_at (k * packet_size) ((count - k - 1) * packet_size) (packets_at + k * packet_size) v w lv lw refl (omega arith) stays e).0
        ∙ ap (splice r packets_at)
        (sym
        (ap packets_bytes left
        ∙ packets_append front behind
        ∙ ap₂ (λ (a b : List ℕ). a ++ b) (packets_again r 0 k bytes (omega arith)) (packets_again r (k + 1) (count - k - 1) bytes (omega arith))))

    pub resent : (resends more : ℕ) (x y z : List ℕ) → resends ≡ (packet_at r k).resends → little_bytes 4 more ≡ little_bytes 4 (resends + 1)
        → x ≡ splice r (packets_at + k * packet_size) (part r (packets_at + (k + 1) * packet_size) ((count - k - 1) * packet_size))
        → y ≡ splice x (packets_at + (count - 1) * packet_size) (packet_bytes (next_packet highest second more)) → z ≡ splice y 0 (little_bytes 4 (highest + 1) ++ little_bytes 4 count)
        → z ≡ splice r 0 (sender_bytes (taken (sender_at r) (resend n second)))
    unfolding taken packet_bytes sender_at
    resent resends more x y z er em ex ey ez =
        let most : outstanding_count r ≤ most_outstanding = count_most r in
        let ps : List Packet = (sender_at r).packets in
        let again : little_bytes 4 more ≡ little_bytes 4 (resends_of ps n + 1) = em ∙ ap (λ (m : ℕ). little_bytes 4 (m + 1)) (er ∙ sym old_resends) in
        let put : y ≡ splice x (packets_at + (count - 1) * packet_size) (packet_bytes (next_packet highest second (resends_of ps n + 1))) =
        ey ∙ ap (λ (l : List ℕ). splice x (packets_at + (count - 1) * packet_size) (little_bytes 4 (highest + 1) ++ (l ++ little_bytes 8 second))) again
        in
        last_put r (without n ps) (next_packet highest second (resends_of ps n + 1)) (highest + 1) (count - 1) count (down x ex) length_left (omega arith) (omega arith) put ez
        ∙ ap (λ (h : ℕ). splice r 0 (sender_bytes (record { highest = h + 1; packets = without n ps ++ (next_packet h second (resends_of ps n + 1) ∷ []) }))) is-highest
