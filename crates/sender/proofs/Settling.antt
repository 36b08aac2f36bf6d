-- An ack's walk over the outstanding packets: where it stands after k of them, and what it leaves. Assumes nothing.
use mathlib.Core.Path.{◌≡◌, refl, sym, ap, ◌∙◌}
use mathlib.Core.Bool.{Bool, true, false, not}
use mathlib.Core.List.{List, [], ◌∷◌, ◌++◌, append-nil}
use Prim.Native.Nat.{ℕ, ◌+◌, ◌-◌, ◌*◌, ◌≤◌, ◌<◌}
use native.Mathlib.Omega.{arith}
use lib.ListN.{length, set, length-append}
use Rattle.wire.specs.Parts.{part, splice}
use Rattle.wire.specs.Numbers.{Bytes, little_at, little_bytes}
use Rattle.wire.specs.Series.{series}
use Rattle.wire.proofs.Parts.{length_splice, part_after, splice_then}
use Rattle.wire.proofs.Slices.{splice_none, splice_more}
use Rattle.wire.proofs.Series.{series_more}
use Rattle.acks.specs.Window.{keep}
use Rattle.acks.specs.History.{among}
use Rattle.acks.specs.Expanding.{ack_numbers}
use Rattle.sender.specs.Sizes.{most_outstanding, packets_at, packet_size, sender_size}
use Rattle.sender.specs.Sender.{Packet, numbers_of, those, ack, taken, settled_by}
use Rattle.sender.specs.Recorded.{outstanding_count, packet_at, packet_bytes, packets_bytes, sender_at, sender_bytes}
use Rattle.sender.specs.Settling.{Passed, Walked}
use Rattle.sender.proofs.Lists.{numbers_append, numbers_those, those_append, those_one}
use Rattle.sender.proofs.Packets.{length_packet, length_packets, packets_append, packet_again, packet_same, sender_bytes_lem}

-- ---- where the walk stands
-- of the first k packets, those that a test does not take
unfoldable pub left : (ℕ → Bool) → List ℕ → ℕ → List Packet
left test r k = those (λ n. not (test n)) (series (packet_at r) 0 k)

-- and the numbers of those that it does
unfoldable pub gone : (ℕ → Bool) → List ℕ → ℕ → List ℕ
gone test r k = keep test (numbers_of (series (packet_at r) 0 k))

-- The first k packets are passed: those that are kept stand in front, the numbers of the others are told.
pub record Settling (test : ℕ → Bool) (rec₀ settled₀ : List ℕ) (k : ℕ) (rec settled : List ℕ) (kept : ℕ) : Type 0 where
  pub keeps : rec ≡ splice rec₀ packets_at (packets_bytes (left test rec₀ k))
  pub counts : kept ≡ length (left test rec₀ k)
  pub tells : settled ≡ splice settled₀ 0 (gone test rec₀ k)
  pub adds_up : kept + length (gone test rec₀ k) ≡ k

those_none : (t : ℕ → Bool) (p : Packet) → t p.number ≡ false → those t (p ∷ []) ≡ []
unfolding those
those_none t p h = rw h

module _ (test : ℕ → Bool) (rec₀ : List ℕ) (k : ℕ) where
  left_more : left test rec₀ (k + 1) ≡ left test rec₀ k ++ those (λ n. not (test n)) (packet_at rec₀ k ∷ [])
  unfolding left
  left_more =
      ap (those (λ n. not (test n))) (series_more (packet_at rec₀) k)
      ∙ those_append (λ n. not (test n)) (series (packet_at rec₀) 0 k) (packet_at rec₀ k ∷ [])

  gone_more : gone test rec₀ (k + 1) ≡ gone test rec₀ k ++ numbers_of (those test (packet_at rec₀ k ∷ []))
  unfolding gone
  gone_more =
      ap (λ (ps : List Packet). keep test (numbers_of ps)) (series_more (packet_at rec₀) k)
      ∙ sym (numbers_those test (series (packet_at rec₀) 0 k ++ (packet_at rec₀ k ∷ [])))
      ∙ ap numbers_of (those_append test (series (packet_at rec₀) 0 k) (packet_at rec₀ k ∷ []))
      ∙ numbers_append (those test (series (packet_at rec₀) 0 k)) (those test (packet_at rec₀ k ∷ []))
      ∙ ap (λ (l : List ℕ). l ++ numbers_of (those test (packet_at rec₀ k ∷ []))) (numbers_those test (series (packet_at rec₀) 0 k))

  -- the k-th packet is named
  module _ (e : test (packet_at rec₀ k).number ≡ true) where
    left_named : left test rec₀ (k + 1) ≡ left test rec₀ k
    left_named =
        left_more
        ∙ ap (λ (l : List Packet). left test rec₀ k ++ l) (those_none (λ n. not (test n)) (packet_at rec₀ k) (ap not e))
        ∙ append-nil (left test rec₀ k)

    gone_named : gone test rec₀ (k + 1) ≡ gone test rec₀ k ++ ((packet_at rec₀ k).number ∷ [])
    unfolding numbers_of
    gone_named = gone_more ∙ ap (λ (l : List Packet). gone test rec₀ k ++ numbers_of l) (those_one test (packet_at rec₀ k) e)

  -- or it is not
  module _ (e : test (packet_at rec₀ k).number ≡ false) where
    left_kept : left test rec₀ (k + 1) ≡ left test rec₀ k ++ (packet_at rec₀ k ∷ [])
    left_kept = left_more ∙ ap (λ (l : List Packet). left test rec₀ k ++ l) (those_one (λ n. not (test n)) (packet_at rec₀ k) (ap not e))

    gone_kept : gone test rec₀ (k + 1) ≡ gone test rec₀ k
    unfolding numbers_of
    gone_kept =
        gone_more
        ∙ ap (λ (l : List Packet). gone test rec₀ k ++ numbers_of l) (those_none test (packet_at rec₀ k) e)
        ∙ append-nil (gone test rec₀ k)

-- ---- its start
pub settling_start : (test : ℕ → Bool) (rec₀ settled₀ : List ℕ) → Settling test rec₀ settled₀ 0 rec₀ settled₀ 0
unfolding left gone those numbers_of keep packets_bytes
settling_start test rec₀ settled₀ =
    record {
      keeps = sym (splice_none rec₀ packets_at);
      counts = refl;
      tells = sym (splice_none settled₀ 0);
      adds_up = refl;
    }

-- ---- a turn
module _ {test : ℕ → Bool} {rec₀ settled₀ : List ℕ} {k : ℕ} {rec settled : List ℕ} {kept : ℕ} (s : Settling test rec₀ settled₀ k rec settled kept) (long : sender_size ≤ length rec₀) (few : k ≤ most_outstanding) where
  pub kept_below : kept ≤ k
  kept_below = omega (arith, s.adds_up)

  length_kept : length (packets_bytes (left test rec₀ k)) ≡ kept * packet_size
  length_kept = length_packets (left test rec₀ k) ∙ ap (λ (n : ℕ). n * packet_size) (sym s.counts)

  pub same_length : length rec ≡ length rec₀
  same_length = ap length s.keeps ∙ length_splice rec₀ packets_at (packets_bytes (left test rec₀ k)) (omega (arith, length_kept, kept_below))

  pub same_room : most_outstanding ≤ length settled₀ → length settled ≡ length settled₀
  same_room room = ap length s.tells ∙ length_splice settled₀ 0 (gone test rec₀ k) (omega (arith, s.adds_up))

  -- the packets not passed yet are as they were
  packet_there : packet_at rec k ≡ packet_at rec₀ k
  packet_there =
      ap (λ (r : List ℕ). packet_at r k) s.keeps
      ∙ packet_same rec₀ packets_at (packets_bytes (left test rec₀ k)) k (omega (arith, length_kept, kept_below)) (omega (arith, length_kept, kept_below))

module _ {test : ℕ → Bool} {rec₀ settled₀ : List ℕ} {k : ℕ} {rec settled : List ℕ} {kept : ℕ} (s : Settling test rec₀ settled₀ k rec settled kept) (long : sender_size ≤ length rec₀) (room : most_outstanding ≤ length settled₀) (few : k < most_outstanding) (bytes : Bytes rec₀) where
  turn_named : test (packet_at rec₀ k).number ≡ true → Settling test rec₀ settled₀ (k + 1) rec (set settled (k - kept) (packet_at rec₀ k).number) kept
  turn_named e =
      let at : k - kept ≡ 0 + length (gone test rec₀ k) = omega (arith, s.adds_up) in
      let more : length (gone test rec₀ (k + 1)) ≡ length (gone test rec₀ k) + 1 = ap length (gone_named test rec₀ k e) ∙ length-append (gone test rec₀ k) ((packet_at rec₀ k).number ∷ []) in
      record {
        keeps = s.keeps ∙ ap (λ (ps : List Packet). splice rec₀ packets_at (packets_bytes ps)) (sym (left_named test rec₀ k e));
        counts = s.counts ∙ ap length (sym (left_named test rec₀ k e));
        tells =
            ap (λ (l : List ℕ). set l (k - kept) (packet_at rec₀ k).number) s.tells
            ∙ ap (λ (i : ℕ). set (splice settled₀ 0 (gone test rec₀ k)) i (packet_at rec₀ k).number) at
            ∙ splice_more settled₀ 0 (gone test rec₀ k) (packet_at rec₀ k).number (omega (arith, s.adds_up))
            ∙ ap (splice settled₀ 0) (sym (gone_named test rec₀ k e));
        adds_up = omega (arith, s.adds_up);
      }

  turn_kept : test (packet_at rec₀ k).number ≡ false
      → Settling test rec₀ settled₀ (k + 1) (splice rec (packets_at + kept * packet_size) (part rec (packets_at + k * packet_size) packet_size)) settled (kept + 1)
  unfolding packets_bytes
  turn_kept e =
      let v : List ℕ = packets_bytes (left test rec₀ k) in
      let w : List ℕ = part rec (packets_at + k * packet_size) packet_size in
      let below : kept ≤ k = omega (arith, s.adds_up) in
      let lv : length v ≡ kept * packet_size = length_kept s long (omega arith) in
      let stood : w ≡ packet_bytes (packet_at rec₀ k) =
      ap (λ (r : List ℕ). part r (packets_at + k * packet_size) packet_size) s.keeps
      ∙ part_after rec₀ packets_at v (omega arith) (packets_at + k * packet_size) packet_size (omega arith)
      ∙ sym (packet_again rec₀ k bytes (omega arith))
      in
      let lw : length w ≡ packet_size = ap length stood ∙ length_packet (packet_at rec₀ k) in
      let at : packets_at + kept * packet_size ≡ packets_at + length v = omega arith in
      let joined : packets_bytes (left test rec₀ (k + 1)) ≡ v ++ w =
      ap packets_bytes (left_kept test rec₀ k e)
      ∙ packets_append (left test rec₀ k) (packet_at rec₀ k ∷ [])
      ∙ ap (λ (l : List ℕ). v ++ l) (append-nil (packet_bytes (packet_at rec₀ k)) ∙ sym stood)
      in
      let more : length (left test rec₀ (k + 1)) ≡ length (left test rec₀ k) + 1 = ap length (left_kept test rec₀ k e) ∙ length-append (left test rec₀ k) (packet_at rec₀ k ∷ []) in
      record {
        keeps =
            splice_then rec₀ packets_at v w (omega arith) s.keeps (ap (λ (o : ℕ). splice rec o w) at)
            ∙ ap (splice rec₀ packets_at) (sym joined);
        counts = omega (arith, s.counts);
        tells = s.tells ∙ ap (splice settled₀ 0) (sym (gone_kept test rec₀ k e));
        adds_up = omega (arith, s.adds_up, ap length (gone_kept test rec₀ k e));
      }

  -- the k-th packet is passed
  pub settling_turn : {after told : List ℕ} {next : ℕ} → Passed (test (packet_at rec k).number) k kept next rec after settled told → Settling test rec₀ settled₀ (k + 1) after told next
  settling_turn {after} {told} {next} p = go (test (packet_at rec₀ k).number) refl
    where
      there : packet_at rec k ≡ packet_at rec₀ k
      there = packet_there s long (omega arith)

      go : (b : Bool) → test (packet_at rec₀ k).number ≡ b → Settling test rec₀ settled₀ (k + 1) after told next
      go true e =
          let n : test (packet_at rec k).number ≡ true = ap (λ (q : Packet). test q.number) there ∙ e in
          let x : next ≡ kept = rw n at p.counts in
          let y : after ≡ rec = rw n at p.moves in
          let z : told ≡ set settled (k - kept) (packet_at rec k).number = rw n at p.tells in
          rw (x, y, z, there) (turn_named e)
      go false e =
          let n : test (packet_at rec k).number ≡ false = ap (λ (q : Packet). test q.number) there ∙ e in
          let x : next ≡ kept + 1 = rw n at p.counts in
          let y : after ≡ splice rec (packets_at + kept * packet_size) (part rec (packets_at + k * packet_size) packet_size) = rw n at p.moves in
          let z : told ≡ settled = rw n at p.tells in
          rw (x, y, z) (turn_kept e)

-- ---- its end
module _ (rec₀ settled₀ : List ℕ) (through count : ℕ) (pairs : List ℕ) where
  -- the packets kept are those of the sender after the ack, the numbers told those that it settles
  pub settling_end : {k kept : ℕ} {rec settled : List ℕ} → Settling (among (ack_numbers through count pairs)) rec₀ settled₀ k rec settled kept → k ≡ outstanding_count rec₀
      → Walked (ack through count pairs) kept rec₀ rec settled₀ settled
  unfolding left gone sender_at taken settled_by
  settling_end {k} {kept} {rec} {settled} s e =
      let z : Settling (among (ack_numbers through count pairs)) rec₀ settled₀ (outstanding_count rec₀) rec settled kept = rw e at s in
      record { counts = z.counts; moves = z.keeps; tells = z.tells; adds_up = z.adds_up }

  module _ {kept : ℕ} {after told : List ℕ} (w : Walked (ack through count pairs) kept rec₀ after settled₀ told) (long : sender_size ≤ length rec₀) (few : outstanding_count rec₀ ≤ most_outstanding) where
    walked_below : kept ≤ outstanding_count rec₀
    walked_below = omega (arith, w.adds_up)

    -- the highest number and the count, put in front of them
    pub walked_saved : splice after 0 (little_bytes 4 (little_at 4 rec₀ 0) ++ little_bytes 4 kept) ≡ splice rec₀ 0 (sender_bytes (taken (sender_at rec₀) (ack through count pairs)))
    unfolding taken sender_at
    walked_saved =
        ap (λ (r : List ℕ). splice r 0 (little_bytes 4 (little_at 4 rec₀ 0) ++ little_bytes 4 kept)) w.moves
        ∙ sender_bytes_lem rec₀ (little_at 4 rec₀ 0) kept (taken (sender_at rec₀) (ack through count pairs)).packets w.counts (omega (arith, w.counts, walked_below))
