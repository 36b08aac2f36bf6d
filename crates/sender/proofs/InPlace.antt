-- Calls in place, one after another, keep the record of the sender that they make. Assumes nothing.
use mathlib.Core.Path.{◌≡◌, refl, sym, ap, ◌∙◌}
use mathlib.Core.Bool.{Bool, true, false, cond}
use mathlib.Core.List.{List, [], ◌∷◌, ◌++◌}
use Prim.Native.Nat.{ℕ, zero, suc, ◌+◌, ◌*◌, ◌≤◌, ◌<◌}
use native.Mathlib.Nat.{not-suc-le-zero, le_of_suc-le-suc}
use native.Mathlib.Omega.{arith}
use lib.Dec.{eqb}
use lib.ListN.{length, get_or, drop, replicate, length-append, length-replicate}
use lib.Seq.{ext_get_or}
use borrow.Author.Tests.{lt-ltb, eqb-true}
use Rattle.wire.specs.Parts.{part, splice}
use Rattle.wire.specs.Numbers.{little_at, little_bytes}
use Rattle.wire.specs.Series.{series}
use Rattle.wire.proofs.Parts.{part_all, part_part, part_left, part_right, part_within, part_same, length_splice, drop_after}
use Rattle.wire.proofs.Numbers.{length_little, little_at_back}
use Rattle.wire.proofs.Slices.{part_alike, length_part_min}
use Rattle.wire.proofs.Series.{length_series, get_d_series}
use Rattle.wire.proofs.Zeros.{little_at_none}
use Rattle.sender.specs.Sizes.{outstanding_at, packets_at, packet_size, sender_size}
use Rattle.sender.specs.Sender.{Packet, Sender, new_sender, Call, send, resend, ack, answer_by, taken, number_given, settled_by, taken_call, refused_call, called}
use Rattle.sender.specs.History.{sender_by}
use Rattle.sender.specs.Recorded.{outstanding_count, packet_at, sender_at, packet_bytes, packets_bytes, sender_bytes, answer_there, given_there, sender_after, settled_there, outstanding_there, packet_row, packet_numbers, new_sender_record, no_packet, PacketInWidth, SenderInWidth, SecondsInWidth, record_by}
use Rattle.sender.proofs.Widths.{in_width}
use Rattle.sender.proofs.Packets.{length_packet, length_packets}
use Rattle.sender.proofs.Counts.{count_is, length_outstanding}
use Rattle.sender.proofs.Lent.{is_long}

-- ---- bytes and back
-- where some numbers stand in a row, the one after them
right_of : (a b : List ℕ) (o n : ℕ) → length a ≡ o → part (a ++ b) o n ≡ part b 0 n
right_of a b o n e =
    let z : o ≡ length a + 0 = omega arith in
    ap (λ (k : ℕ). part (a ++ b) k n) z ∙ part_right a b 0 n

-- the k-th packet's bytes among those of all
pub part_packets : (ps : List Packet) (k : ℕ) → k < length ps → part (packets_bytes ps) (k * packet_size) packet_size ≡ packet_bytes (get_or ps k no_packet)
unfolding packets_bytes
part_packets [] k h = absurd (not-suc-le-zero h)
part_packets (p ∷ ps) zero h =
    part_left (packet_bytes p) (packets_bytes ps) 0 packet_size (omega (arith, length_packet p))
    ∙ part_all (packet_bytes p) packet_size (omega (arith, length_packet p))
part_packets (p ∷ ps) (suc k) h =
    let e : suc k * packet_size ≡ length (packet_bytes p) + k * packet_size = omega (arith, length_packet p) in
    ap (λ (o : ℕ). part (packet_bytes p ++ packets_bytes ps) o packet_size) e
    ∙ part_right (packet_bytes p) (packets_bytes ps) (k * packet_size) packet_size
    ∙ part_packets ps k (le_of_suc-le-suc h)

-- a packet's numbers, read from its bytes
module _ (r : List ℕ) (k : ℕ) (p : Packet) (fits : PacketInWidth p) (is : part r (packets_at + k * packet_size) packet_size ≡ packet_bytes p) where
  field : (o n : ℕ) → o + n ≤ packet_size → part r (packets_at + k * packet_size + o) n ≡ part (packet_bytes p) o n
  field o n h = sym (part_part r (packets_at + k * packet_size) packet_size o n h) ∙ ap (λ (l : List ℕ). part l o n) is

  pub packet_is : packet_at r k ≡ p
  unfolding packet_at packet_bytes
  packet_is =
      let a : List ℕ = little_bytes 4 p.number in
      let b : List ℕ = little_bytes 4 p.resends in
      let c : List ℕ = little_bytes 8 p.second in
      let la : length (little_bytes 4 p.number) ≡ 4 = length_little 4 p.number in
      let lb : length (little_bytes 4 p.resends) ≡ 4 = length_little 4 p.resends in
      let lc : length (little_bytes 8 p.second) ≡ 8 = length_little 8 p.second in
      let z : packets_at + k * packet_size ≡ packets_at + k * packet_size + 0 = omega arith in
      let x : part r (packets_at + k * packet_size) 4 ≡ little_bytes 4 p.number =
      ap (λ (o : ℕ). part r o 4) z ∙ field 0 4 (omega arith) ∙ part_left a (b ++ c) 0 4 (omega arith) ∙ part_all a 4 (omega arith) in
      let y : part r (packets_at + k * packet_size + 4) 4 ≡ little_bytes 4 p.resends =
      field 4 4 (omega arith) ∙ right_of a (b ++ c) 4 4 la ∙ part_left b c 0 4 (omega arith) ∙ part_all b 4 (omega arith) in
      let w : part r (packets_at + k * packet_size + 8) 8 ≡ little_bytes 8 p.second =
      field 8 8 (omega arith) ∙ eight la lb ∙ part_all c 8 (omega arith) in
      λ i.
      record {
        number = little_at_back 4 p.number r (packets_at + k * packet_size) fits.number_fits x i;
        second = little_at_back 8 p.second r (packets_at + k * packet_size + 8) fits.second_fits w i;
        resends = little_at_back 4 p.resends r (packets_at + k * packet_size + 4) fits.resends_fit y i;
      }
    where
      eight : length (little_bytes 4 p.number) ≡ 4 → length (little_bytes 4 p.resends) ≡ 4
          → part (little_bytes 4 p.number ++ (little_bytes 4 p.resends ++ little_bytes 8 p.second)) 8 8 ≡ part (little_bytes 8 p.second) 0 8
      eight la lb =
          let e : ◌≡◌ {A = ℕ} 8 (length (little_bytes 4 p.number) + 4) = omega arith in
          ap (λ (o : ℕ). part (little_bytes 4 p.number ++ (little_bytes 4 p.resends ++ little_bytes 8 p.second)) o 8) e
          ∙ part_right (little_bytes 4 p.number) (little_bytes 4 p.resends ++ little_bytes 8 p.second) 4 8
          ∙ right_of (little_bytes 4 p.resends) (little_bytes 8 p.second) 4 8 lb

-- a sender's bytes in front of a record, read as a sender
module _ (r : List ℕ) (s : Sender) (long : sender_size ≤ length r) (fits : SenderInWidth s) where
  abbrev left : List ℕ
  left = splice r 0 (sender_bytes s)

  pub length_bytes : length (sender_bytes s) ≡ packets_at + length s.packets * packet_size
  unfolding sender_bytes
  length_bytes =
      length-append (little_bytes 4 s.highest) (little_bytes 4 (length s.packets) ++ packets_bytes s.packets)
      ∙ omega (arith, length-append (little_bytes 4 (length s.packets)) (packets_bytes s.packets), length_little 4 s.highest, length_little 4 (length s.packets), length_packets s.packets)

  inside : 0 + length (sender_bytes s) ≤ length r
  inside = omega (arith, length_bytes, fits.few, long)

  from : (o n : ℕ) → o + n ≤ packets_at + length s.packets * packet_size → part left o n ≡ part (sender_bytes s) o n
  from o n h =
      let z : o ≡ 0 + o = omega arith in
      ap (λ (k : ℕ). part left k n) z ∙ part_within r 0 (sender_bytes s) inside o n (omega (arith, length_bytes))

  highest_back : little_at 4 left 0 ≡ s.highest
  unfolding sender_bytes
  highest_back =
      little_at_back 4 s.highest left 0 fits.highest_fits
      (from 0 4 (omega arith)
      ∙ part_left (little_bytes 4 s.highest) (little_bytes 4 (length s.packets) ++ packets_bytes s.packets) 0 4 (omega (arith, length_little 4 s.highest))
      ∙ part_all (little_bytes 4 s.highest) 4 (omega (arith, length_little 4 s.highest)))

  count_back : little_at 4 left outstanding_at ≡ length s.packets
  unfolding sender_bytes
  count_back =
      little_at_back 4 (length s.packets) left outstanding_at (omega (arith, fits.few))
      (from 4 4 (omega arith)
      ∙ right_of (little_bytes 4 s.highest) (little_bytes 4 (length s.packets) ++ packets_bytes s.packets) 4 4 (length_little 4 s.highest)
      ∙ part_left (little_bytes 4 (length s.packets)) (packets_bytes s.packets) 0 4 (omega (arith, length_little 4 (length s.packets)))
      ∙ part_all (little_bytes 4 (length s.packets)) 4 (omega (arith, length_little 4 (length s.packets))))

  packets_from : (o n : ℕ) → o + n ≤ length s.packets * packet_size → part left (packets_at + o) n ≡ part (packets_bytes s.packets) o n
  unfolding sender_bytes
  packets_from o n h =
      let e : packets_at + o ≡ length (little_bytes 4 s.highest) + (4 + o) = omega (arith, length_little 4 s.highest) in
      let f : 4 + o ≡ length (little_bytes 4 (length s.packets)) + o = omega (arith, length_little 4 (length s.packets)) in
      from (packets_at + o) n (omega arith)
      ∙ ap (λ (k : ℕ). part (little_bytes 4 s.highest ++ (little_bytes 4 (length s.packets) ++ packets_bytes s.packets)) k n) e
      ∙ part_right (little_bytes 4 s.highest) (little_bytes 4 (length s.packets) ++ packets_bytes s.packets) (4 + o) n
      ∙ ap (λ (k : ℕ). part (little_bytes 4 (length s.packets) ++ packets_bytes s.packets) k n) f
      ∙ part_right (little_bytes 4 (length s.packets)) (packets_bytes s.packets) o n

  packets_back : series (packet_at left) 0 (length s.packets) ≡ s.packets
  packets_back =
      ext_get_or no_packet (series (packet_at left) 0 (length s.packets)) s.packets (length_series (packet_at left) 0 (length s.packets))
      (λ k kl. let b : k < length s.packets = rw (length_series (packet_at left) 0 (length s.packets)) at kl in
      get_d_series (packet_at left) (length s.packets) k no_packet b
      ∙ packet_is left k (get_or s.packets k no_packet) (fits.each k b)
      (packets_from (k * packet_size) packet_size (omega arith) ∙ part_packets s.packets k b))

  pub read_back : sender_at left ≡ s
  unfolding sender_at
  read_back =
      let n : outstanding_count left ≡ length s.packets = count_is left (length s.packets) count_back fits.few in
      λ i. record { highest = highest_back i; packets = (ap (series (packet_at left) 0) n ∙ packets_back) i }

-- ---- the calls
module _ (r : List ℕ) where
  -- on a record that is not short, a call answers, gives out and settles what it does at the sender there
  module _ (long : sender_size ≤ length r) (c : Call) where
    pub answer_there_lem : answer_there r c ≡ (called (sender_at r) c).answer
    unfolding answer_there called
    answer_there_lem = rw (is_long r long) (go (answer_by (sender_at r) c) (eqb (answer_by (sender_at r) c) 0) refl)
      where
        go : (n : ℕ) (b : Bool) → eqb n 0 ≡ b → n ≡ (cond b (taken_call (sender_at r) c) (refused_call (sender_at r) n)).answer
        go n true e = eqb-true n 0 e
        go n false e = refl

    pub given_there_lem : given_there r c ≡ (called (sender_at r) c).given
    unfolding given_there answer_there called
    given_there_lem = rw (is_long r long) (go (eqb (answer_by (sender_at r) c) 0))
      where
        go : (b : Bool) → cond b (number_given (sender_at r) c) 0 ≡ (cond b (taken_call (sender_at r) c) (refused_call (sender_at r) (answer_by (sender_at r) c))).given
        go true = refl
        go false = refl

    pub settled_there_lem : settled_there r c ≡ (called (sender_at r) c).settled
    unfolding settled_there answer_there called
    settled_there_lem = rw (is_long r long) (go (eqb (answer_by (sender_at r) c) 0))
      where
        go : (b : Bool) → cond b (settled_by (sender_at r) c) [] ≡ (cond b (taken_call (sender_at r) c) (refused_call (sender_at r) (answer_by (sender_at r) c))).settled
        go true = refl
        go false = refl

-- r is a record of sender s, as long as r0 was and with the bytes behind it that r0 had
pub record Holds (r0 r : List ℕ) (s : Sender) : Type 0 where
  pub is : sender_at r ≡ s
  pub long : sender_size ≤ length r
  pub size : length r ≡ length r0
  pub behind : drop sender_size r ≡ drop sender_size r0

pub holds_step : (r0 r : List ℕ) (s : Sender) (c : Call) → Holds r0 r s → SenderInWidth (called s c).sender → Holds r0 (sender_after r c) (called s c).sender
unfolding sender_after answer_there called
holds_step r0 r s c h fits = rw (is_long r h.long, h.is) (go (eqb (answer_by s c) 0) refl)
  where
    go : (b : Bool) → eqb (answer_by s c) 0 ≡ b → Holds r0 (cond b (splice r 0 (sender_bytes (taken s c))) r) (cond b (taken_call s c) (refused_call s (answer_by s c))).sender
    go true e =
        let f : SenderInWidth (taken s c) = rw e at fits in
        let lb = length_bytes r (taken s c) h.long f in
        let inside : 0 + length (sender_bytes (taken s c)) ≤ length r = omega (arith, lb, f.few, h.long) in
        let same : length (splice r 0 (sender_bytes (taken s c))) ≡ length r = length_splice r 0 (sender_bytes (taken s c)) inside in
        record {
          is = read_back r (taken s c) h.long f;
          long = omega (arith, same, h.long);
          size = same ∙ h.size;
          behind = drop_after r 0 (sender_bytes (taken s c)) inside sender_size (omega (arith, lb, f.few)) ∙ h.behind;
        }
    go false e = h

-- a record as strawhub_sender_new leaves it starts with 4,104 zeros
pub new_zeros : (r : List ℕ) → sender_size ≤ length r → part (new_sender_record r) 0 sender_size ≡ replicate sender_size 0
unfolding new_sender_record
new_zeros r h =
    let z : length (replicate {A = ℕ} sender_size 0) ≡ sender_size = length-replicate {A = ℕ} sender_size 0 in
    rw (is_long r h)
    (ap (part (splice r 0 (replicate sender_size 0)) 0) (sym z) ∙ part_same r 0 (replicate sender_size 0) (omega arith))

pub seconds_past : (c : Call) (past : List Call) → SecondsInWidth (c ∷ past) → SecondsInWidth past
seconds_past (send second) past w = w.1
seconds_past (resend n second) past w = w.1
seconds_past (ack through count pairs) past w = w

-- ---- reading out
module _ (r : List ℕ) (long : sender_size ≤ length r) where
  pub count_there : outstanding_there r ≡ length (sender_at r).packets
  unfolding outstanding_there
  count_there = rw (is_long r long) (sym (length_outstanding r))

  pub row_there : (k : ℕ) (out : List ℕ) → k < length (sender_at r).packets → packet_numbers r k out ≡ packet_row (get_or (sender_at r).packets k no_packet)
  unfolding packet_numbers sender_at
  row_there k out h =
      let n : k < outstanding_count r = rw (length_series (packet_at r) 0 (outstanding_count r)) at h in
      rw (lt-ltb k (outstanding_there r) (rw count_there h))
      (sym (ap packet_row (get_d_series (packet_at r) (outstanding_count r) k no_packet n)))

-- a record that starts with 4,104 zeros
module _ (rec : List ℕ) (zeros : part rec 0 sender_size ≡ replicate sender_size 0) where
  zeros_long : sender_size ≤ length rec
  zeros_long = omega (arith, ap length zeros, length_part_min rec 0 sender_size, length-replicate {A = ℕ} sender_size 0)

  zeros_at : (o n : ℕ) → o + n ≤ sender_size → part rec (0 + o) n ≡ replicate n 0
  zeros_at o n h = sym (part_part rec 0 sender_size o n h) ∙ ap (λ (l : List ℕ). part l o n) zeros ∙ part_alike 0 sender_size o n h

  -- is a new sender's,
  pub starts : sender_at rec ≡ new_sender
  unfolding sender_at
  starts =
      let n : outstanding_count rec ≡ 0 = count_is rec 0 (little_at_none 4 rec outstanding_at (zeros_at outstanding_at 4 (omega arith))) (omega arith) in
      λ i. record { highest = little_at_none 4 rec 0 (zeros_at 0 4 (omega arith)) i; packets = ap (series (packet_at rec) 0) n i }

  -- and calls keep it
  pub held : (h : List Call) → SecondsInWidth h → Holds rec (record_by rec h) (sender_by h)
  unfolding record_by sender_by
  held [] w = record { is = starts; long = zeros_long; size = refl; behind = refl }
  held (c ∷ past) w = holds_step rec (record_by rec past) (sender_by past) c (held past (seconds_past c past w)) (in_width (c ∷ past) w)
