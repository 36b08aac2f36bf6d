use Rattle.std.proofs.Common.{ℕ, ◌+◌, refl, ap, arith}
use Rattle.wire.specs.Numbers.{little_at}
use Rattle.wire.proofs.Numbers.{little_mod}
use Rattle.sender.specs.Sender.{Packet, resend, place_of, number_given}
use Rattle.sender.specs.Recorded.{sender_at}
use Rattle.sender.proofs.Lent.{short_59, refused_call_lem, taken_call_lem, resend_73, resend_71, resend_0}
use Rattle.sender.proofs.GivenOut.{resent}
use Rattle.sender_list.proofs.resend_in.Goals as goal

pub returns-then-rec-lt-SENDER_SIZE : goal.returns-then-rec-lt-SENDER_SIZE
returns-then-rec-lt-SENDER_SIZE c =
    let a = c.args in
    refused_call_lem a.rec.now (resend a.n a.second) 59 (short_59 a.rec.now (resend a.n a.second) c.if-rec-lt-SENDER_SIZE.true) (omega arith)

pub returns-in_default : goal.returns-in_default
returns-in_default c =
    let a = c.args in
    let n = c.count_of-count in
    refused_call_lem a.rec.now (resend a.n a.second) 73
    (resend_73 a.rec.now (little_at 4 a.rec.now 0) n.result refl n.ensures.0 c.if-rec-lt-SENDER_SIZE.false a.n (place_of a.n (sender_at a.rec.now).packets) refl a.second (omega (arith, c.in_default.ensures))) (omega arith)

pub returns-then-highest-ge-LAST_NUMBER : goal.returns-then-highest-ge-LAST_NUMBER
returns-then-highest-ge-LAST_NUMBER c =
    let a = c.args in
    let h = c.highest_of-highest in
    let k = c.in-Some in
    let n = c.count_of-count in
    refused_call_lem a.rec.now (resend a.n a.second) 71
    (resend_71 a.rec.now h.result n.result h.ensures n.ensures.0 c.if-rec-lt-SENDER_SIZE.false a.n k.k k.ensures.0 a.second k.ensures.1 c.if-highest-ge-LAST_NUMBER.true) (omega arith)

pub returns : goal.returns
unfolding sender_at number_given
returns c =
    let a = c.args in
    let h = c.highest_of-highest in
    let k = c.in-Some in
    let n = c.count_of-count in
    let old = c.packet_at-old in
    let long = c.if-rec-lt-SENDER_SIZE.false in
    let down = c.move_to in
    let new = c.put_packet in
    let last = c.put_head in
    taken_call_lem a.rec.now (resend a.n a.second) (h.result + 1) last.new.rec (ap (λ (m : ℕ). m + 1) h.ensures)
    (resent a.rec.now (λ i. (c.slice_known-1.given i).fits) long n.result h.result a.second n.ensures.0 h.ensures a.n k.k k.ensures.0 k.ensures.1
    old.result.resends _ down.new.rec new.new.rec last.new.rec (ap (λ (p : Packet). p.resends) old.ensures) (little_mod 4 (old.result.resends + 1)) down.ensures new.ensures last.ensures)
    (resend_0 a.rec.now h.result n.result h.ensures n.ensures.0 long a.n k.k k.ensures.0 a.second k.ensures.1 c.if-highest-ge-LAST_NUMBER.false)
