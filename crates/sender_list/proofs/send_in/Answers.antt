use Rattle.std.proofs.Common.{ℕ, ◌+◌, refl, ap, arith}
use Rattle.sender.specs.Sender.{send, number_given}
use Rattle.sender.specs.Recorded.{outstanding_count, sender_at}
use Rattle.sender.proofs.Lent.{short_59, refused_call_lem, taken_call_lem, send_71, send_70, send_0}
use Rattle.sender.proofs.GivenOut.{sent}
use Rattle.sender_list.proofs.send_in.Goals as goal

pub returns-then-rec-lt-SENDER_SIZE : goal.returns-then-rec-lt-SENDER_SIZE
returns-then-rec-lt-SENDER_SIZE c =
    let a = c.args in
    refused_call_lem a.rec.now (send a.second) 59 (short_59 a.rec.now (send a.second) c.if-rec-lt-SENDER_SIZE.true) (omega arith)

pub returns-then-highest-ge-LAST_NUMBER : goal.returns-then-highest-ge-LAST_NUMBER
returns-then-highest-ge-LAST_NUMBER c =
    let a = c.args in
    let h = c.highest_of-highest in
    refused_call_lem a.rec.now (send a.second) 71 (send_71 a.rec.now h.result (outstanding_count a.rec.now) h.ensures refl c.if-rec-lt-SENDER_SIZE.false a.second c.if-highest-ge-LAST_NUMBER.true) (omega arith)

pub returns-then-count-ge-MOST_OUTSTANDING : goal.returns-then-count-ge-MOST_OUTSTANDING
returns-then-count-ge-MOST_OUTSTANDING c =
    let a = c.args in
    let h = c.highest_of-highest in
    let n = c.count_of-count in
    refused_call_lem a.rec.now (send a.second) 70
    (send_70 a.rec.now h.result n.result h.ensures n.ensures.0 c.if-rec-lt-SENDER_SIZE.false a.second c.if-highest-ge-LAST_NUMBER.false c.if-count-ge-MOST_OUTSTANDING.true) (omega arith)

pub returns : goal.returns
unfolding sender_at number_given
returns c =
    let a = c.args in
    let h = c.highest_of-highest in
    let n = c.count_of-count in
    let long = c.if-rec-lt-SENDER_SIZE.false in
    let last = c.put_head in
    taken_call_lem a.rec.now (send a.second) (h.result + 1) last.new.rec (ap (λ (k : ℕ). k + 1) h.ensures)
    (sent a.rec.now (λ i. (c.slice_known-1.given i).fits) long n.result h.result a.second n.ensures.0 h.ensures c.put_packet.new.rec last.new.rec c.if-count-ge-MOST_OUTSTANDING.false c.put_packet.ensures last.ensures)
    (send_0 a.rec.now h.result n.result h.ensures n.ensures.0 long a.second c.if-highest-ge-LAST_NUMBER.false c.if-count-ge-MOST_OUTSTANDING.false)
