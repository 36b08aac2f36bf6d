use Rattle.std.proofs.Common.{ℕ, ◌≤◌, sym, ap, ◌∙◌, arith}
use Rattle.wire.specs.Series.{series}
use Rattle.sender.specs.Sizes.{most_outstanding}
use Rattle.sender.specs.Sender.{place_of}
use Rattle.sender.specs.Recorded.{packet_at, sender_at}
use Rattle.sender.proofs.Counts.{count_most}
use Rattle.sender.proofs.Places.{search_start, search_found, search_turn, search_end}
use Rattle.sender_list.proofs.place_of.Goals as goal

pub loop-k-init : goal.loop-k-init
loop-k-init c = search_start c.args.n c.args.count (packet_at c.args.rec.now)

pub number_at-requires : goal.number_at-requires
number_at-requires c =
    let few : c.args.count ≤ most_outstanding = omega (arith, count_most c.args.rec.now) in
    (omega arith, omega arith)

pub returns-then-number_at-n : goal.returns-then-number_at-n
unfolding sender_at
returns-then-number_at-n c =
    let a = c.args in
    let l = c.loop-k in (
      search_found a.n a.count (packet_at a.rec.now) l.k c.number_at.result l.invariant (omega arith) c.number_at.ensures c.if-number_at-n.true
          ∙ ap (λ (m : ℕ). place_of a.n (series (packet_at a.rec.now) 0 m)) c.requires.1,
      omega arith,
    )

pub loop-k-preserved : goal.loop-k-preserved
loop-k-preserved c =
    let a = c.args in
    let l = c.loop-k in
    search_turn a.n a.count (packet_at a.rec.now) l.k c.number_at.result l.invariant (omega arith) c.number_at.ensures c.if-number_at-n.false

pub returns : goal.returns
unfolding sender_at
returns c =
    let a = c.args in
    let l = c.loop-k in
    sym (search_end a.n a.count (packet_at a.rec.now) l.k l.invariant (omega arith) ∙ ap (λ (m : ℕ). place_of a.n (series (packet_at a.rec.now) 0 m)) c.requires.1)
