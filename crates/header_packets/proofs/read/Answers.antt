use mathlib.Core.Path.{refl, ◌∙◌}
use Rattle.wire.proofs.Parts.{part_is}
use Rattle.header_kinds.proofs.Types.{judged_taken, judged_refused, handed_on}
use Rattle.header.proofs.Calls.{read_short, read_refused_lem, unmask_room, type_left, read_header, header_front, type_front}
use borrow.Author.Rules.{rules}
use Rattle.header_packets.proofs.read.Goals as goal

pub returns-then-n-lt40 : goal.returns-then-n-lt40
returns-then-n-lt40 c = read_short c.args.k1.now c.args.k2.now c.args.pkt.now c.if-n-lt40.true

pub returns-in_err-kind : goal.returns-in_err-kind
returns-in_err-kind c =
    rw (handed_on _ c.in_err-kind.field-0.0 c.from_residual.ensures.1)
    (read_refused_lem c.args.k1.now c.args.k2.now c.args.pkt.now (search rules) c.front_of-head.ensures (judged_refused _ _ _ c.in_err-kind.ensures))

pub unmask-requires : goal.unmask-requires
unmask-requires c = (search rules, unmask_room c.args.k1.now c.args.k2.now c.args.pkt.now (search rules) c.front_of-head.ensures (refl, (judged_taken _ _ _ c.in_ok-kind.ensures).1))

pub header_at-requires : goal.header_at-requires
header_at-requires c =
    let first = rw c.unwrap-header.ensures at c.first_chunk.ensures.cases in
    let taken = judged_taken _ _ _ c.in_ok-kind.ensures in
    type_front c.unmask.new.pkt (first.same ∙ part_is c.unmask.new.pkt 0 32)
    (taken.0 ∙ type_left c.args.k1.now c.args.k2.now c.args.pkt.now (search rules) c.front_of-head.ensures (refl, taken.1) c.unmask.ensures)

pub returns : goal.returns
returns c =
    let first = rw c.unwrap-header.ensures at c.first_chunk.ensures.cases in
    read_header c.args.k1.now c.args.k2.now c.args.pkt.now (search rules) c.front_of-head.ensures (refl, (judged_taken _ _ _ c.in_ok-kind.ensures).1) c.unmask.ensures
    (header_front c.unmask.new.pkt (first.same ∙ part_is c.unmask.new.pkt 0 32) c.header_at.ensures)
