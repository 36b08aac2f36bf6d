use Rattle.std.proofs.Common.{ap, ◌∙◌, arith}
use lib.ListN.{length-take}
use Rattle.wire.specs.Parts.{splice}
use Rattle.wire.proofs.Lent.{lent_part}
use Rattle.sender.specs.Sizes.{sender_size}
use Rattle.sender.proofs.Lent.{cleared, new_short, new_long}
use Rattle.strawhub_senders.proofs.strawhub_sender_new.Goals as goal

pub returns-then-sender-lt-SENDER_SIZE : goal.returns-then-sender-lt-SENDER_SIZE
returns-then-sender-lt-SENDER_SIZE c =
    let short = new_short c.args.sender.now c.if-sender-lt-SENDER_SIZE.true in
    (c.from.ensures ∙ c.number.ensures ∙ short.0, short.1)

pub returns : goal.returns
returns c =
    let r = c.args.sender.now in
    new_long r _ c.if-sender-lt-SENDER_SIZE.false
    (lent_part r 0 sender_size c.fill.new.self (omega arith) (omega (arith, c.fill.ensures.len, length-take sender_size r))
    ∙ ap (splice r 0) (cleared r c.fill.new.self sender_size c.if-sender-lt-SENDER_SIZE.false (c.fill.ensures.after (λ y e. e))))
