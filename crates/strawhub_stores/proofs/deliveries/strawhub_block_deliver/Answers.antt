use Rattle.reassembly.specs.Calls.{lent}
use Rattle.messages.specs.Answers.{received_as}
use Rattle.numbers_outcomes.proofs.DeliveryLaws.{call_told}
use Rattle.strawhub_stores.proofs.deliveries.strawhub_block_deliver.Goals as goal

pub returns : goal.returns
returns c =
    let a = c.args in
    call_told a.payload.now a.at (lent a.rec.now a.room.now a.out.now) (lent c.receive-answer.new.rec c.receive-answer.new.room c.receive-answer.new.out) a.neighbour a.second a.told.now c.tell.new.told (received_as c.receive-answer.result) c.tell.result c.receive-answer.ensures c.tell.ensures.0 c.tell.ensures.1
