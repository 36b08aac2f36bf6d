use mathlib.Core.Path.{refl}
use Rattle.reassembly.proofs.Arrivals.{refuses_by}
use Rattle.messages.specs.Delivery.{nothing, whole_at}
use Rattle.numbers_outcomes.specs.Deliveries.{delivery_outcome, delivery_numbers}
use Rattle.strawhub_stores.proofs.deliveries.tell.Goals as goal

pub returns-in-Ok-Nothing : goal.returns-in-Ok-Nothing
unfolding delivery_outcome delivery_numbers nothing
returns-in-Ok-Nothing c =
    let n = c.in-Ok-Nothing in
    let e = rw n.is at n.field-0-is in
    rw (n.is, e, c.done.ensures) (refl, refl)

pub returns-in-Ok-Whole : goal.returns-in-Ok-Whole
unfolding delivery_outcome delivery_numbers whole_at
returns-in-Ok-Whole c =
    let n = c.in-Ok-Whole in
    let e = rw n.is at n.field-0-is in
    rw (n.is, e, c.done-in-Ok-Whole.ensures, c.from.ensures, c.from-in-Ok-Whole.ensures, c.from-in-Ok-Whole-2.ensures) (refl, refl)

pub returns-in-Ok-Rebuilt : goal.returns-in-Ok-Rebuilt
unfolding delivery_outcome delivery_numbers
returns-in-Ok-Rebuilt c =
    let n = c.in-Ok-Rebuilt in
    let e = rw n.is at n.field-0-is in
    rw (n.is, e, c.from-in-Ok-Rebuilt.ensures, c.from-in-Ok-Rebuilt-2.ensures, c.from-in-Ok-Rebuilt-3.ensures) (refl, refl)

pub returns-in-Err : goal.returns-in-Err
unfolding delivery_outcome delivery_numbers nothing
returns-in-Err c =
    let r = c.in-Err.field-0.refusal in
    rw (c.in-Err.is, c.refused.ensures, (refuses_by r).0, (refuses_by r).1) (refl, refl)
