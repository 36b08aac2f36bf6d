use mathlib.Core.Path.{◌≡◌, refl}
use mathlib.Core.List.{[], List}
use Prim.Native.Nat.{ℕ}
use Rattle.std.specs.Prelude.{Err}
use Rattle.blocks.specs.declared.RefusedAt.{RefusedAt}
use Rattle.messages.specs.Delivery.{nothing, whole_at, message_in}
use Rattle.messages.specs.Answers.{received_as}
use Rattle.messages.proofs.message.Goals as goal

pub returns-in-Ok-Nothing : goal.returns-in-Ok-Nothing
unfolding nothing message_in
returns-in-Ok-Nothing c = let e = rw c.in-Ok-Nothing.is at c.in-Ok-Nothing.field-0-is in rw (c.in-Ok-Nothing.is, e) refl

pub returns-in-Ok-Whole : goal.returns-in-Ok-Whole
unfolding whole_at message_in
returns-in-Ok-Whole c = let e = rw c.in-Ok-Whole.is at c.in-Ok-Whole.field-0-is in rw (c.in-Ok-Whole.is, e) c.shown.ensures

pub returns-in-Ok-Rebuilt : goal.returns-in-Ok-Rebuilt
unfolding message_in
returns-in-Ok-Rebuilt c = let e = rw c.in-Ok-Rebuilt.is at c.in-Ok-Rebuilt.field-0-is in rw (c.in-Ok-Rebuilt.is, e) c.shown-in-Ok-Rebuilt.ensures

-- a refused block shows nothing
unshown : (payload out : List ℕ) (r : RefusedAt) → [] ≡ message_in payload out (received_as (Err r))
unfolding nothing message_in
unshown payload out r = refl

pub returns-in-Err : goal.returns-in-Err
returns-in-Err c = rw c.in-Err.is (unshown c.args.payload.now c.args.out.now c.in-Err.field-0)
