use mathlib.Core.Path.{ap, ◌∙◌}
use mathlib.Core.List.{List}
use Prim.Native.Nat.{ℕ}
use lib.ListN.{length}
use Rattle.blocks.specs.Writing.{writing, room_after}
use Rattle.blocks.specs.Numbers.{writing_by, room_by}
use Rattle.numbers_outcomes.specs.Outcomes.{write_outcome}
use Rattle.strawhub_blocks.proofs.block_writes.strawhub_block_write.Goals as goal

pub returns : goal.returns
unfolding writing_by room_by
returns c =
    let a = c.args in
    let f = c.as_fields.ensures in
    let w = c.write_block-answer.ensures in (
      c.outcome_of.ensures ∙ ap write_outcome (w.0 ∙ ap (λ (l : List ℕ). writing a.kind l a.bytes.now (length a.room.now)) f),
      w.1 ∙ ap (λ (l : List ℕ). room_after a.kind l a.bytes.now a.room.now) f,
    )
