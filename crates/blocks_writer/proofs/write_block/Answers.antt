use Rattle.std.specs.Prelude.{Ok}
use mathlib.Core.Path.{refl, sym, ap, ◌∙◌}
use native.Mathlib.Omega.{arith}
use Prim.Native.Nat.{ℕ, ◌+◌}
use Rattle.blocks.proofs.Answers.{sized, answers, is_32, is_31, is_30, is_length}
use Rattle.blocks_writer.proofs.write_block.Goals as goal

pub returns-then-not-is_proper : goal.returns-then-not-is_proper
returns-then-not-is_proper c = let a = c.args in let k = c.of-row.result.kind in
    rw (← c.of-row.ensures.0) (answers _ _ _ _ (is_32 k a.fields a.body.now a.room.now (sym c.is_proper.ensures ∙ c.if-not-is_proper.true)) refl)

pub returns-then-size-gt65535 : goal.returns-then-size-gt65535
returns-then-size-gt65535 c = let a = c.args in let k = c.of-row.result.kind in
    let e = sized _ a.body.now c.length.ensures.0 c.carried.ensures.0 in
    rw (← c.of-row.ensures.0) (answers _ _ _ _ (is_31 k a.fields a.body.now a.room.now (sym c.is_proper.ensures ∙ c.if-not-is_proper.false) (omega (arith, e, c.if-size-gt65535.true))) refl)

pub returns-then-room-size : goal.returns-then-room-size
returns-then-room-size c = let a = c.args in let k = c.of-row.result.kind in
    let e = sized _ a.body.now c.length.ensures.0 c.carried.ensures.0 in
    rw (← c.of-row.ensures.0) (answers _ _ _ _ (is_30 k a.fields a.body.now a.room.now (sym c.is_proper.ensures ∙ c.if-not-is_proper.false) (omega (arith, e, c.if-size-gt65535.false)) (omega (arith, e, c.if-room-size.true))) refl)

pub put_block-requires : goal.put_block-requires
put_block-requires c = (sized _ _ c.length.ensures.0 c.carried.ensures.0, omega (arith, c.if-room-size.false))

pub returns : goal.returns
returns c = let a = c.args in let k = c.of-row.result.kind in
    let e = sized _ a.body.now c.length.ensures.0 c.carried.ensures.0 in
    let w = is_length k a.fields a.body.now a.room.now (sym c.is_proper.ensures ∙ c.if-not-is_proper.false) (omega (arith, e, c.if-size-gt65535.false)) (omega (arith, e, c.if-room-size.false)) in
    rw (← c.of-row.ensures.0) (answers _ _ _ _ (w ∙ sym (ap (λ (n : ℕ). Ok (3 + n)) e)) c.put_block.ensures)
