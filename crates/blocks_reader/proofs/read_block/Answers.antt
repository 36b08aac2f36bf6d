use mathlib.Core.Path.{sym, ap, ◌∙◌}
use Prim.Native.Nat.{ℕ, ◌+◌, ◌-◌}
use native.Mathlib.Omega.{arith}
use Rattle.std.proofs.lemmas.Result.{err_from_is_err_and}
use Rattle.blocks.specs.Layout.{fields_at, eight}
use Rattle.blocks.specs.Table.{widths}
use Rattle.blocks.specs.Reading.{bytes_after, reading, read_at}
use Rattle.blocks.proofs.Ends.{bounded}
use Rattle.blocks.proofs.Answers.{reads_block}
use Rattle.blocks_reader.proofs.read_block.Goals as goal

pub returns-in_err-kind : goal.returns-in_err-kind
unfolding read_at
returns-in_err-kind c = let p = err_from_is_err_and c.from_residual.result c.from_residual.ensures.1 in rw (p.1, p.2) (ap (reading c.args.payload.now c.args.at) c.in_err-kind.ensures)

pub overflow_add-body : goal.overflow_add-body
overflow_add-body c = let d = bounded _ _ _ _ _ (sym c.in_ok-kind.ensures) in omega (arith, d.fields, d.inside)

pub fields_at-requires : goal.fields_at-requires
fields_at-requires c = let d = bounded _ _ _ _ _ (sym c.in_ok-kind.ensures) in rw c.of-row.ensures.0 (omega (arith, d.fields, d.inside))

pub overflow_sub-next : goal.overflow_sub-next
overflow_sub-next c = let d = bounded _ _ _ _ _ (sym c.in_ok-kind.ensures) in omega (arith, d.fields)

pub bytes_after-requires : goal.bytes_after-requires
bytes_after-requires c = let d = bounded _ _ _ _ _ (sym c.in_ok-kind.ensures) in rw c.of-row.ensures.0 (omega (arith, d.fields), omega (arith, d.fields, d.inside))

pub returns : goal.returns
returns c =
    let a = c.args in
    let k = c.of-row.ensures.0 in
    reads_block _ _ (sym c.in_ok-kind.ensures)
    (c.fields_at.ensures ∙ ap (λ (j : ℕ). eight (fields_at (widths j) a.payload.now (a.at + 3))) k)
    (c.bytes_after.ensures ∙ ap (λ (j : ℕ). bytes_after j (a.at + 3) (c.in_ok-kind.field-0.next - (a.at + 3))) k)
