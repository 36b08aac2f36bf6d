use mathlib.Core.Path.{sym, ap, ◌∙◌}
use mathlib.Core.Bool.{Bool, cond}
use Prim.Native.Nat.{ℕ, ◌+◌, ◌-◌}
use Rattle.blocks.specs.Table.{field_length}
use Rattle.blocks.specs.Reading.{bytes_at, bytes_after}
use Rattle.blocks_reader.proofs.bytes_after.Goals as goal

pub returns-then-carries_bytes : goal.returns-then-carries_bytes
unfolding bytes_after
returns-then-carries_bytes c = let a = c.args in ap (λ (n : ℕ). bytes_at (a.body + n) (a.taken - n)) c.length-n.ensures.0 ∙ sym (ap (λ (t : Bool). cond t (bytes_at (a.body + field_length a.row.kind) (a.taken - field_length a.row.kind)) (bytes_at 0 0)) (sym c.carries_bytes.ensures ∙ c.if-carries_bytes.true))

pub returns : goal.returns
unfolding bytes_after
returns c = let a = c.args in sym (ap (λ (t : Bool). cond t (bytes_at (a.body + field_length a.row.kind) (a.taken - field_length a.row.kind)) (bytes_at 0 0)) (sym c.carries_bytes.ensures ∙ c.if-carries_bytes.false))
