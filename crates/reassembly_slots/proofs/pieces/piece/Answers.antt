use mathlib.Core.Path.{ap, ◌∙◌}
use mathlib.Core.List.{List}
use Prim.Native.Nat.{ℕ, ◌+◌, ◌-◌, ◌*◌, ◌≤◌}
use lib.ListN.{take, drop}
use Rattle.wire.specs.Parts.{part}
use Rattle.wire.proofs.Slices.{slice_is}
use Rattle.reassembly.specs.Sizes.{slot_size}
use Rattle.reassembly.specs.Record.{outside, room_of, piece_at}
use Rattle.reassembly.proofs.Joined.{inside_le}
use borrow.Author.Rules.{rules}
use Rattle.reassembly_slots.proofs.pieces.piece.Goals as goal

pub slice_bounds-result-end : goal.slice_bounds-result-end
slice_bounds-result-end c =
    let e = c.load_entry-e in
    let q : e.result.place + e.result.len ≤ slot_size = inside_le e.result (ap outside e.ensures ∙ c.requires.4) in
    search rules

pub returns : goal.returns
unfolding room_of piece_at
returns c =
    let a = c.args in
    let p = c.from-p.result in
    let n = c.from-n.result in
    let b : ℕ = a.i * slot_size in
    ap (λ (z : List ℕ). take (p + n - p) (drop p z)) (slice_is a.room.now b slot_size)
    ∙ slice_is (part a.room.now b slot_size) p n
    ∙ cc
