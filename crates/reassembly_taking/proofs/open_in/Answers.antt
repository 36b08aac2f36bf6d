use native.Mathlib.Omega.{arith}
use mathlib.Core.Path.{◌≡◌, refl, ap, ◌∙◌}
use Rattle.reassembly.specs.declared.Head.{Head}
use Rattle.reassembly.specs.Judge.{new_head, grown_by}
use Rattle.reassembly.proofs.Branches.{opened_kept}
use Rattle.reassembly_taking.proofs.open_in.Goals as goal

pub grown-g-requires : goal.grown-g-requires
unfolding new_head
grown-g-requires c =
    let z : c.new_head-h.result.total ≡ 0 = ap (λ (x : Head). x.total) c.new_head-h.ensures in
    omega arith

pub returns : goal.returns
returns c =
    let a = c.args in
    let p = a.piece in
    let g = c.grown-g.ensures ∙ ap (grown_by c.new_head-h.result p.label) c.len.ensures.0 in
    opened_kept a.rec.now a.room.now c.clear_entries.new.rec c.keep.new.rec c.keep.new.room a.i p.label.number a.second p.label c.new_head-h.result c.grown-g.result p.bytes.now c.clear_entries.ensures c.new_head-h.ensures g refl c.keep.ensures.rec_after c.keep.ensures.room_after
