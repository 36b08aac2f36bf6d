use mathlib.Core.Path.{refl, sym, ◌∙◌}
use Prim.Native.Nat.{◌+◌, ◌*◌, ◌≤◌}
use native.Mathlib.Omega.{arith}
use borrow.Author.Rules.{rules}
use Rattle.reassembly.specs.Sizes.{share_room, share_size}
use Rattle.reassembly.specs.Arrivals.{reply_of}
use Rattle.reassembly.proofs.GivenBack.{long_lent, fragment_59, fragment_58, fragment_back}
use Rattle.reassembly_store.proofs.arrive.Goals as goal

pub returns-then-is_short : goal.returns-then-is_short
returns-then-is_short c =
    let a = c.args in
    fragment_59 a.rec.now a.room.now a.out.now a.neighbour a.fragment a.second a.bytes.now (sym c.is_short.ensures ∙ c.if-is_short.true)

pub returns-then-neighbour-gt3 : goal.returns-then-neighbour-gt3
returns-then-neighbour-gt3 c =
    let a = c.args in
    fragment_58 a.rec.now a.room.now a.out.now a.neighbour a.fragment a.second a.bytes.now (sym c.is_short.ensures ∙ c.if-is_short.false) (omega (arith, c.if-neighbour-gt3.true))

pub slice_bounds-take-end : goal.slice_bounds-take-end
slice_bounds-take-end c =
    let a = c.args in
    let p = long_lent a.rec.now a.room.now (sym c.is_short.ensures ∙ c.if-is_short.false) in
    omega (arith, p.0, c.if-neighbour-gt3.false)

pub slice_bounds-take-end-2 : goal.slice_bounds-take-end-2
slice_bounds-take-end-2 c =
    let a = c.args in
    let p = long_lent a.rec.now a.room.now (sym c.is_short.ensures ∙ c.if-is_short.false) in
    omega (arith, p.1, c.if-neighbour-gt3.false)

pub returns : goal.returns
returns c =
    let a = c.args in
    let small : a.neighbour ≤ 3 = omega (arith, c.if-neighbour-gt3.false) in
    fragment_back a.rec.now a.room.now a.out.now a.neighbour (a.neighbour * share_size) (a.neighbour * share_size + share_size) (a.neighbour * share_room) (a.neighbour * share_room + share_room) (sym c.is_short.ensures ∙ c.if-is_short.false) small refl refl refl refl
    (reply_of c.take.result) c.take.new.rec c.take.new.room c.take.new.out (search rules) (search rules) a.fragment a.second a.bytes.now c.take.ensures
