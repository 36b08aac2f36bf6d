use native.Mathlib.Omega.{arith}
use Rattle.reassembly.specs.Calls.{lent, after, bare}
use Rattle.reassembly.proofs.Branches.{full_count, full_slots, opened_57, opened_52, opened_in_lem}
use Rattle.reassembly_taking.proofs.open.Goals as goal

pub returns-then-remembers : goal.returns-then-remembers
returns-then-remembers c =
    let a = c.args in
    λ out. opened_57 a.rec.now a.room.now out a.piece.label a.second a.piece.bytes.now c.remembers.result c.remembers.ensures c.if-remembers.true

pub returns-then-n-ge4 : goal.returns-then-n-ge4
returns-then-n-ge4 c =
    let a = c.args in
    λ out. opened_52 a.rec.now a.room.now out a.piece.label a.second a.piece.bytes.now c.remembers.result c.remembers.ensures c.if-remembers.false (full_count a.rec.now (omega (arith, c.open_count-n.ensures, c.if-n-ge4.true)))

pub returns-in_default : goal.returns-in_default
returns-in_default c =
    let a = c.args in
    λ out. opened_52 a.rec.now a.room.now out a.piece.label a.second a.piece.bytes.now c.remembers.result c.remembers.ensures c.if-remembers.false (full_slots a.rec.now (omega (arith, c.in_default.ensures.slot)))

pub returns : goal.returns
returns c =
    let a = c.args in
    λ out. opened_in_lem a.rec.now a.room.now out a.piece.label a.second a.piece.bytes.now (after (bare 0) (lent c.open_in.new.rec c.open_in.new.room out)) c.save_open.new.rec c.remembers.result c.in-Some.i c.open_count-n.result c.remembers.ensures c.if-remembers.false c.open_count-n.ensures (omega (arith, c.if-n-ge4.false)) c.in-Some.ensures.slot c.in-Some.ensures.below (c.open_in.ensures out) c.save_open.ensures
