use mathlib.Core.Path.{sym, ◌∙◌}
use Prim.Native.Nat.{◌+◌}
use native.Mathlib.Omega.{arith}
use borrow.Author.Rules.{rules}
use Rattle.reassembly.proofs.Joined.{measured}
use Rattle.reassembly.proofs.Branches.{finished_59, finished_short, finished_out}
use Rattle.reassembly_taking.proofs.finish.Goals as goal

pub returns-then-m : goal.returns-then-m
returns-then-m c =
    let a = c.args in
    let m = c.measure-m in
    finished_59 a.rec.now a.room.now a.out.now a.i a.piece.label a.g a.piece.bytes.now m.result.outside c.number.result c.from-last.result c.number.ensures.0 (search rules) m.ensures.0 c.if-m.true

pub returns-then-out-m : goal.returns-then-out-m
returns-then-out-m c =
    let a = c.args in
    let m = c.measure-m in
    let inside = c.if-m.false in
    let e = measured a.rec.now a.room.now a.i c.number.result a.piece.bytes.now (c.from-last.result + 1) m.result.outside m.result.size c.requires.1 c.requires.2 m.ensures.0 m.ensures.1 inside in
    finished_short a.rec.now a.room.now a.out.now a.i a.piece.label a.g a.piece.bytes.now m.result.outside m.result.size c.number.result c.from-last.result c.number.ensures.0 (search rules) m.ensures.0 inside e c.if-out-m.true

pub assemble-requires : goal.assemble-requires
assemble-requires c =
    let a = c.args in
    let m = c.measure-m in
    let inside = c.if-m.false in
    let e = measured a.rec.now a.room.now a.i c.number.result a.piece.bytes.now (c.from-last.result + 1) m.result.outside m.result.size c.requires.1 c.requires.2 m.ensures.0 m.ensures.1 inside in
    (search rules, search rules, sym m.ensures.0 ∙ inside, omega (arith, e))

pub returns : goal.returns
returns c =
    let a = c.args in
    let m = c.measure-m in
    let inside = c.if-m.false in
    let e = measured a.rec.now a.room.now a.i c.number.result a.piece.bytes.now (c.from-last.result + 1) m.result.outside m.result.size c.requires.1 c.requires.2 m.ensures.0 m.ensures.1 inside in
    finished_out a.rec.now a.room.now a.out.now a.i a.piece.label a.g a.piece.bytes.now m.result.outside m.result.size c.number.result c.from-last.result c.save_head.new.rec c.assemble.new.out c.no_head.result c.number.ensures.0 (search rules) m.ensures.0 inside e c.if-out-m.false c.assemble.ensures c.no_head.ensures c.save_head.ensures
