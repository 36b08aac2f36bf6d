use mathlib.Core.Path.{sym, ap, ◌∙◌}
use borrow.Author.Rules.{rules}
use Rattle.reassembly.specs.Record.{outside}
use Rattle.reassembly.proofs.Branches.{compared_59, compared_again}
use Rattle.reassembly_taking.proofs.compare.Goals as goal

pub returns-then-outside : goal.returns-then-outside
returns-then-outside c =
    let a = c.args in
    compared_59 a.rec.now a.room.now a.i a.h a.piece.label a.piece.bytes.now c.number-k.result c.load_entry-e.result c.outside.result c.number-k.ensures.0 c.load_entry-e.ensures c.outside.ensures c.if-outside.true

pub piece-requires : goal.piece-requires
piece-requires c =
    (search rules, search rules, search rules, search rules, ap outside (sym c.load_entry-e.ensures) ∙ sym c.outside.ensures ∙ c.if-outside.false)

pub returns : goal.returns
returns c =
    let a = c.args in
    compared_again a.rec.now a.room.now a.i a.h a.piece.label a.piece.bytes.now c.number-k.result c.load_entry-e.result c.outside.result c.number-k.ensures.0 c.load_entry-e.ensures c.outside.ensures _ c.piece.result.now c.if-outside.false c.piece.ensures c.again.ensures
