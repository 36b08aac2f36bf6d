use mathlib.Core.Path.{refl, sym, ap, ◌∙◌}
use lib.ListN.{length}
use native.Mathlib.Omega.{arith}
use Rattle.wire.specs.Parts.{splice}
use Rattle.wire.proofs.Lent.{lent_part}
use Rattle.header.specs.Kinds.{is_short}
use Rattle.header.proofs.Plain.{front_put, ids_put, plain_short, plain_long}
use borrow.Author.Rules.{rules}
use Rattle.header_packets.proofs.parts.put_header.Goals as goal

pub returns-then-is_short : goal.returns-then-is_short
returns-then-is_short c =
    let f = c.args.f in
    let p = c.args.pkt.now in
    let e = ap is_short (sym c.requires.1) ∙ sym c.is_short.ensures ∙ c.if-is_short.true in
    let last = c.copy_from_slice.ensures.after ∙ c.type_bytes-last.ensures in
    plain_short f p e (
    front_put f p (omega arith) c.put_le.ensures c.put_be.ensures refl refl
    (lent_part c.put_be.new.b 12 16 c.copy_from_slice.new.self (omega arith) (ap length last) ∙ ap (splice c.put_be.new.b 12) last)
    )

pub returns : goal.returns
returns c =
    let f = c.args.f in
    let p = c.args.pkt.now in
    let e = ap is_short (sym c.requires.1) ∙ sym c.is_short.ensures ∙ c.if-is_short.false in
    let last = c.copy_from_slice.ensures.after ∙ c.type_bytes-last.ensures in
    plain_long f p e (c.requires.0)
    (
    front_put f p (omega arith) c.put_le.ensures c.put_be.ensures refl refl
    (lent_part c.put_be.new.b 12 16 c.copy_from_slice.new.self (omega arith) (ap length last) ∙ ap (splice c.put_be.new.b 12) last)
    )
    (ids_put f _ (search rules) c.put_le-2.ensures c.put_le-3.ensures)
