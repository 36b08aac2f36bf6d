use mathlib.Core.Path.{refl, sym, ◌∙◌}
use native.Mathlib.Omega.{arith}
use Rattle.header_kinds.proofs.Types.{judged_taken, judged_refused, handed_on}
use Rattle.header.proofs.Calls.{write_refused, write_rooms, write_done}
use Rattle.header_packets.proofs.write.Goals as goal

pub returns-in_err-kind : goal.returns-in_err-kind
returns-in_err-kind c =
    let e = judged_refused _ _ _ c.in_err-kind.ensures in
    rw (handed_on _ c.in_err-kind.field-0.0 c.from_residual.ensures.1)
    (write_refused c.args.k1.now c.args.k2.now c.args.f c.args.pkt.now e.0 (λ z. e.1 (sym e.0 ∙ z)))

pub put_header-requires : goal.put_header-requires
put_header-requires c =
    let taken = judged_taken _ _ _ c.in_ok-kind.ensures in
    (omega (arith, write_rooms c.args.k1.now c.args.k2.now c.args.f c.args.pkt.now taken), taken.0)

pub mask-requires : goal.mask-requires
mask-requires c =
    omega (arith, write_rooms c.args.k1.now c.args.k2.now c.args.f c.args.pkt.now (refl, (judged_taken _ _ _ c.in_ok-kind.ensures).1))

pub returns : goal.returns
returns c = write_done c.args.k1.now c.args.k2.now c.args.f c.args.pkt.now (refl, (judged_taken _ _ _ c.in_ok-kind.ensures).1) c.put_header.ensures c.mask.ensures
