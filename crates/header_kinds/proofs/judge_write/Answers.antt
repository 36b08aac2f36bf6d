use Rattle.header_kinds.proofs.Types.{type_known, type_unknown, handed_on}
use Rattle.header.proofs.Refusals.{type_first_written, number_0, in_nibbles, write_judged}
use borrow.Author.Tests.{lt-ltb, le-ltb, ne_eqb}
use Rattle.header_kinds.proofs.judge_write.Goals as goal

pub returns-in_err-kind : goal.returns-in_err-kind
returns-in_err-kind c =
    let u = type_unknown _ _ c.in_err-kind.ensures in
    rw (handed_on _ c.in_err-kind.field-0.0 c.from_residual.ensures.1, type_first_written c.args.f c.args.n u.1, u.0)

pub returns-then-not-takes_version : goal.returns-then-not-takes_version
returns-then-not-takes_version c =
    rw (write_judged c.args.f c.args.n c.takes_version.result c.are_nibbles-nibbles.result (type_known _ _ c.in_ok-kind.ensures) c.takes_version.ensures c.are_nibbles-nibbles.ensures, c.if-not-takes_version.true)

pub returns-then-f-ne0 : goal.returns-then-f-ne0
returns-then-f-ne0 c =
    rw (
      write_judged c.args.f c.args.n c.takes_version.result c.are_nibbles-nibbles.result (type_known _ _ c.in_ok-kind.ensures) c.takes_version.ensures c.are_nibbles-nibbles.ensures,
      c.if-not-takes_version.false,
      ← c.is_confirmed-confirmed.ensures,
      c.if-confirmed.true,
      ne_eqb _ _ c.if-f-ne0.true,
    )

pub returns-then-not-nibbles : goal.returns-then-not-nibbles
returns-then-not-nibbles c =
    rw (
      write_judged c.args.f c.args.n c.takes_version.result c.are_nibbles-nibbles.result (type_known _ _ c.in_ok-kind.ensures) c.takes_version.ensures c.are_nibbles-nibbles.ensures,
      c.if-not-takes_version.false,
      ← c.is_confirmed-confirmed.ensures,
      number_0 c.else-confirmed.either,
      c.if-confirmed-2.true,
      c.if-not-nibbles.true,
    )

pub returns-then-n-need : goal.returns-then-n-need
returns-then-n-need c =
    rw (
      write_judged c.args.f c.args.n c.takes_version.result c.are_nibbles-nibbles.result (type_known _ _ c.in_ok-kind.ensures) c.takes_version.ensures c.are_nibbles-nibbles.ensures,
      c.if-not-takes_version.false,
      ← c.is_confirmed-confirmed.ensures,
      number_0 c.else-confirmed.either,
      in_nibbles c.else-confirmed-2.either,
      ← c.need.ensures,
      lt-ltb _ _ c.if-n-need.true,
    )

pub returns : goal.returns
returns c =
    let k = type_known _ _ c.in_ok-kind.ensures in
    rw (
      write_judged c.args.f c.args.n c.takes_version.result c.are_nibbles-nibbles.result k c.takes_version.ensures c.are_nibbles-nibbles.ensures,
      c.if-not-takes_version.false,
      ← c.is_confirmed-confirmed.ensures,
      number_0 c.else-confirmed.either,
      in_nibbles c.else-confirmed-2.either,
      ← c.need.ensures,
      le-ltb _ _ c.if-n-need.false,
      k.0,
    )
