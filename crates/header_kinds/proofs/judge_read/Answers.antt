use mathlib.Core.Path.{◌≡◌}
use mathlib.Core.Bool.{false, not, ◌&&◌}
use Prim.Native.Nat.{◌<◌}
use native.Mathlib.Omega.{arith}
use lib.Dec.{eqb, ltb}
use borrow.Author.Tests.{lt-ltb, ne_eqb}
use Rattle.header.proofs.Refusals.{type_first, long_enough, number_0, read_judged}
use Rattle.header_kinds.proofs.Types.{type_known, type_unknown, handed_on}
use Rattle.header_kinds.proofs.judge_read.Goals as goal

pub returns-in_err-kind : goal.returns-in_err-kind
returns-in_err-kind c =
    let u = type_unknown _ _ c.in_err-kind.ensures in
    rw (handed_on _ c.in_err-kind.field-0.0 c.from_residual.ensures.1, type_first c.args.head.now c.args.n u.1, u.0)

pub returns-then-not-takes_version : goal.returns-then-not-takes_version
returns-then-not-takes_version c =
    rw (read_judged c.args.head.now c.args.n c.takes_version.result (type_known _ _ c.in_ok-kind.ensures) c.takes_version.ensures, c.if-not-takes_version.true)

pub returns-then-n-lt-KEYED_SIZE : goal.returns-then-n-lt-KEYED_SIZE
returns-then-n-lt-KEYED_SIZE c =
    let short : c.args.n < 64 = omega (arith, c.if-n-lt-KEYED_SIZE.true) in
    rw (read_judged c.args.head.now c.args.n c.takes_version.result (type_known _ _ c.in_ok-kind.ensures) c.takes_version.ensures, c.if-not-takes_version.false, ← c.is_keyed.ensures, c.if-is_keyed.true, lt-ltb _ _ short)

pub returns-then-number-ne0 : goal.returns-then-number-ne0
returns-then-number-ne0 c =
    let long : (c.is_keyed.result && ltb c.args.n 64) ≡ false = long_enough c.else-is_keyed.either in
    let numbered : eqb c.be-number.result 0 ≡ false = ne_eqb _ _ c.if-number-ne0.true in
    rw (
      read_judged c.args.head.now c.args.n c.takes_version.result (type_known _ _ c.in_ok-kind.ensures) c.takes_version.ensures,
      c.if-not-takes_version.false,
      ← c.is_keyed.ensures,
      long,
      ← c.is_confirmed.ensures,
      c.if-is_confirmed.true,
      ← c.be-number.ensures,
      numbered,
    )

pub returns : goal.returns
returns c =
    let k = type_known _ _ c.in_ok-kind.ensures in
    let long : (c.is_keyed.result && ltb c.args.n 64) ≡ false = long_enough c.else-is_keyed.either in
    let no_number : (c.is_confirmed.result && not (eqb c.be-number.result 0)) ≡ false = number_0 c.else-is_confirmed.either in
    rw (
      read_judged c.args.head.now c.args.n c.takes_version.result k c.takes_version.ensures,
      c.if-not-takes_version.false,
      ← c.is_keyed.ensures,
      long,
      ← c.is_confirmed.ensures,
      ← c.be-number.ensures,
      no_number,
      k.0,
    )
