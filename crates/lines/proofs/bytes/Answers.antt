use Rattle.std.proofs.Common.{◌≡◌, sym, ◌∙◌, true, false, arith, length, ◌/◌}
use Rattle.lines.specs.Digits.{pairs_of, all_bytes}
use Rattle.lines.proofs.Hex.{good_length, no_digits, no_room, as_bytes}
use Rattle.lines.proofs.bytes.Goals as goal

pub returns-then-not-is_hex : goal.returns-then-not-is_hex
returns-then-not-is_hex c =
    let a = c.args in
    let t : false ≡ all_bytes (pairs_of a.field.now) = sym c.if-not-is_hex.true ∙ c.is_hex.ensures in
    let both = no_digits a.field.now a.out.now t in
    record { count = both.0; bytes = both.1; room = tt }

pub returns-then-out-n : goal.returns-then-out-n
returns-then-out-n c =
    let a = c.args in
    let t : true ≡ all_bytes (pairs_of a.field.now) = sym c.if-not-is_hex.false ∙ c.is_hex.ensures in
    let both = no_room a.field.now a.out.now t (omega arith) in
    record { count = both.0; bytes = both.1; room = tt }

pub fill-requires : goal.fill-requires
fill-requires c =
    let a = c.args in
    let t : true ≡ all_bytes (pairs_of a.field.now) = sym c.if-not-is_hex.false ∙ c.is_hex.ensures in
    (sym t, omega (arith, good_length a.field.now (sym t)))

pub returns-clause-count : goal.returns-clause-count
returns-clause-count c =
    let a = c.args in
    let t : true ≡ all_bytes (pairs_of a.field.now) = sym c.if-not-is_hex.false ∙ c.is_hex.ensures in
    (as_bytes a.field.now a.out.now (length a.field.now / 2) c.fill.new.out t (omega arith) (omega arith) c.fill.ensures).0

pub returns-clause-bytes : goal.returns-clause-bytes
returns-clause-bytes c =
    let a = c.args in
    let t : true ≡ all_bytes (pairs_of a.field.now) = sym c.if-not-is_hex.false ∙ c.is_hex.ensures in
    (as_bytes a.field.now a.out.now (length a.field.now / 2) c.fill.new.out t (omega arith) (omega arith) c.fill.ensures).1
