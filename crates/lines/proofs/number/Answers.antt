use mathlib.Core.Bool.{false≢true}
use borrow.Author.Tests.{eq-eqb}
use Rattle.std.proofs.Common.{true, false, length, ◌≡◌, sym, ap, ◌∙◌, ℕ, ◌+◌, ◌*◌, arith, rules, get_or, drop}
use Rattle.lines.specs.Digits.{digit_of, number_from}
use Rattle.lines.proofs.Decimal.{number_refused, number_large, number_goes, number_end, number_none, number_some}
use Rattle.lines.proofs.number.Goals as goal

pub returns-then-is_empty : goal.returns-then-is_empty
returns-then-is_empty c = number_none c.args.field.now (search rules)

pub loop-b-init : goal.loop-b-init
loop-b-init c = record { fits = omega arith; value = number_some c.args.field.now (λ h. let e : false ≡ true = sym c.if-is_empty.false ∙ c.is_empty.ensures ∙ eq-eqb (length c.args.field.now) 0 h in false≢true e) }

pub returns-in_err-d : goal.returns-in_err-d
returns-in_err-d c =
    c.from_residual.ensures ∙ number_refused c.args.field.now c.loop-b.b-index c.loop-b.x (omega arith) (omega (arith, c.in_err-d.ensures.value)) ∙ sym c.loop-b.invariant.value

pub returns-then-d-gt9 : goal.returns-then-d-gt9
returns-then-d-gt9 c =
    number_refused c.args.field.now c.loop-b.b-index c.loop-b.x (omega arith) (omega (arith, c.in_ok-d.ensures.value)) ∙ sym c.loop-b.invariant.value

pub returns-in_err-checked_mul : goal.returns-in_err-checked_mul
returns-in_err-checked_mul c =
    c.from_residual-in_err-checked_mul.ensures ∙ number_large c.args.field.now c.loop-b.b-index c.loop-b.x (omega arith) (omega (arith, c.in_err-checked_mul.ensures)) ∙ sym c.loop-b.invariant.value

pub returns-in_err-x : goal.returns-in_err-x
returns-in_err-x c =
    c.from_residual-in_err-x.ensures ∙ number_large c.args.field.now c.loop-b.b-index c.loop-b.x (omega arith) (omega (arith, c.in_ok-d.ensures.value, c.in_ok-checked_mul.ensures, c.in_err-x.ensures)) ∙ sym c.loop-b.invariant.value

pub loop-b-preserved : goal.loop-b-preserved
loop-b-preserved c =
    let field = c.args.field.now in
    let i = c.loop-b.b-index in
    let x = c.loop-b.x in
    let d : digit_of (get_or field i 0) ≡ c.in_ok-d.d = sym c.in_ok-d.ensures.value in
    let e : c.in_ok-x.x ≡ x * 10 + digit_of (get_or field i 0) = omega (arith, d, c.in_ok-checked_mul.ensures, c.in_ok-x.ensures) in
    let step : number_from x (drop i field) ≡ number_from (x * 10 + digit_of (get_or field i 0)) (drop (i + 1) field) = number_goes field i x (omega arith) (omega (arith, d, c.if-d-gt9.false)) in
    record { fits = omega (arith, c.in_ok-x.ensures); value = c.loop-b.invariant.value ∙ step ∙ ap (λ (z : ℕ). number_from z (drop (i + 1) field)) (sym e) }

pub returns : goal.returns
returns c = number_end c.args.field.now c.loop-b.b-index c.loop-b.x (omega arith) c.loop-b.invariant.fits ∙ sym c.loop-b.invariant.value
