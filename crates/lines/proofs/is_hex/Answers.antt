use Rattle.std.proofs.Common.{◌≡◌, arith, sym, ap, ◌∙◌, Bool, true, false, ◌&&◌, ◌<◌, ◌-◌, length, get_or, take, drop}
use lib.Dec.{ltb}
use borrow.Author.Tests.{lt-ltb, le-ltb}
use Rattle.std.proofs.lemmas.Grind.{common_steps}
use Rattle.lines.specs.Digits.{pair_of, pairs_of, all_bytes}
use Rattle.lines.proofs.Hex.{pairs_step, pairs_end}
use Rattle.lines.proofs.is_hex.Goals as goal

pub returns-then-is_none : goal.returns-then-is_none
returns-then-is_none c =
    let rest = c.loop-rest.rest.now in
    let p = pair_of (get_or rest 0 0) (get_or rest 1 0) in
    let e : p ≡ 256 = grind (arith, common_steps, c.pair.ensures) in
    let step : all_bytes (pairs_of rest) ≡ (ltb p 256 && all_bytes (pairs_of (take (length rest - 2) (drop 2 rest)))) = pairs_step rest (omega arith) in
    let f : ltb p 256 ≡ false = le-ltb p 256 (omega arith) in
    sym (c.loop-rest.invariant ∙ step ∙ ap (λ (b : Bool). b && all_bytes (pairs_of (take (length rest - 2) (drop 2 rest)))) f)

pub loop-rest-preserved : goal.loop-rest-preserved
loop-rest-preserved c =
    let rest = c.loop-rest.rest.now in
    let p = pair_of (get_or rest 0 0) (get_or rest 1 0) in
    let e : p < 256 = grind (arith, common_steps, c.pair.ensures) in
    let step : all_bytes (pairs_of rest) ≡ (ltb p 256 && all_bytes (pairs_of (take (length rest - 2) (drop 2 rest)))) = pairs_step rest (omega arith) in
    let f : ltb p 256 ≡ true = lt-ltb p 256 e in
    c.loop-rest.invariant ∙ step ∙ ap (λ (b : Bool). b && all_bytes (pairs_of (take (length rest - 2) (drop 2 rest)))) f

pub returns : goal.returns
returns c = c.is_empty.ensures ∙ pairs_end c.loop-rest.rest.now (omega arith) ∙ sym c.loop-rest.invariant
