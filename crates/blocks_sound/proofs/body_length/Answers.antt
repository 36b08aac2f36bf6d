use mathlib.Core.Path.{◌≡◌, sym, ap, ◌∙◌, subst}
use Prim.Native.Nat.{ℕ, ◌<◌}
use native.Mathlib.Omega.{arith}
use Rattle.blocks.specs.Extent.{at_least}
use Rattle.blocks.specs.Sound.{floor_of, counted, body_length}
use Rattle.blocks.proofs.Lengths.{high_length, at_least_below, floor_below}
use borrow.Author.Rules.{rules}
use Rattle.blocks_sound.proofs.body_length.Goals as goal

pub returns-then-kind-gt21 : goal.returns-then-kind-gt21
returns-then-kind-gt21 c = let a = c.args in (c.from.ensures ∙ sym (high_length a.kind a.size (omega arith) c.if-kind-gt21.true), rw c.from.ensures (search rules))

pub returns : goal.returns
unfolding body_length
returns c =
    let a = c.args in
    let z : c.counted.result ≡ counted a.kind a.size = c.counted.ensures.0 ∙ ap (counted a.kind) c.from-2.ensures in
    let e : c.at_least.result ≡ body_length a.kind a.size = c.at_least.ensures ∙ ap (λ (f : ℕ). at_least f c.counted.result) c.floor_of.ensures ∙ ap (at_least (floor_of a.kind)) z in
    let n : counted a.kind a.size < 65536 = subst (λ (m : ℕ). m < 65536) z (omega (arith, c.counted.ensures.1, c.from-2.ensures, c.ranges.size)) in
    (e, subst (λ (m : ℕ). m < 65536) (sym e) (at_least_below (floor_of a.kind) (counted a.kind a.size) 65536 (floor_below a.kind (omega arith)) n))
