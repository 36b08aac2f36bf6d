use Rattle.std.specs.Prelude.{Ok}
use mathlib.Core.Path.{◌≡◌, sym, ap, ◌∙◌}
use mathlib.Core.Bool.{true}
use Prim.Native.Nat.{◌+◌, ◌-◌, ◌≤◌}
use native.Mathlib.Omega.{arith}
use lib.ListN.{length}
use Rattle.blocks.specs.Sound.{body_length, sound}
use Rattle.blocks.proofs.Soundness.{sound_taken}
use Rattle.blocks.proofs.Ends.{head_says, ended}
use Rattle.blocks_sound.proofs.quick_extent.Goals as goal

pub overflow_add-body : goal.overflow_add-body
overflow_add-body c = let a = c.args in omega (arith, (head_says a.payload.now a.at c.in-Some.head c.in-Some.ensures).there)

pub overflow_sub-payload : goal.overflow_sub-payload
overflow_sub-payload c = let a = c.args in omega (arith, (head_says a.payload.now a.at c.in-Some.head c.in-Some.ensures).there)

pub overflow_add-result : goal.overflow_add-result
overflow_add-result c = let a = c.args in omega (arith, c.if-payload-body.false, (head_says a.payload.now a.at c.in-Some.head c.in-Some.ensures).there)

pub is_sound-requires : goal.is_sound-requires
is_sound-requires c = let a = c.args in let h = c.in-Some.head in let n : c.body_length-need.result ≡ body_length h.kind c.from.result = c.body_length-need.ensures.0 ∙ ap (body_length h.kind) (sym c.from.ensures) in omega (arith, n, c.if-payload-body.false, (head_says a.payload.now a.at h c.in-Some.ensures).there)

pub returns-then-is_sound : goal.returns-then-is_sound
returns-then-is_sound c =
    let a = c.args in
    let h = c.in-Some.head in
    let n : c.body_length-need.result ≡ body_length h.kind h.size = c.body_length-need.ensures.0 in
    let fits : body_length h.kind h.size ≤ length a.payload.now - (a.at + 3) = omega (arith, n, c.if-payload-body.false) in
    let t : sound a.payload.now (a.at + 3) h.kind h.size ≡ true = ap (sound a.payload.now (a.at + 3) h.kind) (sym c.from.ensures) ∙ sym c.is_sound.ensures ∙ c.if-is_sound.true in
    ended a.payload.now a.at h (Ok c.body_length-need.result) (head_says a.payload.now a.at h c.in-Some.ensures) (sound_taken a.payload.now (a.at + 3) h.size h.kind fits t ∙ ap Ok (sym n))
