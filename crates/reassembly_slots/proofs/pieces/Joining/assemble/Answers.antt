use borrow.Author.Rules.{rules}
use native.Mathlib.Omega.{arith}
use mathlib.Core.List.{List}
use lib.ListN.{length}
use mathlib.Core.Path.{◌≡◌, refl, sym, ap, ◌∙◌}
use Prim.Native.Nat.{ℕ, ◌≤◌, ◌+◌}
use Rattle.wire.specs.Parts.{splice}
use Rattle.wire.proofs.Slices.{splice_none}
use Rattle.reassembly.specs.Joining.{piece_or, joined_below, message_of, outside_or, joins_outside}
use Rattle.reassembly.proofs.Joined.{more_length, more_mono, laid_turn, none_of}
use Rattle.reassembly_slots.proofs.pieces.Joining.assemble.Goals as goal

pub loop-k-init : goal.loop-k-init
loop-k-init c = (refl, refl, sym (splice_none c.args.out.now 0))

pub lay_down-at-requires : goal.lay_down-at-requires
unfolding message_of joins_outside
lay_down-at-requires c =
    let a = c.args in
    let j = a.self.now in
    let f : ℕ → List ℕ = piece_or j.rec.now a.room.now j.slot j.number j.bytes.now in
    let k = c.loop-k.k in
    let h : length (joined_below f (k + 1)) ≤ length a.out.now = omega (arith, more_mono f (k + 1) (a.last + 1) (omega arith)) in
    (search rules, omega arith, none_of (outside_or j.rec.now j.slot j.number) (a.last + 1) k (omega arith) c.requires.2, omega (arith, more_length f k))

pub loop-k-preserved : goal.loop-k-preserved
unfolding message_of
loop-k-preserved c =
    let a = c.args in
    let j = a.self.now in
    let f : ℕ → List ℕ = piece_or j.rec.now a.room.now j.slot j.number j.bytes.now in
    let k = c.loop-k.k in
    let h : length (joined_below f (k + 1)) ≤ length a.out.now = omega (arith, more_mono f (k + 1) (a.last + 1) (omega arith)) in
    (omega (arith, c.lay_down-at.ensures.0, more_length f k), search rules, cc (laid_turn f a.out.now k h))

pub returns : goal.returns
unfolding message_of
returns c =
    let a = c.args in
    let j = a.self.now in
    let f : ℕ → List ℕ = piece_or j.rec.now a.room.now j.slot j.number j.bytes.now in
    let e : c.loop-k.k ≡ a.last + 1 = omega arith in
    c.loop-k.invariant.2 ∙ ap (λ (z : ℕ). splice a.out.now 0 (joined_below f z)) e
