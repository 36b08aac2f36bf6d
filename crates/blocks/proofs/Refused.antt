-- A refusal leaves the room that was lent as it was, and its number is one of 01's for the call. Assumes nothing.
use Rattle.std.specs.Prelude.{Result, Ok, Err}
use mathlib.Core.Path.{◌≡◌, sym, ap, ◌∙◌}
use mathlib.Core.Logic.{inl, inr}
use mathlib.Core.Bool.{Bool, true, false, cond}
use mathlib.Core.List.{List, [], ◌∷◌}
use Prim.Native.Nat.{ℕ, ◌+◌, ◌%◌, ◌≤◌}
use native.Mathlib.Omega.{arith}
use lib.Dec.{ltb}
use lib.ListN.{length}
use borrow.Author.Tests.{le-ltb}
use types.Run.{OneOf}
use Rattle.blocks.specs.Outcomes as End
use Rattle.blocks.specs.Layout.{fits}
use Rattle.blocks.specs.Table.{widths}
use Rattle.blocks.specs.Reading.{read_at}
use Rattle.blocks.specs.Writing.{size_of, is_proper, writing, stored, room_after}
pub use Rattle.blocks.proofs.Soundness.{unread}
use Rattle.blocks.proofs.Named.{ack_proper, ack_size}
use Rattle.blocks.proofs.Ends.{refused_at}
use Rattle.blocks.proofs.ReadExtents.{read_extent}

-- the room of a writer
pub write_leaves : (kind : ℕ) (fields body room : List ℕ) (m : ℕ) → writing kind fields body (length room) ≡ Err m → room_after kind fields body room ≡ room
unfolding room_after
write_leaves kind fields body room m e = ap (λ (z : Result ℕ ℕ). stored z kind fields body room) e

-- 30 to 32 where a block is not written
pub write_numbers : (kind : ℕ) (fields body : List ℕ) (room m : ℕ) → writing kind fields body room ≡ Err m → OneOf (30 ∷ 31 ∷ 32 ∷ []) m
unfolding writing
write_numbers kind fields body room m e = go (is_proper kind fields (length body)) (ltb 65535 (size_of kind body)) (ltb room (3 + size_of kind body)) e
  where
    go : (x y z : Bool) → cond x (cond y (Err 31) (cond z (Err 30) (Ok (3 + size_of kind body)))) (Err 32) ≡ Err m
        → OneOf (30 ∷ 31 ∷ 32 ∷ []) m
    go false y z q = inr (inr cc)
    go true true z q = inr (inl cc)
    go true false true q = inl cc
    go true false false q = let w : ◌≡◌ {A = ℕ} 0 1 = cc in absurd (omega arith)

-- an Ack of whole pairs, not too many, has 30 alone
pub ack_is_30 : (fields body : List ℕ) (room m : ℕ) → fits (widths 12) fields ≡ true → length body % 2 ≡ 0 → length body ≤ 254 → writing 12 fields body room ≡ Err m → m ≡ 30
unfolding writing
ack_is_30 fields body room m wide even few e = go (ltb room (3 + (5 + length body))) (sym tests ∙ e)
  where
    tests : writing 12 fields body room ≡ cond (ltb room (3 + (5 + length body))) (Err 30) (Ok (3 + (5 + length body)))
    tests = rw (ack_proper fields body wide even, ack_size body, le-ltb 65535 (5 + length body) (omega arith))

    go : (z : Bool) → cond z (Err 30) (Ok (3 + (5 + length body))) ≡ Err m → m ≡ 30
    go true q = cc
    go false q = let w : ◌≡◌ {A = ℕ} 0 1 = cc in absurd (omega arith)

-- the reader's refusal: the block's own place, and 1 to 9
pub read_numbers_lem : (s : List ℕ) (at m p : ℕ) → (read_at s at).extent ≡ End.Refused m p → (p ≡ at) × OneOf unread m
read_numbers_lem s at m p e = refused_at s at m p (sym (read_extent s at) ∙ e)
