-- What a block's bytes are put from, what the writer answers in its order, and what the reader gives. Assumes nothing.
use Rattle.std.specs.Prelude.{Result, Ok, Err}
use mathlib.Core.Path.{◌≡◌, refl, sym, ap, ◌∙◌}
use mathlib.Core.Bool.{Bool, true, false, cond}
use mathlib.Core.List.{List, [], ◌∷◌, ◌++◌}
use Prim.Native.Nat.{ℕ, ◌+◌, ◌-◌, ◌≤◌, ◌<◌}
use native.Mathlib.Omega.{arith}
use lib.ListN.{length}
use borrow.Author.Tests.{lt-ltb, le-ltb}
use Rattle.wire.specs.Parts.{splice}
use Rattle.wire.specs.Numbers.{big_bytes}
use Rattle.wire.proofs.Parts.{puts}
use Rattle.wire.proofs.Numbers.{length_big}
use Rattle.blocks.specs.declared.Part.{Part}
use Rattle.blocks.specs.Outcomes as End
use Rattle.blocks.specs.Layout.{sum, fields_at, field_bytes, eight}
use Rattle.blocks.specs.Table.{widths, after_fields, field_length, carries}
use Rattle.blocks.specs.Extent.{extent_at}
use Rattle.blocks.specs.Reading.{block_read, bytes_after, reading, read_at}
use Rattle.blocks.specs.Writing.{carried_bytes, size_of, block_bytes, is_proper, writing, stored, room_after}
use Rattle.blocks.proofs.Laws.{length_bytes}

-- ---- a block's size and the bytes after its fields

module _ (kind : ℕ) (body : List ℕ) where
  pub sized : {x y : ℕ} → x ≡ field_length kind → y ≡ cond (carries (after_fields kind)) (length body) 0 → x + y ≡ size_of kind body
  unfolding size_of carried_bytes
  sized {x} {y} p q = ap (λ (z : ℕ). z + y) p ∙ ap (λ (z : ℕ). field_length kind + z) (q ∙ go (carries (after_fields kind)))
    where
      go : (t : Bool) → cond t (length body) 0 ≡ length (cond t body [])
      go true = refl
      go false = refl

  -- where bytes follow, they are the rest of it
  pub carried_size : carries (after_fields kind) ≡ true → size_of kind body ≡ field_length kind + length body
  unfolding size_of carried_bytes
  carried_size c = ap (λ (t : Bool). field_length kind + length (cond t body [])) c

module _ (kind : ℕ) (fields body room : List ℕ) where
  -- type, size, fields, bytes, one after the other
  pub block_put : {a b c d : List ℕ} {size : ℕ} {ws : List ℕ}
      → size ≡ size_of kind body → 3 + size ≤ length room → ws ≡ widths kind → length ws ≤ length fields
      → a ≡ splice room 0 (kind ∷ []) → b ≡ splice a 1 (big_bytes 2 size) → c ≡ splice b 3 (field_bytes ws fields) → d ≡ splice c (3 + field_length kind) (carried_bytes kind body)
      → d ≡ splice room 0 (block_bytes kind fields body)
  unfolding block_bytes size_of field_length
  block_put {a} {b} {c} {d} {size} {ws} es fit ew few p q r t =
      let lf : length (field_bytes ws fields) ≡ field_length kind = length_bytes ws fields few ∙ ap sum ew in
      let two = puts room 0 1 2 1 (kind ∷ []) (big_bytes 2 size) refl (length_big 2 size) refl (omega arith) p q in
      let three = puts room 0 3 (field_length kind) 3 ((kind ∷ []) ++ big_bytes 2 size) (field_bytes ws fields) two.1 lf refl (omega arith) two.0 r in
      let four = puts room 0 (3 + field_length kind) (length (carried_bytes kind body)) (3 + field_length kind) ((kind ∷ []) ++ big_bytes 2 size ++ field_bytes ws fields) (carried_bytes kind body) three.1 refl (omega arith) (omega arith) three.0 t in
      four.0
      ∙ ap (λ (z : ℕ). splice room 0 ((kind ∷ []) ++ big_bytes 2 z ++ field_bytes ws fields ++ carried_bytes kind body)) es
      ∙ ap (λ (us : List ℕ). splice room 0 ((kind ∷ []) ++ big_bytes 2 (size_of kind body) ++ field_bytes us fields ++ carried_bytes kind body)) ew

  -- ---- the answers

  -- an answer, and the room that goes with it
  pub answers : {w : Result ℕ ℕ} {m : List ℕ} → writing kind fields body (length room) ≡ w → m ≡ stored w kind fields body room → (w ≡ writing kind fields body (length room)) × (m ≡ room_after kind fields body room)
  unfolding room_after
  answers e q = (sym e, q ∙ sym (ap (λ (z : Result ℕ ℕ). stored z kind fields body room) e))

  pub is_32 : is_proper kind fields (length body) ≡ false → writing kind fields body (length room) ≡ Err 32
  unfolding writing
  is_32 h = rw h

  module _ (proper : is_proper kind fields (length body) ≡ true) where
    pub is_31 : 65535 < size_of kind body → writing kind fields body (length room) ≡ Err 31
    unfolding writing
    is_31 g = rw (proper, lt-ltb 65535 (size_of kind body) g)

    pub is_30 : size_of kind body ≤ 65535 → length room < 3 + size_of kind body → writing kind fields body (length room) ≡ Err 30
    unfolding writing
    is_30 g f = rw (proper, le-ltb 65535 (size_of kind body) g, lt-ltb (length room) (3 + size_of kind body) f)

    pub is_length : size_of kind body ≤ 65535 → 3 + size_of kind body ≤ length room → writing kind fields body (length room) ≡ Ok (3 + size_of kind body)
    unfolding writing
    is_length g f = rw (proper, le-ltb 65535 (size_of kind body) g, le-ltb (length room) (3 + size_of kind body) f)

-- ---- reading

module _ (s : List ℕ) (at : ℕ) where
  pub reads_block : {kind size next : ℕ} {fields : List ℕ} {bytes : Part} → extent_at s at ≡ End.Ends kind size next → fields ≡ eight (fields_at (widths kind) s (at + 3)) → bytes ≡ bytes_after kind (at + 3) (next - (at + 3))
      → block_read kind size next fields bytes ≡ read_at s at
  unfolding read_at
  reads_block {kind} {size} {next} e p q = (λ i. block_read kind size next (p i) (q i)) ∙ sym (ap (reading s at) e)
