-- Blocks that carry bytes, written and read back; of these the Ack and the fragments, by the names of their fields. Assumes nothing.
use Rattle.std.specs.Prelude.{Ok}
use mathlib.Core.Path.{◌≡◌, refl, sym, ap, ◌∙◌}
use mathlib.Core.Bool.{Bool, true, false, cond, ◌||◌}
use mathlib.Core.Logic.{⊎_elim}
use mathlib.Core.List.{List}
use Prim.Native.Nat.{ℕ, ◌+◌, ◌-◌, ◌*◌, ◌/◌, ◌%◌, ◌^◌, ◌≤◌, ◌<◌}
use native.Mathlib.Omega.{arith}
use lib.ListN.{length}
use lib.Dec.{leb, eqb}
use borrow.Author.Tests.{leb-true, eq-eqb, lt-ltb}
use Rattle.wire.proofs.Tests.{and_both, or_either}
use Rattle.wire.specs.Parts.{part}
use Rattle.blocks.specs.declared.Part.{Part}
use Rattle.blocks.specs.Layout.{sum, fits, eight}
use Rattle.blocks.specs.Table.{look, widths, after_fields, typed, field_length, carries}
use Rattle.blocks.specs.Names.{message_fields, follow_on_fields, ack_fields}
use Rattle.blocks.specs.Extent.{between, is_i2np_type}
use Rattle.blocks.specs.Reading.{bytes_at, bytes_after, block_read, read_at}
use Rattle.blocks.specs.Writing.{carried_bytes, size_of, is_proper, writing, room_after}
use Rattle.blocks.specs.Claims.{own_fields}
use Rattle.blocks.proofs.Answers.{carried_size, is_length}
use Rattle.blocks.proofs.RoundTrip.{write_then_read}

-- ---- any block that carries bytes

module _ (kind : ℕ) (fields body room : List ℕ) (c : carries (after_fields kind) ≡ true) where
  carried : carried_bytes kind body ≡ body
  unfolding carried_bytes
  carried = rw c

  size : size_of kind body ≡ field_length kind + length body
  size = carried_size kind body c

  shown : bytes_after kind 3 (size_of kind body) ≡ bytes_at (3 + field_length kind) (length body)
  unfolding bytes_after
  shown =
      let n : size_of kind body - field_length kind ≡ length body = omega (arith, size) in
      rw (c, n)

  carried_written : is_proper kind fields (length body) ≡ true → field_length kind + length body ≤ 65535 → 3 + (field_length kind + length body) ≤ length room
      → writing kind fields body (length room) ≡ Ok (3 + (field_length kind + length body))
  carried_written p small big =
      is_length kind fields body room p (omega (arith, size)) (omega (arith, size)) ∙ ap (λ (n : ℕ). Ok (3 + n)) size

  carried_read : (n : ℕ) → kind < 256 → writing kind fields body (length room) ≡ Ok n
      → (read_at (room_after kind fields body room) 0 ≡ block_read kind (field_length kind + length body) n (own_fields kind fields) (bytes_at (3 + field_length kind) (length body)))
      × (part (room_after kind fields body room) (3 + field_length kind) (length body) ≡ body)
  carried_read n h w =
      let z = write_then_read kind fields body room n h w in (
        z.0 ∙ ap (λ (p : Part). block_read kind (size_of kind body) n (own_fields kind fields) p) shown ∙ ap (λ (m : ℕ). block_read kind m n (own_fields kind fields) (bytes_at (3 + field_length kind) (length body))) size,
        sym (ap (λ (l : List ℕ). part (room_after kind fields body room) (3 + field_length kind) (length l)) carried) ∙ z.1 ∙ carried,
      )

-- ---- an Ack of whole pairs

pub ack_fits : (t n : ℕ) → t < 256 ^ 4 → n < 256 → fits (widths 12) (ack_fields t n) ≡ true
unfolding fits widths look eight
ack_fits t n h g = rw (lt-ltb t (256 ^ 4) h, lt-ltb n 256 g)

pub ack_proper : (f body : List ℕ) → fits (widths 12) f ≡ true → length body % 2 ≡ 0 → is_proper 12 f (length body) ≡ true
unfolding is_proper after_fields typed look
ack_proper f body h even = rw (h, eq-eqb (length body % 2) 0 even)

pub ack_size : (body : List ℕ) → size_of 12 body ≡ 5 + length body
unfolding size_of field_length carried_bytes widths after_fields look sum
ack_size body = refl

module _ (t n : ℕ) (body room : List ℕ) where
  pub ack_written : fits (widths 12) (ack_fields t n) ≡ true → length body % 2 ≡ 0 → length body ≤ 254 → 8 + length body ≤ length room
      → writing 12 (ack_fields t n) body (length room) ≡ Ok (8 + length body)
  unfolding field_length widths after_fields look sum
  ack_written h even few big =
      let e : 3 + (5 + length body) ≡ 8 + length body = omega arith in
      carried_written 12 (ack_fields t n) body room refl (ack_proper (ack_fields t n) body h even) (omega arith) (omega arith) ∙ ap Ok e

  pub ack_read : (m : ℕ) → writing 12 (ack_fields t n) body (length room) ≡ Ok m
      → (read_at (room_after 12 (ack_fields t n) body room) 0 ≡ block_read 12 (5 + length body) m (ack_fields t n) (bytes_at 8 (length body)))
      × (part (room_after 12 (ack_fields t n) body room) 8 (length body) ≡ body)
  unfolding own_fields eight field_length widths after_fields look sum
  ack_read m w = carried_read 12 (ack_fields t n) body room refl m (omega arith) w

-- ---- a first fragment of a listed type, not empty

-- a listed type is a byte
listed_byte : (k : ℕ) → is_i2np_type k ≡ true → k < 256
unfolding is_i2np_type
listed_byte k e =
    ⊎_elim (λ x. ⊎_elim (upper 1 3 (omega arith)) (upper 10 11 (omega arith)) (or_either (between 1 3 k) (between 10 11 k) x)) (upper 18 26 (omega arith))
    (or_either (between 1 3 k || between 10 11 k) (between 18 26 k) e)
  where
    upper : (lo hi : ℕ) → hi < 256 → between lo hi k ≡ true → k < 256
    upper lo hi h b = let n = leb-true k hi (and_both (leb lo k) (leb k hi) b).1 in omega (arith, n)

pub first_back : (k i x : ℕ) (body room : List ℕ) → is_i2np_type k ≡ true → i < 256 ^ 4 → x < 256 ^ 4 → 1 ≤ length body → length body ≤ 1500 → 12 + length body ≤ length room
    → (read_at (room_after 4 (message_fields k i x) body room) 0 ≡ block_read 4 (9 + length body) (3 + (9 + length body)) (message_fields k i x) (bytes_at 12 (length body)))
    × (part (room_after 4 (message_fields k i x) body room) 12 (length body) ≡ body)
unfolding is_proper fits own_fields eight field_length widths after_fields typed look sum
first_back k i x body room l hi hx some few big =
    carried_read 4 (message_fields k i x) body room refl _ (omega arith)
    (carried_written 4 (message_fields k i x) body room refl
    (rw (lt-ltb k 256 (listed_byte k l), lt-ltb i (256 ^ 4) hi, lt-ltb x (256 ^ 4) hx, lt-ltb 0 (length body) (omega arith), l)) (omega arith) (omega arith))

-- ---- a follow-on fragment of a number up to 127, not empty

-- number and mark, from their byte
pub number_and_mark : (n : ℕ) (l : Bool) → ((n * 2 + cond l 1 0) / 2 ≡ n) × (eqb ((n * 2 + cond l 1 0) % 2) 1 ≡ l)
number_and_mark n true =
    let q : (n * 2 + 1) / 2 ≡ n = omega arith in
    let r : (n * 2 + 1) % 2 ≡ 1 = omega arith in
    (q, rw r)
number_and_mark n false =
    let q : (n * 2 + 0) / 2 ≡ n = omega arith in
    let r : (n * 2 + 0) % 2 ≡ 0 = omega arith in
    (q, rw r)

a_byte : (n : ℕ) (l : Bool) → n ≤ 127 → n * 2 + cond l 1 0 < 256
a_byte n true h = omega arith
a_byte n false h = omega arith

pub follow_on_back : (n : ℕ) (l : Bool) (i : ℕ) (body room : List ℕ) → n ≤ 127 → i < 256 ^ 4 → 1 ≤ length body → length body ≤ 1500 → 8 + length body ≤ length room
    → (read_at (room_after 5 (follow_on_fields n l i) body room) 0 ≡ block_read 5 (5 + length body) (3 + (5 + length body)) (follow_on_fields n l i) (bytes_at 8 (length body)))
    × (part (room_after 5 (follow_on_fields n l i) body room) 8 (length body) ≡ body)
unfolding is_proper fits own_fields eight field_length widths after_fields typed look sum
follow_on_back n l i body room h hi some few big =
    carried_read 5 (follow_on_fields n l i) body room refl _ (omega arith)
    (carried_written 5 (follow_on_fields n l i) body room refl (rw (lt-ltb (n * 2 + cond l 1 0) 256 (a_byte n l h), lt-ltb i (256 ^ 4) hi, lt-ltb 0 (length body) (omega arith))) (omega arith) (omega arith))
