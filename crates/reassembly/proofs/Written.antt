-- What is read of a record and a room after a head, an entry or a piece was put. Assumes nothing.
use mathlib.Core.Path.{◌≡◌, refl, sym, ap, ap₂, ◌∙◌}
use mathlib.Core.Logic.{◌≢◌, ◌⊎◌, inl, inr}
use mathlib.Core.Bool.{Bool, true, false}
use mathlib.Core.List.{List, [], ◌∷◌, ◌++◌}
use Prim.Native.Nat.{ℕ, ◌+◌, ◌*◌, ◌/◌, ◌%◌, ◌≤◌, ◌<◌}
use native.Mathlib.Omega.{arith}
use lib.Dec.{ltb}
use lib.ListN.{length, replicate, length-replicate, length-append}
use borrow.Author.Tests.{ltb-true, ltb-false}
use Rattle.wire.specs.Parts.{part, splice}
use Rattle.wire.specs.Numbers.{little}
use Rattle.wire.proofs.Parts.{part_same, part_other, part_within, part_inside, length_splice}
use Rattle.wire.proofs.Numbers.{length_little, little_two, little_four, little_eight, little_back, little_at_reads}
use Rattle.wire.proofs.Slices.{part_alike}
use Rattle.wire.proofs.Zeros.{little_at_zeros}
use Rattle.reassembly.specs.Sizes.{slot_size, share_room, head_size, tables_at, entry_size, table_size, share_size}
use Rattle.reassembly.specs.declared.Head.{Head}
use Rattle.reassembly.specs.declared.Entry.{Entry}
use Rattle.reassembly.specs.Record.{entry_place, head_of, head_bytes, entry_of, entry_bytes, head_at, with_head, entry_at, with_entry, cleared, room_of}
use Rattle.reassembly.specs.Calls.{kept_room}
use Rattle.reassembly.proofs.Fields.{HeadFits, four, head_row, entry_row, head_written, entry_written}

-- two numbers that differ are one before the other
pub apart : (i j : ℕ) → i ≢ j → (i < j) ⊎ (j < i)
apart i j q = go (ltb i j) refl
  where
    go : (b : Bool) → ltb i j ≡ b → (i < j) ⊎ (j < i)
    go true e = inl (ltb-true i j e)
    go false e = let le : j ≤ i = ltb-false i j e in inr (lt le)
      where
        lt : j ≤ i → j < i
        lt le = let ne : i ≡ j → ⊥ = q in omega arith

pub head_wide : (h : Head) → length (head_bytes h) ≡ head_size
unfolding head_bytes
head_wide h = simp (length-append, length_little) refl

pub entry_wide : (e : Entry) → length (entry_bytes e) ≡ 4
unfolding entry_bytes
entry_wide e = simp (length-append, length_little) refl

-- a head and an entry that were put are read back, each number from its bytes as they are written out
little2 : (x : ℕ) → x < 65536 → little (x % 256 ∷ x / 256 ∷ []) ≡ x
little2 x h = ap little (sym (little_two x h)) ∙ little_back 2 x h

little4 : (x : ℕ) → x < 4294967296 → little (four x) ≡ x
little4 x h = ap little (sym (little_four x h)) ∙ little_back 4 x h

little8 : (x : ℕ) → x < 18446744073709551616 → little (four (x % 4294967296) ++ four (x / 4294967296)) ≡ x
little8 x h =
    ap little
    (ap₂ (λ (a b : List ℕ). a ++ b) (sym (little_four (x % 4294967296) (omega arith))) (sym (little_four (x / 4294967296) (omega arith))) ∙ little_eight x)
    ∙ little_back 8 x h

pub head_back : (h : Head) → HeadFits h → head_of (head_bytes h) ≡ h
unfolding head_of
head_back h f =
    ap head_of (head_written h f)
    ∙ (λ j. record {
      id = (little_at_reads 3 (head_row h) 0 (omega arith) ∙ little4 h.id f.id) j;
      opened = (little_at_reads 7 (head_row h) 4 (omega arith) ∙ little8 h.opened f.opened) j;
      expires = (little_at_reads 3 (head_row h) 12 (omega arith) ∙ little4 h.expires f.expires) j;
      total = (little_at_reads 1 (head_row h) 16 (omega arith) ∙ little2 h.total f.total) j;
      count = h.count;
      last = h.last;
      top = h.top;
      kind = h.kind;
    })

pub entry_back : (e : Entry) → e.place < 65536 → e.len < 65536 → entry_of (entry_bytes e) ≡ e
unfolding entry_of
entry_back e p l =
    ap entry_of (entry_written e p l)
    ∙ (λ j. record {
      place = (little_at_reads 1 (entry_row e) 0 (omega arith) ∙ little2 e.place p) j;
      len = (little_at_reads 1 (entry_row e) 2 (omega arith) ∙ little2 e.len l) j;
    })

-- zeros
abbrev pub no_entry : Entry
no_entry = record { place = 0; len = 0 }

entry_zeros : entry_of (replicate 4 0) ≡ no_entry
unfolding entry_of
entry_zeros = λ j. record { place = little_at_zeros 4 2 0 (omega arith) j; len = little_at_zeros 4 2 2 (omega arith) j }

module _ (rec : List ℕ) (long : share_size ≤ length rec) (i : ℕ) (hi : i < 4) where
  module _ (h : Head) where
    fits_head : i * head_size + length (head_bytes h) ≤ length rec
    fits_head = omega (arith, head_wide h)

    pub length_head : length (with_head rec i h) ≡ length rec
    unfolding with_head
    length_head = length_splice rec (i * head_size) (head_bytes h) fits_head

    pub head_same : HeadFits h → head_at (with_head rec i h) i ≡ h
    unfolding with_head head_at
    head_same f =
        ap (λ (n : ℕ). head_of (part (splice rec (i * head_size) (head_bytes h)) (i * head_size) n)) (sym (head_wide h))
        ∙ ap head_of (part_same rec (i * head_size) (head_bytes h) fits_head)
        ∙ head_back h f

    pub head_other : (j : ℕ) → j ≢ i → head_at (with_head rec i h) j ≡ head_at rec j
    unfolding with_head head_at
    head_other j q = ap head_of (part_other rec (i * head_size) (head_bytes h) fits_head (j * head_size) head_size (side (apart j i q)))
      where
        side : (j < i) ⊎ (i < j) → (j * head_size + head_size ≤ i * head_size) ⊎ (i * head_size + length (head_bytes h) ≤ j * head_size)
        side (inl a) = inl (omega arith)
        side (inr a) = inr (omega (arith, head_wide h))

    pub head_entry : (j k : ℕ) → entry_at (with_head rec i h) j k ≡ entry_at rec j k
    unfolding with_head entry_at
    head_entry j k = ap entry_of (part_other rec (i * head_size) (head_bytes h) fits_head (entry_place j k) entry_size (inr (omega (arith, head_wide h))))

  module _ (m : ℕ) (hm : m < 128) (e : Entry) where
    fits_entry : entry_place i m + length (entry_bytes e) ≤ length rec
    fits_entry = omega (arith, entry_wide e)

    pub length_entry : length (with_entry rec i m e) ≡ length rec
    unfolding with_entry
    length_entry = length_splice rec (entry_place i m) (entry_bytes e) fits_entry

    pub entry_same : e.place < 65536 → e.len < 65536 → entry_at (with_entry rec i m e) i m ≡ e
    unfolding with_entry entry_at
    entry_same p l =
        ap (λ (n : ℕ). entry_of (part (splice rec (entry_place i m) (entry_bytes e)) (entry_place i m) n)) (sym (entry_wide e))
        ∙ ap entry_of (part_same rec (entry_place i m) (entry_bytes e) fits_entry)
        ∙ entry_back e p l

    pub entry_beside : (k : ℕ) → k ≢ m → entry_at (with_entry rec i m e) i k ≡ entry_at rec i k
    unfolding with_entry entry_at
    entry_beside k q = ap entry_of (part_other rec (entry_place i m) (entry_bytes e) fits_entry (entry_place i k) entry_size (side (apart k m q)))
      where
        side : (k < m) ⊎ (m < k) → (entry_place i k + entry_size ≤ entry_place i m) ⊎ (entry_place i m + length (entry_bytes e) ≤ entry_place i k)
        side (inl a) = inl (omega arith)
        side (inr a) = inr (omega (arith, entry_wide e))

    pub entry_other : (j k : ℕ) → j ≢ i → k < 128 → entry_at (with_entry rec i m e) j k ≡ entry_at rec j k
    unfolding with_entry entry_at
    entry_other j k q hk = ap entry_of (part_other rec (entry_place i m) (entry_bytes e) fits_entry (entry_place j k) entry_size (side (apart j i q)))
      where
        side : (j < i) ⊎ (i < j) → (entry_place j k + entry_size ≤ entry_place i m) ⊎ (entry_place i m + length (entry_bytes e) ≤ entry_place j k)
        side (inl a) = inl (omega arith)
        side (inr a) = inr (omega (arith, entry_wide e))

    pub entry_head : (j : ℕ) → j < 4 → head_at (with_entry rec i m e) j ≡ head_at rec j
    unfolding with_entry head_at
    entry_head j hj = ap head_of (part_other rec (entry_place i m) (entry_bytes e) fits_entry (j * head_size) head_size (inl (omega arith)))

  zeros : List ℕ
  zeros = replicate table_size 0

  wide_zeros : length zeros ≡ table_size
  unfolding zeros
  wide_zeros = length-replicate {A = ℕ} table_size 0

  fits_zeros : tables_at + i * table_size + length zeros ≤ length rec
  fits_zeros = omega (arith, wide_zeros)

  pub length_cleared : length (cleared rec i) ≡ length rec
  unfolding cleared zeros
  length_cleared = length_splice rec (tables_at + i * table_size) zeros fits_zeros

  pub cleared_head : (j : ℕ) → j < 4 → head_at (cleared rec i) j ≡ head_at rec j
  unfolding cleared head_at zeros
  cleared_head j hj = ap head_of (part_other rec (tables_at + i * table_size) zeros fits_zeros (j * head_size) head_size (inl (omega arith)))

  pub cleared_other : (j k : ℕ) → j ≢ i → k < 128 → entry_at (cleared rec i) j k ≡ entry_at rec j k
  unfolding cleared entry_at zeros
  cleared_other j k q hk = ap entry_of (part_other rec (tables_at + i * table_size) zeros fits_zeros (entry_place j k) entry_size (side (apart j i q)))
    where
      side : (j < i) ⊎ (i < j) → (entry_place j k + entry_size ≤ tables_at + i * table_size) ⊎ (tables_at + i * table_size + length zeros ≤ entry_place j k)
      side (inl a) = inl (omega arith)
      side (inr a) = inr (omega (arith, wide_zeros))

  pub cleared_entry : (k : ℕ) → k < 128 → entry_at (cleared rec i) i k ≡ no_entry
  unfolding cleared entry_at zeros
  cleared_entry k hk =
      ap entry_of (part_within rec (tables_at + i * table_size) zeros fits_zeros (k * entry_size) entry_size (omega (arith, wide_zeros)) ∙ part_alike 0 table_size (k * entry_size) entry_size (omega arith))
      ∙ entry_zeros

-- the room of slot i with a piece put after t bytes, and the other slots' rooms
module _ (room : List ℕ) (long : share_room ≤ length room) (i : ℕ) (hi : i < 4) (t : ℕ) (v : List ℕ) (fits : t + length v ≤ slot_size) where
  pub length_kept : length (kept_room room i t v) ≡ length room
  unfolding kept_room
  length_kept = length_splice room (i * slot_size + t) v (omega arith)

  pub kept_room_lem : room_of (kept_room room i t v) i ≡ splice (room_of room i) t v
  unfolding kept_room room_of
  kept_room_lem = part_inside room (i * slot_size) slot_size t v (omega arith) fits

  pub kept_other : (j : ℕ) → j ≢ i → room_of (kept_room room i t v) j ≡ room_of room j
  unfolding kept_room room_of
  kept_other j q = part_other room (i * slot_size + t) v (omega arith) (j * slot_size) slot_size (side (apart j i q))
    where
      side : (j < i) ⊎ (i < j) → (j * slot_size + slot_size ≤ i * slot_size + t) ⊎ (i * slot_size + t + length v ≤ j * slot_size)
      side (inl a) = inl (omega arith)
      side (inr a) = inr (omega arith)
