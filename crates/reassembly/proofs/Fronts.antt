-- A share that changed behind its tables has the same slots, which meet their invariant as before. Assumes nothing.
use mathlib.Core.Path.{◌≡◌, refl, sym, ap, ◌∙◌, subst}
use mathlib.Core.Bool.{false}
use mathlib.Core.List.{List}
use mathlib.Core.Option.{none}
use Prim.Native.Nat.{ℕ, ◌+◌, ◌*◌, ◌≤◌, ◌<◌}
use native.Mathlib.Omega.{arith}
use lib.ListN.{length, get_or, take}
use lib.Seq.{get_or-take}
use Rattle.wire.specs.Parts.{part, splice}
use Rattle.wire.proofs.Parts.{length_splice, part_is, part_part, part_before}
use Rattle.reassembly.specs.Sizes.{head_size, entry_size, open_at}
use Rattle.reassembly.specs.declared.Head.{Head}
use Rattle.reassembly.specs.Record.{head_of, head_at, entry_of, entry_place, entry_at}
use Rattle.reassembly.specs.Slots.{is_free}
use Rattle.reassembly.specs.Stands.{slot_at, slots_of, Fine, SlotsMade}
use Rattle.wire.proofs.Series.{series_same}
use Rattle.reassembly.proofs.Others.{fine_same, slot_same, free_same}

-- A change from a place on: the share is as long as it was, and what stands before the place is the same.
pub record Behind (from : ℕ) (rec rec' : List ℕ) : Type 0 where
  pub long : length rec' ≡ length rec
  pub front : take from rec' ≡ take from rec

pub behind_none : (from : ℕ) (rec : List ℕ) → Behind from rec rec
behind_none from rec = record { long = refl; front = refl }

pub behind_then : {from : ℕ} {a b c : List ℕ} → Behind from a b → Behind from b c → Behind from a c
behind_then p q = record { long = q.long ∙ p.long; front = q.front ∙ p.front }

pub behind_splice : (from : ℕ) (rec : List ℕ) (o : ℕ) (v : List ℕ) → from ≤ o → o + length v ≤ length rec → Behind from rec (splice rec o v)
behind_splice from rec o v h fits = record { long = length_splice rec o v fits; front = part_is (splice rec o v) 0 from ∙ part_before rec o v fits 0 from (omega arith) ∙ sym (part_is rec 0 from) }

module _ (from : ℕ) (rec rec' : List ℕ) (b : Behind from rec rec') where
  pub front_part : (o n : ℕ) → o + n ≤ from → part rec' o n ≡ part rec o n
  front_part o n h = sym (cut rec') ∙ ap (λ (z : List ℕ). part z o n) b.front ∙ cut rec
    where
      cut : (l : List ℕ) → part (take from l) o n ≡ part l o n
      cut l = let z : 0 + o ≡ o = omega arith in ap (λ (z : List ℕ). part z o n) (part_is l 0 from) ∙ part_part l 0 from o n h ∙ ap (λ (p : ℕ). part l p n) z

  -- a byte before the place
  pub front_byte : (o : ℕ) → o < from → get_or rec' o 0 ≡ get_or rec o 0
  front_byte o h = sym (get_or-take from rec' o 0 h) ∙ ap (λ (z : List ℕ). get_or z o 0) b.front ∙ get_or-take from rec o 0 h

  module _ (room : List ℕ) (behind-tables : open_at ≤ from) where
    -- heads and entries are in front
    head_alike : (i : ℕ) → i < 4 → head_at rec' i ≡ head_at rec i
    unfolding head_at
    head_alike i h = ap head_of (front_part (i * head_size) head_size (omega arith))

    entry_alike : (i : ℕ) → i < 4 → (k : ℕ) → k < 128 → entry_at rec' i k ≡ entry_at rec i k
    unfolding entry_at
    entry_alike i h k g = ap entry_of (front_part (entry_place i k) entry_size (omega arith))

    pub front_slot : (i : ℕ) → i < 4 → slot_at rec' room i ≡ slot_at rec room i
    front_slot i hi = slot_same rec room rec' room i (entry_alike i hi) refl (head_alike i hi)

    pub front_slots : slots_of rec' room ≡ slots_of rec room
    unfolding slots_of
    front_slots = series_same (slot_at rec' room) (slot_at rec room) 4 none front_slot

    pub front_made : SlotsMade rec room → SlotsMade rec' room
    front_made m = record { record_long = omega (arith, b.long, m.record_long); room_long = m.room_long; slots = λ i hi e. at i hi e }
      where
        at : (i : ℕ) → i < 4 → is_free rec' i ≡ false → Fine (head_at rec' i) rec' room i
        at i hi e =
            subst (λ (x : Head). Fine x rec' room i) (sym (head_alike i hi))
            (fine_same rec room rec' room i (entry_alike i hi) refl (head_at rec i) (m.slots i hi (free_same rec rec' i (head_alike i hi) ∙ e)))
