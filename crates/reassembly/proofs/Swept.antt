-- A share swept, and a share of zeros, are the store's. Assumes nothing.
use mathlib.Core.Path.{◌≡◌, refl, sym, ap, ◌∙◌, subst}
use mathlib.Core.List.{List}
use mathlib.Core.Option.{none}
use Prim.Native.Nat.{ℕ, ◌+◌, ◌-◌, ◌≤◌}
use native.Mathlib.Omega.{arith}
use lib.ListN.{length, replicate, length-replicate, get_or-replicate}
use Rattle.wire.specs.Parts.{splice}
use Rattle.wire.proofs.Parts.{splice_all}
use Rattle.reassembly.specs.Sizes.{share_room, most_remembered, open_at, ids_at, share_size}
use Rattle.reassembly.specs.Memory.{forget}
use Rattle.reassembly.specs.Store.{Store, new_store, empty, slots_sweep, sweep}
use Rattle.reassembly.specs.Apart.{Apart}
use Rattle.reassembly.specs.Neighbours.{open_of, dropped_of}
use Rattle.reassembly.specs.Remembered.{memory_of, forgotten_in}
use Rattle.reassembly.specs.Summary.{open_count}
use Rattle.reassembly.specs.Calls.{lent, after, bare, swept_to, share_swept}
use Rattle.reassembly.specs.Stands.{slots_of, stands, SlotsMade, Made, reply_for, laid_out, Agrees}
use Rattle.reassembly.proofs.Sweeps.{swept_slots, swept_count, swept_made, blank_slots, blank_made}
use Rattle.reassembly.proofs.MemoryStays.{stays_swept}
use Rattle.reassembly.proofs.Aparts.{new_apart, sweep_apart}
use Rattle.reassembly.proofs.Remembered.{memory_behind, zeros_memory}
use Rattle.reassembly.proofs.Forgotten.{forgotten_behind, forgotten_memory}
use Rattle.reassembly.proofs.Fronts.{front_slots, front_made}
use Rattle.reassembly.proofs.Summary.{after_open}
use Rattle.reassembly.proofs.Counts.{open_none, swept_open}

-- ---- a sweep

module _ (second : ℕ) (rec room : List ℕ) (long : share_size ≤ length rec) where
  abbrev mid : List ℕ
  mid = swept_to second rec 4

  long₁ : share_size ≤ length mid
  long₁ = omega (arith, (stays_swept second rec long).0, long)

  -- the share is as long as it was
  pub swept_length : length (share_swept second rec) ≡ length rec
  unfolding share_swept
  swept_length = (forgotten_behind second mid long₁).long ∙ (stays_swept second rec long).0

  swept_are : slots_of (share_swept second rec) room ≡ slots_sweep second (slots_of rec room)
  unfolding share_swept
  swept_are = front_slots ids_at mid (forgotten_in second mid) (forgotten_behind second mid long₁) room (omega arith) ∙ swept_slots second rec room long

  forgets : memory_of (share_swept second rec) ≡ forget second (memory_of rec)
  unfolding share_swept
  forgets = forgotten_memory second mid long₁ ∙ ap (forget second) (memory_behind rec mid (stays_swept second rec long).1)

  pub swept_stands : stands (share_swept second rec) room ≡ sweep second (stands rec room)
  swept_stands = λ j. record { slots = swept_are j; remembered = forgets j }

  -- the summary is less by what was dropped
  pub swept_less : open_count (share_swept second rec) ≡ open_count rec - dropped_of second (slots_of rec room)
  unfolding share_swept
  swept_less = after_open mid (forgotten_in second mid) (forgotten_behind second mid long₁) ∙ swept_count second rec room long

pub share_swept_made : (second : ℕ) (rec room : List ℕ) → Made rec room → Made (share_swept second rec) room
unfolding share_swept
share_swept_made second rec room m =
    record {
      slots_made =
          front_made ids_at (swept_to second rec 4) (forgotten_in second (swept_to second rec 4)) (forgotten_behind second (swept_to second rec 4) (long₁ second rec room long)) room (omega arith)
          (swept_made second rec room m.slots_made);
      apart = subst (λ (s : Store). Apart most_remembered s) (sym (swept_stands second rec room long)) (sweep_apart most_remembered second (stands rec room) m.apart);
      counted =
          let a : open_count (share_swept second rec) ≡ open_count rec - dropped_of second (slots_of rec room) = swept_less second rec room long in
          let b : open_of (slots_sweep second (slots_of rec room)) + dropped_of second (slots_of rec room) ≡ open_of (slots_of rec room) = swept_open second (slots_of rec room) in
          let c : open_of (slots_of (share_swept second rec) room) ≡ open_of (slots_sweep second (slots_of rec room)) = ap open_of (swept_are second rec room long) in
          omega (arith, m.counted);
    }
  where
    long : share_size ≤ length rec
    long = m.slots_made.record_long

-- a sweep answers 0, and does what the store's does
pub sweep_agrees : (second : ℕ) (rec room out : List ℕ) → Made rec room
    → Agrees out (after (bare 0) (lent (share_swept second rec) room out)) (record { number = 0; out = none; store = sweep second (stands rec room) })
unfolding reply_for laid_out
sweep_agrees second rec room out m =
    record { reply = refl; delivered = refl; store = swept_stands second rec room m.slots_made.record_long; made = share_swept_made second rec room m }

-- ---- zeros

module _ (n : ℕ) (room : List ℕ) (enough : share_size ≤ n) where
  zeros_blank : splice {A = ℕ} (replicate n 0) 0 (replicate n 0) ≡ replicate n 0
  zeros_blank = splice_all (replicate n 0) (replicate n 0) refl

  as_long : n ≤ length {A = ℕ} (replicate n 0)
  as_long = let w : length {A = ℕ} (replicate n 0) ≡ n = length-replicate {A = ℕ} n 0 in omega arith

  zeros_slots : slots_of (replicate n 0) room ≡ empty
  zeros_slots = ap (λ (z : List ℕ). slots_of z room) (sym zeros_blank) ∙ blank_slots (replicate n 0) room n as_long enough

  pub zeros_stand : stands (replicate n 0) room ≡ new_store
  zeros_stand = λ j. record { slots = zeros_slots j; remembered = (ap memory_of (sym zeros_blank) ∙ zeros_memory (replicate n 0) n enough) j }

  pub zeros_count : open_count (replicate n 0) ≡ 0
  unfolding open_count
  zeros_count = get_or-replicate {A = ℕ} n open_at 0 0 (omega arith)

  pub zeros_made : share_room ≤ length room → Made (replicate n 0) room
  zeros_made lm = record {
    slots_made = subst (λ (z : List ℕ). SlotsMade z room) zeros_blank (blank_made (replicate n 0) room n as_long enough lm);
    apart = subst (λ (s : Store). Apart most_remembered s) (sym zeros_stand) (new_apart most_remembered);
    counted = zeros_count ∙ sym (ap open_of zeros_slots ∙ open_none 4);
  }
