-- One slot changed, the others as they were: what the record and the room stand for. Assumes nothing.
use mathlib.Core.Path.{◌≡◌, refl, sym, ap, ◌∙◌, subst}
use mathlib.Core.Logic.{◌≢◌}
use mathlib.Core.Bool.{true, false, cond}
use mathlib.Core.List.{List, []}
use mathlib.Core.Option.{Option, none, some}
use Prim.Native.Nat.{ℕ, ◌+◌, ◌≤◌, ◌<◌}
use native.Mathlib.Omega.{arith}
use native.Mathlib.Decide.{ℕ_discrete}
use lib.Dec.{eqb}
use lib.ListN.{length, set}
use Rattle.wire.specs.Parts.{part}
use Rattle.reassembly.specs.Sizes.{message_size, share_room, share_size}
use Rattle.reassembly.specs.declared.Head.{Head}
use Rattle.reassembly.specs.declared.Entry.{Entry}
use Rattle.reassembly.specs.Store.{Message}
use Rattle.reassembly.specs.Record.{head_at, with_head, entry_at, with_entry, cleared, room_of, piece_at}
use Rattle.reassembly.specs.Slots.{is_free}
use Rattle.reassembly.specs.Judge.{no_head}
use Rattle.reassembly.specs.Calls.{kept_rec, kept_room}
use Rattle.reassembly.specs.Stands.{table_at, message_with, slot_at, slots_of, Fine, SlotsMade}
use Rattle.reassembly.proofs.Fields.{HeadFits}
use Rattle.wire.proofs.Series.{series_same, series_set}
use Rattle.reassembly.proofs.Written.{head_same, head_other, head_entry, length_entry, entry_other, entry_head, cleared_head, cleared_other, kept_other}

-- the slots other than i have the same heads, entries and room
pub record Others (rec room rec' room' : List ℕ) (i : ℕ) : Type 0 where
  pub heads : (j : ℕ) → j < 4 → j ≢ i → head_at rec' j ≡ head_at rec j
  pub entries : (j k : ℕ) → j < 4 → j ≢ i → k < 128 → entry_at rec' j k ≡ entry_at rec j k
  pub rooms : (j : ℕ) → j < 4 → j ≢ i → room_of room' j ≡ room_of room j

-- two changes one after the other
pub others_both : (rec room rec₁ room₁ rec₂ room₂ : List ℕ) (i : ℕ) → Others rec room rec₁ room₁ i → Others rec₁ room₁ rec₂ room₂ i → Others rec room rec₂ room₂ i
others_both rec room rec₁ room₁ rec₂ room₂ i a b =
    record {
      heads = λ j h q. b.heads j h q ∙ a.heads j h q;
      entries = λ j k h q hk. b.entries j k h q hk ∙ a.entries j k h q hk;
      rooms = λ j h q. b.rooms j h q ∙ a.rooms j h q;
    }

module _ (rec room rec' room' : List ℕ) (j : ℕ) (es : (k : ℕ) → k < 128 → entry_at rec' j k ≡ entry_at rec j k) (rs : room_of room' j ≡ room_of room j) where
  table_same : table_at rec' room' j ≡ table_at rec room j
  unfolding table_at
  table_same = series_same (piece_at rec' room' j) (piece_at rec room j) 128 [] same
    where
      same : (k : ℕ) → k < 128 → piece_at rec' room' j k ≡ piece_at rec room j k
      same k h = unfold piece_at in
          (ap (λ (z : List ℕ). part z (entry_at rec' j k).place (entry_at rec' j k).len) rs
          ∙ ap (λ (e : Entry). part (room_of room j) e.place e.len) (es k h))

  pub fine_same : (h : Head) → Fine h rec room j → Fine h rec' room' j
  fine_same h f =
      record {
        id = f.id;
        opened = f.opened;
        expires = f.expires;
        small = f.small;
        inside = λ k hk. subst (λ (e : Entry). e.place + e.len ≤ h.total) (sym (es k hk)) (f.inside k hk);
        filled = rw table_same f.filled;
        counted = rw table_same f.counted;
        top_held = rw table_same f.top_held;
        topmost = rw table_same f.topmost;
        last_small = f.last_small;
        lastmost = rw table_same f.lastmost;
      }

  pub slot_same : head_at rec' j ≡ head_at rec j → slot_at rec' room' j ≡ slot_at rec room j
  unfolding slot_at is_free message_with
  slot_same q =
      ap (λ (h : Head). cond (eqb h.count 0) none (some (record { id = h.id; opened = h.opened; kind = h.kind; expires = h.expires; last = h.last; table = table_at rec' room' j }))) q
      ∙ ap (λ (t : List (List ℕ)). cond (eqb (head_at rec j).count 0) none (some (record { id = (head_at rec j).id; opened = (head_at rec j).opened; kind = (head_at rec j).kind; expires = (head_at rec j).expires; last = (head_at rec j).last; table = t }))) table_same

pub free_same : (rec rec' : List ℕ) (j : ℕ) → head_at rec' j ≡ head_at rec j → is_free rec j ≡ is_free rec' j
unfolding is_free
free_same rec rec' j h = ap (λ (x : Head). eqb x.count 0) (sym h)

module _ (rec room rec' room' : List ℕ) (i : ℕ) (m : SlotsMade rec room) (lr : share_size ≤ length rec') (lm : share_room ≤ length room') (hi : i < 4)
    (o : Others rec room rec' room' i) where
  -- the store with another message, or none, in slot i
  pub stands_with : (x : Option Message) → slot_at rec' room' i ≡ x → slots_of rec' room' ≡ set (slots_of rec room) i x
  unfolding slots_of
  stands_with x e =
      series_set (slot_at rec room) (slot_at rec' room') 4 i x none hi e
      (λ j hj q. slot_same rec room rec' room' j (λ k hk. o.entries j k hj q hk) (o.rooms j hj q) (o.heads j hj q))

  pub made_with : (is_free rec' i ≡ false → Fine (head_at rec' i) rec' room' i) → SlotsMade rec' room'
  made_with f = record { record_long = lr; room_long = lm; slots = λ j hj e. go j hj e (ℕ_discrete j i) }
    where
      go : (j : ℕ) → j < 4 → is_free rec' j ≡ false → Dec (j ≡ i) → Fine (head_at rec' j) rec' room' j
      go j hj e (yes q) = subst (λ (z : ℕ). Fine (head_at rec' z) rec' room' z) (sym q) (f (subst (λ (z : ℕ). is_free rec' z ≡ false) q e))
      go j hj e (no q) =
          let h : head_at rec' j ≡ head_at rec j = o.heads j hj q in
          let e' : is_free rec j ≡ false = free_same rec rec' j h ∙ e in
          subst (λ (x : Head). Fine x rec' room' j) (sym h)
          (fine_same rec room rec' room' j (λ k hk. o.entries j k hj q hk) (o.rooms j hj q) (head_at rec j) (m.slots j hj e'))

-- a head put
pub others_head : (rec room : List ℕ) (i : ℕ) (h : Head) → share_size ≤ length rec → i < 4 → Others rec room (with_head rec i h) room i
others_head rec room i h l hi =
    record { heads = λ j hj q. head_other rec l i hi h j q; entries = λ j k hj q hk. head_entry rec l i hi h j k; rooms = λ j hj q. refl }

-- the entries cleared
pub others_cleared : (rec room : List ℕ) (i : ℕ) → share_size ≤ length rec → i < 4 → Others rec room (cleared rec i) room i
others_cleared rec room i l hi =
    record { heads = λ j hj q. cleared_head rec l i hi j hj; entries = λ j k hj q hk. cleared_other rec l i hi j k q hk; rooms = λ j hj q. refl }

-- a piece kept
pub others_kept : (rec room : List ℕ) (i k t : ℕ) (v : List ℕ) (g : Head) → share_size ≤ length rec → share_room ≤ length room → i < 4 → k < 128 → t + length v ≤ message_size
    → Others rec room (kept_rec rec i k t (length v) g) (kept_room room i t v) i
unfolding kept_rec
others_kept rec room i k t v g l lm hi hk fits =
    let e : Entry = record { place = t; len = length v } in
    let l₁ : share_size ≤ length (with_entry rec i k (record { place = t; len = length v })) = omega (arith, length_entry rec l i hi k hk (record { place = t; len = length v })) in
    record {
      heads = λ j hj q. head_other (with_entry rec i k (record { place = t; len = length v })) l₁ i hi g j q ∙ entry_head rec l i hi k hk (record { place = t; len = length v }) j hj;
      entries = λ j m hj q hm. head_entry (with_entry rec i k (record { place = t; len = length v })) l₁ i hi g j m ∙ entry_other rec l i hi k hk (record { place = t; len = length v }) j m q hm;
      rooms = λ j hj q. kept_other room lm i hi t v fits j q;
    }

-- slot i made free
pub no_head_fits : HeadFits no_head
unfolding no_head
no_head_fits = record { id = omega arith; opened = omega arith; expires = omega arith; total = omega arith }

pub freed_slot : (rec room : List ℕ) (i : ℕ) → share_size ≤ length rec → i < 4 → slot_at (with_head rec i no_head) room i ≡ none
unfolding slot_at is_free
freed_slot rec room i l hi =
    ap (λ (h : Head). cond (eqb h.count 0) none (some (message_with (head_at (with_head rec i no_head) i) (with_head rec i no_head) room i))) (head_same rec l i hi no_head no_head_fits)
    ∙ (unfold no_head in refl)

pub freed_free : (rec : List ℕ) (i : ℕ) → share_size ≤ length rec → i < 4 → is_free (with_head rec i no_head) i ≡ true
unfolding is_free
freed_free rec i l hi = ap (λ (h : Head). eqb h.count 0) (head_same rec l i hi no_head no_head_fits) ∙ (unfold no_head in refl)
