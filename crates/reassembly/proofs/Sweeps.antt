-- Slots swept, and slots of zeros, on record and room. Assumes nothing.
use mathlib.Core.Path.{◌≡◌, refl, sym, ap, ◌∙◌}
use mathlib.Core.Logic.{◌≢◌}
use mathlib.Core.Bool.{Bool, true, false, cond, not, ◌&&◌, false≢true, true≢false}
use mathlib.Core.List.{List, [], ◌∷◌, ◌++◌, map}
use mathlib.Core.Option.{Option, none, some}
use Prim.Native.Nat.{ℕ, zero, suc, ◌+◌, ◌-◌, ◌*◌, ◌≤◌, ◌<◌}
use native.Mathlib.Omega.{arith}
use native.Mathlib.Decide.{ℕ_discrete}
use lib.Dec.{eqb, ltb, leb}
use lib.ListN.{length, replicate, length-replicate}
use borrow.Author.Tests.{lt-ltb, le-ltb, ltb-true, ltb-false}
use Rattle.wire.specs.Parts.{part, splice}
use Rattle.wire.proofs.Parts.{part_within, length_splice}
use Rattle.wire.proofs.Slices.{part_alike}
use Rattle.wire.specs.Series.{series}
use Rattle.reassembly.specs.Sizes.{share_room, head_size, open_at, share_size}
use Rattle.reassembly.specs.Ages.{long_ago}
use Rattle.reassembly.specs.Neighbours.{dropped_of}
use Rattle.reassembly.specs.Summary.{open_count, lowered}
use Rattle.reassembly.specs.Store.{Message, Slots, empty, swept_one, slots_sweep}
use Rattle.reassembly.specs.Record.{head_of, head_at, with_head}
use Rattle.reassembly.specs.Slots.{is_free}
use Rattle.reassembly.specs.Judge.{no_head, is_old}
use Rattle.reassembly.specs.Calls.{swept_at, swept_to}
use Rattle.reassembly.specs.Stands.{message_with, slot_at, slots_of, SlotsMade}
use Rattle.wire.proofs.Series.{series_same, series_more}
use native.Mathlib.Numerals.{add-one}
use Rattle.reassembly.proofs.Fronts.{Behind, front_slot, front_made}
use Rattle.reassembly.proofs.Summary.{open_behind, open_same, before_open}
use Rattle.reassembly.proofs.MemoryStays.{behind_head}
use Rattle.reassembly.proofs.Written.{length_head}
use Rattle.reassembly.proofs.Others.{Others, others_head, slot_same, made_with, freed_slot, freed_free}

-- a slot is swept as the store sweeps it
old_slot : (second : ℕ) (rec room : List ℕ) (i : ℕ) → is_old second (head_at rec i) ≡ true → swept_one second (slot_at rec room i) ≡ none
unfolding is_old slot_at is_free swept_one message_with
old_slot second rec room i e = go (eqb (head_at rec i).count 0) (leb ((head_at rec i).opened + 30) second) refl refl e
  where
    go : (b c : Bool) → eqb (head_at rec i).count 0 ≡ b → leb ((head_at rec i).opened + 30) second ≡ c → (not (eqb (head_at rec i).count 0) && leb ((head_at rec i).opened + 30) second) ≡ true
        → swept_one second (cond (eqb (head_at rec i).count 0) none (some (message_with (head_at rec i) rec room i))) ≡ none
    go true c p q t = rw p refl
    go false true p q t = rw (p, q) refl
    go false false p q t = absurd (false≢true (rw (p, q) at t))

young_slot : (second : ℕ) (rec room : List ℕ) (i : ℕ) → is_old second (head_at rec i) ≡ false → swept_one second (slot_at rec room i) ≡ slot_at rec room i
unfolding is_old slot_at is_free swept_one message_with
young_slot second rec room i e = go (eqb (head_at rec i).count 0) (leb ((head_at rec i).opened + 30) second) refl refl e
  where
    go : (b c : Bool) → eqb (head_at rec i).count 0 ≡ b → leb ((head_at rec i).opened + 30) second ≡ c → (not (eqb (head_at rec i).count 0) && leb ((head_at rec i).opened + 30) second) ≡ false
        → swept_one second (cond (eqb (head_at rec i).count 0) none (some (message_with (head_at rec i) rec room i))) ≡ cond (eqb (head_at rec i).count 0) none (some (message_with (head_at rec i) rec room i))
    go true c p q t = rw p refl
    go false true p q t = absurd (true≢false (rw (p, q) at t))
    go false false p q t = rw (p, q) refl

-- what one slot swept does, with any room
record One (second : ℕ) (rec room rec' : List ℕ) (i : ℕ) : Type 0 where
  long : share_size ≤ length rec'
  here : slot_at rec' room i ≡ swept_one second (slot_at rec room i)
  there : (j : ℕ) → j < 4 → j ≢ i → slot_at rec' room j ≡ slot_at rec room j

one_swept : (second : ℕ) (rec room : List ℕ) (i : ℕ) → i < 4 → share_size ≤ length rec → One second rec room (swept_at second rec i) i
unfolding swept_at
one_swept second rec room i hi long = go (is_old second (head_at rec i)) refl
  where
    o : Others rec room (with_head rec i no_head) room i
    o = others_head rec room i no_head long hi

    lh : share_size ≤ length (with_head rec i no_head)
    lh = omega (arith, length_head rec long i hi no_head)

    -- the summary stands behind the slots
    b : Behind open_at (with_head rec i no_head) (lowered (with_head rec i no_head))
    b = open_behind (with_head rec i no_head) _ lh

    same : (j : ℕ) → j < 4 → slot_at (lowered (with_head rec i no_head)) room j ≡ slot_at (with_head rec i no_head) room j
    same j hj = front_slot open_at (with_head rec i no_head) (lowered (with_head rec i no_head)) b room (omega arith) j hj

    go : (b : Bool) → is_old second (head_at rec i) ≡ b → One second rec room (cond (is_old second (head_at rec i)) (lowered (with_head rec i no_head)) rec) i
    go true e =
        rw e
        (record {
          long = omega (arith, b.long, lh);
          here = same i hi ∙ freed_slot rec room i long hi ∙ sym (old_slot second rec room i e);
          there = λ j hj q. same j hj ∙ slot_same rec room (with_head rec i no_head) room j (λ k hk. o.entries j k hj q hk) refl (o.heads j hj q);
        })
    go false e = rw e (record { long = long; here = sym (young_slot second rec room i e); there = λ j hj q. refl })

-- it leaves what a call may be lent again
one_made : (second : ℕ) (rec room : List ℕ) (i : ℕ) → i < 4 → SlotsMade rec room → SlotsMade (swept_at second rec i) room
unfolding swept_at
one_made second rec room i hi m = go (is_old second (head_at rec i))
  where
    lh : share_size ≤ length (with_head rec i no_head)
    lh = omega (arith, length_head rec m.record_long i hi no_head, m.record_long)

    go : (b : Bool) → SlotsMade (cond b (lowered (with_head rec i no_head)) rec) room
    go true =
        front_made open_at (with_head rec i no_head) (lowered (with_head rec i no_head)) (open_behind (with_head rec i no_head) _ lh) room (omega arith)
        (made_with rec room (with_head rec i no_head) room i m lh m.room_long hi
        (others_head rec room i no_head m.record_long hi)
        (λ q. absurd (true≢false (sym (freed_free rec i m.record_long hi) ∙ q))))
    go false = m

-- the first n slots swept
record Upto (second : ℕ) (rec room rec' : List ℕ) (n : ℕ) : Type 0 where
  long : share_size ≤ length rec'
  slots : (j : ℕ) → j < 4 → slot_at rec' room j ≡ cond (ltb j n) (swept_one second (slot_at rec room j)) (slot_at rec room j)

swept_upto : (second : ℕ) (rec room : List ℕ) → share_size ≤ length rec → (n : ℕ) → n ≤ 4 → Upto second rec room (swept_to second rec n) n
swept_upto second rec room long zero h = record { long = long; slots = λ j hj. rw (le-ltb j 0 (omega arith)) refl }
swept_upto second rec room long (suc n) h = more (swept_upto second rec room long n (omega arith))
  where
    more : Upto second rec room (swept_to second rec n) n → Upto second rec room (swept_at second (swept_to second rec n) n) (suc n)
    more u = record { long = w.long; slots = λ j hj. at j hj (ℕ_discrete j n) (ltb j n) refl }
      where
        w : One second (swept_to second rec n) room (swept_at second (swept_to second rec n) n) n
        w = one_swept second (swept_to second rec n) room n (omega arith) u.long

        at : (j : ℕ) → j < 4 → Dec (j ≡ n) → (b : Bool) → ltb j n ≡ b
            → slot_at (swept_at second (swept_to second rec n) n) room j ≡ cond (ltb j (suc n)) (swept_one second (slot_at rec room j)) (slot_at rec room j)
        at j hj (yes q) b e =
            rw (q, lt-ltb n (suc n) (omega arith))
            (w.here ∙ ap (swept_one second) (u.slots n (omega arith) ∙ rw (le-ltb n n (omega arith)) refl))
        at j hj (no q) true e =
            let l : j < n = ltb-true j n e in
            rw (lt-ltb j (suc n) (omega arith)) (w.there j hj q ∙ u.slots j hj ∙ rw e refl)
        at j hj (no q) false e =
            let l : n ≤ j = ltb-false j n e in
            let ne : j ≡ n → ⊥ = q in
            rw (le-ltb j (suc n) (omega arith)) (w.there j hj q ∙ u.slots j hj ∙ rw e refl)

upto_made : (second : ℕ) (rec room : List ℕ) → SlotsMade rec room → (n : ℕ) → n ≤ 4 → SlotsMade (swept_to second rec n) room
upto_made second rec room m zero h = m
upto_made second rec room m (suc n) h = one_made second (swept_to second rec n) room n (omega arith) (upto_made second rec room m n (omega arith))

map_series : (g : Option Message → Option Message) (f : ℕ → Option Message) (i n : ℕ) → map g (series f i n) ≡ series (λ k. g (f k)) i n
map_series g f i zero = refl
map_series g f i (suc n) = ap {B = Slots} (λ (z : Slots). g (f i) ∷ z) (map_series g f (i + 1) n)

-- all slots swept are the slots that the store sweeps
pub swept_slots : (second : ℕ) (rec room : List ℕ) → share_size ≤ length rec → slots_of (swept_to second rec 4) room ≡ slots_sweep second (slots_of rec room)
unfolding slots_of slots_sweep
swept_slots second rec room long =
    let u : Upto second rec room (swept_to second rec 4) 4 = swept_upto second rec room long 4 (omega arith) in
    series_same (slot_at (swept_to second rec 4) room) (λ k. swept_one second (slot_at rec room k)) 4 none (λ k hk. u.slots k hk ∙ rw (lt-ltb k 4 hk) refl)
    ∙ sym (map_series (swept_one second) (slot_at rec room) 0 4)

-- ---- the summary is less by what was dropped

-- one where a sweep drops what stands in a slot
abbrev one_dropped : ℕ → Option Message → ℕ
one_dropped second none = 0
one_dropped second (some m) = cond (long_ago m.opened second) 1 0

dropped_more : (second : ℕ) (s : Slots) (o : Option Message) → dropped_of second (s ++ (o ∷ [])) ≡ dropped_of second s + one_dropped second o
dropped_more second [] none = refl
dropped_more second [] (some m) = omega arith
dropped_more second (none ∷ s) o = dropped_more second s o
dropped_more second (some m ∷ s) o =
    let ih : dropped_of second (s ++ (o ∷ [])) ≡ dropped_of second s + one_dropped second o = dropped_more second s o in
    omega arith

old_one : (second : ℕ) (rec room : List ℕ) (i : ℕ) → cond (is_old second (head_at rec i)) 1 0 ≡ one_dropped second (slot_at rec room i)
unfolding is_old slot_at is_free message_with
old_one second rec room i = go (eqb (head_at rec i).count 0)
  where
    go : (b : Bool) → cond (not b && leb ((head_at rec i).opened + 30) second) 1 0 ≡ one_dropped second (cond b none (some (message_with (head_at rec i) rec room i)))
    go true = refl
    go false = refl

one_count : (second : ℕ) (rec : List ℕ) (i : ℕ) → i < 4 → share_size ≤ length rec → open_count (swept_at second rec i) ≡ open_count rec - cond (is_old second (head_at rec i)) 1 0
unfolding swept_at
one_count second rec i hi long = go (is_old second (head_at rec i))
  where
    go : (b : Bool) → open_count (cond b (lowered (with_head rec i no_head)) rec) ≡ open_count rec - cond b 1 0
    go true =
        open_same (with_head rec i no_head) _ (omega (arith, length_head rec long i hi no_head))
        ∙ ap (λ (k : ℕ). k - 1) (before_open rec (with_head rec i no_head) (behind_head rec long i hi no_head))
    go false = omega arith

count_upto : (second : ℕ) (rec room : List ℕ) → share_size ≤ length rec → (n : ℕ) → n ≤ 4
    → open_count (swept_to second rec n) ≡ open_count rec - dropped_of second (series (slot_at rec room) 0 n)
count_upto second rec room long zero h = omega arith
count_upto second rec room long (suc n) h =
    let u : Upto second rec room (swept_to second rec n) n = swept_upto second rec room long n (omega arith) in
    let ih : open_count (swept_to second rec n) ≡ open_count rec - dropped_of second (series (slot_at rec room) 0 n) = count_upto second rec room long n (omega arith) in
    let a : open_count (swept_at second (swept_to second rec n) n) ≡ open_count (swept_to second rec n) - cond (is_old second (head_at (swept_to second rec n) n)) 1 0
    = one_count second (swept_to second rec n) n (omega arith) u.long in
    let s : slot_at (swept_to second rec n) room n ≡ slot_at rec room n = u.slots n (omega arith) ∙ rw (le-ltb n n (omega arith)) refl in
    let o : cond (is_old second (head_at (swept_to second rec n) n)) 1 0 ≡ one_dropped second (slot_at rec room n) = old_one second (swept_to second rec n) room n ∙ ap (one_dropped second) s in
    let m : dropped_of second (series (slot_at rec room) 0 (suc n)) ≡ dropped_of second (series (slot_at rec room) 0 n) + one_dropped second (slot_at rec room n)
    = ap (λ (k : ℕ). dropped_of second (series (slot_at rec room) 0 k)) (sym (add-one n)) ∙ ap (dropped_of second) (series_more (slot_at rec room) n) ∙ dropped_more second (series (slot_at rec room) 0 n) (slot_at rec room n) in
    omega arith

pub swept_count : (second : ℕ) (rec room : List ℕ) → share_size ≤ length rec → open_count (swept_to second rec 4) ≡ open_count rec - dropped_of second (slots_of rec room)
unfolding slots_of
swept_count second rec room long = count_upto second rec room long 4 (omega arith)

pub swept_made : (second : ℕ) (rec room : List ℕ) → SlotsMade rec room → SlotsMade (swept_to second rec 4) room
swept_made second rec room m = upto_made second rec room m 4 (omega arith)

-- zeros stand for free slots
none_series : (i n : ℕ) → ◌≡◌ {A = Slots} (series (λ k. none) i n) (replicate n none)
none_series i zero = refl
none_series i (suc n) = ap {B = Slots} (λ (z : Slots). none ∷ z) (none_series (i + 1) n)

count_zero : (head_of (replicate head_size 0)).count ≡ 0
unfolding head_of
count_zero = refl

module _ (rec room : List ℕ) (n : ℕ) (lr : n ≤ length rec) (enough : share_size ≤ n) where
  abbrev blank : List ℕ
  blank = splice rec 0 (replicate n 0)

  wide : length {A = ℕ} (replicate n 0) ≡ n
  wide = length-replicate {A = ℕ} n 0

  blank_long : length blank ≡ length rec
  blank_long = length_splice rec 0 (replicate n 0) (omega (arith, wide))

  blank_free : (i : ℕ) → i < 4 → is_free blank i ≡ true
  unfolding is_free head_at
  blank_free i hi =
      let z : i * head_size ≡ 0 + i * head_size = omega arith in
      ap (λ (l : List ℕ). eqb (head_of l).count 0)
      (ap (λ (k : ℕ). part blank k head_size) z
      ∙ part_within rec 0 (replicate n 0) (omega (arith, wide)) (i * head_size) head_size (omega (arith, wide))
      ∙ part_alike 0 n (i * head_size) head_size (omega arith))
      ∙ ap (λ (k : ℕ). eqb k 0) count_zero

  blank_slot : (i : ℕ) → i < 4 → slot_at blank room i ≡ none
  unfolding slot_at
  blank_slot i hi = rw (blank_free i hi) refl

  pub blank_slots : slots_of blank room ≡ empty
  unfolding slots_of
  blank_slots = series_same (slot_at blank room) (λ k. none) 4 none blank_slot ∙ none_series 0 4

  pub blank_made : share_room ≤ length room → SlotsMade blank room
  blank_made lm = record { record_long = omega (arith, blank_long); room_long = lm; slots = λ i hi e. absurd (true≢false (sym (blank_free i hi) ∙ e)) }
