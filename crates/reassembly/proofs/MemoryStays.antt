-- What a piece and a sweep do to the slots leaves what stands behind the tables: a piece the summary and the memory, a sweep the memory. Assumes nothing.
use mathlib.Core.Path.{◌≡◌, refl, ◌∙◌}
use mathlib.Core.Bool.{Bool, true, false, cond}
use mathlib.Core.List.{List}
use Prim.Native.Nat.{ℕ, zero, suc, ◌+◌, ◌*◌, ◌≤◌, ◌<◌}
use native.Mathlib.Omega.{arith}
use lib.Dec.{eqb, ltb}
use lib.ListN.{length, drop, replicate, length-replicate}
use borrow.Author.Tests.{ltb-false}
use Rattle.wire.proofs.Parts.{drop_after}
use Rattle.reassembly.specs.Sizes.{message_size, head_size, tables_at, table_size, open_at, ids_at, share_room, share_size}
use Rattle.reassembly.specs.declared.Head.{Head}
use Rattle.reassembly.specs.declared.Entry.{Entry}
use Rattle.reassembly.specs.declared.Label.{Label}
use Rattle.reassembly.specs.declared.Reply.{Reply}
use Rattle.reassembly.specs.Record.{head_bytes, head_at, with_head, entry_bytes, entry_place, entry_at, with_entry, cleared}
use Rattle.reassembly.specs.Summary.{lowered}
use Rattle.reassembly.specs.Joining.{message_of, joins_outside}
use Rattle.reassembly.specs.Judge.{misfits, grown_by, is_complete, new_head, no_head, is_old}
use Rattle.reassembly.specs.Calls.{Lent, After, after, kept_rec, finished, put_in, added, opened_in, swept_at, swept_to}
use Rattle.reassembly.proofs.Summary.{open_behind, open_drop, before_memory}
use Rattle.reassembly.proofs.Written.{head_wide, entry_wide, length_head, length_entry, length_cleared, length_kept}

module _ (rec : List ℕ) (long : share_size ≤ length rec) (i : ℕ) (hi : i < 4) where
  pub behind_head : (h : Head) → drop open_at (with_head rec i h) ≡ drop open_at rec
  unfolding with_head
  behind_head h = drop_after rec (i * head_size) (head_bytes h) (omega (arith, head_wide h)) open_at (omega (arith, head_wide h))

  behind_entry : (k : ℕ) → k < 128 → (e : Entry) → drop open_at (with_entry rec i k e) ≡ drop open_at rec
  unfolding with_entry
  behind_entry k hk e = drop_after rec (entry_place i k) (entry_bytes e) (omega (arith, entry_wide e)) open_at (omega (arith, entry_wide e))

  behind_cleared : drop open_at (cleared rec i) ≡ drop open_at rec
  unfolding cleared
  behind_cleared =
      let w : length {A = ℕ} (replicate table_size 0) ≡ table_size = length-replicate {A = ℕ} table_size 0 in
      drop_after rec (tables_at + i * table_size) (replicate table_size 0) (omega arith) open_at (omega arith)

-- a piece kept
behind_kept : (rec : List ℕ) → share_size ≤ length rec → (i : ℕ) → i < 4 → (k : ℕ) → k < 128 → (total n : ℕ) (g : Head)
    → (length (kept_rec rec i k total n g) ≡ length rec) × (drop open_at (kept_rec rec i k total n g) ≡ drop open_at rec)
unfolding kept_rec
behind_kept rec long i hi k hk total n g =
    let e : length (with_entry rec i k (record { place = total; len = n })) ≡ length rec = length_entry rec long i hi k hk (record { place = total; len = n }) in (
      length_head (with_entry rec i k (record { place = total; len = n })) (omega arith) i hi g ∙ e,
      behind_head (with_entry rec i k (record { place = total; len = n })) (omega arith) i hi g ∙ behind_entry rec long i hi k hk (record { place = total; len = n }),
    )

-- What a call left of a share: its lengths, and what stands behind the tables.
pub record Stays (x : Lent) (y : After) : Type 0 where
  pub rec_long : length y.left.rec ≡ length x.rec
  pub room_long : length y.left.room ≡ length x.room
  pub behind : drop open_at y.left.rec ≡ drop open_at x.rec

module _ (x : Lent) (long : share_size ≤ length x.rec) (room_long : share_room ≤ length x.room) (l : Label) (small : l.number < 128) (v : List ℕ) where
  -- a test decides between two
  both : (b : Bool) (y z : After) → (b ≡ true → Stays x y) → (b ≡ false → Stays x z) → Stays x (cond b y z)
  both true y z p q = p refl
  both false y z p q = q refl

  stays_refused : (r : Reply) → Stays x (after r x)
  stays_refused r = record { rec_long = refl; room_long = refl; behind = refl }

  stays_finished : (i : ℕ) → i < 4 → (g : Head) → Stays x (finished x i l g v)
  unfolding finished
  stays_finished i hi g =
      both (joins_outside x.rec i l.number (g.last + 1)) _ _ (λ e. stays_refused _)
      (λ e. both (ltb (length x.out) (length (message_of x.rec x.room i l.number v (g.last + 1)))) _ _ (λ w. stays_refused _)
      (λ w. record { rec_long = length_head x.rec long i hi no_head; room_long = refl; behind = behind_head x.rec long i hi no_head }))

  stays_put : (i : ℕ) → i < 4 → (h : Head) → Stays x (put_in x i h l v)
  unfolding put_in
  stays_put i hi h =
      both (ltb message_size (h.total + length v)) _ _ (λ e. stays_refused _)
      (λ e. both (is_complete (grown_by h l (length v))) _ _ (λ w. stays_finished i hi (grown_by h l (length v)))
      (λ w.
      let k = behind_kept x.rec long i hi l.number small h.total (length v) (grown_by h l (length v)) in
      record { rec_long = k.0; room_long = length_kept x.room room_long i hi h.total v (ltb-false message_size (h.total + length v) e); behind = k.1 }))

  -- a piece of an open message
  pub stays_added : (i : ℕ) → i < 4 → Stays x (added x i l v)
  unfolding added
  stays_added i hi =
      both (eqb (entry_at x.rec i l.number).len 0) _ _
      (λ e. both (misfits (head_at x.rec i) l) _ _ (λ w. stays_refused _) (λ w. stays_put i hi (head_at x.rec i))) (λ e. stays_refused _)

  -- a piece of a message that is not open, kept in a slot
  pub stays_opened : (second i : ℕ) → i < 4 → length v ≤ 1500 → Stays x (opened_in x i l second v)
  unfolding opened_in
  stays_opened second i hi few =
      let c : length (cleared x.rec i) ≡ length x.rec = length_cleared x.rec long i hi in
      let k = behind_kept (cleared x.rec i) (omega arith) i hi l.number small 0 (length v) (grown_by (new_head l second) l (length v)) in
      record { rec_long = k.0 ∙ c; room_long = length_kept x.room room_long i hi 0 v (omega arith); behind = k.1 ∙ behind_cleared x.rec long i hi }

-- a sweep of the slots
record Stayed (rec rec' : List ℕ) : Type 0 where
  long : length rec' ≡ length rec
  behind : drop ids_at rec' ≡ drop ids_at rec

stays_at_lem : (second : ℕ) (rec : List ℕ) → share_size ≤ length rec → (i : ℕ) → i < 4 → Stayed rec (swept_at second rec i)
unfolding swept_at
stays_at_lem second rec long i hi = go (is_old second (head_at rec i))
  where
    go : (b : Bool) → Stayed rec (cond b (lowered (with_head rec i no_head)) rec)
    go true =
        let l : length (with_head rec i no_head) ≡ length rec = length_head rec long i hi no_head in
        record {
          long = (open_behind (with_head rec i no_head) _ (omega arith)).long ∙ l;
          behind = open_drop (with_head rec i no_head) _ (omega arith) ∙ before_memory rec (with_head rec i no_head) (behind_head rec long i hi no_head);
        }
    go false = record { long = refl; behind = refl }

stays_to : (second : ℕ) (rec : List ℕ) → share_size ≤ length rec → (n : ℕ) → n ≤ 4 → Stayed rec (swept_to second rec n)
stays_to second rec long zero h = record { long = refl; behind = refl }
stays_to second rec long (suc n) h =
    let ih : Stayed rec (swept_to second rec n) = stays_to second rec long n (omega arith) in
    let a : Stayed (swept_to second rec n) (swept_at second (swept_to second rec n) n) = stays_at_lem second (swept_to second rec n) (omega (arith, ih.long)) n (omega arith) in
    record { long = a.long ∙ ih.long; behind = a.behind ∙ ih.behind }

pub stays_swept : (second : ℕ) (rec : List ℕ) → share_size ≤ length rec → (length (swept_to second rec 4) ≡ length rec) × (drop ids_at (swept_to second rec 4) ≡ drop ids_at rec)
stays_swept second rec long =
    let s : Stayed rec (swept_to second rec 4) = stays_to second rec long 4 (omega arith) in
    (s.long, s.behind)
