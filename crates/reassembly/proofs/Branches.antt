-- Each branch of a call's definition, from the test that leads there. Assumes nothing.
use mathlib.Core.Path.{◌≡◌, refl, sym, ap, ◌∙◌}
use mathlib.Core.Bool.{Bool, true, false, ◌&&◌, or-true, false≢true}
use mathlib.Core.List.{List}
use Prim.Native.Nat.{ℕ, ◌+◌, ◌*◌, ◌≤◌, ◌<◌}
use native.Mathlib.Omega.{arith}
use lib.Dec.{eqb, ltb, leb}
use lib.ListN.{length}
use borrow.Author.Tests.{lt-ltb, le-ltb, eq-eqb, ne_eqb, le-leb, lt-leb, ltb-true, ltb-false, leb-false, eqb-false}
use native.Mathlib.Numerals.{add-one}
use Rattle.wire.specs.Parts.{splice}
use Rattle.wire.proofs.Tests.{or_neither}
use Rattle.reassembly.specs.Sizes.{message_size, slot_size}
use Rattle.reassembly.specs.declared.Head.{Head}
use Rattle.reassembly.specs.declared.Entry.{Entry}
use Rattle.reassembly.specs.declared.Label.{Label}
use Rattle.reassembly.specs.Record.{head_at, with_head, entry_at, with_entry, outside, piece_at, cleared}
use Rattle.reassembly.specs.Slots.{first_from, is_open_as, is_free}
use Rattle.reassembly.specs.Memory.{Finished, remembers}
use Rattle.reassembly.specs.Remembered.{memory_of, remembered_in}
use Rattle.reassembly.specs.Summary.{open_count, with_open, lowered, is_full}
use Rattle.reassembly.specs.Joining.{message_of, joins_outside}
use Rattle.reassembly.specs.Judge.{again, misfits, grown_by, is_complete, new_head, no_head, is_old}
use Rattle.reassembly.specs.Calls.{lent, After, after, bare, kept_rec, kept_room, finished, put_in, compared, added, opened_in, opened_now, remembered_after, with_raised, with_remembered, taken_piece, bad_size, off_number, first_taken, follow_on_taken, swept_at, swept_to}

-- a message that is whole has a last number below 128
pub whole_last : (h : Head) → is_complete h ≡ true → h.last < 128
unfolding is_complete
whole_last h e = ltb-true h.last 128 (go (ltb 0 h.last) (ltb h.last 128) (eqb h.count (h.last + 1)) e)
  where
    go : (a b c : Bool) → (a && b && c) ≡ true → b ≡ true
    go true true c q = refl
    go true false c q = absurd (false≢true q)
    go false b c q = absurd (false≢true q)

module _ (rec room out : List ℕ) (i : ℕ) (l : Label) (g : Head) (v : List ℕ) where
  pub finished_59 : (o : Bool) (k m : ℕ) → k ≡ l.number → m ≡ g.last → o ≡ joins_outside rec i k (m + 1) → o ≡ true → after (bare 59) (lent rec room out) ≡ finished (lent rec room out) i l g v
  unfolding finished
  finished_59 o k m ek em eo t =
      let u : joins_outside rec i l.number (g.last + 1) ≡ true = cc in
      rw u refl

  pub finished_short : (o : Bool) (n k m : ℕ) → k ≡ l.number → m ≡ g.last → o ≡ joins_outside rec i k (m + 1) → o ≡ false → n ≡ length (message_of rec room i k v (m + 1)) → length out < n → after (bare 56) (lent rec room out) ≡ finished (lent rec room out) i l g v
  unfolding finished
  finished_short o n k m ek em eo f en h =
      let u : joins_outside rec i l.number (g.last + 1) ≡ false = cc in
      let e : n ≡ length (message_of rec room i l.number v (g.last + 1)) = cc in
      let t : ltb (length out) (length (message_of rec room i l.number v (g.last + 1))) ≡ true = lt-ltb (length out) (length (message_of rec room i l.number v (g.last + 1))) (omega arith) in
      rw (u, t) refl

  pub finished_out : (o : Bool) (n k m : ℕ) (rec' out' : List ℕ) (z : Head) → k ≡ l.number → m ≡ g.last → o ≡ joins_outside rec i k (m + 1) → o ≡ false → n ≡ length (message_of rec room i k v (m + 1)) → n ≤ length out
      → out' ≡ splice out 0 (message_of rec room i k v (m + 1)) → z ≡ no_head → rec' ≡ with_head rec i z
      → after (record { number = 60; kind = g.kind; expires = g.expires; length = n }) (lent rec' room out') ≡ finished (lent rec room out) i l g v
  unfolding finished
  finished_out o n k m rec' out' z ek em eo f en h eq eh er =
      let u : joins_outside rec i l.number (g.last + 1) ≡ false = cc in
      let s : n ≡ length (message_of rec room i l.number v (g.last + 1)) = cc in
      let t : ltb (length out) (length (message_of rec room i l.number v (g.last + 1))) ≡ false = le-ltb (length out) (length (message_of rec room i l.number v (g.last + 1))) (omega arith) in
      rw (u, t) (cc)

module _ (rec room out : List ℕ) (i : ℕ) (h : Head) (l : Label) (v : List ℕ) where
  pub put_53 : message_size < h.total + length v → after (bare 53) (lent rec room out) ≡ put_in (lent rec room out) i h l v
  unfolding put_in
  put_53 t = rw (lt-ltb message_size (h.total + length v) t) refl

  pub put_whole : (x : After) (g : Head) → h.total + length v ≤ message_size → g ≡ grown_by h l (length v) → is_complete g ≡ true → x ≡ finished (lent rec room out) i l g v → x ≡ put_in (lent rec room out) i h l v
  unfolding put_in
  put_whole x g t e w q =
      let w' : is_complete (grown_by h l (length v)) ≡ true = ap is_complete (sym e) ∙ w in
      rw (le-ltb message_size (h.total + length v) t, w') (q ∙ ap (λ (z : Head). finished (lent rec room out) i l z v) e)

  pub put_kept : (rec' room' : List ℕ) (g : Head) (k : ℕ) → h.total + length v ≤ message_size → g ≡ grown_by h l (length v) → is_complete g ≡ false → k ≡ l.number
      → rec' ≡ kept_rec rec i k h.total (length v) g → room' ≡ kept_room room i h.total v → after (bare 0) (lent rec' room' out) ≡ put_in (lent rec room out) i h l v
  unfolding put_in
  put_kept rec' room' g k t e w n a b =
      let w' : is_complete (grown_by h l (length v)) ≡ false = ap is_complete (sym e) ∙ w in
      rw (le-ltb message_size (h.total + length v) t, w') (cc)

module _ (rec room out : List ℕ) (i : ℕ) (l : Label) (v : List ℕ) (h : Head) (k : ℕ) (e : Entry) (eh : h ≡ head_at rec i) (ek : k ≡ l.number) (ee : e ≡ entry_at rec i k) where
  len_is : e.len ≡ (entry_at rec i l.number).len
  len_is = ap (λ (x : Entry). x.len) ee ∙ ap (λ (z : ℕ). (entry_at rec i z).len) ek

  pub added_again : (n : ℕ) → (e.len ≡ 0 → ⊥) → n ≡ compared rec room i h l v → after (bare n) (lent rec room out) ≡ added (lent rec room out) i l v
  unfolding added
  added_again n t q =
      let u : n ≡ compared rec room i (head_at rec i) l v = cc in
      rw (ne_eqb (entry_at rec i l.number).len 0 (λ z. t (len_is ∙ z)), u) refl

  pub added_55 : (b : Bool) → e.len ≡ 0 → b ≡ misfits h l → b ≡ true → after (bare 55) (lent rec room out) ≡ added (lent rec room out) i l v
  unfolding added
  added_55 b t m m' =
      let u : misfits (head_at rec i) l ≡ true = cc in
      rw (eq-eqb (entry_at rec i l.number).len 0 (sym len_is ∙ t), u) refl

  pub added_put : (x : After) (b : Bool) → e.len ≡ 0 → b ≡ misfits h l → b ≡ false → x ≡ put_in (lent rec room out) i h l v → x ≡ added (lent rec room out) i l v
  unfolding added
  added_put x b t m m' q =
      let u : misfits (head_at rec i) l ≡ false = cc in
      rw (eq-eqb (entry_at rec i l.number).len 0 (sym len_is ∙ t), u) (q ∙ ap (λ (z : Head). put_in (lent rec room out) i z l v) eh)

-- a piece whose number is held
module _ (rec room : List ℕ) (i : ℕ) (h : Head) (l : Label) (v : List ℕ) (k : ℕ) (e : Entry) (o : Bool) (ek : k ≡ l.number) (ee : e ≡ entry_at rec i k) (eo : o ≡ outside e) where
  pub compared_59 : o ≡ true → 59 ≡ compared rec room i h l v
  unfolding compared
  compared_59 t =
      let u : outside (entry_at rec i l.number) ≡ true = cc in
      rw u refl

  pub compared_again : (n : ℕ) (held : List ℕ) → o ≡ false → held ≡ piece_at rec room i k → n ≡ again h l held v → n ≡ compared rec room i h l v
  unfolding compared
  compared_again n held f p q =
      let u : outside (entry_at rec i l.number) ≡ false = cc in
      rw u (cc)

-- a piece put after what its slot holds
pub kept_is : (rec rec₁ rec' room room' : List ℕ) (i k total : ℕ) (g : Head) (v : List ℕ) (at : ℕ) → at ≡ total → room' ≡ splice room (i * slot_size + at) v
    → rec₁ ≡ with_entry rec i k (record { place = total; len = length v }) → rec' ≡ with_head rec₁ i g
    → (rec' ≡ kept_rec rec i k total (length v) g) × (room' ≡ kept_room room i total v)
unfolding kept_rec kept_room
kept_is rec rec₁ rec' room room' i k total g v at ea em e₁ e₂ =
    (e₂ ∙ ap (λ (z : List ℕ). with_head z i g) e₁, em ∙ ap (λ (z : ℕ). splice room (i * slot_size + z) v) ea)

pub opened_kept : (rec room rec₁ rec' room' : List ℕ) (i k second : ℕ) (l : Label) (g₀ g : Head) (v : List ℕ) → rec₁ ≡ cleared rec i → g₀ ≡ new_head l second → g ≡ grown_by g₀ l (length v)
    → k ≡ l.number → rec' ≡ kept_rec rec₁ i k 0 (length v) g → room' ≡ kept_room room i 0 v
    → (out : List ℕ) → after (bare 0) (lent rec' room' out) ≡ opened_in (lent rec room out) i l second v
unfolding opened_in
opened_kept rec room rec₁ rec' room' i k second l g₀ g v e₁ e₂ e₃ e₄ e₅ e₆ out = cc

pub swept_old : (rec rec₁ rec' : List ℕ) (i second : ℕ) (h z : Head) (b : Bool) → h ≡ head_at rec i → b ≡ is_old second h → b ≡ true → z ≡ no_head → rec₁ ≡ with_head rec i z → rec' ≡ lowered rec₁
    → rec' ≡ swept_at second rec i
unfolding swept_at
swept_old rec rec₁ rec' i second h z b eh eb t ez er el =
    let o : is_old second (head_at rec i) ≡ true = ap (is_old second) (sym eh) ∙ sym eb ∙ t in
    rw o (el ∙ ap lowered (er ∙ ap (with_head rec i) ez))

pub swept_young : (rec : List ℕ) (i second : ℕ) (h : Head) (b : Bool) → h ≡ head_at rec i → b ≡ is_old second h → b ≡ false → rec ≡ swept_at second rec i
unfolding swept_at
swept_young rec i second h b eh eb t =
    let o : is_old second (head_at rec i) ≡ false = ap (is_old second) (sym eh) ∙ sym eb ∙ t in
    rw o refl

-- the summary says 4, or no slot is free; else neither
pub full_count : (rec : List ℕ) → 4 ≤ open_count rec → is_full rec ≡ true
unfolding is_full
full_count rec h = rw (le-leb 4 (open_count rec) h) refl

pub full_slots : (rec : List ℕ) → 4 ≤ first_from (is_free rec) 0 4 → is_full rec ≡ true
unfolding is_full
full_slots rec h = rw (le-leb 4 (first_from (is_free rec) 0 4) h) (or-true (leb 4 (open_count rec)))

pub not_full : (rec : List ℕ) → open_count rec < 4 → first_from (is_free rec) 0 4 < 4 → is_full rec ≡ false
unfolding is_full
not_full rec a b = rw (lt-leb 4 (open_count rec) a, lt-leb 4 (first_from (is_free rec) 0 4) b) refl

pub free_slot : (rec : List ℕ) → is_full rec ≡ false → first_from (is_free rec) 0 4 < 4
unfolding is_full
free_slot rec e = leb-false 4 (first_from (is_free rec) 0 4) (or_neither (leb 4 (open_count rec)) (leb 4 (first_from (is_free rec) 0 4)) e).1

module _ (rec room out : List ℕ) (l : Label) (second : ℕ) (v : List ℕ) where
  pub opened_57 : (b : Bool) → b ≡ remembers (memory_of rec) l.id → b ≡ true → after (bare 57) (lent rec room out) ≡ opened_now (lent rec room out) l second v
  unfolding opened_now
  opened_57 b e t = rw (sym e ∙ t) refl

  -- 52 by the summary, or where no slot is free
  pub opened_52 : (b : Bool) → b ≡ remembers (memory_of rec) l.id → b ≡ false → is_full rec ≡ true
      → after (bare 52) (lent rec room out) ≡ opened_now (lent rec room out) l second v
  unfolding opened_now
  opened_52 b e f t = rw (sym e ∙ f, t) refl

  pub opened_in_lem : (x : After) (rec' : List ℕ) (b : Bool) (i n : ℕ) → b ≡ remembers (memory_of rec) l.id → b ≡ false → n ≡ open_count rec → n < 4 → i ≡ first_from (is_free rec) 0 4 → i < 4
      → x ≡ opened_in (lent rec room out) i l second v → rec' ≡ with_open x.left.rec (n + 1)
      → after x.reply (lent rec' x.left.room x.left.out) ≡ opened_now (lent rec room out) l second v
  unfolding opened_now
  opened_in_lem x rec' b i n m f en tn e t q er =
      let full : is_full rec ≡ false = not_full rec (omega arith) (omega arith) in
      rw (sym m ∙ f, full)
      (ap (λ (z : List ℕ). after x.reply (lent z x.left.room x.left.out)) (er ∙ ap (λ (k : ℕ). with_open x.left.rec (k + 1)) en)
      ∙ ap (with_raised (lent rec room out)) (q ∙ ap (λ (z : ℕ). opened_in (lent rec room out) z l second v) e))

  pub taken_added : (x : After) (rec' : List ℕ) (i : ℕ) → i ≡ first_from (is_open_as rec l.id) 0 4 → i < 4 → x ≡ added (lent rec room out) i l v
      → rec' ≡ remembered_after x.left.rec x.reply.number (record { id = l.id; second = second })
      → after x.reply (lent rec' x.left.room x.left.out) ≡ taken_piece (lent rec room out) l second v
  unfolding taken_piece
  taken_added x rec' i e t q r =
      rw (lt-ltb (first_from (is_open_as rec l.id) 0 4) 4 (omega arith))
      (ap (λ (z : List ℕ). after x.reply (lent z x.left.room x.left.out)) r
      ∙ ap (with_remembered l second) (q ∙ ap (λ (z : ℕ). added (lent rec room out) z l v) e))

  pub taken_opened : (x : After) (i : ℕ) → i ≡ first_from (is_open_as rec l.id) 0 4 → 4 ≤ i → x ≡ opened_now (lent rec room out) l second v → x ≡ taken_piece (lent rec room out) l second v
  unfolding taken_piece
  taken_opened x i e t q = rw (le-ltb (first_from (is_open_as rec l.id) 0 4) 4 (omega arith)) q

  pub first_50 : bad_size (length v) ≡ true → after (bare 50) (lent rec room out) ≡ first_taken (lent rec room out) l second v
  unfolding first_taken
  first_50 s = rw s refl

  pub first_taken_lem : (x : After) → bad_size (length v) ≡ false → x ≡ taken_piece (lent rec room out) l second v → x ≡ first_taken (lent rec room out) l second v
  unfolding first_taken
  first_taken_lem x s q = rw s q

  pub follow_50 : bad_size (length v) ≡ true → after (bare 50) (lent rec room out) ≡ follow_on_taken (lent rec room out) l second v
  unfolding follow_on_taken
  follow_50 s = rw s refl

  pub follow_51 : bad_size (length v) ≡ false → off_number l.number ≡ true → after (bare 51) (lent rec room out) ≡ follow_on_taken (lent rec room out) l second v
  unfolding follow_on_taken
  follow_51 s n = rw (s, n) refl

  pub follow_taken : (x : After) → bad_size (length v) ≡ false → off_number l.number ≡ false → x ≡ taken_piece (lent rec room out) l second v → x ≡ follow_on_taken (lent rec room out) l second v
  unfolding follow_on_taken
  follow_taken x s n q = rw (s, n) q

-- a record is answer_by_slots: with 60 the message is remembered
pub remembered_60 : (rec rec₁ rec' : List ℕ) (n : ℕ) (f : Finished) → n ≡ 60 → rec₁ ≡ lowered rec → rec' ≡ remembered_in rec₁ f → rec' ≡ remembered_after rec n f
unfolding remembered_after
remembered_60 rec rec₁ rec' n f e p q = rw (eq-eqb n 60 e) (q ∙ ap (λ (z : List ℕ). remembered_in z f) p)

pub remembered_not : (rec : List ℕ) (n : ℕ) (f : Finished) → (n ≡ 60 → ⊥) → rec ≡ remembered_after rec n f
unfolding remembered_after
remembered_not rec n f e = rw (ne_eqb n 60 e) refl

-- what the tests that were passed say of the length and the number
pub good_size : (n : ℕ) → bad_size n ≡ false → (0 < n) × (n ≤ 1500)
unfolding bad_size
good_size n e =
    let p = or_neither (eqb n 0) (ltb 1500 n) e in
    let z : n ≡ 0 → ⊥ = eqb-false n 0 p.0 in
    (omega arith, ltb-false 1500 n p.1)

pub good_number : (k : ℕ) → off_number k ≡ false → (0 < k) × (k ≤ 127)
unfolding off_number
good_number k e =
    let p = or_neither (eqb k 0) (ltb 127 k) e in
    let z : k ≡ 0 → ⊥ = eqb-false k 0 p.0 in
    (omega arith, ltb-false 127 k p.1)

-- one slot more is swept
pub swept_more : (second : ℕ) (rec₀ rec rec' : List ℕ) (i : ℕ) → rec ≡ swept_to second rec₀ i → rec' ≡ swept_at second rec i → rec' ≡ swept_to second rec₀ (i + 1)
swept_more second rec₀ rec rec' i e f = rw (add-one i) (f ∙ ap (λ (z : List ℕ). swept_at second z i) e)
