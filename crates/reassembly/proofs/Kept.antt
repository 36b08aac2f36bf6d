-- A slot whose head agrees with its entries: what its pieces are, whether its message is complete, and that a kept piece keeps the agreement. Assumes nothing.
use mathlib.Core.Path.{◌≡◌, refl, sym, ap, ◌∙◌}
use mathlib.Core.Logic.{◌≢◌}
use mathlib.Core.Bool.{Bool, true, false, cond, not, ◌&&◌, ◌||◌, true≢false}
use mathlib.Core.List.{List, []}
use Prim.Native.Nat.{ℕ, suc, ◌+◌, ◌≤◌, ◌<◌}
use native.Mathlib.Omega.{arith}
use native.Mathlib.Decide.{ℕ_discrete}
use lib.Dec.{eqb, ltb}
use lib.ListN.{length, get_or, take, set}
use lib.Seq.{get_or-set_same, get_or-set_other}
use borrow.Author.Tests.{lt-ltb, ltb-true, ltb-false}
use Rattle.wire.specs.Parts.{part}
use Rattle.wire.proofs.Parts.{part_same, part_before}
use Rattle.reassembly.specs.Sizes.{message_size, share_room, share_size}
use Rattle.reassembly.specs.declared.Head.{Head}
use Rattle.reassembly.specs.declared.Entry.{Entry}
use Rattle.reassembly.specs.declared.Label.{Label}
use Rattle.reassembly.specs.Store.{is_held, all_held, total, complete}
use Rattle.reassembly.specs.Record.{head_at, entry_at, with_entry, outside, room_of, piece_at}
use Rattle.reassembly.specs.Judge.{pick, misfits, more_of, grown_by, is_complete}
use Rattle.reassembly.specs.Joining.{outside_or, joins_outside}
use Rattle.reassembly.specs.Calls.{kept_rec, kept_room}
use Rattle.reassembly.specs.Stands.{table_at, message_with, held_of, Fine}
use Rattle.reassembly.proofs.Table.{total_set, held_of_length}
use Rattle.reassembly.proofs.Fields.{HeadFits}
use Rattle.reassembly.proofs.Joined.{length_room, le_inside, inside_length, none_all}
use Rattle.wire.proofs.Series.{length_series, get_d_series, series_set}
use Rattle.reassembly.proofs.Held.{held_length, not_held, held_le, held_set, all_upto}
use Rattle.reassembly.proofs.Written.{length_head, head_same, head_entry, length_entry, entry_same, entry_beside, kept_room_lem}

pub length_table : (rec room : List ℕ) (i : ℕ) → length (table_at rec room i) ≡ 128
unfolding table_at
length_table rec room i = length_series (piece_at rec room i) 0 128

pub table_at_lem : (rec room : List ℕ) (i k : ℕ) → k < 128 → get_or (table_at rec room i) k [] ≡ piece_at rec room i k
unfolding table_at
table_at_lem rec room i k h = get_d_series (piece_at rec room i) 128 k [] h

module _ (h : Head) (rec room : List ℕ) (i : ℕ) (f : Fine h rec room i) (long : share_room ≤ length room) (hi : i < 4) where
  -- no entry names bytes outside
  pub never_outside : (k : ℕ) → k < 128 → outside (entry_at rec i k) ≡ false
  never_outside k hk = le_inside (entry_at rec i k) (omega (arith, f.inside k hk, f.small))

  pub joins_inside : (m n : ℕ) → n ≤ 128 → joins_outside rec i m n ≡ false
  unfolding joins_outside outside_or
  joins_inside m n hn = none_all (outside_or rec i m) n (λ k hk. go k hk (eqb k m))
    where
      go : (k : ℕ) → k < n → (b : Bool) → cond b false (outside (entry_at rec i k)) ≡ false
      go k hk true = refl
      go k hk false = never_outside k (omega arith)

  -- a piece is as long as its entry says
  pub piece_length : (k : ℕ) → k < 128 → length (piece_at rec room i k) ≡ (entry_at rec i k).len
  piece_length k hk = inside_length rec room i k long hi (never_outside k hk)

  pub held_is : (k : ℕ) → k < 128 → is_held (get_or (table_at rec room i) k []) ≡ not (eqb (entry_at rec i k).len 0)
  held_is k hk = ap is_held (table_at_lem rec room i k hk) ∙ held_length (piece_at rec room i k) ∙ ap (λ (n : ℕ). not (eqb n 0)) (piece_length k hk)

  -- counting tells whether the message is complete
  pub complete_is : complete (message_with h rec room i) ≡ is_complete h
  unfolding complete message_with is_complete
  complete_is = go (ltb 0 h.last) refl
    where
      go : (b : Bool) → ltb 0 h.last ≡ b
          → (ltb 0 h.last && all_held (take (suc h.last) (table_at rec room i))) ≡ (ltb 0 h.last && ltb h.last 128 && eqb h.count (h.last + 1))
      go true e =
          let l : all_held (take (suc h.last) (table_at rec room i)) ≡ eqb (held_of (table_at rec room i)) (h.last + 1)
          = all_upto (table_at rec room i) h.last (omega (arith, f.last_small, length_table rec room i)) (f.lastmost (ltb-true 0 h.last e)) in
          let c : eqb (held_of (table_at rec room i)) (h.last + 1) ≡ eqb h.count (h.last + 1) = ap (λ (z : ℕ). eqb z (h.last + 1)) (sym f.counted) in
          rw (e, lt-ltb h.last 128 f.last_small, l ∙ c) refl
      go false e = rw e refl

-- A piece v is kept as number l .number, which was not held and does not misfit.
module _ (h : Head) (rec room : List ℕ) (i : ℕ) (f : Fine h rec room i) (rlong : share_size ≤ length rec) (long : share_room ≤ length room) (hi : i < 4)
    (l : Label) (v : List ℕ) (hn : l.number < 128) (some_bytes : 1 ≤ length v) (few : length v ≤ 1500) (fits : h.total + length v ≤ message_size)
    (lx : l.expires < 4294967296)
    (free : is_held (get_or (table_at rec room i) l.number []) ≡ false) (ok : misfits h l ≡ false) where
  abbrev g : Head
  g = grown_by h l (length v)

  abbrev e : Entry
  e = record { place = h.total; len = length v }

  abbrev rec₁ : List ℕ
  rec₁ = with_entry rec i l.number e

  abbrev rec' : List ℕ
  rec' = kept_rec rec i l.number h.total (length v) g

  abbrev room' : List ℕ
  room' = kept_room room i h.total v

  long₁ : share_size ≤ length rec₁
  long₁ = omega (arith, length_entry rec rlong i hi l.number hn e)

  pick_below : (b : Bool) (x y m : ℕ) → x < m → y < m → pick b x y < m
  pick_below true x y m p q = p
  pick_below false x y m p q = q

  head_fits : HeadFits g
  unfolding grown_by
  head_fits = record { id = f.id; opened = f.opened; expires = pick_below (eqb l.number 0) l.expires h.expires 4294967296 lx f.expires; total = omega arith }

  pub kept_long : length rec' ≡ length rec
  unfolding kept_rec
  kept_long =
      length_head rec₁ long₁ i hi g
      ∙ length_entry rec rlong i hi l.number hn e

  pub kept_head : head_at rec' i ≡ g
  unfolding kept_rec
  kept_head = head_same rec₁ long₁ i hi g head_fits

  entry_new : entry_at rec' i l.number ≡ e
  unfolding kept_rec
  entry_new =
      head_entry rec₁ long₁ i hi g i l.number
      ∙ entry_same rec rlong i hi l.number hn e f.small (omega arith)

  entry_old : (k : ℕ) → k ≢ l.number → entry_at rec' i k ≡ entry_at rec i k
  unfolding kept_rec
  entry_old k q =
      head_entry rec₁ long₁ i hi g i k
      ∙ entry_beside rec rlong i hi l.number hn e k q

  lr : length (room_of room i) ≡ message_size
  lr = length_room room i long hi

  piece_new : piece_at rec' room' i l.number ≡ v
  unfolding piece_at
  piece_new =
      ap (λ (x : Entry). part (room_of (kept_room room i h.total v) i) x.place x.len) entry_new
      ∙ ap (λ (z : List ℕ). part z h.total (length v)) (kept_room_lem room long i hi h.total v fits)
      ∙ part_same (room_of room i) h.total v (omega (arith, lr))

  piece_old : (k : ℕ) → k < 128 → k ≢ l.number → piece_at rec' room' i k ≡ piece_at rec room i k
  unfolding piece_at
  piece_old k hk q =
      ap (λ (x : Entry). part (room_of (kept_room room i h.total v) i) x.place x.len) (entry_old k q)
      ∙ ap (λ (z : List ℕ). part z (entry_at rec i k).place (entry_at rec i k).len) (kept_room_lem room long i hi h.total v fits)
      ∙ part_before (room_of room i) h.total v (omega (arith, lr)) (entry_at rec i k).place (entry_at rec i k).len (f.inside k hk)

  pub table_kept : table_at rec' room' i ≡ set (table_at rec room i) l.number v
  unfolding table_at
  table_kept = series_set (piece_at rec room i) (piece_at rec' room' i) 128 l.number v [] hn piece_new piece_old

  -- what is held now: the number, and what was held
  was_held : (k : ℕ) → k ≢ l.number → is_held (get_or (table_at rec' room' i) k []) ≡ true → is_held (get_or (table_at rec room i) k []) ≡ true
  was_held k q e' = ap is_held (sym (ap (λ (t : List (List ℕ)). get_or t k []) table_kept ∙ get_or-set_other (table_at rec room i) l.number k v [] q)) ∙ e'

  held_now : is_held (get_or (table_at rec' room' i) l.number []) ≡ true
  held_now =
      ap is_held (ap (λ (t : List (List ℕ)). get_or t l.number []) table_kept ∙ get_or-set_same (table_at rec room i) l.number v [] (omega (arith, length_table rec room i)))
      ∙ held_of_length v some_bytes

  held_still : (k : ℕ) → k ≢ l.number → is_held (get_or (table_at rec room i) k []) ≡ true → is_held (get_or (table_at rec' room' i) k []) ≡ true
  held_still k q e' = ap is_held (ap (λ (t : List (List ℕ)). get_or t k []) table_kept ∙ get_or-set_other (table_at rec room i) l.number k v [] q) ∙ e'

  -- what a piece that does not misfit says
  fit_above : 0 < h.last → l.number ≤ h.last
  fit_above p = go (ltb h.last l.number) refl
    where
      go : (b : Bool) → ltb h.last l.number ≡ b → l.number ≤ h.last
      go false q = ltb-false h.last l.number q
      go true q =
          let t : misfits h l ≡ true = unfold misfits in (rw (lt-ltb 0 h.last p, q) refl) in
          absurd (true≢false (sym t ∙ ok))

  fit_top : l.last ≡ true → h.top ≤ l.number
  fit_top p = go (ltb l.number h.top) refl
    where
      either : (a b : Bool) → (a || (true && (true || b))) ≡ true
      either true b = refl
      either false b = refl

      go : (b : Bool) → ltb l.number h.top ≡ b → h.top ≤ l.number
      go false q = ltb-false l.number h.top q
      go true q =
          let t : misfits h l ≡ true = unfold misfits in (rw (p, q) (either (ltb 0 h.last && ltb h.last l.number) (ltb 0 h.last))) in
          absurd (true≢false (sym t ∙ ok))

  counts : more_of h.count ≡ held_of (table_at rec' room' i)
  unfolding more_of
  counts =
      let a : held_of (set (table_at rec room i) l.number v) ≡ held_of (table_at rec room i) + 1
      = held_set (table_at rec room i) l.number v (omega (arith, length_table rec room i)) free (held_of_length v some_bytes) in
      let b : held_of (table_at rec room i) ≤ 128 = omega (arith, held_le (table_at rec room i), length_table rec room i) in
      let c : h.count ≡ held_of (table_at rec room i) = f.counted in
      rw (lt-ltb h.count 255 (omega arith)) (ap (λ (z : ℕ). z + 1) c ∙ sym a ∙ ap held_of (sym table_kept))

  sums : h.total + length v ≡ total (table_at rec' room' i)
  sums =
      let t : total (set (table_at rec room i) l.number v) + length (get_or (table_at rec room i) l.number []) ≡ total (table_at rec room i) + length v
      = total_set (table_at rec room i) l.number v (omega (arith, length_table rec room i)) in
      let o : length (get_or (table_at rec room i) l.number []) ≡ 0 = ap length (not_held (get_or (table_at rec room i) l.number []) free) in
      let s : total (table_at rec' room' i) ≡ total (set (table_at rec room i) l.number v) = ap total table_kept in
      omega (arith, f.filled)

  top_is : (b : Bool) → ltb h.top l.number ≡ b → (0 < pick b l.number h.top → is_held (get_or (table_at rec' room' i) (pick b l.number h.top) []) ≡ true)
      × ((k : ℕ) → is_held (get_or (table_at rec' room' i) k []) ≡ true → k ≤ pick b l.number h.top)
  top_is true q = (λ z. held_now, λ k e'. most k e' (ℕ_discrete k l.number))
    where
      most : (k : ℕ) → is_held (get_or (table_at rec' room' i) k []) ≡ true → Dec (k ≡ l.number) → k ≤ l.number
      most k e' (yes y) = omega arith
      most k e' (no y) = let a : k ≤ h.top = f.topmost k (was_held k y e') in let b : h.top < l.number = ltb-true h.top l.number q in omega arith
  top_is false q = (λ z. at_top z (ℕ_discrete h.top l.number), λ k e'. most k e' (ℕ_discrete k l.number))
    where
      at_top : 0 < h.top → Dec (h.top ≡ l.number) → is_held (get_or (table_at rec' room' i) h.top []) ≡ true
      at_top z (yes y) = ap (λ (k : ℕ). is_held (get_or (table_at rec' room' i) k [])) y ∙ held_now
      at_top z (no y) = held_still h.top y (f.top_held z)

      most : (k : ℕ) → is_held (get_or (table_at rec' room' i) k []) ≡ true → Dec (k ≡ l.number) → k ≤ h.top
      most k e' (yes y) = let b : l.number ≤ h.top = ltb-false h.top l.number q in omega arith
      most k e' (no y) = f.topmost k (was_held k y e')

  last_is : (b : Bool) → l.last ≡ b → (pick b l.number h.last < 128)
      × (0 < pick b l.number h.last → (k : ℕ) → is_held (get_or (table_at rec' room' i) k []) ≡ true → k ≤ pick b l.number h.last)
  last_is true q = (hn, λ z k e'. most k e' (ℕ_discrete k l.number))
    where
      most : (k : ℕ) → is_held (get_or (table_at rec' room' i) k []) ≡ true → Dec (k ≡ l.number) → k ≤ l.number
      most k e' (yes y) = omega arith
      most k e' (no y) = let a : k ≤ h.top = f.topmost k (was_held k y e') in let b : h.top ≤ l.number = fit_top q in omega arith
  last_is false q = (f.last_small, λ z k e'. most z k e' (ℕ_discrete k l.number))
    where
      most : 0 < h.last → (k : ℕ) → is_held (get_or (table_at rec' room' i) k []) ≡ true → Dec (k ≡ l.number) → k ≤ h.last
      most z k e' (yes y) = let b : l.number ≤ h.last = fit_above z in omega arith
      most z k e' (no y) = f.lastmost z k (was_held k y e')

  inside' : (k : ℕ) → k < 128 → Dec (k ≡ l.number) → (entry_at rec' i k).place + (entry_at rec' i k).len ≤ h.total + length v
  inside' k hk (yes y) =
      let p : entry_at rec' i k ≡ e = ap (entry_at rec' i) y ∙ entry_new in
      let a : (entry_at rec' i k).place ≡ h.total = ap (λ (x : Entry). x.place) p in
      let b : (entry_at rec' i k).len ≡ length v = ap (λ (x : Entry). x.len) p in
      omega arith
  inside' k hk (no y) =
      let p : entry_at rec' i k ≡ entry_at rec i k = entry_old k y in
      let a : (entry_at rec' i k).place ≡ (entry_at rec i k).place = ap (λ (x : Entry). x.place) p in
      let b : (entry_at rec' i k).len ≡ (entry_at rec i k).len = ap (λ (x : Entry). x.len) p in
      let c : (entry_at rec i k).place + (entry_at rec i k).len ≤ h.total = f.inside k hk in
      omega arith

  pub kept_fine : Fine g rec' room' i
  unfolding grown_by
  kept_fine =
      record {
        id = f.id;
        opened = f.opened;
        expires = head_fits.expires;
        small = omega arith;
        inside = λ k hk. inside' k hk (ℕ_discrete k l.number);
        filled = sums;
        counted = counts;
        top_held = (top_is (ltb h.top l.number) refl).0;
        topmost = (top_is (ltb h.top l.number) refl).1;
        last_small = (last_is l.last refl).0;
        lastmost = (last_is l.last refl).1;
      }
