-- Laws of the store, over any store, message and piece: where a piece goes, what it is answered there, and what a sweep drops. Assumes nothing.
use mathlib.Core.Path.{◌≡◌, refl, sym, ap, ◌∙◌}
use mathlib.Core.Bool.{Bool, true, false, cond, ◌&&◌, ◌||◌, beq}
use mathlib.Core.List.{List, [], ◌∷◌}
use mathlib.Core.Option.{Option, none, some}
use Prim.Native.Nat.{ℕ, zero, suc, ◌+◌, ◌≤◌, ◌<◌}
use native.Mathlib.Nat.{not-suc-le-zero, le_of_suc-le-suc}
use native.Mathlib.Omega.{arith}
use lib.Dec.{eqb, ltb}
use lib.ListN.{length, get_or, take, drop, set, replicate, length-map, length-replicate, get_or-map}
use lib.Seq.{get_or-drop, get_or-take, ext_get_or, length-take-le}
use borrow.Author.Tests.{eq-eqb, ne_eqb, lt-ltb, le-ltb, le-leb, lt-leb, eqb-true, eqb-false, ltb-true, ltb-false}
use Rattle.wire.proofs.Same.{eq_same}
use Rattle.reassembly.specs.Sizes.{message_size}
use Rattle.reassembly.specs.Store.{Piece, first, follow, id_of, number_of, final_of, piece_bytes, Message, Slots, Store, all_held, some_held, total, joined, find_id, find_free, slot_of, message_or, plus, bad_length, bad_number, repeats, clashes, too_much, complete, rebuilt_of, too_short, slots_refuse, answer, slots_step, step, swept_one, slots_sweep}
use Rattle.reassembly.proofs.Table.{held_of_length, total_set, total_set_le, total_take, length_joined, none_held}

-- ---- the parts of a piece

pub first_parts : (id kind expires : ℕ) (bytes : List ℕ) → (id_of (first id kind expires bytes) ≡ id) × (number_of (first id kind expires bytes) ≡ 0)
    × (final_of (first id kind expires bytes) ≡ false) × (piece_bytes (first id kind expires bytes) ≡ bytes)
unfolding id_of number_of final_of piece_bytes
first_parts id kind expires bytes = (refl, refl, refl, refl)

pub follow_parts : (id number : ℕ) (final : Bool) (bytes : List ℕ) → (id_of (follow id number final bytes) ≡ id) × (number_of (follow id number final bytes) ≡ number)
    × (final_of (follow id number final bytes) ≡ final) × (piece_bytes (follow id number final bytes) ≡ bytes)
unfolding id_of number_of final_of piece_bytes
follow_parts id number final bytes = (refl, refl, refl, refl)

-- ---- where an id is found, and which place is free

-- n times a default is the default everywhere
pub all_same : {A : Type 0} (n i : ℕ) (d : A) → get_or (replicate n d) i d ≡ d
all_same zero i d = refl
all_same (suc n) zero d = refl
all_same (suc n) (suc i) d = all_same n i d

pub none≢some : (o : Option Message) (m : Message) → o ≡ none → o ≡ some m → ⊥
none≢some o m p q = let z : ◌≡◌ {A = ℕ} 0 1 = cc in omega arith

-- The place k holds a message of this id.
pub record Hit (id : ℕ) (s : Slots) (k : ℕ) : Type 0 where
  pub inside : k < length s
  pub there : Message
  pub is_there : get_or s k none ≡ some there
  pub its_id : there.id ≡ id

pub hit_later : (id : ℕ) (o : Option Message) (s : Slots) (k : ℕ) → Hit id s k → Hit id (o ∷ s) (suc k)
hit_later id o s k h = record { inside = omega arith; there = h.there; is_there = h.is_there; its_id = h.its_id }

find_hit : (id : ℕ) (s : Slots) (k : ℕ) (m : Message) → get_or s k none ≡ some m → m.id ≡ id → Hit id s (find_id id s)
unfolding find_id
find_hit id [] k m e q = absurd (none≢some none m refl e)
find_hit id (none ∷ s) zero m e q = absurd (none≢some none m refl e)
find_hit id (none ∷ s) (suc k) m e q = hit_later id none s (find_id id s) (find_hit id s k m e q)
find_hit id (some x ∷ s) k m e q = go (eqb x.id id) refl k e (λ k e. find_hit id s k m e q)
  where
    go : (b : Bool) → eqb x.id id ≡ b → (k : ℕ) → get_or (some x ∷ s) k none ≡ some m → ((k : ℕ) → get_or s k none ≡ some m → Hit id s (find_id id s))
        → Hit id (some x ∷ s) (cond (eqb x.id id) 0 (suc (find_id id s)))
    go true r k e ih = rw r (record { inside = omega arith; there = x; is_there = refl; its_id = eqb-true x.id id r })
    go false r zero e ih = let d : x.id ≡ m.id = cc in absurd (eqb-false x.id id r (d ∙ q))
    go false r (suc k) e ih = rw r (hit_later id (some x) s (find_id id s) (ih k e))

find_miss : (id : ℕ) (s : Slots) → ((k : ℕ) (m : Message) → get_or s k none ≡ some m → m.id ≡ id → ⊥) → find_id id s ≡ length s
unfolding find_id
find_miss id [] f = refl
find_miss id (none ∷ s) f = ap suc (find_miss id s (λ k. f (suc k)))
find_miss id (some x ∷ s) f = rw (ne_eqb x.id id (λ e. f 0 x refl e)) (ap suc (find_miss id s (λ k. f (suc k))))

-- A piece of a message that is open goes to a place that holds it;
pub place_open : (id : ℕ) (s : Slots) (k : ℕ) (m : Message) → get_or s k none ≡ some m → m.id ≡ id → Hit id s (slot_of id s)
unfolding slot_of
place_open id s k m e q =
    let h : Hit id s (find_id id s) = find_hit id s k m e q in
    rw (lt-ltb (find_id id s) (length s) h.inside) h

-- of one that is not, to the first free place,
pub place_new : (id : ℕ) (s : Slots) → ((k : ℕ) (m : Message) → get_or s k none ≡ some m → m.id ≡ id → ⊥) → slot_of id s ≡ find_free s
unfolding slot_of
place_new id s f = rw (find_miss id s f, le-ltb (length s) (length s) (omega arith)) refl

-- which is one of the store's if one of them is free.
pub free_inside : (s : Slots) (k : ℕ) → k < length s → get_or s k none ≡ none → find_free s < length s
unfolding find_free
free_inside [] k h e = absurd (not-suc-le-zero h)
free_inside (none ∷ s) k h e = omega arith
free_inside (some x ∷ s) zero h e = absurd (none≢some (some x) x e refl)
free_inside (some x ∷ s) (suc k) h e =
    let ih : find_free s < length s = free_inside s k (le_of_suc-le-suc h) e in
    omega arith

-- ---- what stands there

pub message_open : (m : Message) (id second : ℕ) → message_or (some m) id second ≡ m
unfolding message_or
message_open m id second = refl

-- m is a message of this id, opened now, of which nothing is held
pub record Blank (id second : ℕ) (m : Message) : Type 0 where
  pub its_id : m.id ≡ id
  pub opened : m.opened ≡ second
  pub last : m.last ≡ 0
  pub size : length m.table ≡ 128
  pub none_there : (i : ℕ) → get_or m.table i [] ≡ []

pub message_new : (id second : ℕ) → Blank id second (message_or none id second)
unfolding message_or
message_new id second = record { its_id = refl; opened = refl; last = refl; size = length-replicate {A = List ℕ} 128 []; none_there = λ i. all_same 128 i [] }

-- ---- a message with one piece more

module _ (m : Message) where
  pub plus_id : (p : Piece) → (plus m p).id ≡ m.id
  unfolding plus
  plus_id (first id kind expires bytes) = refl
  plus_id (follow id number final bytes) = refl

  pub plus_opened : (p : Piece) → (plus m p).opened ≡ m.opened
  unfolding plus
  plus_opened (first id kind expires bytes) = refl
  plus_opened (follow id number final bytes) = refl

  pub plus_last : (p : Piece) → (plus m p).last ≡ cond (final_of p) (number_of p) m.last
  unfolding plus final_of number_of
  plus_last (first id kind expires bytes) = refl
  plus_last (follow id number final bytes) = refl

  pub plus_table : (p : Piece) → (plus m p).table ≡ set m.table (number_of p) (piece_bytes p)
  unfolding plus number_of piece_bytes
  plus_table (first id kind expires bytes) = refl
  plus_table (follow id number final bytes) = refl

  -- the head comes with number 0
  pub plus_first : (id kind expires : ℕ) (bytes : List ℕ) → ((plus m (first id kind expires bytes)).kind ≡ kind) × ((plus m (first id kind expires bytes)).expires ≡ expires)
  unfolding plus
  plus_first id kind expires bytes = (refl, refl)

  pub plus_follow : (id number : ℕ) (final : Bool) (bytes : List ℕ) → ((plus m (follow id number final bytes)).kind ≡ m.kind) × ((plus m (follow id number final bytes)).expires ≡ m.expires)
  unfolding plus
  plus_follow id number final bytes = (refl, refl)

-- ---- the tests of a piece

-- 50 is not for 1 to 1,500 bytes
pub length_good : (p : Piece) → 1 ≤ length (piece_bytes p) → length (piece_bytes p) ≤ 1500 → bad_length p ≡ false
unfolding bad_length
length_good p a b = rw (ne_eqb (length (piece_bytes p)) 0 (λ e. omega arith), le-ltb 1500 (length (piece_bytes p)) b) refl

-- 51 is not for a first piece, nor for a follow-on with a number from 1 to 127
pub first_good : (id kind expires : ℕ) (bytes : List ℕ) → bad_number (first id kind expires bytes) ≡ false
unfolding bad_number
first_good id kind expires bytes = refl

pub follow_good : (id number : ℕ) (final : Bool) (bytes : List ℕ) → 1 ≤ number → number ≤ 127 → bad_number (follow id number final bytes) ≡ false
unfolding bad_number
follow_good id number final bytes a b = rw (ne_eqb number 0 (λ e. omega arith), le-ltb 127 number b) refl

-- 54: the bytes are those that are held of the number, and so is the head, or the flag
pub first_repeats : (m : Message) (id kind expires : ℕ) (bytes : List ℕ) → 1 ≤ length bytes → get_or m.table 0 [] ≡ bytes → m.kind ≡ kind → m.expires ≡ expires
    → repeats m (first id kind expires bytes) ≡ true
unfolding repeats
first_repeats m id kind expires bytes h t a b = rw (t, held_of_length bytes h, eq_same bytes, eq-eqb m.kind kind a, eq-eqb m.expires expires b) refl

pub follow_repeats : (m : Message) (id number : ℕ) (final : Bool) (bytes : List ℕ) → 1 ≤ length bytes → get_or m.table number [] ≡ bytes → eqb m.last number ≡ final
    → repeats m (follow id number final bytes) ≡ true
unfolding repeats
follow_repeats m id number final bytes h t a = rw (t, held_of_length bytes h, eq_same bytes, a) (same_flag final)
  where
    same_flag : (b : Bool) → beq b b ≡ true
    same_flag true = refl
    same_flag false = refl

-- A piece whose number is not held is no repeat,
pub no_repeat : (m : Message) (p : Piece) → get_or m.table (number_of p) [] ≡ [] → repeats m p ≡ false
unfolding repeats number_of
no_repeat m (first id kind expires bytes) e = rw e refl
no_repeat m (follow id number final bytes) e = rw e refl

-- and it does not clash if it is not above a known last and, as a last, comes before any other and above all that are held.
pub no_clash : (m : Message) (p : Piece) → get_or m.table (number_of p) [] ≡ [] → (0 < m.last → number_of p ≤ m.last)
    → (final_of p ≡ true → (m.last ≡ 0) × ((k : ℕ) → number_of p < k → get_or m.table k [] ≡ [])) → clashes m p ≡ false
unfolding clashes
no_clash m p free below lasts = rw (free, above (ltb 0 m.last) refl, final (final_of p) refl) refl
  where
    above : (b : Bool) → ltb 0 m.last ≡ b → (ltb 0 m.last && ltb m.last (number_of p)) ≡ false
    above true e = rw (e, le-ltb m.last (number_of p) (below (ltb-true 0 m.last e))) refl
    above false e = rw e refl

    final : (b : Bool) → final_of p ≡ b → (final_of p && (some_held (drop (suc (number_of p)) m.table) || ltb 0 m.last)) ≡ false
    final true e =
        let l : (m.last ≡ 0) × ((k : ℕ) → number_of p < k → get_or m.table k [] ≡ []) = lasts e in
        let z : ltb 0 m.last ≡ false = le-ltb 0 m.last (omega (arith, l.0)) in
        rw (e, z, none_held (drop (suc (number_of p)) m.table) (λ j. get_or-drop (suc (number_of p)) m.table j [] ∙ l.1 (suc (number_of p) + j) (omega arith))) refl
    final false e = rw e refl

-- 53 is not for a piece with which the message has at most 65,535 bytes
pub not_too_much : (m : Message) (p : Piece) → number_of p < length m.table → get_or m.table (number_of p) [] ≡ [] → total (plus m p).table ≤ message_size → too_much m p ≡ false
unfolding too_much
not_too_much m p h free few =
    let a : total (plus m p).table ≡ total (set m.table (number_of p) (piece_bytes p)) = ap total (plus_table m p) in
    let b : total (set m.table (number_of p) (piece_bytes p)) + length (get_or m.table (number_of p) []) ≡ total m.table + length (piece_bytes p) = total_set m.table (number_of p) (piece_bytes p) h in
    let z : length (get_or m.table (number_of p) []) ≡ 0 = ap length free in
    le-ltb message_size (total m.table + length (piece_bytes p)) (omega arith)

-- ---- a complete message

pub complete_known : (m : Message) → 0 < m.last → complete m ≡ all_held (take (suc m.last) m.table)
unfolding complete
complete_known m h = rw (lt-ltb 0 m.last h) refl

pub complete_unknown : (m : Message) → m.last ≡ 0 → complete m ≡ false
unfolding complete
complete_unknown m e = rw (le-ltb 0 m.last (omega arith)) refl

-- A message that holds some pieces, up to its last number, comes out as their bytes, one after the other.
pub whole_is : (m : Message) (pieces : List (List ℕ)) → suc m.last ≡ length pieces → length pieces ≤ length m.table
    → ((i : ℕ) → i < length pieces → get_or m.table i [] ≡ get_or pieces i []) → rebuilt_of m ≡ record { kind = m.kind; expires = m.expires; bytes = joined pieces }
unfolding rebuilt_of
whole_is m pieces last long held = λ j. record { kind = m.kind; expires = m.expires; bytes = joined (same j) }
  where
    size : length (take (suc m.last) m.table) ≡ length pieces
    size = length-take-le (suc m.last) m.table (omega (arith, last, long)) ∙ last

    at : (i : ℕ) → i < length (take (suc m.last) m.table) → get_or (take (suc m.last) m.table) i [] ≡ get_or pieces i []
    at i h = get_or-take (suc m.last) m.table i [] (omega (arith, last, size)) ∙ held i (omega (arith, size))

    same : take (suc m.last) m.table ≡ pieces
    same = ext_get_or [] (take (suc m.last) m.table) pieces size at

-- 56 is not for a buffer that what comes out fits in
pub not_too_short : (cap : ℕ) (m : Message) → length (rebuilt_of m).bytes ≤ cap → too_short cap m ≡ false
unfolding too_short
not_too_short cap m h = le-ltb cap (length (rebuilt_of m).bytes) h

-- ---- the answer to a piece

-- A step is the answer at the piece's place to the message that stands there.
pub step_is : (cap : ℕ) (s : Slots) (p : Piece) (second k : ℕ) (m : Message) → slot_of (id_of p) s ≡ k → message_or (get_or s k none) (id_of p) second ≡ m → slots_step cap s p second ≡ answer cap s p k m
unfolding slots_step
step_is cap s p second k m a b = rw (a, b) refl

module _ (cap : ℕ) (s : Slots) (p : Piece) (k : ℕ) (m : Message) where
  -- A repeat is answered by 54 and changes nothing.
  pub answer_repeat : repeats m p ≡ true → answer cap s p k m ≡ record { number = 54; out = none; slots = s }
  unfolding answer slots_refuse
  answer_repeat e = rw e refl

  module _ (nr : repeats m p ≡ false) (nc : clashes m p ≡ false) (inside : k < length s) (nm : too_much m p ≡ false) where
    -- A piece that fits is kept;
    pub answer_kept : complete (plus m p) ≡ false → answer cap s p k m ≡ record { number = 0; out = none; slots = set s k (some (plus m p)) }
    unfolding answer
    answer_kept e = rw (nr, nc, lt-leb (length s) k inside, nm, e) refl

    -- the last missing one is 56 where the buffer is too short;
    pub answer_whole : complete (plus m p) ≡ true → answer cap s p k m
        ≡ cond (too_short cap (plus m p)) (slots_refuse 56 s) (record { number = 60; out = some (rebuilt_of (plus m p)); slots = set s k none })
    unfolding answer
    answer_whole e = rw (nr, nc, lt-leb (length s) k inside, nm, e) refl

    -- else it brings the message out and frees its place.
    pub answer_finished : complete (plus m p) ≡ true → too_short cap (plus m p) ≡ false → answer cap s p k m ≡ record { number = 60; out = some (rebuilt_of (plus m p)); slots = set s k none }
    answer_finished e f = answer_whole e ∙ rw f refl

-- What comes out has at most 65,535 bytes, by 53;
whole_fits : (m : Message) (p : Piece) → too_much m p ≡ false → length (rebuilt_of (plus m p)).bytes ≤ message_size
unfolding rebuilt_of too_much
whole_fits m p e =
    let t : List (List ℕ) = (plus m p).table in
    let n : ℕ = suc (plus m p).last in
    let a : total t ≡ total (set m.table (number_of p) (piece_bytes p)) = ap total (plus_table m p) in
    let b : total (set m.table (number_of p) (piece_bytes p)) ≤ total m.table + length (piece_bytes p) = total_set_le m.table (number_of p) (piece_bytes p) in
    let c : total (take n t) ≤ total t = total_take n t in
    let d : length (joined (take n t)) ≡ total (take n t) = length_joined (take n t) in
    let f : total m.table + length (piece_bytes p) ≤ message_size = ltb-false message_size (total m.table + length (piece_bytes p)) e in
    omega arith

-- so the slots do the same with every assembly buffer of 65,535 bytes or more,
pub slots_enough : (cap : ℕ) → message_size ≤ cap → (s : Slots) (p : Piece) (second : ℕ) → slots_step cap s p second ≡ slots_step message_size s p second
unfolding slots_step answer
slots_enough cap h s p second = go (message_or (get_or s (slot_of (id_of p) s) none) (id_of p) second) _ refl
  where
    go : (m : Message) (b : Bool) → too_much m p ≡ b → answer cap s p (slot_of (id_of p) s) m ≡ answer message_size s p (slot_of (id_of p) s) m
    go m true e = rw e refl
    go m false e =
        let w : length (rebuilt_of (plus m p)).bytes ≤ message_size = whole_fits m p e in
        rw (not_too_short cap (plus m p) (omega arith), not_too_short message_size (plus m p) w) refl

-- and so does the store.
pub step_enough : (keep cap : ℕ) → message_size ≤ cap → (s : Store) (p : Piece) (second : ℕ) → step keep cap s p second ≡ step keep message_size s p second
unfolding step
step_enough keep cap h s p second = rw (slots_enough cap h s.slots p second) refl

-- ---- a sweep

module _ (second : ℕ) (s : Slots) (k : ℕ) where
  swept_at_lem : get_or (slots_sweep second s) k none ≡ swept_one second (get_or s k none)
  unfolding slots_sweep swept_one
  swept_at_lem = get_or-map (swept_one second) s k none

  pub sweep_free : get_or s k none ≡ none → get_or (slots_sweep second s) k none ≡ none
  unfolding swept_one
  sweep_free e = swept_at_lem ∙ ap (swept_one second) e

  -- A message stays if the sweep is less than 30 seconds after it was opened, and is dropped otherwise.
  pub sweep_drops : (m : Message) → get_or s k none ≡ some m
      → (second < m.opened + 30 → get_or (slots_sweep second s) k none ≡ some m) × (m.opened + 30 ≤ second → get_or (slots_sweep second s) k none ≡ none)
  unfolding swept_one
  sweep_drops m e = (
    λ h. swept_at_lem ∙ ap (swept_one second) e ∙ rw (lt-leb (m.opened + 30) second h) refl,
    λ h. swept_at_lem ∙ ap (swept_one second) e ∙ rw (le-leb (m.opened + 30) second h) refl,
  )

-- So a sweep for which no message is old changes nothing.
pub sweep_same : (second : ℕ) (s : Slots) → ((k : ℕ) (m : Message) → get_or s k none ≡ some m → second < m.opened + 30) → slots_sweep second s ≡ s
sweep_same second s f = ext_get_or none (slots_sweep second s) s (unfold slots_sweep in length-map s (swept_one second)) (λ k h. at k (get_or s k none) refl)
  where
    at : (k : ℕ) (o : Option Message) → get_or s k none ≡ o → get_or (slots_sweep second s) k none ≡ get_or s k none
    at k none e = sweep_free second s k e ∙ sym e
    at k (some m) e = (sweep_drops second s k m e).0 (f k m e) ∙ sym e
