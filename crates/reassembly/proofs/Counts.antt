-- Counting the open messages of a store, of any number of slots: the summary's number, kept by adding and taking away, is the count. Assumes nothing.
use mathlib.Core.Path.{◌≡◌, refl, sym, ap, ◌∙◌}
use mathlib.Core.Bool.{Bool, true, false, cond, not}
use mathlib.Core.List.{[], ◌∷◌, map}
use mathlib.Core.Option.{Option, none, some}
use Prim.Native.Nat.{ℕ, zero, suc, ◌+◌, ◌≤◌, ◌<◌}
use native.Mathlib.Nat.{not-suc-le-zero, le_of_suc-le-suc}
use native.Mathlib.Omega.{arith}
use lib.ListN.{length, get_or, set, replicate, length-set, length-map}
use borrow.Author.Tests.{le-leb}
use Rattle.reassembly.specs.Ages.{long_ago}
use Rattle.reassembly.specs.Store.{Piece, id_of, number_of, Message, Slots, Store, Answer, SlotsAnswer, find_free, slot_of, message_or, repeats, clashes, slots_refuse, answer, slots_step, refused, step, swept_one, slots_sweep}
use Rattle.reassembly.specs.Neighbours.{is_open_in, open_of, dropped_of, recounted}
use Rattle.reassembly.proofs.Stores.{Blank, message_new, no_repeat, no_clash, step_is}
use Rattle.reassembly.proofs.Moves.{open_hit, shut_free, shut_none, Moved, stayed, kept, finished, moved, Stepped, is_50, is_51, is_57, by_slots, stepped}

-- No more are open than there are slots.
pub open_most : (s : Slots) → open_of s ≤ length s
open_most [] = omega arith
open_most (none ∷ s) = let ih : open_of s ≤ length s = open_most s in omega arith
open_most (some m ∷ s) = let ih : open_of s ≤ length s = open_most s in omega arith

-- Where no message is open, none is counted.
pub open_none : (n : ℕ) → open_of (replicate n none) ≡ 0
open_none zero = refl
open_none (suc n) = open_none n

-- One slot changed: its old message is no more counted, its new one is.
pub open_set : (s : Slots) (k : ℕ) (o : Option Message) → k < length s → open_of (set s k o) + open_of (get_or s k none ∷ []) ≡ open_of s + open_of (o ∷ [])
open_set [] k o h = absurd (not-suc-le-zero h)
open_set (none ∷ s) zero none h = omega arith
open_set (none ∷ s) zero (some n) h = omega arith
open_set (some m ∷ s) zero none h = omega arith
open_set (some m ∷ s) zero (some n) h = omega arith
open_set (none ∷ s) (suc k) o h = open_set s k o (le_of_suc-le-suc h)
open_set (some m ∷ s) (suc k) o h =
    let ih : open_of (set s k o) + open_of (get_or s k none ∷ []) ≡ open_of s + open_of (o ∷ []) = open_set s k o (le_of_suc-le-suc h) in
    omega arith

-- Where all slots are counted, none is free;
pub full_shut : (s : Slots) → length s ≤ open_of s → length s ≤ find_free s
unfolding find_free
full_shut [] h = omega arith
full_shut (none ∷ s) h = let m : open_of s ≤ length s = open_most s in absurd (omega arith)
full_shut (some m ∷ s) h = let ih : length s ≤ find_free s = full_shut s (omega arith) in omega arith

-- and where none is free, all are counted.
pub shut_full : (s : Slots) → length s ≤ find_free s → length s ≤ open_of s
unfolding find_free
shut_full [] h = omega arith
shut_full (none ∷ s) h = absurd (not-suc-le-zero h)
shut_full (some m ∷ s) h = let ih : length s ≤ open_of s = shut_full s (le_of_suc-le-suc h) in omega arith

-- ---- a sweep

-- A message that a sweep drops is no more counted.
pub swept_open : (second : ℕ) (s : Slots) → open_of (slots_sweep second s) + dropped_of second s ≡ open_of s
unfolding slots_sweep swept_one
swept_open second [] = refl
swept_open second (none ∷ s) = swept_open second s
swept_open second (some m ∷ s) = go (long_ago m.opened second) (swept_open second s)
  where
    go : (b : Bool) → open_of (map (swept_one second) s) + dropped_of second s ≡ open_of s
        → open_of (cond b none (some m) ∷ map (swept_one second) s) + (cond b 1 0 + dropped_of second s) ≡ suc (open_of s)
    go true ih = omega arith
    go false ih = omega arith

-- The slots stay as many as they are.
pub sweep_slots_length : (second : ℕ) (s : Slots) → length (slots_sweep second s) ≡ length s
unfolding slots_sweep
sweep_slots_length second s = length-map s (swept_one second)

-- ---- a piece

-- what a piece did to the slots, counted
moved_open : (s : Slots) (id : ℕ) (a : SlotsAnswer) → Moved s id a → recounted a.number (is_open_in id s) (open_of s) ≡ open_of a.slots
unfolding recounted
moved_open s id a (stayed e n z f) = rw (n, z, e) refl
moved_open s id a (kept m q i e n) = rw (n, e) (go (is_open_in id s) refl)
  where
    put : open_of (set s (slot_of id s) (some m)) + open_of (get_or s (slot_of id s) none ∷ []) ≡ open_of s + 1
    put = open_set s (slot_of id s) (some m) i

    go : (b : Bool) → is_open_in id s ≡ b → cond (not (is_open_in id s)) (open_of s + 1) (open_of s) ≡ open_of (set s (slot_of id s) (some m))
    go true o =
        let c : open_of (set s (slot_of id s) (some m)) + 1 ≡ open_of s + 1 = rw (open_hit id s o).is_there at put in
        rw o (omega arith)
    go false o =
        let c : open_of (set s (slot_of id s) (some m)) + 0 ≡ open_of s + 1 = rw (shut_none id s o) at put in
        rw o (omega arith)
moved_open s id a (finished o i e n) =
    let put : open_of (set s (slot_of id s) none) + open_of (get_or s (slot_of id s) none ∷ []) ≡ open_of s + 0 = open_set s (slot_of id s) none i in
    let c : open_of (set s (slot_of id s) none) + 1 ≡ open_of s + 0 = rw (open_hit id s o).is_there at put in
    rw (n, e) (omega arith)

-- The summary's number after a piece is the count.
pub step_open : (keep cap : ℕ) (s : Store) (p : Piece) (second : ℕ)
    → recounted (step keep cap s p second).number (is_open_in (id_of p) s.slots) (open_of s.slots) ≡ open_of (step keep cap s p second).store.slots
step_open keep cap s p second = go (step keep cap s p second) (stepped keep cap s p second)
  where
    go : (a : Answer) → Stepped keep cap s p second a → recounted a.number (is_open_in (id_of p) s.slots) (open_of s.slots) ≡ open_of a.store.slots
    go a (is_50 e q) = unfold recounted in rw q refl
    go a (is_51 e f q) = unfold recounted in rw q refl
    go a (is_57 e f r q) = unfold recounted in rw q refl
    go a (by_slots e f r q) = rw q (moved_open s.slots (id_of p) (slots_step cap s.slots p second) (moved cap s.slots p second f))

moved_length : (s : Slots) (id : ℕ) (a : SlotsAnswer) → Moved s id a → length a.slots ≡ length s
moved_length s id a (stayed e n z f) = ap length e
moved_length s id a (kept m q i e n) = ap length e ∙ length-set s (slot_of id s) (some m)
moved_length s id a (finished o i e n) = ap length e ∙ length-set s (slot_of id s) none

-- The slots stay as many as they are.
pub step_slots_length : (keep cap : ℕ) (s : Store) (p : Piece) (second : ℕ) → length (step keep cap s p second).store.slots ≡ length s.slots
step_slots_length keep cap s p second = go (step keep cap s p second) (stepped keep cap s p second)
  where
    go : (a : Answer) → Stepped keep cap s p second a → length a.store.slots ≡ length s.slots
    go a (is_50 e q) = rw q refl
    go a (is_51 e f q) = rw q refl
    go a (is_57 e f r q) = rw q refl
    go a (by_slots e f r q) = rw q (moved_length s.slots (id_of p) (slots_step cap s.slots p second) (moved cap s.slots p second f))

-- ---- 52

moved_52 : (s : Slots) (id : ℕ) (a : SlotsAnswer) → Moved s id a → a.number ≡ 52 → length s ≤ slot_of id s
moved_52 s id a (stayed e n z f) q = f q
moved_52 s id a (kept m w i e n) q = absurd (omega arith)
moved_52 s id a (finished o i e n) q = absurd (omega arith)

-- 52 is given only where every slot is in use,
pub step_52 : (keep cap : ℕ) (s : Store) (p : Piece) (second : ℕ) → (step keep cap s p second).number ≡ 52 → open_of s.slots ≡ length s.slots
step_52 keep cap s p second = go (step keep cap s p second) (stepped keep cap s p second)
  where
    number_is : (a b : Answer) → a ≡ b → a.number ≡ 52 → b.number ≡ 52
    number_is a b q n = ap (λ (x : Answer). x.number) (sym q) ∙ n

    full : (b : Bool) → is_open_in (id_of p) s.slots ≡ b → length s.slots ≤ slot_of (id_of p) s.slots → open_of s.slots ≡ length s.slots
    full true o h = absurd (omega (arith, (open_hit (id_of p) s.slots o).inside))
    full false o h =
        let l : length s.slots ≤ open_of s.slots = shut_full s.slots (omega (arith, shut_free (id_of p) s.slots o)) in
        omega (arith, open_most s.slots)

    go : (a : Answer) → Stepped keep cap s p second a → a.number ≡ 52 → open_of s.slots ≡ length s.slots
    go a (is_50 e q) n = absurd (omega (arith, number_is a (refused 50 s) q n))
    go a (is_51 e f q) n = absurd (omega (arith, number_is a (refused 51 s) q n))
    go a (is_57 e f r q) n = absurd (omega (arith, number_is a (refused 57 s) q n))
    go a (by_slots e f r q) n =
        full (is_open_in (id_of p) s.slots) refl
        (moved_52 s.slots (id_of p) (slots_step cap s.slots p second) (moved cap s.slots p second f) (number_is a _ q n))

-- and there a piece that would open a message is 52.
pub full_52 : (cap : ℕ) (s : Slots) (p : Piece) (second : ℕ) → is_open_in (id_of p) s ≡ false → length s ≤ open_of s → slots_step cap s p second ≡ slots_refuse 52 s
full_52 cap s p second o h =
    step_is cap s p second (find_free s) (message_or none (id_of p) second) (shut_free (id_of p) s o)
    (ap (λ (x : Option Message). message_or x (id_of p) second) (ap (λ (k : ℕ). get_or s k none) (sym (shut_free (id_of p) s o)) ∙ shut_none (id_of p) s o))
    ∙ refusal
  where
    b : Blank (id_of p) second (message_or none (id_of p) second)
    b = message_new (id_of p) second

    nr : repeats (message_or none (id_of p) second) p ≡ false
    nr = no_repeat (message_or none (id_of p) second) p (b.none_there (number_of p))

    nc : clashes (message_or none (id_of p) second) p ≡ false
    nc = no_clash (message_or none (id_of p) second) p (b.none_there (number_of p)) (λ z. absurd (omega (arith, b.last))) (λ z. (b.last, λ k l. b.none_there k))

    refusal : answer cap s p (find_free s) (message_or none (id_of p) second) ≡ slots_refuse 52 s
    refusal = unfold answer in rw (nr, nc, le-leb (length s) (find_free s) (full_shut s h)) refl
