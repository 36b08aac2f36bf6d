-- What a piece does to the slots: nothing, or it changes the one slot of its id; and when it comes to them at all. Assumes nothing.
use mathlib.Core.Path.{◌≡◌, refl, sym, ap, ◌∙◌}
use mathlib.Core.Bool.{Bool, true, false, cond, and-false, false≢true}
use mathlib.Core.List.{[], ◌∷◌}
use mathlib.Core.Option.{Option, none, some}
use Prim.Native.Nat.{ℕ, zero, suc, ◌≤◌, ◌<◌}
use native.Mathlib.Nat.{not-suc-le-zero, le_of_suc-le-suc}
use native.Mathlib.Omega.{arith}
use lib.ListN.{length, get_or, set}
use lib.Dec.{eqb, ltb, leb}
use borrow.Author.Tests.{eqb-true, ltb-true, leb-true, leb-false}
use Rattle.reassembly.specs.Memory.{remembers}
use Rattle.reassembly.specs.Store.{Piece, first, follow, id_of, Message, Slots, SlotsAnswer, find_id, find_free, slot_of, message_or, plus, Store, Answer, bad_length, bad_number, repeats, clashes, too_much, complete, too_short, slots_refuse, answer, slots_step, refused, answer_by_slots, step}
use Rattle.reassembly.specs.Neighbours.{is_open_in}
use Rattle.reassembly.proofs.Searches.{free_none}
use Rattle.reassembly.proofs.Stores.{Hit, hit_later, message_open, message_new, plus_id}

-- what is found has the id
found_there : (id : ℕ) (s : Slots) → find_id id s < length s → Hit id s (find_id id s)
unfolding find_id
found_there id [] h = absurd (not-suc-le-zero h)
found_there id (none ∷ s) h = hit_later id none s (find_id id s) (found_there id s (le_of_suc-le-suc h))
found_there id (some x ∷ s) h = go (eqb x.id id) refl h (found_there id s)
  where
    go : (b : Bool) → eqb x.id id ≡ b → cond b 0 (suc (find_id id s)) < suc (length s) → (find_id id s < length s → Hit id s (find_id id s))
        → Hit id (some x ∷ s) (cond b 0 (suc (find_id id s)))
    go true e k ih = record { inside = omega arith; there = x; is_there = refl; its_id = eqb-true x.id id e }
    go false e k ih = hit_later id (some x) s (find_id id s) (ih (le_of_suc-le-suc k))

-- A piece of an open message goes to its slot,
pub open_hit : (id : ℕ) (s : Slots) → is_open_in id s ≡ true → Hit id s (slot_of id s)
unfolding is_open_in slot_of
open_hit id s e = rw e (found_there id s (ltb-true (find_id id s) (length s) e))

-- any other to the first free slot,
pub shut_free : (id : ℕ) (s : Slots) → is_open_in id s ≡ false → slot_of id s ≡ find_free s
unfolding is_open_in slot_of
shut_free id s e = rw e refl

-- where nothing stands.
pub shut_none : (id : ℕ) (s : Slots) → is_open_in id s ≡ false → get_or s (slot_of id s) none ≡ none
shut_none id s e = ap (λ (k : ℕ). get_or s k none) (shut_free id s e) ∙ free_none s

-- the message that a piece of an id goes to has the id
own_id : (id : ℕ) (s : Slots) (second : ℕ) → (message_or (get_or s (slot_of id s) none) id second).id ≡ id
own_id id s second = go (is_open_in id s) refl
  where
    go : (b : Bool) → is_open_in id s ≡ b → (message_or (get_or s (slot_of id s) none) id second).id ≡ id
    go true e =
        let t : Hit id s (slot_of id s) = open_hit id s e in
        ap (λ (o : Option Message). (message_or o id second).id) t.is_there ∙ (ap (λ (m : Message). m.id) (message_open t.there id second) ∙ t.its_id)
    go false e = ap (λ (o : Option Message). (message_or o id second).id) (shut_none id s e) ∙ (message_new id second).its_id

-- one piece does not make a message
new_partial : (id second : ℕ) (p : Piece) → bad_number p ≡ false → complete (plus (message_or none id second) p) ≡ false
unfolding complete plus message_or bad_number
new_partial id second (first i kind expires bytes) e = refl
new_partial id second (follow i zero final bytes) e = absurd (false≢true (sym e))
new_partial id second (follow i (suc k) false bytes) e = refl
new_partial id second (follow i (suc k) true bytes) e = and-false (ltb 0 (suc k))

-- A piece left the slots and was refused, or a message of its id stands in its slot, or the slot of its open message is free, with 60.
pub data Moved (s : Slots) (id : ℕ) (a : SlotsAnswer) : Type 0 where
  stayed : a.slots ≡ s → eqb a.number 60 ≡ false → eqb a.number 0 ≡ false → (a.number ≡ 52 → length s ≤ slot_of id s) → Moved s id a
  kept : (m : Message) → m.id ≡ id → slot_of id s < length s → a.slots ≡ set s (slot_of id s) (some m) → a.number ≡ 0 → Moved s id a
  finished : is_open_in id s ≡ true → slot_of id s < length s → a.slots ≡ set s (slot_of id s) none → a.number ≡ 60 → Moved s id a

either : (s : Slots) (id : ℕ) (b : Bool) (x y : SlotsAnswer) → (b ≡ true → Moved s id x) → (b ≡ false → Moved s id y) → Moved s id (cond b x y)
either s id true x y p q = p refl
either s id false x y p q = q refl

moved_answer : (cap : ℕ) (s : Slots) (p : Piece) (id : ℕ) (m : Message) → m.id ≡ id → (complete (plus m p) ≡ true → is_open_in id s ≡ true) → Moved s id (answer cap s p (slot_of id s) m)
unfolding answer slots_refuse
moved_answer cap s p id m q o =
    either s id (repeats m p) _ _ (λ e. stayed refl refl refl (λ z. absurd (omega arith))) (λ e.
    either s id (clashes m p) _ _ (λ e. stayed refl refl refl (λ z. absurd (omega arith))) (λ e.
    either s id (leb (length s) (slot_of id s)) _ _ (λ full. stayed refl refl refl (λ z. leb-true (length s) (slot_of id s) full)) (λ room.
    either s id (too_much m p) _ _ (λ e. stayed refl refl refl (λ z. absurd (omega arith))) (λ e.
    either s id (complete (plus m p)) _ _
    (λ all. either s id (too_short cap (plus m p)) _ _ (λ e. stayed refl refl refl (λ z. absurd (omega arith)))
    (λ e. finished (o all) (leb-false (length s) (slot_of id s) room) refl refl)) (λ e.
    kept (plus m p) (plus_id m p ∙ q) (leb-false (length s) (slot_of id s) room) refl refl)))))

-- So does every piece that is not 51.
pub moved : (cap : ℕ) (s : Slots) (p : Piece) (second : ℕ) → bad_number p ≡ false → Moved s (id_of p) (slots_step cap s p second)
unfolding slots_step
moved cap s p second good =
    moved_answer cap s p (id_of p) (message_or (get_or s (slot_of (id_of p) s) none) (id_of p) second) (own_id (id_of p) s second) (λ all. go all (is_open_in (id_of p) s) refl)
  where
    go : complete (plus (message_or (get_or s (slot_of (id_of p) s) none) (id_of p) second) p) ≡ true → (b : Bool) → is_open_in (id_of p) s ≡ b → is_open_in (id_of p) s ≡ true
    go all true e = e
    go all false e =
        let n : complete (plus (message_or (get_or s (slot_of (id_of p) s) none) (id_of p) second) p) ≡ false
        = ap (λ (x : Option Message). complete (plus (message_or x (id_of p) second) p)) (shut_none (id_of p) s e) ∙ new_partial (id_of p) second p good in
        absurd (false≢true (sym n ∙ all))

-- What the store answers, test by test.
module _ (keep cap : ℕ) (s : Store) (p : Piece) (second : ℕ) where
  pub step_50 : bad_length p ≡ true → step keep cap s p second ≡ refused 50 s
  unfolding step
  step_50 e = rw e refl

  pub step_51 : bad_length p ≡ false → bad_number p ≡ true → step keep cap s p second ≡ refused 51 s
  unfolding step
  step_51 e f = rw (e, f) refl

  -- past 50 and 51
  abbrev by_memory : Bool → Answer
  by_memory b = cond b (refused 57 s) (answer_by_slots keep s (id_of p) second (slots_step cap s.slots p second))

  pub step_57 : bad_length p ≡ false → bad_number p ≡ false → remembers s.remembered (id_of p) ≡ true → step keep cap s p second ≡ refused 57 s
  unfolding step
  step_57 e f g = rw (e, f) (ap by_memory g)

  pub step_slots : bad_length p ≡ false → bad_number p ≡ false → remembers s.remembered (id_of p) ≡ false
      → step keep cap s p second ≡ answer_by_slots keep s (id_of p) second (slots_step cap s.slots p second)
  unfolding step
  step_slots e f g = rw (e, f) (ap by_memory g)

-- A piece comes to the store: it is 50, or else 51, or else 57 where its id is remembered; or the slots answer.
pub data Stepped (keep cap : ℕ) (s : Store) (p : Piece) (second : ℕ) (a : Answer) : Type 0 where
  is_50 : bad_length p ≡ true → a ≡ refused 50 s → Stepped keep cap s p second a
  is_51 : bad_length p ≡ false → bad_number p ≡ true → a ≡ refused 51 s → Stepped keep cap s p second a
  is_57 : bad_length p ≡ false → bad_number p ≡ false → remembers s.remembered (id_of p) ≡ true → a ≡ refused 57 s → Stepped keep cap s p second a
  by_slots : bad_length p ≡ false → bad_number p ≡ false → remembers s.remembered (id_of p) ≡ false → a ≡ answer_by_slots keep s (id_of p) second (slots_step cap s.slots p second) → Stepped keep cap s p second a

pub stepped : (keep cap : ℕ) (s : Store) (p : Piece) (second : ℕ) → Stepped keep cap s p second (step keep cap s p second)
stepped keep cap s p second = go (bad_length p) refl (bad_number p) refl (remembers s.remembered (id_of p)) refl
  where
    go : (b : Bool) → bad_length p ≡ b → (c : Bool) → bad_number p ≡ c → (d : Bool) → remembers s.remembered (id_of p) ≡ d → Stepped keep cap s p second (step keep cap s p second)
    go true e c f d g = is_50 e (step_50 keep cap s p second e)
    go false e true f d g = is_51 e f (step_51 keep cap s p second e f)
    go false e false f true g = is_57 e f g (step_57 keep cap s p second e f g)
    go false e false f false g = by_slots e f g (step_slots keep cap s p second e f g)
