-- Demand 3, proved: the slots do what Demand3Invariant says, a late repeat changes nothing, and the store remembers what the schedule says. Assumes nothing.
use mathlib.Core.Path.{◌≡◌, refl, sym, ap, ◌∙◌, subst}
use mathlib.Core.Logic.{◌≢◌}
use mathlib.Core.Bool.{Bool, true, false, cond, ◌&&◌, false≢true}
use mathlib.Core.List.{List, [], ◌∷◌, map}
use mathlib.Core.Option.{Option, none, some}
use Prim.Native.Nat.{ℕ, zero, suc, ◌+◌, ◌≤◌, ◌<◌}
use native.Mathlib.Omega.{arith}
use native.Mathlib.Decide.{ℕ_discrete}
use lib.ListN.{length, get_or, set, length-set, replicate, length-replicate, length-map, get_or-map}
use lib.Seq.{get_or-set_same, get_or-set_other, ext_get_or}
use lib.Dec.{eqb}
use borrow.Author.Tests.{eq-eqb, ne_eqb}
use Rattle.reassembly.specs.Sizes.{message_size}
use Rattle.reassembly.specs.Memory.{Memory, remembers, remember, forget}
use Rattle.reassembly.specs.Store.{Piece, id_of, Message, Slots, Store, bad_length, bad_number, slots_step, refused, answer_by_slots}
use Rattle.reassembly.specs.Runs.{Said, said_of}
use Rattle.reassembly.proofs.Stores.{none≢some, all_same}
use Rattle.reassembly.proofs.Memories.{remember_other, forget_remembers}
use Rattle.reassembly.proofs.Moves.{step_57, step_slots}
use Rattle.reassembly.proofs.Runs.{said_of_lem}
use Rattle.promises.specs.Demand3.{Cut, Within, piece_of, no_cut, Event, deliver, sweep_at, Tally, no_tally, all_marks, begun, done, is_open, marked, untouched, tallied, Past, start, note, past_after, count, Allowed, Orderly, Schedule, due_one, due, act, said, store_after, times_one, times, Demand3For}
use Rattle.promises.proofs.Demand3Marks.{any_replicate, set_mark}
use Rattle.promises.proofs.Demand3Rebuilt.{id_piece, good_length, good_number}
use Rattle.promises.proofs.Demand3Slots.{is_full}
use Rattle.promises.proofs.Demand3Invariant.{cut_at, tally_at, slots_said, open_of_lem, closed_of, one_of_two, Owned, Inv, delivered, unswept}

-- ---- the start and the end

-- At the start nothing is open.
start_at_lem : (cs : List Cut) (c : ℕ) → tally_at (map untouched cs) c ≡ untouched (cut_at cs c)
unfolding untouched
start_at_lem cs c = get_or-map untouched cs c no_cut

untouched_shut : (c : Cut) → is_open (untouched c) ≡ false
unfolding is_open begun untouched
untouched_shut c = rw (any_replicate (length c.pieces)) refl

start_shut : (cs : List Cut) (c : ℕ) → is_open (tally_at (map untouched cs) c) ≡ false
start_shut cs c = rw (start_at_lem cs c) (untouched_shut (cut_at cs c))

start_count : (cs : List Cut) → count is_open (map untouched cs) ≡ 0
start_count [] = refl
start_count (c ∷ cs) = rw (untouched_shut c) (ap (λ (n : ℕ). 0 + n) (start_count cs))

count_free : (n : ℕ) → count is_full (replicate n none) ≡ 0
count_free zero = refl
count_free (suc n) = ap (λ (k : ℕ). 0 + k) (count_free n)

start_inv : (slots : ℕ) (cs : List Cut) → Inv slots cs (map untouched cs) (replicate slots none)
start_inv slots cs =
    record {
      size = length-replicate slots none;
      tallies = length-map cs untouched;
      marks_long = λ c h. rw (start_at_lem cs c) (unfold untouched in length-replicate (length (cut_at cs c).pieces) false);
      owned = λ k m e. absurd (none≢some (get_or (replicate slots none) k none) m (all_same slots k none) e);
      has_slot = λ c o. absurd (false≢true (sym (start_shut cs c) ∙ o));
      apart = λ k l m n e. absurd (none≢some (get_or (replicate slots none) k none) m (all_same slots k none) e);
      counted = count_free slots ∙ sym (start_count cs);
      orderly = record { at_most = rw (start_count cs) (omega arith); own_id = λ a b o. absurd (false≢true (sym (start_shut cs a) ∙ o)) };
    }

-- Where every message is done, no message is open.
end_empty : (slots : ℕ) (cs : List Cut) (ts : List Tally) (s : Slots) → Inv slots cs ts s → ((c : ℕ) → c < length cs → done (tally_at ts c) ≡ true) → s ≡ replicate slots none
end_empty slots cs ts s v all =
    ext_get_or none s (replicate slots none) (v.size ∙ sym (length-replicate slots none)) (λ k h. free k (get_or s k none) refl ∙ sym (all_same slots k none))
  where
    free : (k : ℕ) (o : Option Message) → get_or s k none ≡ o → get_or s k none ≡ none
    free k none e = e
    free k (some m) e =
        let o : (c : ℕ) × Owned cs ts m c = v.owned k m e in
        absurd (false≢true (sym (closed_of (tally_at ts o.0) (all o.0 o.1.inside)) ∙ o.1.is_open_lem))

-- ---- one event

-- The invariant of the slots; the store remembers what the schedule says; the ids of open messages are not remembered.
record Kept (slots : ℕ) (cs : List Cut) (h : Past) (s : Store) : Type 0 where
  inv : Inv slots cs h.tallies s.slots
  same : s.remembered ≡ h.remembered
  fresh : (c : ℕ) → is_open (tally_at h.tallies c) ≡ true → remembers h.remembered (cut_at cs c).id ≡ false

-- An event is answered as is due, and the invariant holds again.
record Answered (slots keep cap : ℕ) (cs : List Cut) (h : Past) (s : Store) (e : Event) : Type 0 where
  as_due : said_of (act keep cap cs s e) ≡ due_one cs h.tallies e
  kept : Kept slots cs (note keep cs h e) (act keep cap cs s e).store

-- a mark that is set already finishes nothing
repeat_undone : (t : Tally) (i second : ℕ) → done t ≡ false → get_or t.marks i false ≡ true → done (marked t i second) ≡ false
unfolding done marked
repeat_undone t i second nd e = ap all_marks (set_mark t.marks i e) ∙ nd

-- 60 is due exactly to the piece that finishes its message
sixty : (cs : List Cut) (ts : List Tally) (c i second : ℕ) → done (tally_at ts c) ≡ false → eqb (due_one cs ts (deliver c i second)).number 60 ≡ done (marked (tally_at ts c) i second)
unfolding due_one
sixty cs ts c i second nd = go (get_or (tally_at ts c).marks i false) refl (done (marked (tally_at ts c) i second)) refl
  where
    go : (a : Bool) → get_or (tally_at ts c).marks i false ≡ a → (b : Bool) → done (marked (tally_at ts c) i second) ≡ b
        → eqb (due_one cs ts (deliver c i second)).number 60 ≡ done (marked (tally_at ts c) i second)
    go true e b f = rw (nd, e, repeat_undone (tally_at ts c) i second nd e) refl
    go false e true f = rw (nd, e, f) refl
    go false e false f = rw (nd, e, f) refl

-- after a piece of a message that is not finished
noted : (keep : ℕ) (cs : List Cut) (h : Past) (c i second : ℕ) → done (tally_at h.tallies c) ≡ false → note keep cs h (deliver c i second)
    ≡ record {
      tallies = tallied h.tallies c i second;
      remembered = cond (done (marked (tally_at h.tallies c) i second)) (remember keep h.remembered (record { id = (cut_at cs c).id; second = second })) h.remembered;
    }
unfolding note
noted keep cs h c i second d = rw d refl

module _ (slots keep cap : ℕ) (room : message_size ≤ cap) (cs : List Cut) (within : (c : ℕ) → c < length cs → Within (cut_at cs c)) (h : Past) (s : Store) (v : Kept slots cs h s) where
  module _ (c i second : ℕ) (a : Allowed cs h (deliver c i second)) where
    abbrev ts : List Tally
    ts = h.tallies

    abbrev id : ℕ
    id = (cut_at cs c).id

    abbrev p : Piece
    p = piece_of (cut_at cs c) i

    is_remembered : (b : Bool) → remembers h.remembered id ≡ b → remembers s.remembered (id_of p) ≡ b
    is_remembered b e = ap (remembers s.remembered) (id_piece (cut_at cs c) i) ∙ (ap (λ (fs : Memory). remembers fs id) v.same ∙ e)

    not_50 : bad_length p ≡ false
    not_50 = good_length (cut_at cs c) (within c a.0) i a.1

    not_51 : bad_number p ≡ false
    not_51 = good_number (cut_at cs c) (within c a.0) i a.1

    -- a piece of a finished message
    late : done (tally_at ts c) ≡ true → Answered slots keep cap cs h s (deliver c i second)
    late d = record { as_due = said_is; kept = kept_is }
      where
        answer_is : act keep cap cs s (deliver c i second) ≡ refused 57 s
        answer_is = unfold act in step_57 keep cap s p second not_50 not_51 (is_remembered true (a.2 d))

        said_is : said_of (act keep cap cs s (deliver c i second)) ≡ due_one cs ts (deliver c i second)
        said_is = said_of_lem (act keep cap cs s (deliver c i second)) ∙ (unfold due_one in rw (answer_is, d) refl)

        kept_is : Kept slots cs (note keep cs h (deliver c i second)) (act keep cap cs s (deliver c i second)).store
        kept_is = unfold note in rw (answer_is, d) v

    -- a piece of a message that is not finished
    module _ (nd : done (tally_at ts c) ≡ false) (o : Orderly slots cs (tallied ts c i second)) where
      abbrev t' : Tally
      t' = marked (tally_at ts c) i second

      abbrev ts' : List Tally
      ts' = tallied ts c i second

      strange : remembers h.remembered id ≡ false
      strange = go (begun (tally_at ts c)) refl
        where
          go : (b : Bool) → begun (tally_at ts c) ≡ b → remembers h.remembered id ≡ false
          go true e = v.fresh c (open_of_lem (tally_at ts c) e nd)
          go false e = a.3 e

      taken : (slots_said (slots_step cap s.slots p second) ≡ due_one cs ts (deliver c i second)) × Inv slots cs ts' (slots_step cap s.slots p second).slots
      taken = delivered slots cs within ts s.slots v.inv c i second a.0 a.1 nd o cap room

      number_is : eqb (slots_step cap s.slots p second).number 60 ≡ done t'
      unfolding slots_said
      number_is = ap (λ (r : Said). eqb r.number 60) taken.0 ∙ sixty cs ts c i second nd

      answer_is : act keep cap cs s (deliver c i second) ≡ answer_by_slots keep s id second (slots_step cap s.slots p second)
      unfolding act
      answer_is =
          step_slots keep cap s p second not_50 not_51 (is_remembered false strange)
          ∙ ap (λ (n : ℕ). answer_by_slots keep s n second (slots_step cap s.slots p second)) (id_piece (cut_at cs c) i)

      other_open : (d : ℕ) → d ≢ c → is_open (tally_at ts' d) ≡ true → is_open (tally_at ts d) ≡ true
      unfolding tallied
      other_open d q e = sym (ap is_open (get_or-set_other ts c d t' no_tally q)) ∙ e

      mine : tally_at ts' c ≡ t'
      unfolding tallied
      mine = get_or-set_same ts c t' no_tally (omega (arith, v.inv.tallies, a.0))

      was_begun : done t' ≡ true → begun (tally_at ts c) ≡ true
      was_begun d = go (begun (tally_at ts c)) refl
        where
          go : (b : Bool) → begun (tally_at ts c) ≡ b → begun (tally_at ts c) ≡ true
          go true e = e
          go false e =
              let n : all_marks (set (tally_at ts c).marks i true) ≡ false
              = one_of_two (tally_at ts c).marks i (omega (arith, v.inv.marks_long c a.0, (within c a.0).two)) (unfold begun in e) in
              absurd (false≢true (sym n ∙ (unfold done marked in d)))

      fresh' : (d : ℕ) → is_open (tally_at ts' d) ≡ true
          → remembers (cond (done t') (remember keep h.remembered (record { id = id; second = second })) h.remembered) (cut_at cs d).id ≡ false
      fresh' d e = go (ℕ_discrete d c) (done t') refl
        where
          go : Dec (d ≡ c) → (b : Bool) → done t' ≡ b → remembers (cond b (remember keep h.remembered (record { id = id; second = second })) h.remembered) (cut_at cs d).id ≡ false
          go (yes q) true f =
              let z : is_open t' ≡ true = ap is_open (sym mine) ∙ (ap (λ (x : ℕ). is_open (tally_at ts' x)) (sym q) ∙ e) in
              absurd (false≢true (sym (closed_of t' f) ∙ z))
          go (yes q) false f = ap (λ (x : ℕ). remembers h.remembered (cut_at cs x).id) q ∙ strange
          go (no q) true f =
              let od : is_open (tally_at ts d) ≡ true = other_open d q e in
              let oc : is_open (tally_at ts c) ≡ true = open_of_lem (tally_at ts c) (was_begun f) nd in
              remember_other keep h.remembered (record { id = id; second = second }) (cut_at cs d).id (v.fresh d od) (λ z. q (v.inv.orderly.own_id d c od oc (sym z)))
          go (no q) false f = v.fresh d (other_open d q e)

      current : Answered slots keep cap cs h s (deliver c i second)
      current = record { as_due = said_is; kept = rw (answer_is, noted keep cs h c i second nd) (record { inv = inv'; same = memory_is; fresh = fresh' }) }
        where
          said_is : said_of (act keep cap cs s (deliver c i second)) ≡ due_one cs ts (deliver c i second)
          said_is = ap said_of answer_is ∙ (said_of_lem (answer_by_slots keep s id second (slots_step cap s.slots p second)) ∙ (unfold slots_said in taken.0))

          inv' : Inv slots cs ts' (answer_by_slots keep s id second (slots_step cap s.slots p second)).store.slots
          inv' = taken.1

          memory_is : (answer_by_slots keep s id second (slots_step cap s.slots p second)).store.remembered
              ≡ cond (done t') (remember keep h.remembered (record { id = id; second = second })) h.remembered
          memory_is = rw (number_is, v.same) refl

  one_event : (e : Event) → Allowed cs h e → Orderly slots cs (note keep cs h e).tallies → Answered slots keep cap cs h s e
  one_event (deliver c i second) a o = go (done (tally_at h.tallies c)) refl
    where
      go : (b : Bool) → done (tally_at h.tallies c) ≡ b → Answered slots keep cap cs h s (deliver c i second)
      go true d = late c i second a d
      go false d = current c i second a d (subst (λ (x : Past). Orderly slots cs x.tallies) (noted keep cs h c i second d) o)
  one_event (sweep_at second) a o = record { as_due = said_of_lem (act keep cap cs s (sweep_at second)) ∙ (unfold act due_one in refl); kept = swept }
    where
      swept : Kept slots cs (note keep cs h (sweep_at second)) (act keep cap cs s (sweep_at second)).store
      swept = unfold act note in record {
        inv = subst (λ (x : Slots). Inv slots cs h.tallies x) (sym (unswept slots cs h.tallies s.slots v.inv second a)) v.inv;
        same = ap (forget second) v.same;
        fresh = λ c e. forget_remembers second h.remembered (cut_at cs c).id (v.fresh c e);
      }

-- ---- all events

-- The store after some events of a schedule that ends with them.
record Ended (slots keep cap : ℕ) (cs : List Cut) (h : Past) (s : Store) (es : List Event) : Type 0 where
  as_due : said keep cap cs s es ≡ due keep cs h es
  empty : (store_after keep cap cs s es).slots ≡ replicate slots none
  memory : (store_after keep cap cs s es).remembered ≡ (past_after keep cs h es).remembered

module _ (slots keep cap : ℕ) (room : message_size ≤ cap) (cs : List Cut) (within : (c : ℕ) → c < length cs → Within (cut_at cs c)) where
  runs : (es : List Event) (h : Past) (s : Store) → Kept slots cs h s → Schedule slots keep cs h es → Ended slots keep cap cs h s es
  runs [] h s v q = record { as_due = refl; empty = end_empty slots cs h.tallies s.slots v.inv q; memory = v.same }
  runs (e ∷ es) h s v q =
      let a : Answered slots keep cap cs h s e = one_event slots keep cap room cs within h s v e q.0 q.1 in
      let ih : Ended slots keep cap cs (note keep cs h e) (act keep cap cs s e).store es = runs es (note keep cs h e) (act keep cap cs s e).store a.kept q.2 in
      record { as_due = rw (a.as_due, ih.as_due) refl; empty = ih.empty; memory = ih.memory }

-- ---- each message once

-- one where a message is done
bit : Bool → ℕ
bit b = cond b 1 0

-- A message is done after an event exactly if it was done before or came out at it: of a piece of a message that is not finished,
once_undone : (cs : List Cut) (ts : List Tally) (c : ℕ) → c < length ts → (d i second : ℕ) → done (tally_at ts d) ≡ false
    → times_one c (deliver d i second) (due_one cs ts (deliver d i second)) + bit (done (tally_at ts c)) ≡ bit (done (tally_at (tallied ts d i second) c))
unfolding bit tallied
once_undone cs ts c h d i second nd = go (ℕ_discrete d c)
  where
    other : d ≢ c → tally_at (set ts d (marked (tally_at ts d) i second)) c ≡ tally_at ts c
    other q = get_or-set_other ts d c (marked (tally_at ts d) i second) no_tally (λ z. q (sym z))

    mine : d ≡ c → tally_at (set ts d (marked (tally_at ts d) i second)) c ≡ marked (tally_at ts d) i second
    mine q = rw q (get_or-set_same ts c (marked (tally_at ts c) i second) no_tally h)

    go : Dec (d ≡ c) → times_one c (deliver d i second) (due_one cs ts (deliver d i second)) + bit (done (tally_at ts c)) ≡ bit (done (tally_at (tallied ts d i second) c))
    go (yes q) =
        let n : done (tally_at ts c) ≡ false = ap (λ (x : ℕ). done (tally_at ts x)) (sym q) ∙ nd in
        rw (mine q, eq-eqb d c q, sixty cs ts d i second nd, n) (omega arith)
    go (no q) = rw (other q, ne_eqb d c q) (omega arith)

-- and of any event.
once_event : (keep : ℕ) (cs : List Cut) (h : Past) (c : ℕ) → c < length h.tallies → (e : Event)
    → times_one c e (due_one cs h.tallies e) + bit (done (tally_at h.tallies c)) ≡ bit (done (tally_at (note keep cs h e).tallies c))
unfolding note
once_event keep cs h c l (sweep_at second) = omega arith
once_event keep cs h c l (deliver d i second) = go (done (tally_at h.tallies d)) refl
  where
    quiet : (b : Bool) → ◌≡◌ {A = ℕ} (cond (b && false) 1 0) 0
    quiet true = refl
    quiet false = refl

    late : done (tally_at h.tallies d) ≡ true → eqb (due_one cs h.tallies (deliver d i second)).number 60 ≡ false
    late e = unfold due_one in rw e refl

    go : (b : Bool) → done (tally_at h.tallies d) ≡ b
        → times_one c (deliver d i second) (due_one cs h.tallies (deliver d i second)) + bit (done (tally_at h.tallies c)) ≡ bit (done (tally_at (note keep cs h (deliver d i second)).tallies c))
    go true e = rw (late e, e) (let z : ◌≡◌ {A = ℕ} (cond (eqb d c && false) 1 0) 0 = quiet (eqb d c) in omega arith)
    go false e = rw e (once_undone cs h.tallies c l d i second e)

length_note : (keep : ℕ) (cs : List Cut) (h : Past) (e : Event) → length (note keep cs h e).tallies ≡ length h.tallies
unfolding note tallied
length_note keep cs h (sweep_at second) = refl
length_note keep cs h (deliver c i second) = go (done (tally_at h.tallies c)) refl
  where
    go : (b : Bool) → done (tally_at h.tallies c) ≡ b → length (note keep cs h (deliver c i second)).tallies ≡ length h.tallies
    go true e = rw e refl
    go false e = rw e (length-set h.tallies c (marked (tally_at h.tallies c) i second))

once_due : (slots keep : ℕ) (cs : List Cut) (c : ℕ) → c < length cs → (es : List Event) (h : Past) → length h.tallies ≡ length cs → Schedule slots keep cs h es
    → times c es (due keep cs h es) + bit (done (tally_at h.tallies c)) ≡ 1
once_due slots keep cs c l [] h n q = unfold bit in rw (q c l) refl
once_due slots keep cs c l (e ∷ es) h n q =
    let a : times_one c e (due_one cs h.tallies e) + bit (done (tally_at h.tallies c)) ≡ bit (done (tally_at (note keep cs h e).tallies c)) = once_event keep cs h c (omega arith) e in
    let ih : times c es (due keep cs (note keep cs h e) es) + bit (done (tally_at (note keep cs h e).tallies c)) ≡ 1
    = once_due slots keep cs c l es (note keep cs h e) (length_note keep cs h e ∙ n) q.2 in
    omega arith

untouched_undone : (c : Cut) → Within c → done (untouched c) ≡ false
unfolding done untouched
untouched_undone c w = go (length c.pieces) w.two
  where
    go : (n : ℕ) → 2 ≤ n → all_marks (replicate n false) ≡ false
    go zero h = absurd (let z : ◌≡◌ {A = ℕ} 0 1 = omega arith in omega arith)
    go (suc n) h = refl

-- ---- the demand

-- Demand 3, for any number of slots and of remembered messages
pub demand3_for : (slots keep : ℕ) → Demand3For slots keep
unfolding bit
demand3_for slots keep cap room cs within s empty es q =
    let v : Kept slots cs (start cs s.remembered) s
    = record {
      inv = subst (λ (x : Slots). Inv slots cs (map untouched cs) x) (sym empty) (start_inv slots cs);
      same = refl;
      fresh = λ c o. absurd (false≢true (sym (start_shut cs c) ∙ o));
    } in
    let r : Ended slots keep cap cs (start cs s.remembered) s es = runs slots keep cap room cs within es (start cs s.remembered) s v q in
    record {
      as_due = r.as_due;
      once = λ c h.
          let d : done (tally_at (map untouched cs) c) ≡ false = ap done (start_at_lem cs c) ∙ untouched_undone (cut_at cs c) (within c h) in
          let o : times c es (due keep cs (start cs s.remembered) es) + bit (done (tally_at (map untouched cs) c)) ≡ 1
          = once_due slots keep cs c h es (start cs s.remembered) (length-map cs untouched) q in
          let b : bit (done (tally_at (map untouched cs) c)) ≡ 0 = rw d refl in
          rw r.as_due (omega arith);
      ends_empty = r.empty;
      remembers_due = r.memory;
    }
