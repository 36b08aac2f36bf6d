-- The key invariant of demand 3: each slot is free or holds exactly the pieces delivered so far of one open message, and every open message has its slot. Assumes nothing.
use mathlib.Core.Path.{◌≡◌, refl, sym, ap, ◌∙◌, subst}
use mathlib.Core.Logic.{◌≢◌}
use mathlib.Core.Bool.{Bool, true, false, cond, not, ◌&&◌, true≢false, false≢true}
use mathlib.Core.List.{List}
use mathlib.Core.Option.{Option, none, some}
use Prim.Native.Nat.{ℕ, zero, suc, ◌+◌, ◌≤◌, ◌<◌}
use native.Mathlib.Omega.{arith}
use native.Mathlib.Decide.{ℕ_discrete}
use lib.ListN.{length, get_or, set, length-set}
use lib.Seq.{get_or-set_same, get_or-set_other, set-get_or}
use Rattle.reassembly.specs.Sizes.{message_size}
use Rattle.reassembly.specs.Store.{Message, Slots, SlotsAnswer, find_free, slot_of, message_or, plus, answer, slots_step, slots_sweep}
use Rattle.reassembly.proofs.Searches.{free_none}
use Rattle.reassembly.proofs.Stores.{none≢some, Hit, place_open, place_new, free_inside, message_open, step_is, sweep_same}
use Rattle.reassembly.specs.Runs.{Said}
use Rattle.promises.specs.Demand3.{Cut, Within, piece_of, cut_from, no_cut, deliver, Tally, no_tally, any_mark, all_marks, begun, done, is_open, marked, tallied, count, Orderly, due_one}
use Rattle.promises.proofs.Demand3Marks.{none_at, not_all_at, any_set, any_at, set_mark, count_set, count_less}
use Rattle.promises.proofs.Demand3Rebuilt.{Holds, holds_new, holds_plus, id_piece}
use Rattle.promises.proofs.Demand3Slots.{is_full, not_full, answer_repeat, answer_kept, answer_finished}

-- message c of a list
abbrev pub cut_at : List Cut → ℕ → Cut
cut_at cs c = get_or cs c no_cut

-- its tally
abbrev pub tally_at : List Tally → ℕ → Tally
tally_at ts c = get_or ts c no_tally

-- what the slots say to a piece
unfoldable pub slots_said : SlotsAnswer → Said
slots_said a = record { number = a.number; out = a.out }

-- m is what the open message c has come to
pub record Owned (cs : List Cut) (ts : List Tally) (m : Message) (c : ℕ) : Type 0 where
  pub inside : c < length cs
  pub is_open_lem : is_open (tally_at ts c) ≡ true
  pub holds : Holds (cut_at cs c) (tally_at ts c).marks (tally_at ts c).opened m

-- c has a slot
pub record HasSlot (cs : List Cut) (s : Slots) (c : ℕ) : Type 0 where
  pub at : ℕ
  pub there : Message
  pub is_there : get_or s at none ≡ some there
  pub its_id : there.id ≡ (cut_at cs c).id

-- The invariant, over any number of slots.
pub record Inv (slots : ℕ) (cs : List Cut) (ts : List Tally) (s : Slots) : Type 0 where
  pub size : length s ≡ slots
  pub tallies : length ts ≡ length cs
  pub marks_long : (c : ℕ) → c < length cs → length (tally_at ts c).marks ≡ length (cut_at cs c).pieces
  pub owned : (k : ℕ) (m : Message) → get_or s k none ≡ some m → (c : ℕ) × Owned cs ts m c
  pub has_slot : (c : ℕ) → is_open (tally_at ts c) ≡ true → HasSlot cs s c
  pub apart : (k l : ℕ) (m n : Message) → get_or s k none ≡ some m → get_or s l none ≡ some n → m.id ≡ n.id → k ≡ l
  pub counted : count is_full s ≡ count is_open ts
  pub orderly : Orderly slots cs ts

-- Where piece i of c goes: to a slot k, whose message, new or open, holds the marked pieces of c
pub record Found (cs : List Cut) (ts : List Tally) (s : Slots) (c second : ℕ) : Type 0 where
  pub at : ℕ
  pub there : Message
  pub is_at : slot_of (cut_at cs c).id s ≡ at
  pub is_there : message_or (get_or s at none) (cut_at cs c).id second ≡ there
  pub inside : at < length s
  pub holds : Holds (cut_at cs c) (tally_at ts c).marks (cond (begun (tally_at ts c)) (tally_at ts c).opened second) there
  pub alone : (k : ℕ) (m : Message) → get_or s k none ≡ some m → m.id ≡ (cut_at cs c).id → k ≡ at
  pub full : is_full (get_or s at none) ≡ begun (tally_at ts c)

open_parts : (t : Tally) → is_open t ≡ true → begun t ≡ true
unfolding is_open
open_parts t = go (begun t) refl
  where
    go : (b : Bool) → begun t ≡ b → (b && not (done t)) ≡ true → begun t ≡ true
    go true e h = e
    go false e h = absurd (false≢true h)

pub open_of_lem : (t : Tally) → begun t ≡ true → done t ≡ false → is_open t ≡ true
unfolding is_open
open_of_lem t b d = rw (b, d) refl

open_begun : (t : Tally) → done t ≡ false → is_open t ≡ begun t
unfolding is_open
open_begun t d = go (begun t) refl
  where
    go : (b : Bool) → begun t ≡ b → (b && not (done t)) ≡ b
    go true e = rw d refl
    go false e = refl

pub closed_of : (t : Tally) → done t ≡ true → is_open t ≡ false
unfolding is_open
closed_of t d = go (begun t)
  where
    go : (b : Bool) → (b && not (done t)) ≡ false
    go true = rw d refl
    go false = refl

some_injective : (m n : Message) → some m ≡ some n → m ≡ n
some_injective m n e = cc

-- one piece of a message that was not begun does not complete it
pub one_of_two : (bs : List Bool) (i : ℕ) → 2 ≤ length bs → any_mark bs ≡ false → all_marks (set bs i true) ≡ false
one_of_two bs zero h e = not_all_at (set bs zero true) 1 (get_or-set_other bs 0 1 true false (λ z. omega arith) ∙ none_at bs 1 e) (rw (length-set bs zero true) (omega arith))
one_of_two bs (suc i) h e = not_all_at (set bs (suc i) true) 0 (get_or-set_other bs (suc i) 0 true false (λ z. omega arith) ∙ none_at bs 0 e) (rw (length-set bs (suc i) true) (omega arith))

module _ (slots : ℕ) (cs : List Cut) (within : (c : ℕ) → c < length cs → Within (cut_at cs c)) (ts : List Tally) (s : Slots) (v : Inv slots cs ts s)
    (c i second : ℕ) (cc' : c < length cs) (ic : i < length (cut_at cs c).pieces) (nd : done (tally_at ts c) ≡ false)
    (tidy' : Orderly slots cs (tallied ts c i second)) where
  ts' : List Tally
  ts' = set ts c (marked (tally_at ts c) i second)

  open_found : begun (tally_at ts c) ≡ true → Found cs ts s c second
  open_found b =
      record {
        at = k;
        there = m;
        is_at = refl;
        is_there = ap (λ (r : Option Message). message_or r (cut_at cs c).id second) hit.is_there ∙ message_open m (cut_at cs c).id second;
        inside = hit.inside;
        holds = rw b (rw same at o.1.holds);
        alone = λ l n e q. v.apart l k n m e hit.is_there (q ∙ sym hit.its_id);
        full = rw (hit.is_there, b) refl;
      }
    where
      o_c : is_open (tally_at ts c) ≡ true
      o_c = open_of_lem (tally_at ts c) b nd

      p : HasSlot cs s c
      p = v.has_slot c o_c

      hit : Hit (cut_at cs c).id s (slot_of (cut_at cs c).id s)
      hit = place_open (cut_at cs c).id s p.at p.there p.is_there p.its_id

      k : ℕ
      k = slot_of (cut_at cs c).id s

      m : Message
      m = hit.there

      o : (d : ℕ) × Owned cs ts m d
      o = v.owned k m hit.is_there

      same : o.0 ≡ c
      same = v.orderly.own_id o.0 c o.1.is_open_lem o_c (sym o.1.holds.id ∙ hit.its_id)

  -- the open messages of the tallies after the piece, other than c, are those before
  other : (d : ℕ) → d ≢ c → tally_at ts' d ≡ tally_at ts d
  unfolding ts'
  other d q = get_or-set_other ts c d (marked (tally_at ts c) i second) no_tally q

  mine : tally_at ts' c ≡ marked (tally_at ts c) i second
  unfolding ts'
  mine = get_or-set_same ts c (marked (tally_at ts c) i second) no_tally (omega (arith, v.tallies))

  orderly' : Orderly slots cs ts'
  unfolding tallied ts'
  orderly' = tidy'

  begun' : begun (marked (tally_at ts c) i second) ≡ true
  unfolding begun marked
  begun' = any_set (tally_at ts c).marks i (omega (arith, v.marks_long c cc'))

  counted' : (s' : Slots) (k : ℕ) (x : Option Message) → k < length s → s' ≡ set s k x → is_full (get_or s k none) ≡ begun (tally_at ts c) → is_full x ≡ is_open (marked (tally_at ts c) i second) → count is_full s' ≡ count is_open ts'
  unfolding ts'
  counted' s' k x kl e f g =
      let a : count is_full (set s k x) + cond (is_full (get_or s k none)) 1 0 ≡ count is_full s + cond (is_full x) 1 0 = count_set is_full s k x none kl in
      let b : count is_open (set ts c (marked (tally_at ts c) i second)) + cond (is_open (tally_at ts c)) 1 0 ≡ count is_open ts + cond (is_open (marked (tally_at ts c) i second)) 1 0
      = count_set is_open ts c (marked (tally_at ts c) i second) no_tally (omega (arith, v.tallies)) in
      let f' : ◌≡◌ {A = ℕ} (cond (is_full (get_or s k none)) 1 0) (cond (is_open (tally_at ts c)) 1 0) = ap {B = ℕ} (λ (z : Bool). cond z 1 0) (f ∙ sym (open_begun (tally_at ts c) nd)) in
      let g' : ◌≡◌ {A = ℕ} (cond (is_full x) 1 0) (cond (is_open (marked (tally_at ts c) i second)) 1 0) = ap {B = ℕ} (λ (z : Bool). cond z 1 0) g in
      let e' : count is_full s' ≡ count is_full (set s k x) = ap (λ (z : Slots). count is_full z) e in
      omega (arith, v.counted)

  new_found : begun (tally_at ts c) ≡ false → Found cs ts s c second
  new_found b =
      record {
        at = k;
        there = message_or none (cut_at cs c).id second;
        is_at = place_new (cut_at cs c).id s nobody;
        is_there = rw (free_none s) refl;
        inside = k_in;
        holds = rw b (holds_new (cut_at cs c) (tally_at ts c).marks second none_marked);
        alone = λ l n e q. absurd (nobody l n e q);
        full = rw (free_none s, b) refl;
      }
    where
      none_marked : any_mark (tally_at ts c).marks ≡ false
      none_marked = unfold begun in b

      k : ℕ
      k = find_free s

      not_done : done (marked (tally_at ts c) i second) ≡ false
      not_done = unfold done marked in one_of_two (tally_at ts c).marks i (omega (arith, v.marks_long c cc', (within c cc').two)) none_marked

      open_c : is_open (tally_at ts' c) ≡ true
      open_c = rw mine (open_of_lem (marked (tally_at ts c) i second) begun' not_done)

      nobody : (l : ℕ) (n : Message) → get_or s l none ≡ some n → n.id ≡ (cut_at cs c).id → ⊥
      nobody l n e q =
          let o : (d : ℕ) × Owned cs ts n d = v.owned l n e in
          let d≢c : o.0 ≢ c = λ z. true≢false (sym (open_parts (tally_at ts o.0) o.1.is_open_lem) ∙ (ap (λ (x : ℕ). begun (tally_at ts x)) z ∙ b)) in
          d≢c (orderly'.own_id o.0 c (rw (other o.0 d≢c) o.1.is_open_lem) open_c (sym o.1.holds.id ∙ q))

      one_more : count is_open ts' + 0 ≡ count is_open ts + 1
      one_more = unfold ts' in
          let a : count is_open (set ts c (marked (tally_at ts c) i second)) + cond (is_open (tally_at ts c)) 1 0 ≡ count is_open ts + cond (is_open (marked (tally_at ts c) i second)) 1 0
          = count_set is_open ts c (marked (tally_at ts c) i second) no_tally (omega (arith, v.tallies)) in
          rw (open_begun (tally_at ts c) nd ∙ b, open_of_lem (marked (tally_at ts c) i second) begun' not_done) at a

      k_in : k < length s
      k_in =
          let g = count_less is_full s none (omega (arith, one_more, v.counted, v.size, orderly'.at_most)) in
          free_inside s g.0 g.1 (not_full (get_or s g.0 none) g.2)

  found : Found cs ts s c second
  found = go (begun (tally_at ts c)) refl
    where
      go : (b : Bool) → begun (tally_at ts c) ≡ b → Found cs ts s c second
      go true e = open_found e
      go false e = new_found e

  -- the slot of c gets what the tally after the piece says: the message with the piece, or nothing
  set_inv : (f : Found cs ts s c second) (x : Option Message)
      → ((n : Message) → x ≡ some n → (is_open (marked (tally_at ts c) i second) ≡ true) × Holds (cut_at cs c) (marked (tally_at ts c) i second).marks (marked (tally_at ts c) i second).opened n)
      → (is_open (marked (tally_at ts c) i second) ≡ true → (n : Message) × (x ≡ some n) × (n.id ≡ (cut_at cs c).id))
      → is_full x ≡ is_open (marked (tally_at ts c) i second)
      → Inv slots cs ts' (set s f.at x)
  set_inv f x hx hy hz =
      record {
        size = length-set s k x ∙ v.size;
        tallies = unfold ts' in (length-set ts c (marked (tally_at ts c) i second) ∙ v.tallies);
        marks_long = λ d dl. long d dl (ℕ_discrete d c);
        owned = λ l n e. own l n e (ℕ_discrete l k);
        has_slot = λ d o. slotted d o (ℕ_discrete d c);
        apart = λ l₁ l₂ n₁ n₂ e₁ e₂ q. sole l₁ l₂ n₁ n₂ e₁ e₂ q (ℕ_discrete l₁ k) (ℕ_discrete l₂ k);
        counted = counted' (set s k x) k x k_in refl f.full hz;
        orderly = orderly';
      }
    where
      k : ℕ
      k = f.at

      k_in : k < length s
      k_in = f.inside

      at_k : get_or (set s k x) k none ≡ x
      at_k = get_or-set_same s k x none k_in

      at_other : (l : ℕ) → l ≢ k → get_or (set s k x) l none ≡ get_or s l none
      at_other l q = get_or-set_other s k l x none q

      long : (d : ℕ) → d < length cs → Dec (d ≡ c) → length (tally_at ts' d).marks ≡ length (cut_at cs d).pieces
      long d dl (yes q) = rw (q, mine) (unfold marked in (length-set (tally_at ts c).marks i true ∙ v.marks_long c cc'))
      long d dl (no q) = rw (other d q) (v.marks_long d dl)

      own : (l : ℕ) (n : Message) → get_or (set s k x) l none ≡ some n → Dec (l ≡ k) → (d : ℕ) × Owned cs ts' n d
      own l n e (yes q) =
          let a : (is_open (marked (tally_at ts c) i second) ≡ true) × Holds (cut_at cs c) (marked (tally_at ts c) i second).marks (marked (tally_at ts c) i second).opened n
          = hx n (sym at_k ∙ (ap (λ (z : ℕ). get_or (set s k x) z none) (sym q) ∙ e)) in
          (c, record { inside = cc'; is_open_lem = rw mine a.0; holds = rw mine a.1 })
      own l n e (no q) =
          let e' : get_or s l none ≡ some n = sym (at_other l q) ∙ e in
          let o : (d : ℕ) × Owned cs ts n d = v.owned l n e' in
          let d≢c : o.0 ≢ c = λ z. q (f.alone l n e' (o.1.holds.id ∙ ap (λ (d : ℕ). (cut_at cs d).id) z)) in
          (o.0, record { inside = o.1.inside; is_open_lem = rw (other o.0 d≢c) o.1.is_open_lem; holds = rw (other o.0 d≢c) o.1.holds })

      slotted : (d : ℕ) → is_open (tally_at ts' d) ≡ true → Dec (d ≡ c) → HasSlot cs (set s k x) d
      slotted d o (yes q) =
          let a : (n : Message) × (x ≡ some n) × (n.id ≡ (cut_at cs c).id) = hy (sym (ap is_open mine) ∙ (ap (λ (z : ℕ). is_open (tally_at ts' z)) (sym q) ∙ o)) in
          record { at = k; there = a.0; is_there = at_k ∙ a.1; its_id = a.2 ∙ ap (λ (z : ℕ). (cut_at cs z).id) (sym q) }
      slotted d o (no q) =
          let od : is_open (tally_at ts d) ≡ true = sym (ap is_open (other d q)) ∙ o in
          let p : HasSlot cs s d = v.has_slot d od in
          let l≢k : p.at ≢ k = λ z. q (mix p z od) in
          record { at = p.at; there = p.there; is_there = at_other p.at l≢k ∙ p.is_there; its_id = p.its_id }
        where
          mix : (p : HasSlot cs s d) → p.at ≡ k → is_open (tally_at ts d) ≡ true → d ≡ c
          mix p z od =
              let e : get_or s k none ≡ some p.there = ap (λ (l : ℕ). get_or s l none) (sym z) ∙ p.is_there in
              let b : begun (tally_at ts c) ≡ true = sym f.full ∙ ap is_full e in
              let n : p.there ≡ f.there = sym (message_open p.there (cut_at cs c).id second) ∙ (sym (ap (λ (r : Option Message). message_or r (cut_at cs c).id second) e) ∙ f.is_there) in
              v.orderly.own_id d c od (open_of_lem (tally_at ts c) b nd) (sym p.its_id ∙ (ap (λ (r : Message). r.id) n ∙ f.holds.id))

      its : (n : Message) → x ≡ some n → n.id ≡ (cut_at cs c).id
      its n e = (hx n e).1.id

      sole : (l₁ l₂ : ℕ) (n₁ n₂ : Message) → get_or (set s k x) l₁ none ≡ some n₁ → get_or (set s k x) l₂ none ≡ some n₂ → n₁.id ≡ n₂.id → Dec (l₁ ≡ k) → Dec (l₂ ≡ k) → l₁ ≡ l₂
      sole l₁ l₂ n₁ n₂ e₁ e₂ q (yes a) (yes b) = a ∙ sym b
      sole l₁ l₂ n₁ n₂ e₁ e₂ q (yes a) (no b) =
          absurd (b (f.alone l₂ n₂ (sym (at_other l₂ b) ∙ e₂) (sym q ∙ its n₁ (sym at_k ∙ (ap (λ (z : ℕ). get_or (set s k x) z none) (sym a) ∙ e₁)))))
      sole l₁ l₂ n₁ n₂ e₁ e₂ q (no a) (yes b) =
          absurd (a (f.alone l₁ n₁ (sym (at_other l₁ a) ∙ e₁) (q ∙ its n₂ (sym at_k ∙ (ap (λ (z : ℕ). get_or (set s k x) z none) (sym b) ∙ e₂)))))
      sole l₁ l₂ n₁ n₂ e₁ e₂ q (no a) (no b) = v.apart l₁ l₂ n₁ n₂ (sym (at_other l₁ a) ∙ e₁) (sym (at_other l₂ b) ∙ e₂) q

  -- the piece is answered as is due, and the invariant holds again
  module _ (cap : ℕ) (room : message_size ≤ cap) where
    step_answer : (f : Found cs ts s c second) → slots_step cap s (piece_of (cut_at cs c) i) second ≡ answer cap s (piece_of (cut_at cs c) i) f.at f.there
    step_answer f =
        step_is cap s (piece_of (cut_at cs c) i) second f.at f.there
        (ap (λ (z : ℕ). slot_of z s) (id_piece (cut_at cs c) i) ∙ f.is_at)
        (ap (λ (z : ℕ). message_or (get_or s f.at none) z second) (id_piece (cut_at cs c) i) ∙ f.is_there)

    since' : ℕ
    since' = cond (begun (tally_at ts c)) (tally_at ts c).opened second

    -- a repeat marks nothing new
    same_tallies : get_or (tally_at ts c).marks i false ≡ true → ts ≡ set ts c (marked (tally_at ts c) i second)
    unfolding marked begun
    same_tallies a =
        let m : (tally_at ts c).marks ≡ set (tally_at ts c).marks i true = sym (set_mark (tally_at ts c).marks i a) in
        let b : any_mark (tally_at ts c).marks ≡ true = any_at (tally_at ts c).marks i a in
        let n : (tally_at ts c).opened ≡ cond (any_mark (tally_at ts c).marks) (tally_at ts c).opened second = rw b refl in
        let e : tally_at ts c ≡ marked (tally_at ts c) i second = λ j. record { marks = m j; opened = n j } in
        sym (set-get_or ts c no_tally) ∙ ap (λ (x : Tally). set ts c x) e

    pub delivered : (slots_said (slots_step cap s (piece_of (cut_at cs c) i) second) ≡ due_one cs ts (deliver c i second))
        × Inv slots cs (tallied ts c i second) (slots_step cap s (piece_of (cut_at cs c) i) second).slots
    unfolding due_one tallied slots_said ts' since'
    delivered = go (get_or (tally_at ts c).marks i false) refl (all_marks (set (tally_at ts c).marks i true)) refl
      where
        f : Found cs ts s c second
        f = found

        w : Within (cut_at cs c)
        w = within c cc'

        ml : length (tally_at ts c).marks ≡ length (cut_at cs c).pieces
        ml = v.marks_long c cc'

        m' : Message
        m' = plus f.there (piece_of (cut_at cs c) i)

        h' : Holds (cut_at cs c) (set (tally_at ts c).marks i true) since' m'
        h' = unfold since' in holds_plus (cut_at cs c) w (tally_at ts c).marks ml (cond (begun (tally_at ts c)) (tally_at ts c).opened second) f.there f.holds i ic

        done_is : (b : Bool) → all_marks (set (tally_at ts c).marks i true) ≡ b → done (marked (tally_at ts c) i second) ≡ b
        done_is b e = unfold done marked in e

        go : (a : Bool) → get_or (tally_at ts c).marks i false ≡ a → (b : Bool) → all_marks (set (tally_at ts c).marks i true) ≡ b
            → (slots_said (slots_step cap s (piece_of (cut_at cs c) i) second) ≡ due_one cs ts (deliver c i second)) × Inv slots cs (tallied ts c i second) (slots_step cap s (piece_of (cut_at cs c) i) second).slots
        go true a b e =
            let q : slots_step cap s (piece_of (cut_at cs c) i) second ≡ record { number = 54; out = none; slots = s }
            = step_answer f ∙ answer_repeat cap room s f.at f.inside (cut_at cs c) w (tally_at ts c).marks ml (cond (begun (tally_at ts c)) (tally_at ts c).opened second) f.there f.holds i ic a in
            rw (q, nd, a) (refl, subst (λ (x : List Tally). Inv slots cs x s) (same_tallies a) v)
        go false a true e =
            let q : slots_step cap s (piece_of (cut_at cs c) i) second ≡ record { number = 60; out = some (cut_from (cut_at cs c)); slots = set s f.at none }
            = step_answer f ∙ answer_finished cap room s f.at f.inside (cut_at cs c) w (tally_at ts c).marks ml (cond (begun (tally_at ts c)) (tally_at ts c).opened second) f.there f.holds i ic a e in
            let d : is_open (marked (tally_at ts c) i second) ≡ false = closed_of (marked (tally_at ts c) i second) (done_is true e) in
            rw (q, nd, a, done_is true e)
            (refl, set_inv f none (λ n z. absurd (none≢some none n refl z)) (λ o. absurd (false≢true (sym d ∙ o))) (sym d))
        go false a false e =
            let q : slots_step cap s (piece_of (cut_at cs c) i) second ≡ record { number = 0; out = none; slots = set s f.at (some m') }
            = step_answer f ∙ answer_kept cap room s f.at f.inside (cut_at cs c) w (tally_at ts c).marks ml (cond (begun (tally_at ts c)) (tally_at ts c).opened second) f.there f.holds i ic a e in
            let d : is_open (marked (tally_at ts c) i second) ≡ true = open_of_lem (marked (tally_at ts c) i second) begun' (done_is false e) in
            let h'' : Holds (cut_at cs c) (marked (tally_at ts c) i second).marks (marked (tally_at ts c) i second).opened m' = unfold marked since' in h' in
            rw (q, nd, a, done_is false e) (
              refl,
              set_inv f (some m')
                  (λ n z. (d, subst (λ (x : Message). Holds (cut_at cs c) (marked (tally_at ts c) i second).marks (marked (tally_at ts c) i second).opened x) (some_injective m' n z) h''))
                  (λ o. (m', refl, h'.id)) (sym d),
            )

-- A sweep that removes no open message changes nothing.
pub unswept : (slots : ℕ) (cs : List Cut) (ts : List Tally) (s : Slots) → Inv slots cs ts s → (second : ℕ)
    → ((c : ℕ) → is_open (tally_at ts c) ≡ true → second < (tally_at ts c).opened + 30) → slots_sweep second s ≡ s
unswept slots cs ts s v second young = sweep_same second s fresh
  where
    fresh : (k : ℕ) (m : Message) → get_or s k none ≡ some m → second < m.opened + 30
    fresh k m e =
        let o : (c : ℕ) × Owned cs ts m c = v.owned k m e in
        let y : second < (tally_at ts o.0).opened + 30 = young o.0 o.1.is_open_lem in
        let z : m.opened ≡ (tally_at ts o.0).opened = o.1.holds.opened in
        omega arith
