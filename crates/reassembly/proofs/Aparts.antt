-- The ids of a store stay apart: a new store's are, and a piece and a sweep keep them so. Assumes nothing.
use mathlib.Core.Path.{◌≡◌, refl, sym, ap, ◌∙◌, subst}
use mathlib.Core.Logic.{◌≢◌}
use mathlib.Core.Bool.{Bool, true, false}
use mathlib.Core.List.{[]}
use mathlib.Core.Option.{Option, none, some}
use Prim.Native.Nat.{ℕ, ◌+◌, ◌≤◌, ◌<◌}
use native.Mathlib.Omega.{arith}
use native.Mathlib.Decide.{ℕ_discrete}
use lib.ListN.{length, get_or, set, replicate}
use lib.Seq.{get_or-set_same, get_or-set_other}
use lib.Dec.{ltb, eqb}
use borrow.Author.Tests.{ltb-true, ltb-false}
use Rattle.reassembly.specs.Memory.{remembers, remember}
use Rattle.reassembly.specs.Store.{Piece, id_of, Message, Slots, Store, new_store, Answer, SlotsAnswer, slot_of, slots_step, answer_by_slots, step, slots_sweep, sweep}
use Rattle.reassembly.specs.Apart.{Apart}
use Rattle.reassembly.specs.Neighbours.{is_open_in}
use Rattle.reassembly.proofs.Stores.{none≢some, all_same, Hit, place_open, sweep_free, sweep_drops}
use Rattle.reassembly.proofs.Memories.{remember_other, forget_remembers, remember_most, forget_most, remember_distinct, forget_distinct}
use Rattle.reassembly.proofs.Moves.{open_hit, Moved, stayed, kept, finished, moved, Stepped, is_50, is_51, is_57, by_slots, stepped}

-- ---- a new store

-- Where no message is open and none is remembered, all are apart, whatever the number of slots.
pub free_apart : (slots keep : ℕ) → Apart keep (record { slots = replicate slots none; remembered = [] })
unfolding remembers
free_apart slots keep = record {
  open_once = λ k l m n e f q. absurd (none≢some (get_or (replicate slots none) k none) m (all_same slots k none) e);
  open_alone = λ k m e. refl;
  distinct = tt;
  at_most = omega arith;
}

pub new_apart : (keep : ℕ) → Apart keep new_store
new_apart keep = free_apart 4 keep

-- ---- a piece

-- one slot changed
module _ (keep : ℕ) (s : Store) (v : Apart keep s) (id : ℕ) (strange : remembers s.remembered id ≡ false) (inside : slot_of id s.slots < length s.slots) where
  abbrev k : ℕ
  k = slot_of id s.slots

  at_k : (x : Option Message) → get_or (set s.slots k x) k none ≡ x
  at_k x = get_or-set_same s.slots k x none inside

  other : (x : Option Message) (l : ℕ) (m : Message) → get_or (set s.slots k x) l none ≡ some m → l ≢ k → get_or s.slots l none ≡ some m
  other x l m e q = sym (get_or-set_other s.slots k l x none q) ∙ e

  -- a slot of the id is this one
  sole : (l : ℕ) (m : Message) → get_or s.slots l none ≡ some m → m.id ≡ id → l ≡ k
  sole l m e q =
      let h : Hit id s.slots (slot_of id s.slots) = place_open id s.slots l m e q in
      v.open_once l k m h.there e h.is_there (q ∙ sym h.its_id)

  kept_apart : (m : Message) → m.id ≡ id → Apart keep (record { slots = set s.slots k (some m); remembered = s.remembered })
  kept_apart m q = record {
    open_once = λ l₁ l₂ n₁ n₂ e₁ e₂ z. two l₁ l₂ n₁ n₂ e₁ e₂ z (ℕ_discrete l₁ k) (ℕ_discrete l₂ k);
    open_alone = λ l n e. one l n e (ℕ_discrete l k);
    distinct = v.distinct;
    at_most = v.at_most;
  }
    where
      here : (l : ℕ) (n : Message) → get_or (set s.slots k (some m)) l none ≡ some n → l ≡ k → n.id ≡ id
      here l n e z =
          let a : some m ≡ some n = sym (at_k (some m)) ∙ (ap (λ (i : ℕ). get_or (set s.slots k (some m)) i none) (sym z) ∙ e) in
          let b : m ≡ n = cc in
          ap (λ (x : Message). x.id) (sym b) ∙ q

      one : (l : ℕ) (n : Message) → get_or (set s.slots k (some m)) l none ≡ some n → Dec (l ≡ k) → remembers s.remembered n.id ≡ false
      one l n e (yes z) = ap (remembers s.remembered) (here l n e z) ∙ strange
      one l n e (no z) = v.open_alone l n (other (some m) l n e z)

      two : (l₁ l₂ : ℕ) (n₁ n₂ : Message) → get_or (set s.slots k (some m)) l₁ none ≡ some n₁ → get_or (set s.slots k (some m)) l₂ none ≡ some n₂ → n₁.id ≡ n₂.id
          → Dec (l₁ ≡ k) → Dec (l₂ ≡ k) → l₁ ≡ l₂
      two l₁ l₂ n₁ n₂ e₁ e₂ z (yes a) (yes b) = a ∙ sym b
      two l₁ l₂ n₁ n₂ e₁ e₂ z (yes a) (no b) = absurd (b (sole l₂ n₂ (other (some m) l₂ n₂ e₂ b) (sym z ∙ here l₁ n₁ e₁ a)))
      two l₁ l₂ n₁ n₂ e₁ e₂ z (no a) (yes b) = absurd (a (sole l₁ n₁ (other (some m) l₁ n₁ e₁ a) (z ∙ here l₂ n₂ e₂ b)))
      two l₁ l₂ n₁ n₂ e₁ e₂ z (no a) (no b) = v.open_once l₁ l₂ n₁ n₂ (other (some m) l₁ n₁ e₁ a) (other (some m) l₂ n₂ e₂ b) z

  finished_apart : 1 ≤ keep → (second : ℕ) → Apart keep (record { slots = set s.slots k none; remembered = remember keep s.remembered (record { id = id; second = second }) })
  finished_apart hk second = record {
    open_once = λ l₁ l₂ n₁ n₂ e₁ e₂ z. v.open_once l₁ l₂ n₁ n₂ (other none l₁ n₁ e₁ (away l₁ n₁ e₁)) (other none l₂ n₂ e₂ (away l₂ n₂ e₂)) z;
    open_alone = λ l n e.
        let e' : get_or s.slots l none ≡ some n = other none l n e (away l n e) in
        remember_other keep s.remembered (record { id = id; second = second }) n.id (v.open_alone l n e') (λ z. away l n e (sole l n e' (sym z)));
    distinct = remember_distinct keep s.remembered (record { id = id; second = second }) strange v.distinct;
    at_most = remember_most keep s.remembered (record { id = id; second = second }) hk v.at_most;
  }
    where
      away : (l : ℕ) (n : Message) → get_or (set s.slots k none) l none ≡ some n → l ≢ k
      away l n e z = none≢some (get_or (set s.slots k none) k none) n (at_k none) (ap (λ (i : ℕ). get_or (set s.slots k none) i none) (sym z) ∙ e)

-- the store after what the slots answered, by what became of them
by_slots_stayed : (keep : ℕ) (s : Store) (id second : ℕ) (a : SlotsAnswer) → a.slots ≡ s.slots → eqb a.number 60 ≡ false → (answer_by_slots keep s id second a).store ≡ s
by_slots_stayed keep s id second a e n = rw (e, n) refl

by_slots_apart : (keep : ℕ) → 1 ≤ keep → (s : Store) → Apart keep s → (id second : ℕ) → remembers s.remembered id ≡ false → (a : SlotsAnswer) → Moved s.slots id a
    → Apart keep (answer_by_slots keep s id second a).store
by_slots_apart keep hk s v id second r a (stayed e n z f) = subst (Apart keep) (sym (by_slots_stayed keep s id second a e n)) v
by_slots_apart keep hk s v id second r a (kept m q i e n) = rw (e, n) (kept_apart keep s v id r i m q)
by_slots_apart keep hk s v id second r a (finished o i e n) = rw (e, n) (finished_apart keep s v id r i hk _)

-- A piece keeps the ids apart.
pub step_apart : (keep : ℕ) → 1 ≤ keep → (cap : ℕ) (s : Store) → Apart keep s → (p : Piece) (second : ℕ) → Apart keep (step keep cap s p second).store
step_apart keep hk cap s v p second = go (step keep cap s p second) (stepped keep cap s p second)
  where
    go : (a : Answer) → Stepped keep cap s p second a → Apart keep a.store
    go a (is_50 e q) = rw q v
    go a (is_51 e f q) = rw q v
    go a (is_57 e f r q) = rw q v
    go a (by_slots e f r q) = rw q (by_slots_apart keep hk s v (id_of p) second r (slots_step cap s.slots p second) (moved cap s.slots p second f))

-- ---- a sweep

-- what a sweep leaves was there
swept_from : (second : ℕ) (s : Slots) (k : ℕ) (m : Message) → get_or (slots_sweep second s) k none ≡ some m → get_or s k none ≡ some m
swept_from second s k m e = go (get_or s k none) refl
  where
    go : (o : Option Message) → get_or s k none ≡ o → get_or s k none ≡ some m
    go none q = absurd (none≢some (get_or (slots_sweep second s) k none) m (sweep_free second s k q) e)
    go (some n) q = young (ltb second (n.opened + 30)) refl
      where
        young : (b : Bool) → ltb second (n.opened + 30) ≡ b → get_or s k none ≡ some m
        young true t = q ∙ (sym ((sweep_drops second s k n q).0 (ltb-true second (n.opened + 30) t)) ∙ e)
        young false t = absurd (none≢some (get_or (slots_sweep second s) k none) m ((sweep_drops second s k n q).1 (ltb-false second (n.opened + 30) t)) e)

-- A sweep keeps the ids apart.
pub sweep_apart : (keep second : ℕ) (s : Store) → Apart keep s → Apart keep (sweep second s)
sweep_apart keep second s v = record {
  open_once = λ k l m n e f q. v.open_once k l m n (swept_from second s.slots k m e) (swept_from second s.slots l n f) q;
  open_alone = λ k m e. forget_remembers second s.remembered m.id (v.open_alone k m (swept_from second s.slots k m e));
  distinct = forget_distinct second s.remembered v.distinct;
  at_most = omega (arith, v.at_most, forget_most second s.remembered);
}

-- ---- what follows

-- An open id is not remembered.
pub open_unremembered : (keep : ℕ) (s : Store) → Apart keep s → (id : ℕ) → is_open_in id s.slots ≡ true → remembers s.remembered id ≡ false
open_unremembered keep s v id o =
    let h : Hit id s.slots (slot_of id s.slots) = open_hit id s.slots o in
    ap (remembers s.remembered) (sym h.its_id) ∙ v.open_alone (slot_of id s.slots) h.there h.is_there
