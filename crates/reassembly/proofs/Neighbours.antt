-- Laws of the store of four neighbours: what a piece and a sweep do to each store and to its number of the summary; the summary is the count over the slots,
-- and no neighbour meets another's pieces. Assumes nothing.
use mathlib.Core.Path.{◌≡◌, refl, sym, ap, ◌∙◌}
use mathlib.Core.Logic.{◌≢◌}
use mathlib.Core.Bool.{Bool, true, false, cond}
use mathlib.Core.List.{List, [], ◌∷◌}
use mathlib.Core.Option.{none}
use Prim.Native.Nat.{ℕ, ◌-◌, ◌≤◌, ◌<◌}
use native.Mathlib.Omega.{arith}
use native.Mathlib.Decide.{ℕ_discrete}
use lib.ListN.{length, length-set, length-map, get_or-map, get_or-eq_default}
use lib.Seq.{get_or-set_same, get_or-set_other}
use lib.Dec.{eqb, ltb}
use borrow.Author.Tests.{eqb-true, eqb-false, lt-ltb, le-ltb, ltb-true, ltb-false}
use Rattle.wire.proofs.Series.{length_series, get_d_series}
use Rattle.reassembly.specs.Sizes.{most_remembered}
use Rattle.reassembly.specs.Memory.{forget}
use Rattle.reassembly.specs.Store.{Piece, id_of, Store, new_store, Answer, step, swept_one, slots_sweep, sweep}
use Rattle.reassembly.specs.Runs.{piece, answered, said_of, said_to, reached}
use Rattle.reassembly.specs.Neighbours.{Neighbours, new_neighbours, store_of, summary_of, is_open_in, open_of, dropped_of, recounted, answer_from, step_from, sweep_all}
use Rattle.reassembly.specs.Acts.{Act, sends, sweeps, act_answer, act_said, acts_said, acts_left, only, heard}
use Rattle.reassembly.proofs.Stores.{all_same}
use Rattle.reassembly.proofs.Counts.{open_most, swept_open, sweep_slots_length, step_open, step_slots_length, step_52}

-- ---- a piece

-- A number above 3 is refused.
pub from_58 : (cap : ℕ) (s : Neighbours) (n : ℕ) (p : Piece) (second : ℕ) → 4 ≤ n → step_from cap s n p second ≡ record { number = 58; out = none; left = s }
unfolding step_from
from_58 cap s n p second h = rw (lt-ltb 3 n (omega arith)) refl

module _ (cap : ℕ) (s : Neighbours) (n : ℕ) (p : Piece) (second : ℕ) where
  -- what neighbour n's own store answers
  abbrev pub own : Answer
  own = step most_remembered cap (store_of s n) p second

  module _ (small : n < 4) where
    -- A number up to 3: the neighbour's own store answers.
    pub from_own : step_from cap s n p second ≡ answer_from s n (is_open_in (id_of p) (store_of s n).slots) own
    unfolding step_from
    from_own = rw (le-ltb 3 n (omega arith)) refl

    -- That is what is said to the neighbour,
    pub from_number : (step_from cap s n p second).number ≡ (step most_remembered cap (store_of s n) p second).number
    unfolding answer_from
    from_number = ap (λ x. x.number) from_own

    pub from_out : (step_from cap s n p second).out ≡ (step most_remembered cap (store_of s n) p second).out
    unfolding answer_from
    from_out = ap (λ x. x.out) from_own

    -- and what its store becomes;
    pub from_store : length s.stores ≡ 4 → store_of (step_from cap s n p second).left n ≡ (step most_remembered cap (store_of s n) p second).store
    unfolding answer_from
    from_store l = ap (λ x. store_of x.left n) from_own ∙ get_or-set_same s.stores n own.store new_store (omega arith)

    -- its number of the summary is recounted.
    pub from_summary : length s.summary ≡ 4 → summary_of (step_from cap s n p second).left n
        ≡ recounted (step most_remembered cap (store_of s n) p second).number (is_open_in (id_of p) (store_of s n).slots) (summary_of s n)
    unfolding answer_from
    from_summary l =
        ap (λ x. summary_of x.left n) from_own
        ∙ get_or-set_same s.summary n (recounted own.number (is_open_in (id_of p) (store_of s n).slots) (summary_of s n)) 0 (omega arith)

  -- Another's store, and its number of the summary, stay.
  module _ (m : ℕ) (other : m ≢ n) where
    pub from_other_store : store_of (step_from cap s n p second).left m ≡ store_of s m
    unfolding step_from answer_from
    from_other_store = go (ltb 3 n)
      where
        go : (b : Bool) → store_of (cond b (record { number = 58; out = none; left = s }) (answer_from s n (is_open_in (id_of p) (store_of s n).slots) own)).left m ≡ store_of s m
        go true = refl
        go false = get_or-set_other s.stores n m own.store new_store other

    pub from_other_summary : summary_of (step_from cap s n p second).left m ≡ summary_of s m
    unfolding step_from answer_from
    from_other_summary = go (ltb 3 n)
      where
        go : (b : Bool) → summary_of (cond b (record { number = 58; out = none; left = s }) (answer_from s n (is_open_in (id_of p) (store_of s n).slots) own)).left m ≡ summary_of s m
        go true = refl
        go false = get_or-set_other s.summary n m (recounted own.number (is_open_in (id_of p) (store_of s n).slots) (summary_of s n)) 0 other

  -- There are as many stores as before, and as many numbers in the summary.
  pub from_stores : length (step_from cap s n p second).left.stores ≡ length s.stores
  unfolding step_from answer_from
  from_stores = go (ltb 3 n)
    where
      go : (b : Bool) → length (cond b (record { number = 58; out = none; left = s }) (answer_from s n (is_open_in (id_of p) (store_of s n).slots) own)).left.stores ≡ length s.stores
      go true = refl
      go false = length-set s.stores n own.store

  pub from_numbers : length (step_from cap s n p second).left.summary ≡ length s.summary
  unfolding step_from answer_from
  from_numbers = go (ltb 3 n)
    where
      go : (b : Bool) → length (cond b (record { number = 58; out = none; left = s }) (answer_from s n (is_open_in (id_of p) (store_of s n).slots) own)).left.summary ≡ length s.summary
      go true = refl
      go false = length-set s.summary n (recounted own.number (is_open_in (id_of p) (store_of s n).slots) (summary_of s n))

-- ---- a sweep

-- Each store is swept,
pub all_store : (second : ℕ) (s : Neighbours) (n : ℕ) → store_of (sweep_all second s) n ≡ sweep second (store_of s n)
unfolding sweep_all slots_sweep swept_one forget
all_store second s n = get_or-map (sweep second) s.stores n new_store

-- and its number of the summary is less by what was dropped.
pub all_summary : (second : ℕ) (s : Neighbours) (n : ℕ) → n < 4 → summary_of (sweep_all second s) n ≡ summary_of s n - dropped_of second (store_of s n).slots
unfolding sweep_all
all_summary second s n small = get_d_series (λ n. summary_of s n - dropped_of second (store_of s n).slots) 4 n 0 small

pub all_stores : (second : ℕ) (s : Neighbours) → length (sweep_all second s).stores ≡ length s.stores
unfolding sweep_all
all_stores second s = length-map s.stores (sweep second)

pub all_numbers : (second : ℕ) (s : Neighbours) → length (sweep_all second s).summary ≡ 4
unfolding sweep_all
all_numbers second s = length_series (λ n. summary_of s n - dropped_of second (store_of s n).slots) 0 4

-- ---- the summary is the count

-- Four stores, four numbers, and neighbour n's number is the count of its open messages.
pub record CountedFor (n : ℕ) (s : Neighbours) : Type 0 where
  pub stores_four : length s.stores ≡ 4
  pub numbers_four : length s.summary ≡ 4
  pub counted : summary_of s n ≡ open_of (store_of s n).slots

module _ (n : ℕ) (small : n < 4) where
  -- A piece, of this neighbour or of another, keeps it so;
  pub from_counted : (cap : ℕ) (s : Neighbours) (m : ℕ) (p : Piece) (second : ℕ) → CountedFor n s → CountedFor n (step_from cap s m p second).left
  from_counted cap s m p second v = record {
    stores_four = from_stores cap s m p second ∙ v.stores_four;
    numbers_four = from_numbers cap s m p second ∙ v.numbers_four;
    counted = go (ℕ_discrete n m);
  }
    where
      go : Dec (n ≡ m) → summary_of (step_from cap s m p second).left n ≡ open_of (store_of (step_from cap s m p second).left n).slots
      go (yes q) = rw (sym q) (
          from_summary cap s n p second small v.numbers_four
          ∙ (ap (recounted (own cap s n p second).number (is_open_in (id_of p) (store_of s n).slots)) v.counted
          ∙ (step_open most_remembered cap (store_of s n) p second
          ∙ ap (λ (x : Store). open_of x.slots) (sym (from_store cap s n p second small v.stores_four)))))
      go (no q) =
          from_other_summary cap s m p second n q
          ∙ (v.counted ∙ ap (λ (x : Store). open_of x.slots) (sym (from_other_store cap s m p second n q)))

  -- so does a sweep,
  pub all_counted : (second : ℕ) (s : Neighbours) → CountedFor n s → CountedFor n (sweep_all second s)
  all_counted second s v = record {
    stores_four = all_stores second s ∙ v.stores_four;
    numbers_four = all_numbers second s;
    counted = all_summary second s n small ∙ (less ∙ ap (λ (x : Store). open_of x.slots) (sym (all_store second s n)));
  }
    where
      less : summary_of s n - dropped_of second (store_of s n).slots ≡ open_of (slots_sweep second (store_of s n).slots)
      less = omega (arith, v.counted, swept_open second (store_of s n).slots)

  -- and so do any acts.
  pub acts_counted : (acts : List Act) (s : Neighbours) → CountedFor n s → CountedFor n (acts_left s acts)
  unfolding act_answer
  acts_counted [] s v = v
  acts_counted (sends m cap p second ∷ acts) s v = acts_counted acts (step_from cap s m p second).left (from_counted cap s m p second v)
  acts_counted (sweeps second ∷ acts) s v = acts_counted acts (sweep_all second s) (all_counted second s v)

-- Four stores of four slots, and four numbers, each the count of its store's open messages.
pub record Level (s : Neighbours) : Type 0 where
  pub slots_four : (n : ℕ) → n < 4 → length (store_of s n).slots ≡ 4
  pub counted_each : (n : ℕ) → n < 4 → CountedFor n s

-- a new store
pub new_level : Level new_neighbours
new_level = record {
  slots_four = λ n h. rw (all_same 4 n new_store) refl;
  counted_each = λ n h. record { stores_four = refl; numbers_four = refl; counted = rw (all_same 4 n new_store, all_same {A = ℕ} 4 n 0) refl };
}

-- A piece keeps it so,
pub from_level : (cap : ℕ) (s : Neighbours) (n : ℕ) (p : Piece) (second : ℕ) → Level s → Level (step_from cap s n p second).left
from_level cap s n p second v = record {
  slots_four = λ m h. go m h (ℕ_discrete m n);
  counted_each = λ m h. from_counted m h cap s n p second (v.counted_each m h);
}
  where
    go : (m : ℕ) → m < 4 → Dec (m ≡ n) → length (store_of (step_from cap s n p second).left m).slots ≡ 4
    go m h (yes q) = rw (sym q) (
        ap (λ (x : Store). length x.slots) (from_store cap s m p second h (v.counted_each m h).stores_four)
        ∙ (step_slots_length most_remembered cap (store_of s m) p second ∙ v.slots_four m h))
    go m h (no q) = ap (λ (x : Store). length x.slots) (from_other_store cap s n p second m q) ∙ v.slots_four m h

-- so does a sweep,
pub all_level : (second : ℕ) (s : Neighbours) → Level s → Level (sweep_all second s)
all_level second s v = record {
  slots_four = λ n h. ap (λ (x : Store). length x.slots) (all_store second s n) ∙ (sweep_slots_length second (store_of s n).slots ∙ v.slots_four n h);
  counted_each = λ n h. all_counted n h second s (v.counted_each n h);
}

-- and so do any acts.
pub acts_level : (acts : List Act) (s : Neighbours) → Level s → Level (acts_left s acts)
unfolding act_answer
acts_level [] s v = v
acts_level (sends n cap p second ∷ acts) s v = acts_level acts (step_from cap s n p second).left (from_level cap s n p second v)
acts_level (sweeps second ∷ acts) s v = acts_level acts (sweep_all second s) (all_level second s v)

module _ (s : Neighbours) (v : Level s) where
  -- The summary's number is the count: of a neighbour above 3 both are 0.
  pub level_counted : (n : ℕ) → summary_of s n ≡ open_of (store_of s n).slots
  level_counted n = go (ltb n 4) refl
    where
      go : (b : Bool) → ltb n 4 ≡ b → summary_of s n ≡ open_of (store_of s n).slots
      go true e = (v.counted_each n (ltb-true n 4 e)).counted
      go false e =
          let h : 4 ≤ n = ltb-false n 4 e in
          let z : CountedFor 0 s = v.counted_each 0 (omega arith) in
          get_or-eq_default s.summary 0 (omega (arith, h, z.numbers_four))
          ∙ ap (λ (x : Store). open_of x.slots) (sym (get_or-eq_default s.stores new_store (omega (arith, h, z.stores_four))))

  -- It is never above 4,
  pub level_most : (n : ℕ) → summary_of s n ≤ 4
  level_most n = go (ltb n 4) refl
    where
      go : (b : Bool) → ltb n 4 ≡ b → summary_of s n ≤ 4
      go true e = omega (arith, v.slots_four n (ltb-true n 4 e), level_counted n, open_most (store_of s n).slots)
      go false e =
          let h : 4 ≤ n = ltb-false n 4 e in
          let z : summary_of s n ≡ 0 = get_or-eq_default s.summary 0 (omega (arith, h, (v.counted_each 0 (omega arith)).numbers_four)) in
          omega arith

  -- and 4 where 52 is said.
  pub level_52 : (cap n : ℕ) (p : Piece) (second : ℕ) → (step_from cap s n p second).number ≡ 52 → summary_of s n ≡ 4
  level_52 cap n p second q = go (ltb n 4) refl
    where
      go : (b : Bool) → ltb n 4 ≡ b → summary_of s n ≡ 4
      go true e =
          let h : n < 4 = ltb-true n 4 e in
          let f : open_of (store_of s n).slots ≡ length (store_of s n).slots = step_52 most_remembered cap (store_of s n) p second (sym (from_number cap s n p second h) ∙ q) in
          omega (arith, level_counted n, v.slots_four n h)
      go false e =
          let z : (step_from cap s n p second).number ≡ 58 = ap (λ x. x.number) (from_58 cap s n p second (ltb-false n 4 e)) in
          absurd (omega arith)

-- ---- no neighbour meets another's pieces

-- What neighbour n hears, and what its store becomes, are what a store of its own says and becomes that meets its pieces and the sweeps alone.
abbrev pub HearsAlone : ℕ → List Act → Neighbours → Type 0
HearsAlone n acts s =
    (heard n acts (acts_said s acts) ≡ said_to most_remembered (store_of s n) (only n acts)) × (store_of (acts_left s acts) n ≡ reached most_remembered (store_of s n) (only n acts))

pub alone : (n : ℕ) → n < 4 → (acts : List Act) (s : Neighbours) → length s.stores ≡ 4 → HearsAlone n acts s
unfolding act_answer act_said answered said_of
alone n small [] s l = (refl, refl)
alone n small (sends m cap p second ∷ acts) s l = here (alone n small acts (step_from cap s m p second).left (from_stores cap s m p second ∙ l))
  where
    next : Neighbours
    next = (step_from cap s m p second).left

    go : (b : Bool) → eqb m n ≡ b → HearsAlone n acts next
        → (cond b (act_said s (sends m cap p second) ∷ heard n acts (acts_said next acts)) (heard n acts (acts_said next acts))
        ≡ said_to most_remembered (store_of s n) (cond b (piece cap p second ∷ only n acts) (only n acts)))
        × (store_of (acts_left next acts) n ≡ reached most_remembered (store_of s n) (cond b (piece cap p second ∷ only n acts) (only n acts)))
    go true t ih =
        let q : m ≡ n = eqb-true m n t in
        let e : store_of next n ≡ (own cap s n p second).store = rw q (from_store cap s n p second small l) in
        let a : (step_from cap s m p second).number ≡ (own cap s n p second).number = rw q (from_number cap s n p second small) in
        let b : (step_from cap s m p second).out ≡ (own cap s n p second).out = rw q (from_out cap s n p second small) in
        (rw (a, b, ih.0, e) refl, ih.1 ∙ rw e refl)
    go false t ih =
        let e : store_of next n ≡ store_of s n = from_other_store cap s m p second n (λ z. eqb-false m n t (sym z)) in
        (rw (ih.0, e) refl, ih.1 ∙ rw e refl)

    here : HearsAlone n acts next → HearsAlone n (sends m cap p second ∷ acts) s
    here ih = go (eqb m n) refl ih
alone n small (sweeps second ∷ acts) s l = go (alone n small acts (sweep_all second s) (all_stores second s ∙ l))
  where
    e : store_of (sweep_all second s) n ≡ sweep second (store_of s n)
    e = all_store second s n

    go : HearsAlone n acts (sweep_all second s) → HearsAlone n (sweeps second ∷ acts) s
    go ih = (rw (ih.0, e) refl, ih.1 ∙ rw e refl)
