-- The memory in the record: what is put there, and that a finished message is remembered as in the memory that it holds. Assumes nothing.
use mathlib.Core.Path.{◌≡◌, refl, sym, ap, ◌∙◌}
use mathlib.Core.Bool.{Bool, true, false, cond}
use mathlib.Core.List.{List, [], ◌∷◌, ◌++◌}
use mathlib.Core.Logic.{◌⊎◌, inl, inr}
use Prim.Native.Nat.{ℕ, ◌+◌, ◌*◌, ◌≤◌, ◌<◌}
use native.Mathlib.Omega.{arith}
use lib.Dec.{ltb}
use lib.ListN.{length, get_or, take, drop, replicate, length-replicate, get_or-replicate, get_or-append}
use lib.Seq.{drop-drop, get_or-drop, get_or-set_same}
use borrow.Author.Tests.{ltb-true, ltb-false}
use Rattle.wire.specs.Parts.{part, splice}
use Rattle.wire.specs.Numbers.{little, little_at, little_bytes}
use Rattle.wire.proofs.Parts.{length_part, part_all, part_part, part_before, part_after, part_other, part_within, stores_splice}
use Rattle.wire.proofs.Numbers.{length_little, little_back}
use Rattle.reassembly.specs.Sizes.{most_remembered, ids_at, id_size, seconds_at, second_size, count_at, share_size}
use Rattle.wire.specs.Series.{series}
use Rattle.reassembly.specs.Memory.{Finished, Memory, remember}
use Rattle.reassembly.specs.Remembered.{remembered_count, finished_at, memory_of, with_count, with_finished, moved_to, remembered_in}
use Rattle.wire.proofs.Series.{length_series, series_same, series_more, series_less}
use Rattle.reassembly.proofs.Fronts.{Behind, behind_then, behind_splice}

-- what the k-th is read of
finished_is : (rec rec' : List ℕ) (k l : ℕ) → part rec (ids_at + k * id_size) id_size ≡ part rec' (ids_at + l * id_size) id_size
    → part rec (seconds_at + k * second_size) second_size ≡ part rec' (seconds_at + l * second_size) second_size → finished_at rec k ≡ finished_at rec' l
unfolding finished_at little_at
finished_is rec rec' k l p q = λ i. record { id = little (p i); second = little (q i) }

module _ (rec rec' : List ℕ) (same : drop ids_at rec' ≡ drop ids_at rec) where
  behind_part : (o n : ℕ) → part rec' (ids_at + o) n ≡ part rec (ids_at + o) n
  unfolding part
  behind_part o n = ap (take n) (sym (drop-drop o ids_at rec') ∙ ap (drop o) same ∙ drop-drop o ids_at rec)

  behind_count : get_or rec' count_at 0 ≡ get_or rec count_at 0
  behind_count = sym (get_or-drop ids_at rec' 192 0) ∙ ap (λ (z : List ℕ). get_or z 192 0) same ∙ get_or-drop ids_at rec 192 0

  behind_finished : (k : ℕ) → finished_at rec' k ≡ finished_at rec k
  behind_finished k =
      let e : ids_at + (64 + k * second_size) ≡ seconds_at + k * second_size = omega arith in
      finished_is rec' rec k k (behind_part (k * id_size) id_size)
      (ap (λ (p : ℕ). part rec' p second_size) (sym e) ∙ behind_part (64 + k * second_size) second_size ∙ ap (λ (p : ℕ). part rec p second_size) e)

-- the count is read of the byte at its place
pub count_is : (rec : List ℕ) (n : ℕ) → get_or rec count_at 0 ≡ n → n ≤ most_remembered → remembered_count rec ≡ n
unfolding remembered_count
count_is rec n e h = go (ltb (get_or rec count_at 0) most_remembered) refl
  where
    go : (b : Bool) → ltb (get_or rec count_at 0) most_remembered ≡ b → cond (ltb (get_or rec count_at 0) most_remembered) (get_or rec count_at 0) most_remembered ≡ n
    go true q = rw q e
    go false q = rw q (let l : most_remembered ≤ get_or rec count_at 0 = ltb-false (get_or rec count_at 0) most_remembered q in omega arith)

pub count_most : (rec : List ℕ) → remembered_count rec ≤ most_remembered
unfolding remembered_count
count_most rec = go (ltb (get_or rec count_at 0) most_remembered) refl
  where
    go : (b : Bool) → ltb (get_or rec count_at 0) most_remembered ≡ b → cond (ltb (get_or rec count_at 0) most_remembered) (get_or rec count_at 0) most_remembered ≤ most_remembered
    go true q = rw q (let l : get_or rec count_at 0 < most_remembered = ltb-true (get_or rec count_at 0) most_remembered q in omega arith)
    go false q = rw q (omega arith)

-- stands for one that is not there
pub blank : Finished
blank = record { id = 0; second = 0 }

-- the memory that a record holds, by its count and each that is in use
pub memory_is : (rec : List ℕ) (n : ℕ) (f : ℕ → Finished) → remembered_count rec ≡ n → ((k : ℕ) → k < n → finished_at rec k ≡ f k) → memory_of rec ≡ series f 0 n
unfolding memory_of
memory_is rec n f e h = ap (series (finished_at rec) 0) e ∙ series_same (finished_at rec) f n blank h

-- The memory is read of what stands behind the tables alone.
pub memory_behind : (rec rec' : List ℕ) → drop ids_at rec' ≡ drop ids_at rec → memory_of rec' ≡ memory_of rec
unfolding memory_of remembered_count
memory_behind rec rec' same =
    memory_is rec' (remembered_count rec) (finished_at rec) (ap (λ (n : ℕ). cond (ltb n most_remembered) n most_remembered) (behind_count rec rec' same)) (λ k h. behind_finished rec rec' same k)

-- A record whose count is 0 remembers none; so does one that starts with zeros.
pub none_memory : (rec : List ℕ) → get_or rec count_at 0 ≡ 0 → memory_of rec ≡ []
unfolding memory_of
none_memory rec e = ap (series (finished_at rec) 0) (count_is rec 0 e (omega arith))

pub zeros_memory : (rec : List ℕ) (n : ℕ) → share_size ≤ n → memory_of (splice rec 0 (replicate n 0)) ≡ []
unfolding splice
zeros_memory rec n h =
    none_memory (replicate n 0 ++ drop (0 + length (replicate n 0)) rec)
    (get_or-append (replicate n 0) (drop (0 + length (replicate n 0)) rec) 0 count_at (omega (arith, length-replicate {A = ℕ} n 0)) ∙ get_or-replicate n count_at 0 0 (omega arith))

-- ---- what is put, and what is read then

-- n ids and as many seconds put from the j-th on
abbrev puts : List ℕ → ℕ → List ℕ → List ℕ → List ℕ
puts rec j a b = splice (splice rec (ids_at + j * id_size) a) (seconds_at + j * second_size) b

module _ (rec : List ℕ) (j n : ℕ) (a b : List ℕ) (long : share_size ≤ length rec) (la : length a ≡ n * id_size) (lb : length b ≡ n * second_size) (few : j + n ≤ most_remembered) where
  ids_behind : Behind ids_at rec (splice rec (ids_at + j * id_size) a)
  ids_behind = behind_splice ids_at rec (ids_at + j * id_size) a (omega arith) (omega arith)

  puts_behind : Behind ids_at rec (puts rec j a b)
  puts_behind = behind_then ids_behind (behind_splice ids_at (splice rec (ids_at + j * id_size) a) (seconds_at + j * second_size) b (omega arith) (omega (arith, ids_behind.long)))

  -- the ids are as they are before the seconds are put, and the seconds are put over what was there
  id_early : (p m : ℕ) → p + m ≤ seconds_at → part (puts rec j a b) p m ≡ part (splice rec (ids_at + j * id_size) a) p m
  id_early p m h = part_before (splice rec (ids_at + j * id_size) a) (seconds_at + j * second_size) b (omega (arith, ids_behind.long)) p m (omega arith)

  second_early : (p m : ℕ) → seconds_at ≤ p → part (splice rec (ids_at + j * id_size) a) p m ≡ part rec p m
  second_early p m h = part_after rec (ids_at + j * id_size) a (omega arith) p m (omega arith)

  puts_other : (i : ℕ) → i < most_remembered → (i < j) ⊎ (j + n ≤ i) → finished_at (puts rec j a b) i ≡ finished_at rec i
  puts_other i h w =
      finished_is (puts rec j a b) rec i i
      (id_early (ids_at + i * id_size) id_size (omega arith) ∙ part_other rec (ids_at + j * id_size) a (omega arith) (ids_at + i * id_size) id_size (ids_apart w))
      (part_other (splice rec (ids_at + j * id_size) a) (seconds_at + j * second_size) b (omega (arith, ids_behind.long)) (seconds_at + i * second_size) second_size (seconds_apart w)
      ∙ second_early (seconds_at + i * second_size) second_size (omega arith))
    where
      ids_apart : (i < j) ⊎ (j + n ≤ i) → (ids_at + i * id_size + id_size ≤ ids_at + j * id_size) ⊎ (ids_at + j * id_size + length a ≤ ids_at + i * id_size)
      ids_apart (inl q) = inl (omega arith)
      ids_apart (inr q) = inr (omega arith)

      seconds_apart : (i < j) ⊎ (j + n ≤ i) → (seconds_at + i * second_size + second_size ≤ seconds_at + j * second_size) ⊎ (seconds_at + j * second_size + length b ≤ seconds_at + i * second_size)
      seconds_apart (inl q) = inl (omega arith)
      seconds_apart (inr q) = inr (omega arith)

  puts_id : (i : ℕ) → i < n → part (puts rec j a b) (ids_at + (j + i) * id_size) id_size ≡ part a (i * id_size) id_size
  puts_id i h =
      let e : ids_at + (j + i) * id_size ≡ ids_at + j * id_size + i * id_size = omega arith in
      id_early (ids_at + (j + i) * id_size) id_size (omega arith)
      ∙ ap (λ (p : ℕ). part (splice rec (ids_at + j * id_size) a) p id_size) e
      ∙ part_within rec (ids_at + j * id_size) a (omega arith) (i * id_size) id_size (omega arith)

  puts_second : (i : ℕ) → i < n → part (puts rec j a b) (seconds_at + (j + i) * second_size) second_size ≡ part b (i * second_size) second_size
  puts_second i h =
      let e : seconds_at + (j + i) * second_size ≡ seconds_at + j * second_size + i * second_size = omega arith in
      ap (λ (p : ℕ). part (puts rec j a b) p second_size) e
      ∙ part_within (splice rec (ids_at + j * id_size) a) (seconds_at + j * second_size) b (omega (arith, ids_behind.long)) (i * second_size) second_size (omega arith)

-- one is put
module _ (rec : List ℕ) (k : ℕ) (f : Finished) (long : share_size ≤ length rec) (few : k < most_remembered) where
  with_behind : Behind ids_at rec (with_finished rec k f)
  unfolding with_finished
  with_behind = puts_behind rec k 1 (little_bytes id_size f.id) (little_bytes second_size f.second) long (length_little id_size f.id) (length_little second_size f.second) (omega arith)

  with_other : (i : ℕ) → i < k → finished_at (with_finished rec k f) i ≡ finished_at rec i
  unfolding with_finished
  with_other i h = puts_other rec k 1 (little_bytes id_size f.id) (little_bytes second_size f.second) long (length_little id_size f.id) (length_little second_size f.second) (omega arith) i (omega arith) (inl h)

  with_same : f.id < 4294967296 → f.second < 18446744073709551616 → finished_at (with_finished rec k f) k ≡ f
  unfolding with_finished finished_at little_at
  with_same hi hs =
      let a : List ℕ = little_bytes id_size f.id in
      let b : List ℕ = little_bytes second_size f.second in
      let la : length a ≡ id_size = length_little id_size f.id in
      let lb : length b ≡ second_size = length_little second_size f.second in
      let z : k + 0 ≡ k = omega arith in
      let p : part (puts rec k a b) (ids_at + k * id_size) id_size ≡ a =
      ap (λ (i : ℕ). part (puts rec k a b) (ids_at + i * id_size) id_size) (sym z) ∙ puts_id rec k 1 a b long la lb (omega arith) 0 (omega arith) ∙ part_all a id_size (omega arith)
      in
      let q : part (puts rec k a b) (seconds_at + k * second_size) second_size ≡ b =
      ap (λ (i : ℕ). part (puts rec k a b) (seconds_at + i * second_size) second_size) (sym z) ∙ puts_second rec k 1 a b long la lb (omega arith) 0 (omega arith) ∙ part_all b second_size (omega arith)
      in
      let x : little (part (puts rec k a b) (ids_at + k * id_size) id_size) ≡ f.id = ap little p ∙ little_back id_size f.id hi in
      let y : little (part (puts rec k a b) (seconds_at + k * second_size) second_size) ≡ f.second = ap little q ∙ little_back second_size f.second hs in
      λ i. record { id = x i; second = y i }

-- some are moved
module _ (rec : List ℕ) (j k n : ℕ) (long : share_size ≤ length rec) (down : j ≤ k) (few : k + n ≤ most_remembered) where
  ids_length : length (part rec (ids_at + k * id_size) (n * id_size)) ≡ n * id_size
  ids_length = length_part rec (ids_at + k * id_size) (n * id_size) (omega arith)

  seconds_length : length (part rec (seconds_at + k * second_size) (n * second_size)) ≡ n * second_size
  seconds_length = length_part rec (seconds_at + k * second_size) (n * second_size) (omega arith)

  pub moved_behind : Behind ids_at rec (moved_to rec j k n)
  unfolding moved_to
  moved_behind = puts_behind rec j n (part rec (ids_at + k * id_size) (n * id_size)) (part rec (seconds_at + k * second_size) (n * second_size)) long ids_length seconds_length (omega arith)

  pub moved_other : (i : ℕ) → i < most_remembered → (i < j) ⊎ (j + n ≤ i) → finished_at (moved_to rec j k n) i ≡ finished_at rec i
  unfolding moved_to
  moved_other = puts_other rec j n (part rec (ids_at + k * id_size) (n * id_size)) (part rec (seconds_at + k * second_size) (n * second_size)) long ids_length seconds_length (omega arith)

  pub moved_same : (i : ℕ) → i < n → finished_at (moved_to rec j k n) (j + i) ≡ finished_at rec (k + i)
  unfolding moved_to
  moved_same i h =
      let a : List ℕ = part rec (ids_at + k * id_size) (n * id_size) in
      let b : List ℕ = part rec (seconds_at + k * second_size) (n * second_size) in
      let ea : ids_at + k * id_size + i * id_size ≡ ids_at + (k + i) * id_size = omega arith in
      let eb : seconds_at + k * second_size + i * second_size ≡ seconds_at + (k + i) * second_size = omega arith in
      finished_is (puts rec j a b) rec (j + i) (k + i)
      (puts_id rec j n a b long ids_length seconds_length (omega arith) i h
      ∙ part_part rec (ids_at + k * id_size) (n * id_size) (i * id_size) id_size (omega arith)
      ∙ ap (λ (p : ℕ). part rec p id_size) ea)
      (puts_second rec j n a b long ids_length seconds_length (omega arith) i h
      ∙ part_part rec (seconds_at + k * second_size) (n * second_size) (i * second_size) second_size (omega arith)
      ∙ ap (λ (p : ℕ). part rec p second_size) eb)

-- the count is saved
module _ (rec : List ℕ) (n : ℕ) (long : share_size ≤ length rec) where
  pub saved_behind : Behind ids_at rec (with_count rec n)
  unfolding with_count
  saved_behind = behind_splice ids_at rec count_at (n ∷ []) (omega arith) (omega arith)

  pub saved_same : (i : ℕ) → i < most_remembered → finished_at (with_count rec n) i ≡ finished_at rec i
  unfolding with_count
  saved_same i h =
      finished_is (splice rec count_at (n ∷ [])) rec i i
      (part_before rec count_at (n ∷ []) (omega arith) (ids_at + i * id_size) id_size (omega arith))
      (part_before rec count_at (n ∷ []) (omega arith) (seconds_at + i * second_size) second_size (omega arith))

  pub saved_count : n ≤ most_remembered → remembered_count (with_count rec n) ≡ n
  unfolding with_count
  saved_count h =
      count_is (splice rec count_at (n ∷ [])) n
      (ap (λ (z : List ℕ). get_or z count_at 0) (sym (stores_splice rec count_at n [] (omega arith))) ∙ get_or-set_same rec count_at n 0 (omega arith))
      h

-- ---- a finished message is remembered

module _ (f : Finished) where
  -- f is put after the first n of a record
  last_memory : (x : List ℕ) (n : ℕ) → share_size ≤ length x → n < most_remembered → f.id < 4294967296 → f.second < 18446744073709551616
      → memory_of (with_count (with_finished x n f) (n + 1)) ≡ series (finished_at x) 0 n ++ (f ∷ [])
  last_memory x n long few hi hs =
      let y : List ℕ = with_finished x n f in
      let ly : share_size ≤ length (with_finished x n f) = omega (arith, (with_behind x n f long few).long) in
      memory_is (with_count y (n + 1)) (n + 1) (finished_at y) (saved_count y (n + 1) ly (omega arith)) (λ k h. saved_same y (n + 1) ly k (omega arith))
      ∙ series_more (finished_at y) n
      ∙ ap (λ (z : Memory). z ++ (finished_at y n ∷ [])) (series_same (finished_at y) (finished_at x) n blank (with_other x n f long few))
      ∙ ap (λ (z : Finished). series (finished_at x) 0 n ++ (z ∷ [])) (with_same x n f long few hi hs)

  last_behind : (x : List ℕ) (n m : ℕ) → share_size ≤ length x → n < most_remembered → Behind ids_at x (with_count (with_finished x n f) m)
  last_behind x n m long few = behind_then (with_behind x n f long few) (saved_behind (with_finished x n f) m (omega (arith, (with_behind x n f long few).long)))

module _ (rec : List ℕ) (long : share_size ≤ length rec) (f : Finished) where
  pub remembered_behind : Behind ids_at rec (remembered_in rec f)
  unfolding remembered_in
  remembered_behind = go (ltb (remembered_count rec) most_remembered) refl
    where
      go : (b : Bool) → ltb (remembered_count rec) most_remembered ≡ b
          → Behind ids_at rec (cond b (with_count (with_finished rec (remembered_count rec) f) (remembered_count rec + 1)) (with_count (with_finished (moved_to rec 0 1 15) 15 f) most_remembered))
      go true e = last_behind f rec (remembered_count rec) (remembered_count rec + 1) long (ltb-true (remembered_count rec) most_remembered e)
      go false e =
          let m : Behind ids_at rec (moved_to rec 0 1 15) = moved_behind rec 0 1 15 long (omega arith) (omega arith) in
          behind_then m (last_behind f (moved_to rec 0 1 15) 15 most_remembered (omega arith) (omega arith))

  -- all but the first of n + 1, moved down
  all_moved : (n : ℕ) → n < most_remembered → n + 1 ≡ remembered_count rec → series (finished_at (moved_to rec 0 1 n)) 0 n ≡ drop 1 (memory_of rec)
  unfolding memory_of
  all_moved n h e =
      series_same (finished_at (moved_to rec 0 1 n)) (λ (k : ℕ). finished_at rec (k + 1)) n blank
      (λ k g.
      let a : 0 + k ≡ k = omega arith in
      let b : 1 + k ≡ k + 1 = omega arith in
      ap (finished_at (moved_to rec 0 1 n)) (sym a) ∙ moved_same rec 0 1 n long (omega arith) (omega arith) k g ∙ ap (finished_at rec) b)
      ∙ sym (series_less (finished_at rec) n)
      ∙ ap (λ (m : ℕ). drop 1 (series (finished_at rec) 0 m)) e

  memory_length : length (memory_of rec) ≡ remembered_count rec
  unfolding memory_of
  memory_length = length_series (finished_at rec) 0 (remembered_count rec)

  pub remembered_memory : f.id < 4294967296 → f.second < 18446744073709551616 → memory_of (remembered_in rec f) ≡ remember most_remembered (memory_of rec) f
  unfolding remembered_in remember memory_of
  remembered_memory hi hs = rw memory_length (go (ltb (remembered_count rec) most_remembered) refl)
    where
      go : (b : Bool) → ltb (remembered_count rec) most_remembered ≡ b
          → memory_of (cond b (with_count (with_finished rec (remembered_count rec) f) (remembered_count rec + 1)) (with_count (with_finished (moved_to rec 0 1 15) 15 f) most_remembered))
          ≡ cond b (memory_of rec) (drop 1 (memory_of rec)) ++ (f ∷ [])
      go true e = last_memory f rec (remembered_count rec) long (ltb-true (remembered_count rec) most_remembered e) hi hs
      go false e =
          let m : Behind ids_at rec (moved_to rec 0 1 15) = moved_behind rec 0 1 15 long (omega arith) (omega arith) in
          let g : most_remembered ≤ remembered_count rec = ltb-false (remembered_count rec) most_remembered e in
          let c : 15 + 1 ≡ remembered_count rec = omega (arith, count_most rec) in
          last_memory f (moved_to rec 0 1 15) 15 (omega arith) (omega arith) hi hs ∙ ap (λ (z : Memory). z ++ (f ∷ [])) (all_moved 15 (omega arith) c)
