-- The memory in a share of the record: 16 ids side by side, 16 seconds side by side, and how many of them are in use.
use Rattle.std.specs.Prelude.{cond, List, [], ◌∷◌, ℕ, zero, suc, ◌+◌, ◌*◌, ltb, get_or}
use Rattle.wire.specs.Parts.{part, splice}
use Rattle.wire.specs.Numbers.{little_at, little_bytes}
use Rattle.reassembly.specs.Sizes.{most_remembered, ids_at, id_size, seconds_at, second_size, count_at}
use Rattle.wire.specs.Series.{series}
use Rattle.reassembly.specs.Memory.{Finished, Memory, is_due}

-- how many are remembered; a count above 16, which no call leaves, is read as 16
unfoldable pub remembered_count : List ℕ → ℕ
remembered_count rec = cond (ltb (get_or rec count_at 0) most_remembered) (get_or rec count_at 0) most_remembered

-- the k-th of them
unfoldable pub finished_at : List ℕ → ℕ → Finished
finished_at rec k = record { id = little_at id_size rec (ids_at + k * id_size); second = little_at second_size rec (seconds_at + k * second_size) }

-- the memory that the record holds
unfoldable pub memory_of : List ℕ → Memory
memory_of rec = series (finished_at rec) 0 (remembered_count rec)

-- the record with another count
unfoldable pub with_count : List ℕ → ℕ → List ℕ
with_count rec n = splice rec count_at (n ∷ [])

-- the record with f as the k-th
unfoldable pub with_finished : List ℕ → ℕ → Finished → List ℕ
with_finished rec k f = splice (splice rec (ids_at + k * id_size) (little_bytes id_size f.id)) (seconds_at + k * second_size) (little_bytes second_size f.second)

-- the record with n of them from the k-th on moved to the j-th
unfoldable pub moved_to : List ℕ → ℕ → ℕ → ℕ → List ℕ
moved_to rec j k n =
    splice (splice rec (ids_at + j * id_size) (part rec (ids_at + k * id_size) (n * id_size)))
    (seconds_at + j * second_size) (part rec (seconds_at + k * second_size) (n * second_size))

-- the record with f remembered; where 16 are, the first is pushed out: the other 15 move down
unfoldable pub remembered_in : List ℕ → Finished → List ℕ
remembered_in rec f =
    cond (ltb (remembered_count rec) most_remembered)
    (with_count (with_finished rec (remembered_count rec) f) (remembered_count rec + 1))
    (with_count (with_finished (moved_to rec 0 1 15) 15 f) most_remembered)

-- A record from which a sweep has forgotten, and how many it has kept.
pub record Sifted : Type 0 where
  pub rec : List ℕ
  pub count : ℕ

-- these two as one
abbrev pub sifted : List ℕ → ℕ → Sifted
sifted rec n = record { rec = rec; count = n }

-- the k-th, where it is due, is passed by; else it moves down behind those that are kept
unfoldable pub sifted_one : ℕ → ℕ → Sifted → Sifted
sifted_one second k x = cond (is_due second (finished_at x.rec k)) x (sifted (moved_to x.rec x.count k 1) (x.count + 1))

-- the first n sifted
abbrev pub sifted_to : ℕ → List ℕ → ℕ → Sifted
sifted_to second rec zero = sifted rec 0
sifted_to second rec (suc n) = sifted_one second n (sifted_to second rec n)

-- the record with those forgotten that are due
unfoldable pub forgotten_in : ℕ → List ℕ → List ℕ
forgotten_in second rec = with_count (sifted_to second rec (remembered_count rec)).rec (sifted_to second rec (remembered_count rec)).count
