-- Fair slots (request P12): each of the neighbours 0 to 3 has a store of its own, with 4 slots and 16 remembered messages. Beside them stands the summary: how
-- many messages each neighbour has open.
use Rattle.std.specs.Prelude.{Bool, cond, not, ◌&&◌, List, [], ◌∷◌, map, ℕ, suc, ◌+◌, ◌-◌, length, get_or, set, replicate, ltb, eqb}
use Rattle.std.proofs.Math.Option.{Option, none, some}
use Rattle.wire.specs.Series.{series}
use Rattle.reassembly.specs.Sizes.{most_remembered}
use Rattle.reassembly.specs.Ages.{long_ago}
use Rattle.reassembly.specs.Store.{Piece, id_of, Slots, Store, new_store, Rebuilt, Answer, find_id, step, sweep}

-- The store of four neighbours.
pub record Neighbours : Type 0 where
  pub stores : List Store
  pub summary : List ℕ

-- a new one: nobody has a message open, and none is remembered
abbrev pub new_neighbours : Neighbours
new_neighbours = record { stores = replicate 4 new_store; summary = replicate 4 0 }

-- neighbour n's own store
abbrev pub store_of : Neighbours → ℕ → Store
store_of s n = get_or s.stores n new_store

-- neighbour n's number of the summary
abbrev pub summary_of : Neighbours → ℕ → ℕ
summary_of s n = get_or s.summary n 0

-- whether a message of this id is open
unfoldable pub is_open_in : ℕ → Slots → Bool
is_open_in id s = ltb (find_id id s) (length s)

-- how many messages are open: the count over the slots that the summary equals (promises FairSlots)
abbrev pub open_of : Slots → ℕ
open_of [] = 0
open_of (none ∷ s) = open_of s
open_of (some m ∷ s) = suc (open_of s)

-- how many of them a sweep drops
abbrev pub dropped_of : ℕ → Slots → ℕ
dropped_of second [] = 0
dropped_of second (none ∷ s) = dropped_of second s
dropped_of second (some m ∷ s) = cond (long_ago m.opened second) 1 0 + dropped_of second s

-- The answer to a neighbour's piece: the number, the message that came out, what is left.
pub record NeighboursAnswer : Type 0 where
  pub number : ℕ
  pub out : Option Rebuilt
  pub left : Neighbours

-- the summary's number after a piece was answered: one less with 60, one more where 0 opened a message
unfoldable pub recounted : ℕ → Bool → ℕ → ℕ
recounted number wasOpen k = cond (eqb number 60) (k - 1) (cond (eqb number 0 && not wasOpen) (k + 1) k)

-- what neighbour n's store answered, and all four with it put back; `wasOpen` says that the piece's message was open before
unfoldable pub answer_from : Neighbours → ℕ → Bool → Answer → NeighboursAnswer
answer_from s n wasOpen a =
    record {
      number = a.number;
      out = a.out;
      left = record { stores = set s.stores n a.store; summary = set s.summary n (recounted a.number wasOpen (summary_of s n)) };
    }

-- A piece comes from neighbour n at a second: 58 above 3, else its own store answers. There 52 says that none of its 4 slots is free.
unfoldable pub step_from : ℕ → Neighbours → ℕ → Piece → ℕ → NeighboursAnswer
step_from cap s n p second =
    cond (ltb 3 n) (record { number = 58; out = none; left = s })
    (answer_from s n (is_open_in (id_of p) (store_of s n).slots) (step most_remembered cap (store_of s n) p second))

-- One sweep for all, with no neighbour: each store is swept, and the summary is less by what was dropped.
unfoldable pub sweep_all : ℕ → Neighbours → Neighbours
sweep_all second s =
    record {
      stores = map (sweep second) s.stores;
      summary = series (λ n. summary_of s n - dropped_of second (store_of s n).slots) 0 4;
    }
