-- What a record and a room stand for: the store of four neighbours. The invariant of those that calls made, and what it means that a call does on them what that
-- store does and keeps the invariant. The contracts of reassembly_store promise it.
use Rattle.std.specs.Prelude.{◌≡◌, List, ℕ, ◌≤◌, ◌<◌, length}
use Rattle.wire.specs.Series.{series}
use Rattle.reassembly.specs.Sizes.{room_size, record_size}
use Rattle.reassembly.specs.Store.{Store}
use Rattle.reassembly.specs.Neighbours.{Neighbours, new_neighbours, NeighboursAnswer, sweep_all}
use Rattle.reassembly.specs.Summary.{open_count}
use Rattle.reassembly.specs.Calls.{After}
use Rattle.reassembly.specs.Shares.{share_of, share_of_room}
use Rattle.reassembly.specs.Stands.{stands, Made, reply_for, laid_out}

-- the store that neighbour n's share stands for
unfoldable pub store_at : List ℕ → List ℕ → ℕ → Store
store_at rec room n = stands (share_of rec n) (share_of_room room n)

-- neighbour n's number of the summary
unfoldable pub summary_at : List ℕ → ℕ → ℕ
summary_at rec n = open_count (share_of rec n)

-- the store of four neighbours that record and room stand for
unfoldable pub neighbours_of : List ℕ → List ℕ → Neighbours
neighbours_of rec room = record { stores = series (store_at rec room) 0 4; summary = series (summary_at rec) 0 4 }

-- The invariant: record and room have their lengths, and every neighbour's share is one that calls made. A new record meets it (`NewAgrees`), and a call that is
-- lent such a record and room leaves such ones (`AllAgree`, `SweepAgrees`): "a record that calls made" means this.
pub record AllMade (rec room : List ℕ) : Type 0 where
  pub record_long : record_size ≤ length rec
  pub room_long : room_size ≤ length room
  pub shares : (n : ℕ) → n < 4 → Made (share_of rec n) (share_of_room room n)

-- A call did to record, room and assembly buffer what the answer of the store of four neighbours says, and left what a call may be lent again.
pub record AllAgree (out : List ℕ) (x : After) (a : NeighboursAnswer) : Type 0 where
  pub reply : x.reply ≡ reply_for a.number a.out
  pub delivered : x.left.out ≡ laid_out out a.out
  pub store : neighbours_of x.left.rec x.left.room ≡ a.left
  pub made : AllMade x.left.rec x.left.room

-- A sweep did to what the record stands for, with any room, what the sweep of all four stores does, and left what a call may be lent again.
pub record SweepAgrees (second : ℕ) (rec rec' : List ℕ) : Type 0 where
  pub store : (room : List ℕ) → record_size ≤ length rec → neighbours_of rec' room ≡ sweep_all second (neighbours_of rec room)
  pub made : (room : List ℕ) → AllMade rec room → AllMade rec' room

-- A new record stands for the new store, with any room, and with one of the lent length it is what a call may be lent.
pub record NewAgrees (rec rec' : List ℕ) : Type 0 where
  pub store : (room : List ℕ) → record_size ≤ length rec → neighbours_of rec' room ≡ new_neighbours
  pub made : (room : List ℕ) → record_size ≤ length rec → room_size ≤ length room → AllMade rec' room
