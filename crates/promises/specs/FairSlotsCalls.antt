-- Fair slots (request P12) of the calls, on lent bytes: the summary in the record is a count over the slots, 52 says that this neighbour has 4 open, and no neighbour
-- meets another's pieces. specs/FairSlots.antt has it of the store of four.
use Rattle.std.specs.Prelude.{◌≡◌, List, ℕ, ◌≤◌, ◌<◌, length}
use Rattle.reassembly.specs.Sizes.{room_size, record_size}
use Rattle.reassembly.specs.Store.{Piece}
use Rattle.reassembly.specs.Neighbours.{open_of}
use Rattle.reassembly.specs.Calls.{lent}
use Rattle.reassembly.specs.Shares.{share_of, share_of_room, renewed}
use Rattle.reassembly.specs.Stands.{slots_of}
use Rattle.reassembly.specs.Standing.{summary_at, AllMade}
use Rattle.promises.specs.StoreTurns.{piece_call, Turn, own, heard, last_rec, last_room, InWidth, AllInWidth, OwnMade}

-- each neighbour's number of the summary equals a count over its slots, and is 4 at most
abbrev pub Counted : List ℕ → List ℕ → Type 0
Counted rec room = (n : ℕ) → n < 4 → (summary_at rec n ≡ open_of (slots_of (share_of rec n) (share_of_room room n))) × (summary_at rec n ≤ 4)

-- So it is after any calls: from every record and room that calls made, and from strawhub_store_new on, whatever the record held.
pub record SummaryOfCalls : Type 0 where
  pub from_made :
      (rec room : List ℕ) → AllMade rec room → (turns : List Turn) → AllInWidth turns
      → AllMade (last_rec rec room turns) (last_room rec room turns) × Counted (last_rec rec room turns) (last_room rec room turns)
  pub from_new :
      (rec room : List ℕ) → record_size ≤ length rec → room_size ≤ length room → (turns : List Turn) → AllInWidth turns
      → Counted (last_rec (renewed rec) room turns) (last_room (renewed rec) room turns)

-- 52 is said only where this neighbour has 4 open, whatever the other shares hold: with fewer it is never met.
abbrev pub FourOpenCalls : Type 0
FourOpenCalls =
    (n : ℕ) → n < 4 → (rec room : List ℕ) → OwnMade n rec room
    → (out : List ℕ) (p : Piece) (second : ℕ) → InWidth p second → (piece_call (lent rec room out) n p second).reply.number ≡ 52
    → summary_at rec n ≡ 4

-- Where the others send other pieces, or none, or their shares hold something else, also what no call left there, a neighbour hears the same, 52 with it, and its
-- share of the record and of the room becomes the same.
abbrev pub TwoRunsOfCalls : Type 0
TwoRunsOfCalls =
    (n : ℕ) → n < 4
    → (rec room rec' room' : List ℕ) → record_size ≤ length rec → room_size ≤ length room → record_size ≤ length rec' → room_size ≤ length room'
    → share_of rec n ≡ share_of rec' n → share_of_room room n ≡ share_of_room room' n
    → (turns turns' : List Turn) → own n turns ≡ own n turns'
    → (heard n rec room turns ≡ heard n rec' room' turns')
    × (share_of (last_rec rec room turns) n ≡ share_of (last_rec rec' room' turns') n)
    × (share_of_room (last_room rec room turns) n ≡ share_of_room (last_room rec' room' turns') n)
