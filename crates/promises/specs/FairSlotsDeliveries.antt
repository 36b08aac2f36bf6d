-- Fair slots (request P12) of the payloads' blocks: no neighbour meets what another hands to strawhub_block_deliver. specs/FairSlotsCalls.antt has it of the pieces.
use Rattle.std.specs.Prelude.{◌≡◌, List, ℕ, ◌≤◌, ◌<◌, length}
use Rattle.reassembly.specs.Sizes.{room_size, record_size}
use Rattle.reassembly.specs.Shares.{share_of, share_of_room}
use Rattle.promises.specs.Demand3Deliveries.{Handing, own, tellings, last_rec, last_room}

-- Where the others hand in other blocks, of any payloads, or none, or their shares hold something else, a neighbour is told the same, 52 with it, and its share of the
-- record and of the room becomes the same.
abbrev pub TwoRunsOfDeliveries : Type 0
TwoRunsOfDeliveries =
    (n : ℕ) → n < 4
    → (rec room rec' room' : List ℕ) → record_size ≤ length rec → room_size ≤ length room → record_size ≤ length rec' → room_size ≤ length room'
    → share_of rec n ≡ share_of rec' n → share_of_room room n ≡ share_of_room room' n
    → (turns turns' : List Handing) → own n turns ≡ own n turns'
    → (tellings n rec room turns ≡ tellings n rec' room' turns')
    × (share_of (last_rec rec room turns) n ≡ share_of (last_rec rec' room' turns') n)
    × (share_of_room (last_room rec room turns) n ≡ share_of_room (last_room rec' room' turns') n)
