-- What is received, said of the store: a neighbour's fragment delivers exactly the message that its piece brings out of the store, and nothing else.
use Rattle.std.specs.Prelude.{◌≡◌, cond, List, [], ℕ, ◌<◌, eqb, length}
use Rattle.std.proofs.Math.Option.{Option, none, some}
use Rattle.wire.specs.Parts.{part}
use Rattle.blocks.specs.declared.Part.{Part}
use Rattle.blocks.specs.Names.{message_type, message_id, message_expiration, follow_on_number, follow_on_last, follow_on_id}
use Rattle.reassembly.specs.Store.{first, follow, Rebuilt}
use Rattle.reassembly.specs.Neighbours.{NeighboursAnswer, step_from}
use Rattle.reassembly.specs.Calls.{lent}
use Rattle.reassembly.specs.Stands.{laid_out}
use Rattle.reassembly.specs.Standing.{neighbours_of, AllMade}
use Rattle.messages.specs.Received.{Received}
use Rattle.messages.specs.Delivery.{Delivery, nothing, delivered_by, message_in}

-- the bytes of what the store brings out
unfoldable pub out_bytes : Option Rebuilt → List ℕ
out_bytes none = []
out_bytes (some w) = w.bytes

-- what is received by the piece of message id that the block at a place has, where the store answers n, and brings a message out or none
unfoldable pub received_for : ℕ → ℕ → ℕ → Option Rebuilt → Received
received_for at id n none = cond (eqb n 0) (nothing 0 0) (nothing n at)
received_for at id n (some w) = record { number = n; from = 2; kind = w.kind; id = id; expires = w.expires; start = 0; length = length w.bytes }

-- what a fragment's block at a place left of a payload and an assembly buffer is the store's answer to its piece
pub record OfStore (s : List ℕ) (at id : ℕ) (out : List ℕ) (x : Delivery) (a : NeighboursAnswer) : Type 0 where
  pub received : x.received ≡ received_for at id a.number a.out
  pub buffer : x.left.out ≡ laid_out out a.out
  pub number : x.received.number ≡ a.number
  pub message : message_in s x.left.out x.received ≡ out_bytes a.out
  pub store : neighbours_of x.left.rec x.left.room ≡ a.left
  pub made : AllMade x.left.rec x.left.room

-- a first fragment's block of neighbour m, on a record and a room that calls made, is answered as the store answers its piece
abbrev pub FirstOfStore : Type 0
FirstOfStore =
    (s : List ℕ) (at : ℕ) (rec room out : List ℕ) (m second : ℕ) (f : List ℕ) (p : Part) → AllMade rec room → message_id f < 4294967296 → message_expiration f < 4294967296 → second < 18446744073709551616
    → OfStore s at (message_id f) out (delivered_by s at (lent rec room out) m second 4 f p) (step_from (length out) (neighbours_of rec room) m (first (message_id f) (message_type f) (message_expiration f) (part s p.start p.len)) second)

-- and so is a follow-on fragment's
abbrev pub FollowOfStore : Type 0
FollowOfStore =
    (s : List ℕ) (at : ℕ) (rec room out : List ℕ) (m second : ℕ) (f : List ℕ) (p : Part) → AllMade rec room → follow_on_id f < 4294967296 → second < 18446744073709551616
    → OfStore s at (follow_on_id f) out (delivered_by s at (lent rec room out) m second 5 f p) (step_from (length out) (neighbours_of rec room) m (follow (follow_on_id f) (follow_on_number f) (follow_on_last f) (part s p.start p.len)) second)
