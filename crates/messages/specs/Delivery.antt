-- What a block of a payload delivers: an I2NP block its whole message, as a part of the payload; a fragment the message that it finishes, in the assembly buffer.
use Rattle.std.specs.Prelude.{false, cond, List, [], ℕ, eqb}
use Rattle.wire.specs.Parts.{part}
use Rattle.blocks.specs.declared.Part.{Part}
use Rattle.blocks.specs.Outcomes.{Extent}
use Rattle.blocks.specs.Outcomes as End
use Rattle.blocks.specs.Outcomes.{Read}
use Rattle.blocks.specs.Names.{message_type, message_id, message_expiration, follow_on_number, follow_on_last, follow_on_id}
use Rattle.reassembly.specs.declared.Label.{Label}
use Rattle.reassembly.specs.declared.Reply.{Reply}
use Rattle.reassembly.specs.Calls.{Lent, After}
use Rattle.reassembly.specs.Shares.{first_call, follow_on_call}
use Rattle.messages.specs.Received.{Received}

-- What a call leaves: what was received, and what became of the bytes that it was lent.
pub record Delivery : Type 0 where
  pub received : Received
  pub left : Lent

-- these two as one
abbrev pub delivery_with : Received → Lent → Delivery
delivery_with r x = record { received = r; left = x }

-- a number, the place of a refused block, and no message
unfoldable pub nothing : ℕ → ℕ → Received
nothing n p = record { number = n; from = 0; kind = 0; id = 0; expires = 0; start = p; length = 0 }

-- a whole message stands in the payload (`from` is 1)
unfoldable pub whole_at : ℕ → ℕ → ℕ → Part → Received
whole_at kind id expires p = record { number = 0; from = 1; kind = kind; id = id; expires = expires; start = p.start; length = p.len }

-- a finished message stands at the start of the assembly buffer (`from` is 2); a refusal of the store has the place of the block that had the piece
unfoldable pub rebuilt_by : ℕ → Reply → ℕ → Received
rebuilt_by at r id =
    cond (eqb r.number 60)
    (record { number = 60; from = 2; kind = r.kind; id = id; expires = r.expires; start = 0; length = r.length })
    (cond (eqb r.number 0) (nothing 0 0) (nothing r.number at))

-- what the store's call for a piece left
unfoldable pub rebuilt : ℕ → After → ℕ → Delivery
rebuilt at y id = delivery_with (rebuilt_by at y.reply id) y.left

-- a first fragment's piece, by its block's fields
abbrev pub first_label : List ℕ → Label
first_label f = record { id = message_id f; number = 0; last = false; kind = message_type f; expires = message_expiration f }

-- and a follow-on's
abbrev pub follow_on_label : List ℕ → Label
follow_on_label f = record { id = follow_on_id f; number = follow_on_number f; last = follow_on_last f; kind = 0; expires = 0 }

-- a block of a type, with its fields and its bytes, at a place of a payload of neighbour n; only a fragment's piece comes to the store, and asks for the neighbour
unfoldable pub delivered_by : List ℕ → ℕ → Lent → ℕ → ℕ → ℕ → List ℕ → Part → Delivery
delivered_by s at x n second kind f p =
    cond (eqb kind 3) (delivery_with (whole_at (message_type f) (message_id f) (message_expiration f) p) x)
    (cond (eqb kind 4) (rebuilt at (first_call x n (first_label f) second (part s p.start p.len)) (message_id f))
    (cond (eqb kind 5) (rebuilt at (follow_on_call x n (follow_on_label f) second (part s p.start p.len)) (follow_on_id f))
    (delivery_with (nothing 0 0) x)))

-- a block that ends, or its refusal
abbrev pub delivered_end : List ℕ → ℕ → Lent → ℕ → ℕ → Extent → List ℕ → Part → Delivery
delivered_end s at x n second (End.Ends kind size next) f p = delivered_by s at x n second kind f p
delivered_end s at x n second (End.Refused number place) f p = delivery_with (nothing number place) x

-- what the block that was read at a place delivers
unfoldable pub delivered : List ℕ → ℕ → Lent → ℕ → ℕ → Read → Delivery
delivered s at x n second r = delivered_end s at x n second r.extent r.fields r.bytes

-- the bytes of the message that was received; none where none was
unfoldable pub message_in : List ℕ → List ℕ → Received → List ℕ
message_in s out r = cond (eqb r.from 1) (part s r.start r.length) (cond (eqb r.from 2) (part out r.start r.length) [])
