-- What a delivery answers, as numbers.
use Rattle.std.specs.Prelude.{Bool, cond, not, ◌&&◌, List, [], ◌∷◌, ℕ, eqb}
use Rattle.blocks.specs.Reading.{read_at}
use Rattle.reassembly.specs.Calls.{Lent}
use Rattle.messages.specs.Received.{Received}
use Rattle.messages.specs.Delivery.{Delivery, delivered}
use Rattle.numbers_outcomes.specs.declared.Outcome.{Outcome}
use Rattle.numbers_outcomes.specs.Outcomes.{outcome}

-- any number but 0 and 60
abbrev pub is_refused : Received → Bool
is_refused r = not (eqb r.number 0) && not (eqb r.number 60)

-- the number, and the place of a refused block
unfoldable pub delivery_outcome : Received → Outcome
delivery_outcome r = cond (is_refused r) (outcome r.number r.start) (outcome r.number 0)

-- where the message stands, its type, id, expiration, place and length; refused, the lent numbers as they were
unfoldable pub delivery_numbers : Received → List ℕ → List ℕ
delivery_numbers r told = cond (is_refused r) told (r.from ∷ r.kind ∷ r.id ∷ r.expires ∷ r.start ∷ r.length ∷ [])

-- what the block at a place of neighbour n's payload delivers, and leaves
abbrev pub delivered_at : List ℕ → ℕ → Lent → ℕ → ℕ → Delivery
delivered_at s at x n second = delivered s at x n second (read_at s at)

-- What strawhub_block_deliver leaves: its outcome, its six numbers, and what became of the bytes that it was lent.
pub record Told : Type 0 where
  pub outcome : Outcome
  pub told : List ℕ
  pub left : Lent

-- these three as one
abbrev pub told_with : Outcome → List ℕ → Lent → Told
told_with o told x = record { outcome = o; told = told; left = x }

-- a delivery as the call tells it
abbrev pub told_by : Delivery → List ℕ → Told
told_by d told = told_with (delivery_outcome d.received) (delivery_numbers d.received told) d.left

-- strawhub_block_deliver: the block at a place of neighbour n's payload is delivered, and told
unfoldable pub deliver_call : List ℕ → ℕ → Lent → ℕ → ℕ → List ℕ → Told
deliver_call s at x n second told = told_by (delivered_at s at x n second) told
