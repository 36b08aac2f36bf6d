-- Demand 3 of the payloads' blocks, of each neighbour by itself: the schedules of specs/Demand3.antt, each piece a block of a payload that is handed to
-- strawhub_block_deliver, each sweep a strawhub_store_sweep, among any payloads of the others.
-- `deliver_call` and `swept` are what the contracts of these calls say of every payload, place, record, room, buffer and six numbers.
use Rattle.std.specs.Prelude.{◌≡◌, Bool, true, cond, ◌||◌, List, [], ◌∷◌, ℕ, suc, ◌≤◌, ◌<◌, eqb, length, get_or}
use Rattle.std.proofs.Math.Option.{Option, none, some}
use Rattle.wire.specs.Parts.{part}
use Rattle.blocks.specs.declared.Part.{Part}
use Rattle.blocks.specs.Names.{message_fields, follow_on_fields}
use Rattle.blocks.specs.Extent.{is_i2np_type}
use Rattle.blocks.specs.Reading.{block_read, read_at}
use Rattle.blocks.specs.Writing.{room_after}
use Rattle.reassembly.specs.Store.{Piece, first, follow, piece_bytes, Rebuilt}
use Rattle.reassembly.specs.Runs.{Said}
use Rattle.reassembly.specs.Calls.{lent}
use Rattle.reassembly.specs.Shares.{swept}
use Rattle.reassembly.specs.Turns.{Turned, turned, said_each, record_left, room_left, said_those, those}
use Rattle.reassembly.specs.Stands.{laid_out}
use Rattle.numbers_outcomes.specs.declared.Outcome.{Outcome}
use Rattle.numbers_outcomes.specs.Outcomes.{outcome}
use Rattle.numbers_outcomes.specs.Deliveries.{Told, deliver_call}
use Rattle.promises.specs.Demand3.{Cut, Within, piece_of, no_cut, Event, deliver, sweep_at}
use Rattle.promises.specs.Demand3Calls.{ScheduleInWidth, due_at, ScheduleAt, Begins, Ends, LongEnough}

-- a payload has a block of a type with these fields at a place, whose part of the payload has these bytes
pub record HasBlock (s : List ℕ) (at kind : ℕ) (fields bytes : List ℕ) : Type 0 where
  pub body : Part
  pub size : ℕ
  pub next : ℕ
  pub read : read_at s at ≡ block_read kind size next fields body
  pub same_bytes : part s body.start body.len ≡ bytes

-- the type of a piece's block: a first fragment, or a follow-on
abbrev pub piece_kind : Piece → ℕ
piece_kind (first id kind expires bytes) = 4
piece_kind (follow id number final bytes) = 5

-- its fields: type, id and expiration; or number with the mark of the last, and id
abbrev pub piece_fields : Piece → List ℕ
piece_fields (first id kind expires bytes) = message_fields kind id expires
piece_fields (follow id number final bytes) = follow_on_fields number final id

-- a piece is the block at a place
abbrev pub HasPiece : List ℕ → ℕ → Piece → Type 0
HasPiece s at p = HasBlock s at (piece_kind p) (piece_fields p) (piece_bytes p)

-- What a call is lent for itself: a payload and a place in it, the assembly buffer, the six numbers; whatever they hold.
pub record Loan : Type 0 where
  pub payload : List ℕ
  pub at : ℕ
  pub out : List ℕ
  pub told : List ℕ

-- A neighbour, of any number, hands in the block at a place of a payload at a second; or a sweep, which is lent nothing of the kind.
pub data Handing : Type 0 where
  hands : (n : ℕ) (l : Loan) (second : ℕ) → Handing
  sweeps : (second : ℕ) → Handing

-- What a call tells: its number and value, the assembly buffer and the six numbers afterwards.
pub record Tells : Type 0 where
  pub outcome : Outcome
  pub out : List ℕ
  pub told : List ℕ

-- that, of what the call leaves, as a turn
abbrev pub tells_of : Told → Turned Tells
tells_of t = turned (record { outcome = t.outcome; out = t.left.out; told = t.told }) t.left.rec t.left.room

-- a sweep answers 0
abbrev pub sweep_tells : Tells
sweep_tells = record { outcome = outcome 0 0; out = []; told = [] }

-- a handing, on a record and a room
unfoldable pub hand_call : List ℕ → List ℕ → Handing → Turned Tells
hand_call rec room (hands n l second) = tells_of (deliver_call l.payload l.at (lent rec room l.out) n second l.told)
hand_call rec room (sweeps second) = turned sweep_tells (swept second rec) room

-- what neighbour n's share meets: what it hands in, and the sweeps
abbrev pub meets : ℕ → Handing → Bool
meets n (hands m l second) = eqb m n
meets n (sweeps second) = true

-- these, of what all hand in
abbrev pub own : ℕ → List Handing → List Handing
own n turns = those (meets n) turns

-- what is told of these
abbrev pub tellings : ℕ → List ℕ → List ℕ → List Handing → List Tells
tellings n rec room turns = said_those (meets n) turns (said_each hand_call rec room turns)

-- the record after the last turn
abbrev pub last_rec : List ℕ → List ℕ → List Handing → List ℕ
last_rec rec room turns = record_left hand_call rec room turns

-- and the room
abbrev pub last_room : List ℕ → List ℕ → List Handing → List ℕ
last_room rec room turns = room_left hand_call rec room turns

-- an event of neighbour n's schedule as a turn
abbrev pub handing_one : ℕ → Loan → Event → Handing
handing_one n l (deliver c i second) = hands n l second
handing_one n l (sweep_at second) = sweeps second

-- its schedule as turns; the k-th is lent loans k
abbrev pub handings : ℕ → (ℕ → Loan) → ℕ → List Event → List Handing
handings n loans k [] = []
handings n loans k (e ∷ es) = handing_one n (loans k) e ∷ handings n loans (suc k) es

-- the block that a call is handed is the event's piece; a sweep is handed none
abbrev pub HandedOne : List Cut → Loan → Event → Type 0
HandedOne cs l (deliver c i second) = HasPiece l.payload l.at (piece_of (get_or cs c no_cut) i)
HandedOne cs l (sweep_at second) = Unit

-- so all of a schedule
abbrev pub Handed : List Cut → (ℕ → Loan) → ℕ → List Event → Type 0
Handed cs loans k [] = Unit
Handed cs loans k (e ∷ es) = HandedOne cs (loans k) e × Handed cs loans (suc k) es

-- 54 and 57, the refusals that a schedule meets
abbrev pub is_repeat : Said → Bool
is_repeat d = eqb d.number 54 || eqb d.number 57

-- the number and value that are due: a repeat's number with the block's place, else the number and 0
unfoldable pub outcome_due : ℕ → Said → Outcome
outcome_due at d = cond (is_repeat d) (outcome d.number at) (outcome d.number 0)

-- six zeros; or 2, the assembly buffer, with type, id, expiration, place 0 and length
unfoldable pub told_of : ℕ → Option Rebuilt → List ℕ
told_of id none = 0 ∷ 0 ∷ 0 ∷ 0 ∷ 0 ∷ 0 ∷ []
told_of id (some w) = 2 ∷ w.kind ∷ id ∷ w.expires ∷ 0 ∷ length w.bytes ∷ []

-- the six numbers that are due: as they were lent at a repeat
unfoldable pub told_due : ℕ → List ℕ → Said → List ℕ
told_due id told d = cond (is_repeat d) told (told_of id d.out)

-- all that is due of an event
unfoldable pub tells_due : List Cut → Loan → Event → Said → Tells
tells_due cs l (deliver c i second) d = record { outcome = outcome_due l.at d; out = laid_out l.out d.out; told = told_due (get_or cs c no_cut).id l.told d }
tells_due cs l (sweep_at second) d = sweep_tells

-- all that is due of a schedule
abbrev pub all_due : List Cut → (ℕ → Loan) → ℕ → List Event → List Said → List Tells
all_due cs loans k [] ds = []
all_due cs loans k (e ∷ es) [] = []
all_due cs loans k (e ∷ es) (d ∷ ds) = tells_due cs (loans k) e d ∷ all_due cs loans (suc k) es ds

-- The outcome, where all hand in these: neighbour n is told what is due.
pub record FulfilledByDeliveries (n : ℕ) (cs : List Cut) (loans : ℕ → Loan) (rec room : List ℕ) (turns : List Handing) (es : List Event) : Type 0 where
  pub tells : tellings n rec room turns ≡ all_due cs loans 0 es (due_at n cs rec es)
  pub ends : Ends n cs rec es (last_rec rec room turns) (last_room rec room turns)

-- Demand 3, of the payloads' blocks: where neighbour n's own turns are a schedule that keeps the rules. Nothing is asked of what the others hand in.
abbrev pub Demand3Deliveries : Type 0
Demand3Deliveries =
    (n : ℕ) → n < 4
    → (loans : ℕ → Loan) → LongEnough (λ k. (loans k).out)
    → (rec room : List ℕ) → Begins n rec room
    → (cs : List Cut) → ((c : ℕ) → c < length cs → Within (get_or cs c no_cut))
    → (es : List Event) → ScheduleInWidth cs es → Handed cs loans 0 es → ScheduleAt n cs rec es
    → (turns : List Handing) → own n turns ≡ handings n loans 0 es
    → FulfilledByDeliveries n cs loans rec room turns es

-- Such payloads exist: what the block writer leaves in a room of 1,512 bytes or more for a piece of a message within the limits, of a listed type, is that piece.
abbrev pub WrittenIsHanded : Type 0
WrittenIsHanded =
    (c : Cut) → Within c → is_i2np_type c.kind ≡ true → c.id < 4294967296 → c.expires < 4294967296
    → (i : ℕ) → i < length c.pieces
    → (room : List ℕ) → 1512 ≤ length room
    → HasPiece (room_after (piece_kind (piece_of c i)) (piece_fields (piece_of c i)) (piece_bytes (piece_of c i)) room) 0 (piece_of c i)
