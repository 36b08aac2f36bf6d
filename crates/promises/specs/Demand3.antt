-- Demand 3, as request P5 words it, of one neighbour's store: messages that are cut and delivered in any mixture come out whole, each once, and leave none open.
-- specs/Demand3Neighbours.antt has it of the store of four, as request P12 words it.
use Rattle.std.specs.Prelude.{◌≡◌, Bool, true, false, cond, not, ◌&&◌, ◌||◌, List, [], ◌∷◌, map, ℕ, zero, suc, ◌+◌, ◌≤◌, ◌<◌, length, get_or, set, replicate, eqb}
use Rattle.std.proofs.Math.Option.{none, some}
use Rattle.reassembly.specs.Sizes.{message_size}
use Rattle.reassembly.specs.Memory.{Memory, remembers, remember, forget}
use Rattle.reassembly.specs.Store.{Piece, first, follow, Store, Rebuilt, Answer, total, joined, step, sweep}
use Rattle.reassembly.specs.Runs.{Said, said_of}

-- A message that was cut: its id, its head, and its pieces in order. The bytes it was cut from are `joined pieces`.
pub record Cut : Type 0 where
  pub id : ℕ
  pub kind : ℕ
  pub expires : ℕ
  pub pieces : List (List ℕ)

-- 01's limits: 2 to 128 pieces of 1 to 1,500 bytes, 65,535 bytes in all
pub record Within (c : Cut) : Type 0 where
  pub two : 2 ≤ length c.pieces
  pub most : length c.pieces ≤ 128
  pub some_bytes : (i : ℕ) → i < length c.pieces → 1 ≤ length (get_or c.pieces i [])
  pub few_bytes : (i : ℕ) → i < length c.pieces → length (get_or c.pieces i []) ≤ 1500
  pub in_all : total c.pieces ≤ message_size

-- Piece i of a cut message: number 0 goes with the head, the others with the mark of the last.
abbrev pub piece_of : Cut → ℕ → Piece
piece_of c zero = first c.id c.kind c.expires (get_or c.pieces 0 [])
piece_of c (suc i) = follow c.id (suc i) (eqb (suc (suc i)) (length c.pieces)) (get_or c.pieces (suc i) [])

-- What was cut: head and bytes.
unfoldable pub cut_from : Cut → Rebuilt
cut_from c = record { kind = c.kind; expires = c.expires; bytes = joined c.pieces }

-- Stands for a message that is not on the list.
abbrev pub no_cut : Cut
no_cut = record { id = 0; kind = 0; expires = 0; pieces = [] }

-- What happens: piece i of message c of the list arrives at a second; a sweep at a second.
pub data Event : Type 0 where
  deliver : (c i second : ℕ) → Event
  sweep_at : (second : ℕ) → Event

-- The tally of one message: which of its pieces were delivered so far, and the second of the first of them.
pub record Tally : Type 0 where
  pub marks : List Bool
  pub opened : ℕ

-- Stands for the tally of a message that is not on the list.
abbrev pub no_tally : Tally
no_tally = record { marks = []; opened = 0 }

-- some piece was delivered
abbrev pub any_mark : List Bool → Bool
any_mark [] = false
any_mark (b ∷ bs) = b || any_mark bs

-- every piece was delivered
abbrev pub all_marks : List Bool → Bool
all_marks [] = true
all_marks (b ∷ bs) = b && all_marks bs

-- A message has begun with its first piece,
unfoldable pub begun : Tally → Bool
begun t = any_mark t.marks

-- and is done with the last missing one.
unfoldable pub done : Tally → Bool
done t = all_marks t.marks

-- It is open in between.
unfoldable pub is_open : Tally → Bool
is_open t = begun t && not (done t)

-- The tally with piece i delivered at a second: the first one opened the message.
unfoldable pub marked : Tally → ℕ → ℕ → Tally
marked t i second = record { marks = set t.marks i true; opened = cond (begun t) t.opened second }

-- The tally of a message of which nothing was delivered.
unfoldable pub untouched : Cut → Tally
untouched c = record { marks = replicate (length c.pieces) false; opened = 0 }

-- The tallies with piece i of message c delivered at a second.
unfoldable pub tallied : List Tally → ℕ → ℕ → ℕ → List Tally
tallied ts c i second = set ts c (marked (get_or ts c no_tally) i second)

-- What a schedule has come to: the tally of each message, and the finished messages that are remembered.
pub record Past : Type 0 where
  pub tallies : List Tally
  pub remembered : Memory

-- Before the first event: nothing was delivered, and some messages that finished before are remembered.
abbrev pub start : List Cut → Memory → Past
start cs fs = record { tallies = map untouched cs; remembered = fs }

-- After an event: a finished message's piece changes nothing; the last missing piece makes its message remembered; a sweep forgets those that are due.
unfoldable pub note : ℕ → List Cut → Past → Event → Past
note keep cs h (deliver c i second) =
    cond (done (get_or h.tallies c no_tally)) h
    (record {
      tallies = tallied h.tallies c i second;
      remembered = cond (done (marked (get_or h.tallies c no_tally) i second)) (remember keep h.remembered (record { id = (get_or cs c no_cut).id; second = second })) h.remembered;
    })
note keep cs h (sweep_at second) = record { tallies = h.tallies; remembered = forget second h.remembered }

-- After the last of some events.
abbrev pub past_after : ℕ → List Cut → Past → List Event → Past
past_after keep cs h [] = h
past_after keep cs h (e ∷ es) = past_after keep cs (note keep cs h e) es

-- how many elements of a list pass a test
abbrev pub count : {A : Type 0} → (A → Bool) → List A → ℕ
count f [] = 0
count f (x ∷ xs) = cond (f x) 1 0 + count f xs

-- The rules of one event: a finished message's piece comes while its id is remembered; none is begun with a remembered id; a sweep removes no open message.
abbrev pub Allowed : List Cut → Past → Event → Type 0
Allowed cs h (deliver c i second) =
    (c < length cs) × (i < length (get_or cs c no_cut).pieces)
    × (done (get_or h.tallies c no_tally) ≡ true → remembers h.remembered (get_or cs c no_cut).id ≡ true)
    × (begun (get_or h.tallies c no_tally) ≡ false → remembers h.remembered (get_or cs c no_cut).id ≡ false)
Allowed cs h (sweep_at second) = (c : ℕ) → is_open (get_or h.tallies c no_tally) ≡ true → second < (get_or h.tallies c no_tally).opened + 30

-- After it: never more are open than there are slots, and no two open ones have one id.
pub record Orderly (slots : ℕ) (cs : List Cut) (ts : List Tally) : Type 0 where
  pub at_most : count is_open ts ≤ slots
  pub own_id : (a b : ℕ) → is_open (get_or ts a no_tally) ≡ true → is_open (get_or ts b no_tally) ≡ true → (get_or cs a no_cut).id ≡ (get_or cs b no_cut).id → a ≡ b

-- A schedule keeps them at every event, and at its end every piece of every message was delivered.
abbrev pub Schedule : ℕ → ℕ → List Cut → Past → List Event → Type 0
Schedule slots keep cs h [] = (c : ℕ) → c < length cs → done (get_or h.tallies c no_tally) ≡ true
Schedule slots keep cs h (e ∷ es) = Allowed cs h e × Orderly slots cs (note keep cs h e).tallies × Schedule slots keep cs (note keep cs h e) es

-- What the demand says of an event: a finished message's piece is 57, another repeat 54; the last missing piece brings its message out; any other is kept.
unfoldable pub due_one : List Cut → List Tally → Event → Said
due_one cs ts (deliver c i second) =
    cond (done (get_or ts c no_tally))
    (record { number = 57; out = none })
    (cond (get_or (get_or ts c no_tally).marks i false)
    (record { number = 54; out = none })
    (cond (done (marked (get_or ts c no_tally) i second))
    (record { number = 60; out = some (cut_from (get_or cs c no_cut)) })
    (record { number = 0; out = none })))
due_one cs ts (sweep_at second) = record { number = 0; out = none }

-- the same of all events, one after the other
abbrev pub due : ℕ → List Cut → Past → List Event → List Said
due keep cs h [] = []
due keep cs h (e ∷ es) = due_one cs h.tallies e ∷ due keep cs (note keep cs h e) es

-- What the store answers to an event, and what it becomes.
unfoldable pub act : ℕ → ℕ → List Cut → Store → Event → Answer
act keep cap cs s (deliver c i second) = step keep cap s (piece_of (get_or cs c no_cut) i) second
act keep cap cs s (sweep_at second) = record { number = 0; out = none; store = sweep second s }

-- what the store says, event after event
abbrev pub said : ℕ → ℕ → List Cut → Store → List Event → List Said
said keep cap cs s [] = []
said keep cap cs s (e ∷ es) = said_of (act keep cap cs s e) ∷ said keep cap cs (act keep cap cs s e).store es

-- the store after the last of them
abbrev pub store_after : ℕ → ℕ → List Cut → Store → List Event → Store
store_after keep cap cs s [] = s
store_after keep cap cs s (e ∷ es) = store_after keep cap cs (act keep cap cs s e).store es

-- one where an event is a piece of message c that was answered by 60
abbrev pub times_one : ℕ → Event → Said → ℕ
times_one c (deliver d i second) r = cond (eqb d c && eqb r.number 60) 1 0
times_one c (sweep_at second) r = 0

-- how often message c came out: the pieces of c that were answered by 60
abbrev pub times : ℕ → List Event → List Said → ℕ
times c [] rs = 0
times c (e ∷ es) [] = 0
times c (e ∷ es) (r ∷ rs) = times_one c e r + times c es rs

-- The outcome: every event is answered as is due, every message came out once, none is open at the end, and what is remembered is what the schedule says.
pub record Fulfilled (slots keep cap : ℕ) (cs : List Cut) (s : Store) (es : List Event) : Type 0 where
  pub as_due : said keep cap cs s es ≡ due keep cs (start cs s.remembered) es
  pub once : (c : ℕ) → c < length cs → times c es (said keep cap cs s es) ≡ 1
  pub ends_empty : (store_after keep cap cs s es).slots ≡ replicate slots none
  pub remembers_due : (store_after keep cap cs s es).remembered ≡ (past_after keep cs (start cs s.remembered) es).remembered

-- Demand 3, for any number of slots and of remembered messages: on every store in which no message is open, whatever it remembers
abbrev pub Demand3For : ℕ → ℕ → Type 0
Demand3For slots keep =
    (cap : ℕ) → message_size ≤ cap
    → (cs : List Cut) → ((c : ℕ) → c < length cs → Within (get_or cs c no_cut))
    → (s : Store) → s.slots ≡ replicate slots none
    → (es : List Event) → Schedule slots keep cs (start cs s.remembered) es
    → Fulfilled slots keep cap cs s es
