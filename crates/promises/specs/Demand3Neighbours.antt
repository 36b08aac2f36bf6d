-- Demand 3, as request P12 words it: of each neighbour by itself, whatever the others send. Never more than 4 messages open, no two open with one id, and P5's rules
-- on repeats and remembered ids hold within the neighbour; the sweeps are one for all.
use Rattle.std.specs.Prelude.{◌≡◌, List, map, ℕ, ◌≤◌, ◌<◌, length, get_or}
use Rattle.reassembly.specs.Sizes.{message_size, most_remembered}
use Rattle.reassembly.specs.Store.{empty}
use Rattle.reassembly.specs.Runs as Runs
use Rattle.reassembly.specs.Runs.{Call, piece}
use Rattle.reassembly.specs.Neighbours.{Neighbours, store_of, summary_of}
use Rattle.reassembly.specs.Acts.{Act, acts_said, acts_left, only, heard}
use Rattle.promises.specs.Demand3.{Cut, Within, piece_of, no_cut, Event, deliver, sweep_at, start, past_after, Schedule, due, times}

-- the call on a store that an event is
unfoldable pub call_of : ℕ → List Cut → Event → Call
call_of cap cs (deliver c i second) = piece cap (piece_of (get_or cs c no_cut) i) second
call_of cap cs (sweep_at second) = Runs.sweep_at second

-- Of what all send, neighbour n's pieces and the sweeps are the events es of the messages cs.
abbrev pub Sends : ℕ → ℕ → List Cut → List Act → List Event → Type 0
Sends n cap cs acts es = only n acts ≡ map (call_of cap cs) es

-- Neighbour n begins with no message open, whatever it remembers. Nothing is asked of the others' stores.
pub record Begins (n : ℕ) (s : Neighbours) : Type 0 where
  pub stores_four : length s.stores ≡ 4
  pub numbers_four : length s.summary ≡ 4
  pub begins_empty : (store_of s n).slots ≡ empty
  pub begins_zero : summary_of s n ≡ 0

-- The outcome: the neighbour hears what is due, each of its messages came out once, at the end it has none open, by the slots and by the summary, and what is
-- remembered of it is what its schedule says.
pub record FulfilledFor (n : ℕ) (cs : List Cut) (s : Neighbours) (acts : List Act) (es : List Event) : Type 0 where
  pub as_due : heard n acts (acts_said s acts) ≡ due most_remembered cs (start cs (store_of s n).remembered) es
  pub once : (c : ℕ) → c < length cs → times c es (heard n acts (acts_said s acts)) ≡ 1
  pub ends_empty : (store_of (acts_left s acts) n).slots ≡ empty
  pub ends_zero : summary_of (acts_left s acts) n ≡ 0
  pub remembers_due : (store_of (acts_left s acts) n).remembered ≡ (past_after most_remembered cs (start cs (store_of s n).remembered) es).remembered

-- Demand 3: a neighbour whose pieces keep the rules, at 4 slots and 16 remembered messages, has this outcome. The others may keep them or not.
abbrev pub Demand3 : Type 0
Demand3 =
    (cap : ℕ) → message_size ≤ cap
    → (n : ℕ) → n < 4
    → (cs : List Cut) → ((c : ℕ) → c < length cs → Within (get_or cs c no_cut))
    → (s : Neighbours) → Begins n s
    → (es : List Event) → Schedule 4 most_remembered cs (start cs (store_of s n).remembered) es
    → (acts : List Act) → Sends n cap cs acts es
    → FulfilledFor n cs s acts es
