-- Demand 3 of the calls, as request P12 words it: of each neighbour by itself, whatever the others send. The schedules of specs/Demand3.antt, delivered to
-- strawhub_store_first, strawhub_store_follow_on and strawhub_store_sweep on lent bytes, among any turns of the others.
use Rattle.std.specs.Prelude.{◌≡◌, List, [], ◌∷◌, ℕ, suc, ◌≤◌, ◌<◌, length, get_or, replicate}
use Rattle.reassembly.specs.Sizes.{message_size, room_size, most_remembered, record_size}
use Rattle.reassembly.specs.Store.{empty}
use Rattle.reassembly.specs.Runs.{Said}
use Rattle.reassembly.specs.Neighbours.{new_neighbours}
use Rattle.reassembly.specs.Remembered.{memory_of}
use Rattle.reassembly.specs.Calls.{bare}
use Rattle.reassembly.specs.Shares.{share_of, share_of_room, renewed}
use Rattle.reassembly.specs.Stands.{slots_of, reply_for, laid_out}
use Rattle.reassembly.specs.Standing.{summary_at, neighbours_of, AllMade}
use Rattle.promises.specs.Demand3.{Cut, Within, piece_of, no_cut, Event, deliver, sweep_at, Past, start, past_after, Schedule, due, times}
use Rattle.promises.specs.StoreTurns.{Turn, sends, sweeps, Heard, own, heard, last_rec, last_room, OwnMade}

-- an event of neighbour n's schedule as a turn, with an assembly buffer
abbrev pub asked_one : ℕ → List Cut → List ℕ → Event → Turn
asked_one n cs out (deliver c i second) = sends n out (piece_of (get_or cs c no_cut) i) second
asked_one n cs out (sweep_at second) = sweeps second

-- its schedule as turns; the k-th is lent the assembly buffer outs k, whatever it holds
abbrev pub asked : ℕ → List Cut → (ℕ → List ℕ) → ℕ → List Event → List Turn
asked n cs outs k [] = []
asked n cs outs k (e ∷ es) = asked_one n cs (outs k) e ∷ asked n cs outs (suc k) es

-- what is due of an event: the reply, and the assembly buffer with the message that comes out; a sweep answers 0, and is lent no buffer
unfoldable pub heard_due : List ℕ → Event → Said → Heard
heard_due out (deliver c i second) d = record { reply = reply_for d.number d.out; out = laid_out out d.out }
heard_due out (sweep_at second) d = record { reply = bare 0; out = [] }

-- all that is due of a schedule
abbrev pub all_heard_due : (ℕ → List ℕ) → ℕ → List Event → List Said → List Heard
all_heard_due outs k [] ds = []
all_heard_due outs k (e ∷ es) [] = []
all_heard_due outs k (e ∷ es) (d ∷ ds) = heard_due (outs k) e d ∷ all_heard_due outs (suc k) es ds

-- the second of an event
abbrev pub second_of : Event → ℕ
second_of (deliver c i second) = second
second_of (sweep_at second) = second

-- what the calls' parameters hold: ids and expirations of 4 bytes, seconds of 8
pub record ScheduleInWidth (cs : List Cut) (es : List Event) : Type 0 where
  pub ids : (c : ℕ) → (get_or cs c no_cut).id < 4294967296
  pub expirations : (c : ℕ) → (get_or cs c no_cut).expires < 4294967296
  pub seconds : (n : ℕ) → second_of (get_or es n (sweep_at 0)) < 18446744073709551616

-- neighbour n's schedule begins with what its share remembers
abbrev pub start_at : ℕ → List Cut → List ℕ → Past
start_at n cs rec = start cs (memory_of (share_of rec n))

-- what is due of its events
abbrev pub due_at : ℕ → List Cut → List ℕ → List Event → List Said
due_at n cs rec es = due most_remembered cs (start_at n cs rec) es

-- the rules that it keeps, with 4 slots and 16 remembered messages
abbrev pub ScheduleAt : ℕ → List Cut → List ℕ → List Event → Type 0
ScheduleAt n cs rec es = Schedule 4 most_remembered cs (start_at n cs rec) es

-- Neighbour n may begin: its share is one that calls made, and has no message open, whatever it remembers and whatever the other shares hold.
pub record Begins (n : ℕ) (rec room : List ℕ) : Type 0 where
  pub own_made : OwnMade n rec room
  pub none_open : slots_of (share_of rec n) (share_of_room room n) ≡ empty

-- What a schedule of neighbour n leaves in record and room, rec' and room': another may begin, so that again no message is open; the summary says so too; and what is
-- remembered is what the schedule says. Every message came out once.
pub record Ends (n : ℕ) (cs : List Cut) (rec : List ℕ) (es : List Event) (rec' room' : List ℕ) : Type 0 where
  pub once : (c : ℕ) → c < length cs → times c es (due_at n cs rec es) ≡ 1
  pub begins_again : Begins n rec' room'
  pub summary_zero : summary_at rec' n ≡ 0
  pub remembers_due : memory_of (share_of rec' n) ≡ (past_after most_remembered cs (start_at n cs rec) es).remembered

-- The outcome, where all take these turns: neighbour n hears what is due.
pub record FulfilledByCalls (n : ℕ) (cs : List Cut) (outs : ℕ → List ℕ) (rec room : List ℕ) (turns : List Turn) (es : List Event) : Type 0 where
  pub hears : heard n rec room turns ≡ all_heard_due outs 0 es (due_at n cs rec es)
  pub ends : Ends n cs rec es (last_rec rec room turns) (last_room rec room turns)

-- each call is lent an assembly buffer of 65,535 bytes or more
abbrev pub LongEnough : (ℕ → List ℕ) → Type 0
LongEnough outs = (n : ℕ) → message_size ≤ length (outs n)

-- Demand 3, of the calls: where neighbour n's own turns are a schedule that keeps the rules. The others may keep them or not.
abbrev pub Demand3Calls : Type 0
Demand3Calls =
    (n : ℕ) → n < 4
    → (outs : ℕ → List ℕ) → LongEnough outs
    → (rec room : List ℕ) → Begins n rec room
    → (cs : List Cut) → ((c : ℕ) → c < length cs → Within (get_or cs c no_cut))
    → (es : List Event) → ScheduleInWidth cs es → ScheduleAt n cs rec es
    → (turns : List Turn) → own n turns ≡ asked n cs outs 0 es
    → FulfilledByCalls n cs outs rec room turns es

-- Records and rooms that meet its premises, for every neighbour: a new record, and one of zeros, with any room of the lent length;
pub record StoreStarts : Type 0 where
  pub new : (rec room : List ℕ) → record_size ≤ length rec → room_size ≤ length room → AllMade (renewed rec) room × (neighbours_of (renewed rec) room ≡ new_neighbours)
  pub zero_filled : (n : ℕ) (room : List ℕ) → record_size ≤ n → room_size ≤ length room → AllMade (replicate n 0) room × (neighbours_of (replicate n 0) room ≡ new_neighbours)
  pub begins :
      (rec room : List ℕ) → AllMade rec room → neighbours_of rec room ≡ new_neighbours
      → (n : ℕ) → n < 4 → Begins n rec room × (memory_of (share_of rec n) ≡ [])

-- and what a schedule left: another may follow, with messages and assembly buffers of its own, that begins with what is remembered then.
abbrev pub Demand3Again : Type 0
Demand3Again =
    (n : ℕ) → n < 4
    → (outs outs' : ℕ → List ℕ) → LongEnough outs'
    → (rec room : List ℕ) (cs : List Cut) (es : List Event) (turns : List Turn) → FulfilledByCalls n cs outs rec room turns es
    → (ds : List Cut) → ((c : ℕ) → c < length ds → Within (get_or ds c no_cut))
    → (fs : List Event) → ScheduleInWidth ds fs → ScheduleAt n ds (last_rec rec room turns) fs
    → (turns' : List Turn) → own n turns' ≡ asked n ds outs' 0 fs
    → FulfilledByCalls n ds outs' (last_rec rec room turns) (last_room rec room turns) turns' fs

-- Demand 3 of the calls that follow strawhub_store_new, whatever the record held
abbrev pub Demand3New : Type 0
Demand3New =
    (n : ℕ) → n < 4
    → (outs : ℕ → List ℕ) → LongEnough outs
    → (rec room : List ℕ) → record_size ≤ length rec → room_size ≤ length room
    → (cs : List Cut) → ((c : ℕ) → c < length cs → Within (get_or cs c no_cut))
    → (es : List Event) → ScheduleInWidth cs es → Schedule 4 most_remembered cs (start cs []) es
    → (turns : List Turn) → own n turns ≡ asked n cs outs 0 es
    → FulfilledByCalls n cs outs (renewed rec) room turns es
