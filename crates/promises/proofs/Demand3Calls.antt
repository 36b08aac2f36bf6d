-- Demand 3 of the calls: what a neighbour's share meets is what the share's store says it is, and no other neighbour moves it. Assumes nothing.
use mathlib.Core.Path.{◌≡◌, refl, sym, ap, ◌∙◌, subst}
use mathlib.Core.List.{List, [], ◌∷◌}
use Prim.Native.Nat.{ℕ, zero, suc, ◌≤◌, ◌<◌}
use native.Mathlib.Omega.{arith}
use lib.Dec.{eqb}
use lib.ListN.{length, get_or, get_or-replicate}
use Rattle.reassembly.specs.Sizes.{message_size, room_size, most_remembered, record_size}
use Rattle.reassembly.specs.Memory.{Memory}
use Rattle.reassembly.specs.Store.{Store, Answer, empty, new_store}
use Rattle.reassembly.specs.Runs.{said_of}
use Rattle.reassembly.specs.Neighbours.{Neighbours, new_neighbours, store_of, open_of}
use Rattle.reassembly.specs.Shares.{share_of, share_of_room}
use Rattle.reassembly.specs.Turns.{Turned, said_each, record_left, room_left}
use Rattle.reassembly.specs.Stands.{slots_of, stands, Made}
use Rattle.reassembly.specs.Standing.{neighbours_of, AllMade}
use Rattle.reassembly.proofs.Stores.{step_enough}
use Rattle.reassembly.proofs.Steps.{PieceInWidth, fits_first, fits_follow}
use Rattle.reassembly.proofs.Runs.{said_of_lem}
use Rattle.reassembly.proofs.Swept.{sweep_agrees}
use Rattle.reassembly.proofs.Counts.{open_none}
use Rattle.reassembly.proofs.Lifted.{store_of_lem}
use Rattle.reassembly.proofs.NewShares.{new_stands, new_made, all_zeros_stand, all_zeros_made}
use Rattle.reassembly.proofs.OwnShare.{store_at_lem, own_count}
use Rattle.reassembly.proofs.Alone.{Alone, alone}
use Rattle.promises.specs.Demand3.{Cut, Within, piece_of, no_cut, Event, deliver, sweep_at, start, Schedule, times, act, said, store_after, Fulfilled}
use Rattle.promises.specs.StoreTurns.{Turn, Heard, turn_call, meets, own, last_rec, last_room}
use Rattle.promises.specs.Demand3Calls.{asked_one, asked, heard_due, all_heard_due, second_of, ScheduleInWidth, Ends, FulfilledByCalls, LongEnough, Demand3Calls, StoreStarts, Demand3Again, Demand3New}
use Rattle.promises.proofs.Demand3.{demand3_for}
use Rattle.promises.proofs.StoreTurns.{piece_agrees, own_turn, turn_of}

pub piece_fits : (c : Cut) (i second : ℕ) → c.id < 4294967296 → c.expires < 4294967296 → second < 18446744073709551616 → PieceInWidth (piece_of c i) second
piece_fits c zero second a b d = fits_first c.id c.kind c.expires (get_or c.pieces 0 []) second a b d
piece_fits c (suc i) second a b d = fits_follow c.id (suc i) (eqb (suc (suc i)) (length c.pieces)) (get_or c.pieces (suc i) []) second a d

-- an assembly buffer of 65,535 bytes is as good as a longer one
pub act_enough : (cap : ℕ) → message_size ≤ cap → (cs : List Cut) (s : Store) (e : Event) → act most_remembered cap cs s e ≡ act most_remembered message_size cs s e
unfolding act
act_enough cap h cs s (deliver c i second) = step_enough most_remembered cap h s (piece_of (get_or cs c no_cut) i) second
act_enough cap h cs s (sweep_at second) = refl

-- ---- a schedule on a share

module _ (n : ℕ) (outs : ℕ → List ℕ) (long : LongEnough outs) (cs : List Cut)
    (hi : (c : ℕ) → (get_or cs c no_cut).id < 4294967296) (hx : (c : ℕ) → (get_or cs c no_cut).expires < 4294967296) where
  -- an event: what is heard, what the share stands for then, and that it is again one that calls made
  record Done (k : ℕ) (s m : List ℕ) (e : Event) (t : Turned Heard) : Type 0 where
    hears : t.said ≡ heard_due (outs k) e (said_of (act most_remembered message_size cs (stands s m) e))
    store : stands t.rec t.room ≡ (act most_remembered message_size cs (stands s m) e).store
    made : Made t.rec t.room

  event : (k : ℕ) (s m : List ℕ) → Made s m → (e : Event) → second_of e < 18446744073709551616 → Done k s m e (own_turn s m (asked_one n cs (outs k) e))
  unfolding own_turn heard_due act
  event k s m h (deliver c i second) hs =
      let a = piece_agrees s m (outs k) h (piece_of (get_or cs c no_cut) i) second (piece_fits (get_or cs c no_cut) i second (hi c) (hx c) hs) in
      let q = step_enough most_remembered (length (outs k)) (long k) (stands s m) (piece_of (get_or cs c no_cut) i) second in
      record { hears = rw (a.reply, a.delivered, q, said_of_lem _) refl; store = a.store ∙ ap (λ (z : Answer). z.store) q; made = a.made }
  event k s m h (sweep_at second) hs =
      let a = sweep_agrees second s m [] h in
      record { hears = refl; store = a.store; made = a.made }

  -- all of them
  record AllDone (k : ℕ) (s m : List ℕ) (es : List Event) : Type 0 where
    hears : said_each own_turn s m (asked n cs outs k es) ≡ all_heard_due outs k es (said most_remembered message_size cs (stands s m) es)
    store : stands (record_left own_turn s m (asked n cs outs k es)) (room_left own_turn s m (asked n cs outs k es)) ≡ store_after most_remembered message_size cs (stands s m) es
    made : Made (record_left own_turn s m (asked n cs outs k es)) (room_left own_turn s m (asked n cs outs k es))

  runs : (es : List Event) (k : ℕ) (s m : List ℕ) → Made s m → ((j : ℕ) → second_of (get_or es j (sweep_at 0)) < 18446744073709551616) → AllDone k s m es
  runs [] k s m h hs = record { hears = refl; store = refl; made = h }
  runs (e ∷ es) k s m h hs =
      let d = event k s m h e (hs 0) in
      let t : Turned Heard = own_turn s m (asked_one n cs (outs k) e) in
      let ih = runs es (suc k) t.rec t.room d.made (λ j. hs (suc j)) in
      record {
        hears = rw (d.hears, ih.hears, d.store) refl;
        store = ih.store ∙ ap (λ (z : Store). store_after most_remembered message_size cs z es) d.store;
        made = ih.made;
      }

-- ---- what a schedule of neighbour n leaves, where its share has become s' and m'

pub ends_of : (n : ℕ) (cs : List Cut) (rec room : List ℕ) (es : List Event) (rec' room' s' m' : List ℕ) → record_size ≤ length rec' → room_size ≤ length room'
    → share_of rec' n ≡ s' → share_of_room room' n ≡ m'
    → stands s' m' ≡ store_after most_remembered message_size cs (stands (share_of rec n) (share_of_room room n)) es → Made s' m'
    → Fulfilled 4 most_remembered message_size cs (stands (share_of rec n) (share_of_room room n)) es
    → Ends n cs rec es rec' room'
ends_of n cs rec room es rec' room' s' m' long wide er em st mk o =
    let none : slots_of (share_of rec' n) (share_of_room room' n) ≡ empty = rw (er, em) (ap (λ (z : Store). z.slots) st ∙ o.ends_empty) in
    let made : Made (share_of rec' n) (share_of_room room' n) = rw (er, em) mk in
    record {
      once = λ c h. ap (times c es) (sym o.as_due) ∙ o.once c h;
      begins_again = record { own_made = record { record_long = long; room_long = wide; share_made = made }; none_open = none };
      summary_zero = own_count rec' room' n made ∙ ap open_of none ∙ open_none 4;
      remembers_due = rw er (ap (λ (z : Store). z.remembered) st ∙ o.remembers_due);
    }

-- Demand 3, of the calls
pub demand3_calls : Demand3Calls
demand3_calls n one outs long rec room b cs within es widths q turns asks =
    let s : List ℕ = share_of rec n in
    let m : List ℕ = share_of_room room n in
    let o : Fulfilled 4 most_remembered message_size cs (stands s m) es = demand3_for 4 most_remembered message_size (omega arith) cs within (stands s m) b.none_open es q in
    let r = runs n outs long cs widths.ids widths.expirations es 0 s m b.own_made.share_made widths.seconds in
    let a : Alone turn_call own_turn (meets n) n rec room s m turns = alone turn_call own_turn (meets n) n (turn_of n one) rec room b.own_made.record_long b.own_made.room_long turns in
    record {
      hears = a.told ∙ ap (said_each own_turn s m) asks ∙ r.hears ∙ ap (all_heard_due outs 0 es) o.as_due;
      ends = ends_of n cs rec room es (last_rec rec room turns) (last_room rec room turns) (record_left own_turn s m (asked n cs outs 0 es)) (room_left own_turn s m (asked n cs outs 0 es))
          a.rec_long a.room_long (a.rec_ends ∙ ap (record_left own_turn s m) asks) (a.room_ends ∙ ap (room_left own_turn s m) asks) r.store r.made o;
    }

-- and where it starts
new_share : (rec room : List ℕ) → neighbours_of rec room ≡ new_neighbours → (n : ℕ) → n < 4 → stands (share_of rec n) (share_of_room room n) ≡ new_store
new_share rec room z n one =
    sym (store_at_lem rec room n) ∙ sym (store_of_lem rec room n one) ∙ ap (λ (s : Neighbours). store_of s n) z ∙ get_or-replicate 4 n new_store new_store one

pub store_starts : StoreStarts
store_starts =
    record {
      new = λ rec room lr lm. (new_made rec room lr lm, new_stands rec room lr);
      zero_filled = λ n room lr lm. (all_zeros_made n room lr lm, all_zeros_stand n room lr);
      begins = λ rec room h z n one. (
        record {
          own_made = record { record_long = h.record_long; room_long = h.room_long; share_made = h.shares n one };
          none_open = ap (λ (s : Store). s.slots) (new_share rec room z n one);
        },
        ap (λ (s : Store). s.remembered) (new_share rec room z n one),
      );
    }

pub demand3_again : Demand3Again
demand3_again n one outs outs' long rec room cs es turns o ds within fs widths q turns' asks = demand3_calls n one outs' long _ _ o.ends.begins_again ds within fs widths q turns' asks

-- on a new store: no message is open, and none is remembered
pub from_new : (n : ℕ) → n < 4 → (outs : ℕ → List ℕ) → LongEnough outs → (rec room : List ℕ) → AllMade rec room → neighbours_of rec room ≡ new_neighbours
    → (cs : List Cut) → ((c : ℕ) → c < length cs → Within (get_or cs c no_cut))
    → (es : List Event) → ScheduleInWidth cs es → Schedule 4 most_remembered cs (start cs []) es
    → (turns : List Turn) → own n turns ≡ asked n cs outs 0 es → FulfilledByCalls n cs outs rec room turns es
from_new n one outs long rec room h z cs within es widths q turns asks =
    demand3_calls n one outs long rec room (store_starts.begins rec room h z n one).0 cs within es widths
    (subst (λ (fs : Memory). Schedule 4 most_remembered cs (start cs fs) es) (sym (store_starts.begins rec room h z n one).1) q) turns asks

pub demand3_new : Demand3New
demand3_new n one outs long rec room lr lm = from_new n one outs long _ room (store_starts.new rec room lr lm).0 (store_starts.new rec room lr lm).1
