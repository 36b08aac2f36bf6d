-- Demand 3 of each neighbour by itself, proved: its own store is a store of P5's, and meets its pieces and the sweeps alone. Assumes nothing.
use mathlib.Core.Path.{◌≡◌, refl, sym, ap, ◌∙◌}
use mathlib.Core.List.{List, [], ◌∷◌, map}
use Prim.Native.Nat.{ℕ}
use lib.ListN.{get_or}
use Rattle.reassembly.specs.Sizes.{most_remembered}
use Rattle.reassembly.specs.Store.{Store, Answer}
use Rattle.reassembly.specs.Runs.{Call, Said, answered, said_to, reached}
use Rattle.reassembly.specs.Neighbours.{store_of, open_of}
use Rattle.reassembly.specs.Acts.{acts_said, acts_left, heard}
use Rattle.reassembly.proofs.Runs.{answered_piece, answered_sweep}
use Rattle.reassembly.proofs.Neighbours.{CountedFor, acts_counted}
use Rattle.promises.specs.Demand3.{Cut, piece_of, no_cut, Event, deliver, sweep_at, times, act, said, store_after, Fulfilled}
use Rattle.promises.specs.FairSlots.{Alone}
use Rattle.promises.specs.Demand3Neighbours.{call_of, Demand3}
use Rattle.promises.proofs.Demand3.{demand3_for}
use Rattle.promises.proofs.FairSlots.{independent}

-- ---- an event is a call

module _ (keep cap : ℕ) (cs : List Cut) where
  answered_event : (s : Store) (e : Event) → answered keep s (call_of cap cs e) ≡ act keep cap cs s e
  unfolding call_of act
  answered_event s (deliver c i second) = answered_piece keep cap s (piece_of (get_or cs c no_cut) i) second
  answered_event s (sweep_at second) = answered_sweep keep s second

  -- so what is said to calls is what is said to events,
  said_events : (es : List Event) (s : Store) → said_to keep s (map (call_of cap cs) es) ≡ said keep cap cs s es
  said_events [] s = refl
  said_events (e ∷ es) s = rw (answered_event s e, said_events es (act keep cap cs s e).store) refl

  -- and what they leave is the same.
  reached_events : (es : List Event) (s : Store) → reached keep s (map (call_of cap cs) es) ≡ store_after keep cap cs s es
  reached_events [] s = refl
  reached_events (e ∷ es) s = ap (λ (a : Answer). reached keep a.store (map (call_of cap cs) es)) (answered_event s e) ∙ reached_events es (act keep cap cs s e).store

-- ---- the demand

pub demand3 : Demand3
demand3 cap room n small cs within s begins es fair acts sent =
    let o : Fulfilled 4 most_remembered cap cs (store_of s n) es = demand3_for 4 most_remembered cap room cs within (store_of s n) begins.begins_empty es fair in
    let a : Alone acts n s = independent s begins.stores_four acts n small in
    let h : heard n acts (acts_said s acts) ≡ said most_remembered cap cs (store_of s n) es
    = a.said ∙ (ap (λ (x : List Call). said_to most_remembered (store_of s n) x) sent ∙ said_events most_remembered cap cs es (store_of s n)) in
    let e : store_of (acts_left s acts) n ≡ store_after most_remembered cap cs (store_of s n) es
    = a.left ∙ (ap (λ (x : List Call). reached most_remembered (store_of s n) x) sent ∙ reached_events most_remembered cap cs es (store_of s n)) in
    let v : CountedFor n s
    = record {
      stores_four = begins.stores_four;
      numbers_four = begins.numbers_four;
      counted = begins.begins_zero ∙ sym (ap open_of begins.begins_empty);
    } in
    record {
      as_due = h ∙ o.as_due;
      once = λ c k. ap (λ (x : List Said). times c es x) h ∙ o.once c k;
      ends_empty = ap (λ (x : Store). x.slots) e ∙ o.ends_empty;
      ends_zero = (acts_counted n small acts s v).counted ∙ (ap (λ (x : Store). open_of x.slots) e ∙ ap open_of o.ends_empty);
      remembers_due = ap (λ (x : Store). x.remembered) e ∙ o.remembers_due;
    }
