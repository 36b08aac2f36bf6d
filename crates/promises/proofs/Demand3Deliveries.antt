-- Demand 3 of the payloads' blocks: what a neighbour hands in is to its share what the share's store says it is, and no other neighbour moves it. Assumes nothing.
use mathlib.Core.Path.{◌≡◌, refl, sym, ap, ap₂, ◌∙◌, subst}
use mathlib.Core.Bool.{Bool, true, false, cond}
use mathlib.Core.List.{List, [], ◌∷◌}
use mathlib.Core.Option.{Option, none, some}
use Prim.Native.Nat.{ℕ, zero, suc, ◌+◌, ◌*◌, ◌/◌, ◌%◌, ◌<◌, ◌≤◌}
use native.Mathlib.Omega.{arith}
use lib.Dec.{eqb}
use lib.ListN.{length, get_or}
use Rattle.blocks.specs.Layout.{eight}
use Rattle.blocks.specs.Reading.{read_at}
use Rattle.blocks.proofs.Named.{number_and_mark, first_back, follow_on_back}
use Rattle.reassembly.specs.Sizes.{message_size, most_remembered}
use Rattle.reassembly.specs.Store.{Piece, first, follow, piece_bytes, Store, Rebuilt, step}
use Rattle.reassembly.specs.Runs.{Said, said_of}
use Rattle.reassembly.specs.Calls.{lent, After}
use Rattle.reassembly.specs.Shares.{share_of, share_of_room}
use Rattle.reassembly.specs.Turns.{Turned, said_each, record_left, room_left}
use Rattle.reassembly.specs.Stands.{stands, Made, laid_out, Agrees}
use Rattle.reassembly.proofs.Stores.{step_enough}
use Rattle.reassembly.proofs.Swept.{swept_stands, share_swept_made}
use Rattle.reassembly.proofs.Runs.{said_of_lem}
use Rattle.reassembly.proofs.Brought.{step_sober}
use Rattle.reassembly.proofs.Alone.{Alone, alone}
use Rattle.messages.specs.Received.{Received}
use Rattle.messages.specs.Delivery.{rebuilt_by}
use Rattle.messages.specs.OfStore.{received_for}
use Rattle.messages.proofs.OfStore.{received_kept, received_refused, received_whole}
use Rattle.messages.proofs.Pieces.{piece_in, received_is}
use Rattle.numbers_outcomes.specs.declared.Outcome.{Outcome}
use Rattle.numbers_outcomes.specs.Deliveries.{delivery_outcome, delivery_numbers}
use Rattle.numbers_outcomes.proofs.DeliveryLaws.{told_kept, told_refused, told_finished}
use Rattle.promises.specs.Demand3.{Cut, piece_of, cut_from, no_cut, Event, deliver, sweep_at, Tally, no_tally, done, marked, Past, note, due_one, due, act, said, store_after, Fulfilled}
use Rattle.promises.specs.Demand3Calls.{second_of, start_at, LongEnough}
use Rattle.promises.specs.Demand3Deliveries.{HasPiece, Loan, Tells, hand_call, meets, last_rec, last_room, handing_one, handings, HandedOne, Handed, outcome_due, told_of, told_due, tells_due, all_due, Demand3Deliveries, WrittenIsHanded}
use Rattle.promises.proofs.Demand3.{demand3_for}
use Rattle.promises.proofs.StoreTurns.{piece_taken, piece_agrees}
use Rattle.promises.proofs.Demand3Calls.{piece_fits, ends_of}
use Rattle.promises.proofs.HandTurns.{piece_turn, own_of, own_hand, hand_of}

-- the block at a place has this piece, if it has one
piece_in_lem : (s : List ℕ) (at : ℕ) (p : Piece) → HasPiece s at p → piece_in s (read_at s at) ≡ some p
unfolding eight piece_bytes
piece_in_lem s at (first id kind expires bytes) h = ap (piece_in s) h.read ∙ ap (λ (v : List ℕ). some (first id kind expires v)) h.same_bytes
piece_in_lem s at (follow id number final bytes) h =
    let b = number_and_mark number final in
    ap (piece_in s) h.read
    ∙ ap (λ (v : List ℕ). some (follow id ((number * 2 + cond final 1 0) / 2) (eqb ((number * 2 + cond final 1 0) % 2) 1) v)) h.same_bytes
    ∙ ap₂ (λ (n : ℕ) (l : Bool). some (follow id n l bytes)) b.0 b.1

-- a cut message's piece, on a share
piece_own : (c : Cut) (i : ℕ) (l : Loan) (second : ℕ) (s m : List ℕ) → own_of (some (piece_of c i)) l second s m ≡ piece_turn l c.id (piece_taken (lent s m l.out) (piece_of c i) second)
unfolding own_of
piece_own c zero l second s m = refl
piece_own c (suc i) l second s m = refl

-- what is said of a schedule: 57, 54, 0 and 60, a message with 60 alone
data Calm : Said → Type 0 where
  late : Calm (record { number = 57; out = none })
  repeated : Calm (record { number = 54; out = none })
  kept : Calm (record { number = 0; out = none })
  finished : (w : Rebuilt) → Calm (record { number = 60; out = some w })

due_calm : (cs : List Cut) (ts : List Tally) (e : Event) → Calm (due_one cs ts e)
unfolding due_one
due_calm cs ts (sweep_at second) = kept
due_calm cs ts (deliver c i second) = go (done (get_or ts c no_tally)) (get_or (get_or ts c no_tally).marks i false) (done (marked (get_or ts c no_tally) i second))
  where
    go : (a b z : Bool) → Calm (cond a (record { number = 57; out = none }) (cond b (record { number = 54; out = none }) (cond z (record { number = 60; out = some (cut_from (get_or cs c no_cut)) }) (record { number = 0; out = none }))))
    go true b z = late
    go false true z = repeated
    go false false true = finished (cut_from (get_or cs c no_cut))
    go false false false = kept

by_numbers : (told : List ℕ) {r r' : Received} {o : Outcome} {told' : List ℕ} → r ≡ r' → (delivery_outcome r' ≡ o) × (delivery_numbers r' told ≡ told') → (delivery_outcome r ≡ o) × (delivery_numbers r told ≡ told')
by_numbers told e h = (ap delivery_outcome e ∙ h.0, ap (λ (z : Received). delivery_numbers z told) e ∙ h.1)

-- there a delivery's numbers are as is due
calm_tells : (at id : ℕ) (told : List ℕ) (d : Said) → Calm d
    → (delivery_outcome (received_for at id d.number d.out) ≡ outcome_due at d) × (delivery_numbers (received_for at id d.number d.out) told ≡ told_due id told d)
unfolding outcome_due told_due told_of
calm_tells at id told d late =
    by_numbers told (received_refused at id 57 (λ e. omega arith)) (told_refused told 57 at (λ e. omega arith) (λ e. omega arith))
calm_tells at id told d repeated =
    by_numbers told (received_refused at id 54 (λ e. omega arith)) (told_refused told 54 at (λ e. omega arith) (λ e. omega arith))
calm_tells at id told d kept = by_numbers told (received_kept at id) (told_kept told)
calm_tells at id told d (finished w) = by_numbers told (received_whole at id 60 w) (told_finished told w.kind id w.expires 0 (length w.bytes))

-- ---- a schedule on a share

module _ (n : ℕ) (loans : ℕ → Loan) (long : LongEnough (λ k. (loans k).out)) (cs : List Cut)
    (hi : (c : ℕ) → (get_or cs c no_cut).id < 4294967296) (hx : (c : ℕ) → (get_or cs c no_cut).expires < 4294967296) where
  -- an event: what is told where d is said to it, what the share stands for then, and that it is again one that calls made
  record Done (k : ℕ) (s m : List ℕ) (e : Event) (d : Said) (t : Turned Tells) : Type 0 where
    tells : t.said ≡ tells_due cs (loans k) e d
    store : stands t.rec t.room ≡ (act most_remembered message_size cs (stands s m) e).store
    made : Made t.rec t.room

  event : (k : ℕ) (s m : List ℕ) → Made s m → (e : Event) → second_of e < 18446744073709551616 → HandedOne cs (loans k) e
      → (d : Said) → Calm d → said_of (act most_remembered message_size cs (stands s m) e) ≡ d → Done k s m e d (own_hand s m (handing_one n (loans k) e))
  unfolding own_hand act tells_due
  event k s m g (sweep_at second) hs h d calm q =
      record { tells = refl; store = swept_stands second s m g.slots_made.record_long; made = share_swept_made second s m g }
  event k s m g (deliver c i second) hs h d calm q =
      let cut : Cut = get_or cs c no_cut in
      let l : Loan = loans k in
      let p : Piece = piece_of cut i in
      let y : After = piece_taken (lent s m l.out) p second in
      let w : step most_remembered (length l.out) (stands s m) p second ≡ step most_remembered message_size (stands s m) p second = step_enough most_remembered (length l.out) (long k) (stands s m) p second in
      let a : Agrees l.out y (step most_remembered message_size (stands s m) p second) =
      subst (Agrees l.out y) w (piece_agrees s m l.out g p second (piece_fits cut i second (hi c) (hx c) hs)) in
      let is : own_of (piece_in l.payload (read_at l.payload l.at)) l second s m ≡ piece_turn l cut.id y =
      ap (λ (o : Option Piece). own_of o l second s m) (piece_in_lem l.payload l.at p h) ∙ piece_own cut i l second s m in
      let said_is : (record { number = (step most_remembered message_size (stands s m) p second).number; out = (step most_remembered message_size (stands s m) p second).out }) ≡ d =
      sym (said_of_lem (step most_remembered message_size (stands s m) p second)) ∙ q in
      let r : rebuilt_by l.at y.reply cut.id ≡ received_for l.at cut.id d.number d.out =
      received_is l.at cut.id message_size (step most_remembered message_size (stands s m) p second).number (step most_remembered message_size (stands s m) p second).out y l.out
      a.reply a.delivered (step_sober most_remembered message_size (stands s m) p second)
      ∙ ap (λ (z : Said). received_for l.at cut.id z.number z.out) said_is in
      let o : y.left.out ≡ laid_out l.out d.out = a.delivered ∙ ap (λ (z : Said). laid_out l.out z.out) said_is in
      let t = by_numbers l.told r (calm_tells l.at cut.id l.told d calm) in
      rw is
      (record {
        tells = λ j. record { outcome = t.0 j; out = o j; told = t.1 j };
        store = a.store;
        made = a.made;
      })

  -- all of them
  record AllDone (k : ℕ) (s m : List ℕ) (past : Past) (es : List Event) : Type 0 where
    tells : said_each own_hand s m (handings n loans k es) ≡ all_due cs loans k es (due most_remembered cs past es)
    store : stands (record_left own_hand s m (handings n loans k es)) (room_left own_hand s m (handings n loans k es)) ≡ store_after most_remembered message_size cs (stands s m) es
    made : Made (record_left own_hand s m (handings n loans k es)) (room_left own_hand s m (handings n loans k es))

  runs : (es : List Event) (k : ℕ) (past : Past) (s m : List ℕ) → Made s m → ((j : ℕ) → second_of (get_or es j (sweep_at 0)) < 18446744073709551616)
      → Handed cs loans k es → said most_remembered message_size cs (stands s m) es ≡ due most_remembered cs past es → AllDone k s m past es
  runs [] k past s m g hs h q = record { tells = refl; store = refl; made = g }
  runs (e ∷ es) k past s m g hs h q =
      let here : said_of (act most_remembered message_size cs (stands s m) e) ≡ due_one cs past.tallies e = cc in
      let then : said most_remembered message_size cs (act most_remembered message_size cs (stands s m) e).store es ≡ due most_remembered cs (note most_remembered cs past e) es = cc in
      let v = event k s m g e (hs 0) h.0 (due_one cs past.tallies e) (due_calm cs past.tallies e) here in
      let t : Turned Tells = own_hand s m (handing_one n (loans k) e) in
      let ih = runs es (suc k) (note most_remembered cs past e) t.rec t.room v.made (λ j. hs (suc j)) h.1 (ap (λ (z : Store). said most_remembered message_size cs z es) v.store ∙ then) in
      record {
        tells = rw (v.tells, ih.tells) refl;
        store = ih.store ∙ ap (λ (z : Store). store_after most_remembered message_size cs z es) v.store;
        made = ih.made;
      }

-- Demand 3, of the payloads' blocks
pub demand3_deliveries : Demand3Deliveries
demand3_deliveries n one loans long rec room b cs within es widths h q turns asks =
    let s : List ℕ = share_of rec n in
    let m : List ℕ = share_of_room room n in
    let o : Fulfilled 4 most_remembered message_size cs (stands s m) es = demand3_for 4 most_remembered message_size (omega arith) cs within (stands s m) b.none_open es q in
    let r = runs n loans long cs widths.ids widths.expirations es 0 (start_at n cs rec) s m b.own_made.share_made widths.seconds h o.as_due in
    let a : Alone hand_call own_hand (meets n) n rec room s m turns =
    alone hand_call own_hand (meets n) n (λ rec room long wide t. hand_of n one rec room long wide t) rec room b.own_made.record_long b.own_made.room_long turns in
    record {
      tells = a.told ∙ ap (said_each own_hand s m) asks ∙ r.tells;
      ends = ends_of n cs rec room es (last_rec rec room turns) (last_room rec room turns) (record_left own_hand s m (handings n loans 0 es)) (room_left own_hand s m (handings n loans 0 es))
          a.rec_long a.room_long (a.rec_ends ∙ ap (record_left own_hand s m) asks) (a.room_ends ∙ ap (room_left own_hand s m) asks) r.store r.made o;
    }

-- what the block writer writes for a piece is that piece
pub written_is_handed : WrittenIsHanded
unfolding piece_bytes
written_is_handed c w l hi hx zero h room lr =
    let body : List ℕ = get_or c.pieces 0 [] in
    let few : length body ≤ 1500 = w.few_bytes 0 h in
    let r = first_back c.kind c.id c.expires body room l hi hx (w.some_bytes 0 h) few (omega arith) in
    record { body = _; size = _; next = _; read = r.0; same_bytes = r.1 }
written_is_handed c w l hi hx (suc i) h room lr =
    let body : List ℕ = get_or c.pieces (suc i) [] in
    let few : length body ≤ 1500 = w.few_bytes (suc i) h in
    let most : length c.pieces ≤ 128 = w.most in
    let r = follow_on_back (suc i) (eqb (suc (suc i)) (length c.pieces)) c.id body room (omega arith) hi (w.some_bytes (suc i) h) few (omega arith) in
    record { body = _; size = _; next = _; read = r.0; same_bytes = r.1 }
