-- What a neighbour hands to strawhub_block_deliver does to its share what the block's piece does to that share alone, and nothing to the others. Assumes nothing.
use mathlib.Core.Path.{◌≡◌, refl, sym, ap, ◌∙◌}
use mathlib.Core.List.{List}
use mathlib.Core.Option.{Option, none, some}
use Prim.Native.Nat.{ℕ, ◌≤◌, ◌<◌}
use lib.Dec.{eqb}
use lib.ListN.{length}
use Rattle.blocks.specs.Reading.{read_at}
use Rattle.reassembly.specs.Sizes.{room_size, record_size}
use Rattle.reassembly.specs.declared.Reply.{Reply}
use Rattle.reassembly.specs.Store.{Piece, first, follow}
use Rattle.reassembly.specs.Calls.{Lent, lent, After, share_swept}
use Rattle.reassembly.specs.Shares.{share_of, share_of_room, lent_to}
use Rattle.reassembly.specs.Turns.{Turned, turned}
use Rattle.reassembly.proofs.Alone.{Turns, stays_turn, call_turn, swept_turn, two_runs}
use Rattle.messages.specs.Received.{Received}
use Rattle.messages.specs.Delivery.{delivery_with, rebuilt_by}
use Rattle.messages.proofs.Pieces.{piece_in, quietly, piece_delivers, Delivers, delivers}
use Rattle.numbers_outcomes.specs.Deliveries.{delivery_outcome, delivery_numbers, delivered_at, deliver_call}
use Rattle.numbers_outcomes.proofs.DeliveryLaws.{call_told}
use Rattle.promises.specs.StoreTurns.{piece_call}
use Rattle.promises.specs.Demand3Deliveries.{Loan, Handing, hands, sweeps, Tells, tells_of, sweep_tells, hand_call, meets}
use Rattle.promises.specs.FairSlotsDeliveries.{TwoRunsOfDeliveries}
use Rattle.promises.proofs.StoreTurns.{piece_taken, piece_own, piece_above}

-- what is told of what was received, with an assembly buffer
abbrev pub tells_by : Loan → Received → List ℕ → Tells
tells_by l r out = record { outcome = delivery_outcome r; out = out; told = delivery_numbers r l.told }

-- of a piece of message id, by the store's reply
abbrev pub piece_tells : Loan → ℕ → Reply → List ℕ → Tells
piece_tells l id r out = tells_by l (rebuilt_by l.at r id) out

-- a piece's call, as such a turn
abbrev pub piece_turn : Loan → ℕ → After → Turned Tells
piece_turn l id y = turned (piece_tells l id y.reply y.left.out) y.left.rec y.left.room

-- what is handed in, on a share that it meets: a piece, or none
unfoldable pub own_of : Option Piece → Loan → ℕ → List ℕ → List ℕ → Turned Tells
own_of none l second s m = turned (tells_by l (quietly l.payload l.at (read_at l.payload l.at)) l.out) s m
own_of (some (first i k e v)) l second s m = piece_turn l i (piece_taken (lent s m l.out) (first i k e v) second)
own_of (some (follow i k f v)) l second s m = piece_turn l i (piece_taken (lent s m l.out) (follow i k f v) second)

unfoldable pub own_hand : List ℕ → List ℕ → Handing → Turned Tells
own_hand s m (hands n l second) = own_of (piece_in l.payload (read_at l.payload l.at)) l second s m
own_hand s m (sweeps second) = turned sweep_tells (share_swept second s) m

-- the call as a turn, from what was received and what is left
call_tells : (l : Loan) (x y : Lent) (n second : ℕ) (r : Received) → delivered_at l.payload l.at x n second ≡ delivery_with r y
    → tells_of (deliver_call l.payload l.at x n second l.told) ≡ turned (tells_by l r y.out) y.rec y.room
call_tells l x y n second r e = ap tells_of (sym (call_told l.payload l.at x y n second l.told (delivery_numbers r l.told) r (delivery_outcome r) (sym e) refl refl))

module _ (n : ℕ) (one : n < 4) (rec room : List ℕ) (long : record_size ≤ length rec) (wide : room_size ≤ length room) where
  -- a block that has a piece
  piece_hand : (m : ℕ) (l : Loan) (second i : ℕ) (p : Piece)
      → delivered_at l.payload l.at (lent rec room l.out) m second ≡ piece_delivers l.at i (piece_call (lent rec room l.out) m p second)
      → Turns n rec room (eqb m n) (tells_of (deliver_call l.payload l.at (lent rec room l.out) m second l.told))
      (piece_turn l i (piece_taken (lent (share_of rec n) (share_of_room room n) l.out) p second))
  piece_hand m l second i p e =
      rw (call_tells l (lent rec room l.out) (piece_call (lent rec room l.out) m p second).left m second (rebuilt_by l.at (piece_call (lent rec room l.out) m p second).reply i) e)
      (call_turn n rec room long wide one (piece_tells l i) l.out m (piece_taken (lent_to (lent rec room l.out) m) p second) (piece_call (lent rec room l.out) m p second) _
      (λ h. piece_above (lent rec room l.out) m long wide h p second)
      (λ h. piece_own (lent rec room l.out) m long wide h p second)
      (λ q. ap (λ (k : ℕ). piece_turn l i (piece_taken (lent_to (lent rec room l.out) k) p second)) q))

  pub hand_of : (t : Handing) → Turns n rec room (meets n t) (hand_call rec room t) (own_hand (share_of rec n) (share_of_room room n) t)
  unfolding hand_call own_hand
  hand_of (hands m l second) = go (piece_in l.payload (read_at l.payload l.at)) (delivers l.payload l.at (read_at l.payload l.at))
    where
      go : (o : Option Piece) → Delivers l.payload l.at (read_at l.payload l.at) o
          → Turns n rec room (eqb m n) (tells_of (deliver_call l.payload l.at (lent rec room l.out) m second l.told)) (own_of o l second (share_of rec n) (share_of_room room n))
      go none d =
          unfold own_of in
          rw (call_tells l (lent rec room l.out) (lent rec room l.out) m second (quietly l.payload l.at (read_at l.payload l.at)) (d (lent rec room l.out) m second))
          (stays_turn n rec room long wide (eqb m n) (tells_by l (quietly l.payload l.at (read_at l.payload l.at)) l.out))
      go (some (first i k e v)) d = unfold own_of in piece_hand m l second i (first i k e v) (d (lent rec room l.out) m second ∙ unfold piece_call in refl)
      go (some (follow i k f v)) d = unfold own_of in piece_hand m l second i (follow i k f v) (d (lent rec room l.out) m second ∙ unfold piece_call in refl)
  hand_of (sweeps second) = swept_turn n rec room long wide one second sweep_tells

-- so no neighbour meets what another hands in
pub two_runs_of_deliveries : TwoRunsOfDeliveries
two_runs_of_deliveries n one = two_runs hand_call own_hand (meets n) n (λ rec room long wide t. hand_of n one rec room long wide t)
