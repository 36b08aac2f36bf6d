-- A turn does to a neighbour's share what it does to that share alone, or nothing; and keeps what calls made. Assumes nothing.
use mathlib.Core.Path.{◌≡◌, refl, ap}
use mathlib.Core.Bool.{Bool, true, false}
use mathlib.Core.List.{List, [], ◌∷◌}
use Prim.Native.Nat.{ℕ, ◌≤◌, ◌<◌}
use native.Mathlib.Omega.{arith}
use lib.ListN.{length}
use Rattle.reassembly.specs.Sizes.{room_size, most_remembered, record_size}
use Rattle.reassembly.specs.declared.Label.{Label}
use Rattle.reassembly.specs.Store.{Piece, first, follow, step}
use Rattle.reassembly.specs.Calls.{Lent, lent, After, bare, refuses, first_taken, follow_on_taken, share_swept}
use Rattle.reassembly.specs.Shares.{share_of, share_of_room, lent_to}
use Rattle.reassembly.specs.Turns.{Turned, turned}
use Rattle.reassembly.specs.Stands.{stands, Made, label_of, Agrees}
use Rattle.reassembly.specs.Standing.{AllMade}
use Rattle.reassembly.proofs.Steps.{PieceInWidth}
use Rattle.reassembly.proofs.Taken.{first_agrees, follow_agrees}
use Rattle.reassembly.proofs.Swept as Swept
use Rattle.reassembly.proofs.Own.{Own, first_above, follow_above}
use Rattle.reassembly.proofs.OwnShare.{first_label_lem, own_first, own_follow}
use Rattle.reassembly.proofs.Alone.{Turns, call_turn, swept_turn}
use Rattle.promises.specs.StoreTurns.{piece_call, Turn, sends, sweeps, Heard, heard_of, turn_call, meets, last_rec, last_room, AllInWidth}

-- a piece comes to a share
unfoldable pub piece_taken : Lent → Piece → ℕ → After
piece_taken x (first id kind expires bytes) second = first_taken x (label_of (first id kind expires bytes)) second bytes
piece_taken x (follow id number final bytes) second = follow_on_taken x (label_of (follow id number final bytes)) second bytes

-- what it does there is what the share's store does
pub piece_agrees : (s m out : List ℕ) → Made s m → (p : Piece) (second : ℕ) → PieceInWidth p second → Agrees out (piece_taken (lent s m out) p second) (step most_remembered (length out) (stands s m) p second)
unfolding piece_taken
piece_agrees s m out h (first id kind expires bytes) second f = first_agrees s m out h second id kind expires bytes f
piece_agrees s m out h (follow id number final bytes) second f = follow_agrees s m out h second id number final bytes f

-- its neighbour's call does that to the neighbour's share, and nothing to the others
module _ (x : Lent) (n : ℕ) (long : record_size ≤ length x.rec) (wide : room_size ≤ length x.room) where
  pub piece_own : n ≤ 3 → (p : Piece) (second : ℕ) → Own x n (piece_taken (lent_to x n) p second) (piece_call x n p second)
  unfolding piece_taken piece_call
  piece_own h (first id kind expires bytes) second =
      let z : (label_of (first id kind expires bytes)).number ≡ 0 = ap (λ (l : Label). l.number) (first_label_lem id kind expires bytes) in
      own_first x n long wide h (label_of (first id kind expires bytes)) second bytes (omega arith)
  piece_own h (follow id number final bytes) second = own_follow x n long wide h (label_of (follow id number final bytes)) second bytes

  -- above 3 it is 58, and all stays
  pub piece_above : 3 < n → (p : Piece) (second : ℕ) → piece_call x n p second ≡ refuses 58 x
  unfolding piece_call
  piece_above h (first id kind expires bytes) second = first_above x n long wide h (label_of (first id kind expires bytes)) second bytes
  piece_above h (follow id number final bytes) second = follow_above x n long wide h (label_of (follow id number final bytes)) second bytes

-- a turn, on a share that it meets
unfoldable pub own_turn : List ℕ → List ℕ → Turn → Turned Heard
own_turn s m (sends n out p second) = heard_of (piece_taken (lent s m out) p second)
own_turn s m (sweeps second) = turned (record { reply = bare 0; out = [] }) (share_swept second s) m

pub turn_of : (n : ℕ) → n < 4 → (rec room : List ℕ) → record_size ≤ length rec → room_size ≤ length room
    → (t : Turn) → Turns n rec room (meets n t) (turn_call rec room t) (own_turn (share_of rec n) (share_of_room room n) t)
unfolding turn_call own_turn
turn_of n one rec room long wide (sends m out p second) =
    call_turn n rec room long wide one (λ r o. record { reply = r; out = o }) out m (piece_taken (lent_to (lent rec room out) m) p second) (piece_call (lent rec room out) m p second) _
    (λ h. piece_above (lent rec room out) m long wide h p second)
    (λ h. piece_own (lent rec room out) m long wide h p second)
    (λ q. ap (λ (k : ℕ). heard_of (piece_taken (lent_to (lent rec room out) k) p second)) q)
turn_of n one rec room long wide (sweeps second) = swept_turn n rec room long wide one second (record { reply = bare 0; out = [] })

-- ---- what calls made, they keep

-- a turn's piece in the width of the calls' parameters
abbrev pub TurnInWidth : Turn → Type 0
TurnInWidth (sends n out p second) = PieceInWidth p second
TurnInWidth (sweeps second) = Unit

pub own_keeps : (s m : List ℕ) → Made s m → (t : Turn) → TurnInWidth t → Made (own_turn s m t).rec (own_turn s m t).room
unfolding own_turn
own_keeps s m h (sends n out p second) w = (piece_agrees s m out h p second w).made
own_keeps s m h (sweeps second) w = Swept.share_swept_made second s m h

turn_keeps : (rec room : List ℕ) → AllMade rec room → (t : Turn) → TurnInWidth t → AllMade (turn_call rec room t).rec (turn_call rec room t).room
turn_keeps rec room h t w =
    record {
      record_long = (turn_of 0 (omega arith) rec room h.record_long h.room_long t).rec_long;
      room_long = (turn_of 0 (omega arith) rec room h.record_long h.room_long t).room_long;
      shares = λ n one. go n one (turn_of n one rec room h.record_long h.room_long t) (meets n t) refl;
    }
  where
    go : (n : ℕ) → n < 4 → Turns n rec room (meets n t) (turn_call rec room t) (own_turn (share_of rec n) (share_of_room room n) t) → (b : Bool) → meets n t ≡ b
        → Made (share_of (turn_call rec room t).rec n) (share_of_room (turn_call rec room t).room n)
    go n one v true e = rw ((v.met e).1, (v.met e).2) (own_keeps (share_of rec n) (share_of_room room n) (h.shares n one) t w)
    go n one v false e = rw ((v.unmet e).0, (v.unmet e).1) (h.shares n one)

pub turns_keep : (turns : List Turn) (rec room : List ℕ) → AllMade rec room → AllInWidth turns → AllMade (last_rec rec room turns) (last_room rec room turns)
turns_keep [] rec room h w = h
turns_keep (sends n out p second ∷ turns) rec room h w =
    turns_keep turns _ _ (turn_keeps rec room h (sends n out p second) (record { id = w.0.0; expires = w.0.1; second_fits = w.0.2 })) w.1
turns_keep (sweeps second ∷ turns) rec room h w = turns_keep turns _ _ (turn_keeps rec room h (sweeps second) tt) w
