-- A piece's call does on record, room and assembly buffer what the store of four neighbours does: what the calls of reassembly_store promise, from the equations
-- that they state. Assumes nothing.
use mathlib.Core.Path.{◌≡◌, refl, sym, subst}
use mathlib.Core.Bool.{Bool, true, false}
use mathlib.Core.List.{List}
use Prim.Native.Nat.{ℕ, ◌≤◌, ◌<◌}
use native.Mathlib.Omega.{arith}
use lib.Dec.{ltb}
use lib.ListN.{length}
use borrow.Author.Tests.{ltb-true, ltb-false}
use Rattle.reassembly.specs.Sizes.{share_room, most_remembered, share_size}
use Rattle.reassembly.specs.Store.{Piece, first, follow, step}
use Rattle.reassembly.specs.Neighbours.{step_from}
use Rattle.reassembly.specs.Calls.{Lent, lent, After, first_taken, follow_on_taken}
use Rattle.reassembly.specs.Shares.{share_of, share_of_room, lent_to, from_neighbour, first_call, follow_on_call}
use Rattle.reassembly.specs.Stands.{stands, Made, label_of, Agrees}
use Rattle.reassembly.specs.Standing.{store_at, neighbours_of, AllMade, AllAgree}
use Rattle.reassembly.proofs.Counts.{step_open}
use Rattle.reassembly.proofs.Steps.{PieceInWidth}
use Rattle.reassembly.proofs.Taken.{first_agrees, follow_agrees}
use Rattle.reassembly.proofs.Shares.{share_length, room_length}
use Rattle.reassembly.proofs.Own.{AsLong}
use Rattle.reassembly.proofs.Lengths.{first_keeps, follow_keeps}
use Rattle.reassembly.proofs.Lifted.{lifted, lifted_58}

-- f does on a share what the share's store answers to a piece
abbrev AgreesOn : Piece → ℕ → (Lent → After) → Type 0
AgreesOn p second f = (s m out : List ℕ) → Made s m → Agrees out (f (lent s m out)) (step most_remembered (length out) (stands s m) p second)

-- and keeps its lengths
abbrev KeepsOn : (Lent → After) → Type 0
KeepsOn f = (s m out : List ℕ) → share_size ≡ length s → share_room ≡ length m → AsLong (f (lent s m out))

-- then so does the call, whatever neighbour it is
lifted_call : (p : Piece) (second : ℕ) (f : Lent → After) → AgreesOn p second f → KeepsOn f → (rec room out : List ℕ) → AllMade rec room → (n : ℕ)
    → AllAgree out (from_neighbour (lent rec room out) n (f (lent_to (lent rec room out) n))) (step_from (length out) (neighbours_of rec room) n p second)
unfolding store_at
lifted_call p second f agrees keeps rec room out made n = go (ltb 3 n) refl
  where
    go : (b : Bool) → ltb 3 n ≡ b → AllAgree out (from_neighbour (lent rec room out) n (f (lent_to (lent rec room out) n))) (step_from (length out) (neighbours_of rec room) n p second)
    go true e = lifted_58 rec room out made n (ltb-true 3 n e) p second (f (lent_to (lent rec room out) n))
    go false e =
        let h : n ≤ 3 = ltb-false 3 n e in
        let k : AsLong (f (lent_to (lent rec room out) n)) =
        keeps (share_of rec n) (share_of_room room n) out (sym (share_length rec n made.record_long (omega arith))) (sym (room_length room n made.room_long (omega arith)))
        in
        lifted rec room out made n h p second (f (lent_to (lent rec room out) n)) k.0 k.1 (agrees (share_of rec n) (share_of_room room n) out (made.shares n (omega arith)))
        (step_open most_remembered (length out) (stands (share_of rec n) (share_of_room room n)) p second)

module _ (rec room out : List ℕ) (made : AllMade rec room) (n second : ℕ) where
  pub all_first : (id kind expires : ℕ) (bytes : List ℕ) → PieceInWidth (first id kind expires bytes) second
      → AllAgree out (first_call (lent rec room out) n (label_of (first id kind expires bytes)) second bytes) (step_from (length out) (neighbours_of rec room) n (first id kind expires bytes) second)
  unfolding first_call label_of
  all_first id kind expires bytes fit =
      lifted_call (first id kind expires bytes) second (λ x. first_taken x (label_of (first id kind expires bytes)) second bytes)
      (λ s m o g. first_agrees s m o g second id kind expires bytes fit)
      (λ s m o a b. first_keeps (lent s m o) a b (label_of (first id kind expires bytes)) second bytes (omega arith)) rec room out made n

  pub all_follow : (id number : ℕ) (final : Bool) (bytes : List ℕ) → PieceInWidth (follow id number final bytes) second
      → AllAgree out (follow_on_call (lent rec room out) n (label_of (follow id number final bytes)) second bytes) (step_from (length out) (neighbours_of rec room) n (follow id number final bytes) second)
  unfolding follow_on_call
  all_follow id number final bytes fit =
      lifted_call (follow id number final bytes) second (λ x. follow_on_taken x (label_of (follow id number final bytes)) second bytes)
      (λ s m o g. follow_agrees s m o g second id number final bytes fit)
      (λ s m o a b. follow_keeps (lent s m o) a b (label_of (follow id number final bytes)) second bytes) rec room out made n

pub first_promise : (rec room out : List ℕ) (n id kind expires second : ℕ) (bytes : List ℕ) (x : After) → id < 4294967296 → expires < 4294967296 → second < 18446744073709551616
    → x ≡ first_call (lent rec room out) n (record { id = id; number = 0; last = false; kind = kind; expires = expires }) second bytes
    → AllMade rec room → AllAgree out x (step_from (length out) (neighbours_of rec room) n (first id kind expires bytes) second)
unfolding label_of
first_promise rec room out n id kind expires second bytes x hi hx hs e made =
    subst (λ (y : After). AllAgree out y (step_from (length out) (neighbours_of rec room) n (first id kind expires bytes) second)) (sym e)
    (all_first rec room out made n second id kind expires bytes (record { id = hi; expires = hx; second_fits = hs }))

pub follow_promise : (rec room out : List ℕ) (n id number : ℕ) (final : Bool) (second : ℕ) (bytes : List ℕ) (x : After) → id < 4294967296 → second < 18446744073709551616
    → x ≡ follow_on_call (lent rec room out) n (record { id = id; number = number; last = final; kind = 0; expires = 0 }) second bytes
    → AllMade rec room → AllAgree out x (step_from (length out) (neighbours_of rec room) n (follow id number final bytes) second)
unfolding label_of
follow_promise rec room out n id number final second bytes x hi hs e made =
    subst (λ (y : After). AllAgree out y (step_from (length out) (neighbours_of rec room) n (follow id number final bytes) second)) (sym e)
    (all_follow rec room out made n second id number final bytes (record { id = hi; expires = omega arith; second_fits = hs }))
