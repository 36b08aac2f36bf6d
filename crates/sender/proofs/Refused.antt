-- What a refusal leaves, and which numbers it has: on every record. Assumes nothing.
use mathlib.Core.Path.{◌≡◌, refl}
use mathlib.Core.Bool.{Bool, true, false, not, cond}
use mathlib.Core.Logic.{inl, inr}
use mathlib.Core.List.{List, [], ◌∷◌}
use Prim.Native.Nat.{ℕ}
use native.Mathlib.Omega.{arith}
use lib.Dec.{leb, ltb}
use lib.ListN.{length, replicate}
use types.Run.{OneOf}
use borrow.Author.Tests.{ne_eqb, le-ltb}
use Rattle.wire.specs.Parts.{splice}
use Rattle.acks.specs.History.{among}
use Rattle.acks.specs.Expanding.{ack_numbers, goes_below}
use Rattle.sender.specs.Sizes.{most_outstanding, last_number, sender_size}
use Rattle.sender.specs.Sender.{Call, send, resend, ack, numbers_of, any_outside, call_answer, answer_by, refusals_of}
use Rattle.sender.specs.Recorded.{sender_short, outstanding_count, sender_at, lent_answer, new_sender_record, answer_there, given_there, sender_after, settled_there, outstanding_there, packet_row, packet_at, packet_numbers}

-- a refused call: the record stays, no number is given out, none is settled
pub call_leaves : (r : List ℕ) (c : Call) → (answer_there r c ≡ 0 → ⊥) → (sender_after r c ≡ r) × (given_there r c ≡ 0) × (settled_there r c ≡ [])
unfolding sender_after given_there settled_there
call_leaves r c ne =
    let e = ne_eqb (answer_there r c) 0 ne in
    (rw e refl, rw e refl, rw e refl)

-- its number
three : (short a b : Bool) (k x y : ℕ) → (cond short k (cond a x (cond b y 0)) ≡ 0 → ⊥) → OneOf (k ∷ x ∷ y ∷ []) (cond short k (cond a x (cond b y 0)))
three true a b k x y h = inl refl
three false true b k x y h = inr (inl refl)
three false false true k x y h = inr (inr refl)
three false false false k x y h = absurd (h refl)

pub call_numbers : (r : List ℕ) (c : Call) → (answer_there r c ≡ 0 → ⊥) → OneOf (refusals_of c) (answer_there r c)
unfolding answer_there answer_by call_answer
call_numbers r (send second) =
    three (sender_short r) (leb last_number (sender_at r).highest) (leb most_outstanding (length (numbers_of (sender_at r).packets))) 59 71 70
call_numbers r (resend n second) =
    three (sender_short r) (not (among (numbers_of (sender_at r).packets) n)) (leb last_number (sender_at r).highest) 59 73 71
call_numbers r (ack through count pairs) =
    three (sender_short r) (goes_below through count pairs) (any_outside (λ n. leb n (sender_at r).highest) (ack_numbers through count pairs)) 59 44 72

-- a new sender, and one read out: 59, and what is lent stays
pub new_stays : (r : List ℕ) → (lent_answer r ≡ 0 → ⊥) → (lent_answer r ≡ 59) × (new_sender_record r ≡ r)
unfolding lent_answer new_sender_record
new_stays r = go (sender_short r)
  where
    go : (b : Bool) → (◌≡◌ {A = ℕ} (cond b 59 0) 0 → ⊥) → ◌≡◌ {A = ℕ} (cond b 59 0) 59 × (cond b r (splice r 0 (replicate sender_size 0)) ≡ r)
    go true h = (refl, refl)
    go false h = absurd (h refl)

pub row_stays : (r : List ℕ) (k : ℕ) (out : List ℕ) → (lent_answer r ≡ 0 → ⊥) → packet_numbers r k out ≡ out
unfolding lent_answer packet_numbers outstanding_there
row_stays r k out = go (sender_short r)
  where
    go : (b : Bool) → (◌≡◌ {A = ℕ} (cond b 59 0) 0 → ⊥) → cond (ltb k (cond b 0 (outstanding_count r))) (packet_row (packet_at r k)) out ≡ out
    go true h = rw (le-ltb k 0 (omega arith)) refl
    go false h = absurd (h refl)
