-- Laws of one number more: handed to a tracker, noted as received, at the end of a history. Assumes nothing.
use mathlib.Core.Path.{◌≡◌, refl}
use mathlib.Core.Bool.{Bool, true, false, cond, ◌||◌}
use mathlib.Core.List.{List, [], ◌∷◌, ◌++◌}
use Prim.Native.Nat.{ℕ, ◌^◌, ◌≤◌, ◌<◌, max}
use native.Mathlib.Omega.{arith}
use lib.Dec.{eqb}
use borrow.Author.Tests.{ne_eqb}
use Rattle.acks.specs.History.{Packets, answer_to, highest_of, among, receive, noted}
use Rattle.acks.specs.Tracking.{register_of, register_all}
use Rattle.acks.specs.declared.Tracker.{Tracker}
use Rattle.acks.proofs.Tracks.{highest_receive}

-- ---- received: registered with answer 0, or 0 itself
pub received_new : (l : List ℕ) (k n : ℕ) → 0 < n → among (receive l k) n ≡ (eqb n k || among l n)
unfolding receive among
received_new [] k n h = rw (ne_eqb n 0 (λ e. omega arith))
received_new (x ∷ l) k n h = refl

pub highest_noted : (l : List ℕ) (n : ℕ) → (highest_of l ≤ highest_of (noted l n)) × (highest_of (noted l n) ≤ max (highest_of l) n)
unfolding noted
highest_noted l n = go (eqb (answer_to (highest_of l) (among l) n) 0)
  where
    go : (b : Bool) → (highest_of l ≤ highest_of (cond b (receive l n) l)) × (highest_of (cond b (receive l n) l) ≤ max (highest_of l) n)
    go true = let e = highest_receive l n in (omega arith, omega arith)
    go false = (omega arith, omega arith)

-- ---- one more call at the end of a history
pub register_last : (t : Tracker) (calls : List ℕ) (n : ℕ) → register_all t (calls ++ (n ∷ [])) ≡ (register_of (register_all t calls) n).tracker
unfolding register_all
register_last t [] n = refl
register_last t (k ∷ calls) n = register_last (register_of t k).tracker calls n

pub packets_last : (calls : List ℕ) (n : ℕ) → Packets calls → n < 256 ^ 4 → Packets (calls ++ (n ∷ []))
packets_last [] n p h = (h, tt)
packets_last (k ∷ calls) n p h = (p.0, packets_last calls n p.1 h)
