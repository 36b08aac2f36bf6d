-- What the store's answer to a piece delivers, answer by answer. Assumes nothing.
use mathlib.Core.Path.{◌≡◌, refl}
use Prim.Native.Nat.{ℕ}
use Rattle.std.specs.Prelude.{Ok, Err}
use Rattle.refusals.specs.declared.Refusal.{Refusal}
use Rattle.refusals.specs.Numbers.{number}
use Rattle.reassembly.specs.declared.Arrival.TheVariants as A
use Rattle.reassembly.specs.Arrivals.{reply_of}
use Rattle.reassembly.proofs.Arrivals.{kept_number, refused_number, refuses_by}
use Rattle.messages.specs.Received.{Received}
use Rattle.messages.specs.Delivery.{nothing, rebuilt_by}

pub by_kept : (at id : ℕ) → nothing 0 0 ≡ rebuilt_by at (reply_of (Ok A.Kept)) id
unfolding rebuilt_by
by_kept at id = rw kept_number refl

pub by_finished : (at id kind expires length : ℕ)
    → ◌≡◌ {A = Received} (record { number = 60; from = 2; kind = kind; id = id; expires = expires; start = 0; length = length }) (rebuilt_by at (reply_of (Ok (A.Finished kind expires length))) id)
unfolding rebuilt_by
by_finished at id kind expires length = refl

pub by_refusal : (at id : ℕ) (r : Refusal) → nothing (number r) at ≡ rebuilt_by at (reply_of (Err r)) id
unfolding rebuilt_by
by_refusal at id r = rw (refused_number r, (refuses_by r).0, (refuses_by r).1) refl
