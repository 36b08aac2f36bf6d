-- Laws of a delivery by numbers. Assumes nothing.
use mathlib.Core.Path.{◌≡◌, refl, ap, ◌∙◌}
use mathlib.Core.List.{List, [], ◌∷◌}
use Prim.Native.Nat.{ℕ}
use borrow.Author.Tests.{ne_eqb}
use Rattle.reassembly.specs.Calls.{Lent}
use Rattle.messages.specs.Received.{Received}
use Rattle.messages.specs.Delivery.{Delivery, delivery_with}
use Rattle.numbers_outcomes.specs.declared.Outcome.{Outcome}
use Rattle.numbers_outcomes.specs.Outcomes.{outcome}
use Rattle.numbers_outcomes.specs.Deliveries.{delivery_outcome, delivery_numbers, delivered_at, told_with, told_by, deliver_call}

-- the call, from what was received, what is told of it, and what is left
pub call_told : (s : List ℕ) (at : ℕ) (x y : Lent) (n second : ℕ) (told told' : List ℕ) (r : Received) (o : Outcome)
    → delivery_with r y ≡ delivered_at s at x n second → o ≡ delivery_outcome r → told' ≡ delivery_numbers r told
    → told_with o told' y ≡ deliver_call s at x n second told
unfolding deliver_call
call_told s at x y n second told told' r o e eo et =
    (λ i. told_with (eo i) (et i) y) ∙ ap (λ (d : Delivery). told_by d told) e

-- a number, a place and no message: kept, or refused at the place
abbrev empty_handed : ℕ → ℕ → Received
empty_handed n p = record { number = n; from = 0; kind = 0; id = 0; expires = 0; start = p; length = 0 }

module _ (told : List ℕ) where
  pub told_kept : (delivery_outcome (empty_handed 0 0) ≡ outcome 0 0) × (delivery_numbers (empty_handed 0 0) told ≡ 0 ∷ 0 ∷ 0 ∷ 0 ∷ 0 ∷ 0 ∷ [])
  unfolding delivery_outcome delivery_numbers
  told_kept = (refl, refl)

  pub told_refused : (n p : ℕ) → (n ≡ 0 → ⊥) → (n ≡ 60 → ⊥) → (delivery_outcome (empty_handed n p) ≡ outcome n p) × (delivery_numbers (empty_handed n p) told ≡ told)
  unfolding delivery_outcome delivery_numbers
  told_refused n p kept done = (rw (ne_eqb n 0 kept, ne_eqb n 60 done) refl, rw (ne_eqb n 0 kept, ne_eqb n 60 done) refl)

  -- a rebuilt message
  pub told_finished :
      (kind id expires start length : ℕ)
      → (delivery_outcome (record { number = 60; from = 2; kind = kind; id = id; expires = expires; start = start; length = length }) ≡ outcome 60 0)
      × (delivery_numbers (record { number = 60; from = 2; kind = kind; id = id; expires = expires; start = start; length = length }) told ≡ 2 ∷ kind ∷ id ∷ expires ∷ start ∷ length ∷ [])
  unfolding delivery_outcome delivery_numbers
  told_finished kind id expires start length = (refl, refl)
