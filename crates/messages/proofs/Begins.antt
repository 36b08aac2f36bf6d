-- A message that was rebuilt begins where the assembly buffer does. Assumes nothing.
use mathlib.Core.Path.{◌≡◌, refl, sym, ap, ◌∙◌, subst}
use mathlib.Core.Bool.{Bool, true, false, cond}
use mathlib.Core.List.{List}
use Prim.Native.Nat.{ℕ}
use native.Mathlib.Omega.{arith}
use Rattle.std.specs.Prelude.{Ok}
use lib.Dec.{eqb}
use Rattle.blocks.specs.declared.Part.{Part}
use Rattle.blocks.specs.Outcomes.{Extent, Read}
use Rattle.blocks.specs.Outcomes as End
use Rattle.reassembly.specs.declared.Reply.{Reply}
use Rattle.reassembly.specs.Calls.{Lent}
use Rattle.messages.specs.declared.Delivered.TheVariants as D
use Rattle.messages.specs.Received.{Received}
use Rattle.messages.specs.Answers.{received_as}
use Rattle.messages.specs.Delivery.{Delivery, delivery_with, nothing, whole_at, rebuilt_by, rebuilt, delivered_by, delivered_end, delivered}
use Rattle.messages.proofs.Deliveries.{by_kind, other_is}

-- what stands in the assembly buffer (`from` is 2) stands at its start
abbrev Begins : Received → Type 0
Begins r = r.from ≡ 2 → r.start ≡ 0

nothing_begins : (number place : ℕ) → Begins (nothing number place)
unfolding nothing
nothing_begins number place e = absurd (omega (arith, e))

whole_begins : (kind id expires : ℕ) (p : Part) → Begins (whole_at kind id expires p)
unfolding whole_at
whole_begins kind id expires p e = absurd (omega (arith, e))

piece_begins : (at : ℕ) (r : Reply) (id : ℕ) → Begins (rebuilt_by at r id)
unfolding rebuilt_by
piece_begins at r id = go (eqb r.number 60) (eqb r.number 0)
  where
    go : (b c : Bool) → Begins (cond b (record { number = 60; from = 2; kind = r.kind; id = id; expires = r.expires; start = 0; length = r.length }) (cond c (nothing 0 0) (nothing r.number at)))
    go true c e = refl
    go false true e = nothing_begins 0 0 e
    go false false e = nothing_begins r.number at e

module _ (s : List ℕ) (at : ℕ) (x : Lent) (n second : ℕ) where
  block_begins : (kind : ℕ) (f : List ℕ) (p : Part) → Begins (delivered_by s at x n second kind f p).received
  unfolding delivered_by rebuilt
  block_begins kind f p =
      by_kind (λ k. Begins (delivered_by s at x n second k f p).received)
      (λ e. whole_begins _ _ _ p e)
      (λ e. piece_begins at _ _ e)
      (λ e. piece_begins at _ _ e)
      (λ k h. subst (λ (d : Delivery). Begins d.received) (sym (other_is s at x n second k f p h)) (nothing_begins 0 0))
      kind

  delivery_begins : (r : Read) → Begins (delivered s at x n second r).received
  unfolding delivered
  delivery_begins r = go r.extent
    where
      go : (e : Extent) → Begins (delivered_end s at x n second e r.fields r.bytes).received
      go (End.Ends kind size next) = block_begins kind r.fields r.bytes
      go (End.Refused number place) = nothing_begins number place

  -- by the promise of receive: the part that it answers of a rebuilt message begins at 0
  pub rebuilt_begins : (kind id expires : ℕ) (p : Part) (r : Read) (left : Lent) → delivery_with (received_as (Ok (D.Rebuilt kind id expires p))) left ≡ delivered s at x n second r → p.start ≡ 0
  rebuilt_begins kind id expires p r left e =
      let i : received_as (Ok (D.Rebuilt kind id expires p)) ≡ (delivered s at x n second r).received = ap (λ (d : Delivery). d.received) e in
      ap (λ (z : Received). z.start) i ∙ delivery_begins r (ap (λ (z : Received). z.from) (sym i))
