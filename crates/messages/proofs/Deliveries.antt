-- What a block delivers, by its type: three types, and all others. Assumes nothing.
use mathlib.Core.Path.{◌≡◌, refl, sym, subst}
use mathlib.Core.Bool.{Bool, true, false}
use mathlib.Core.List.{List}
use Prim.Native.Nat.{ℕ}
use lib.Dec.{eqb}
use borrow.Author.Tests.{eqb-true}
use Rattle.blocks.specs.declared.Part.{Part}
use Rattle.reassembly.specs.Calls.{Lent}
use Rattle.messages.specs.Delivery.{delivery_with, nothing, delivered_by}

-- a type that holds no message
abbrev pub Other : ℕ → Type 0
Other kind = (eqb kind 3 ≡ false) × (eqb kind 4 ≡ false) × (eqb kind 5 ≡ false)

-- what holds of the three and of all others holds of every type
pub by_kind : (P : ℕ → Type 0) → P 3 → P 4 → P 5 → ((kind : ℕ) → Other kind → P kind) → (kind : ℕ) → P kind
by_kind P whole first follow other kind = go (eqb kind 3) refl (eqb kind 4) refl (eqb kind 5) refl
  where
    go : (a : Bool) → eqb kind 3 ≡ a → (b : Bool) → eqb kind 4 ≡ b → (c : Bool) → eqb kind 5 ≡ c → P kind
    go true e b f c g = subst P (sym (eqb-true kind 3 e)) whole
    go false e true f c g = subst P (sym (eqb-true kind 4 f)) first
    go false e false f true g = subst P (sym (eqb-true kind 5 g)) follow
    go false e false f false g = other kind (e, f, g)

pub other_is : (s : List ℕ) (at : ℕ) (x : Lent) (n second kind : ℕ) (f : List ℕ) (p : Part) → Other kind → delivered_by s at x n second kind f p ≡ delivery_with (nothing 0 0) x
unfolding delivered_by
other_is s at x n second kind f p h = rw (h.0, h.1, h.2) refl
