-- A reading has the extent of its block, and its fields fit. Assumes nothing.
use mathlib.Core.Path.{◌≡◌, refl, sym, ap, ◌∙◌}
use mathlib.Core.Bool.{true}
use mathlib.Core.List.{List}
use Prim.Native.Nat.{ℕ, ◌+◌}
use native.Mathlib.Omega.{arith}
use Rattle.wire.specs.Numbers.{Bytes}
use Rattle.blocks.specs.Outcomes.{Extent}
use Rattle.blocks.specs.Outcomes as End
use Rattle.blocks.specs.Layout.{fields_at, fits, eight}
use Rattle.blocks.specs.Table.{widths, field_length}
use Rattle.blocks.specs.Extent.{extent_at}
use Rattle.blocks.specs.Reading.{reading, read_at}
use Rattle.blocks.proofs.Laws.{length_fields, eight_fits, fields_fit}
use Rattle.blocks.proofs.Ends.{bounded}

pub read_extent : (s : List ℕ) (at : ℕ) → (read_at s at).extent ≡ extent_at s at
unfolding read_at
read_extent s at = go (extent_at s at)
  where
    go : (x : Extent) → (reading s at x).extent ≡ x
    go (End.Ends kind size next) = refl
    go (End.Refused number place) = refl

-- what stands in the fields of a block that ends
pub fields_fit_there : (s : List ℕ) (at kind size next : ℕ) → Bytes s → extent_at s at ≡ End.Ends kind size next → fits (widths kind) (eight (fields_at (widths kind) s (at + 3))) ≡ true
unfolding field_length
fields_fit_there s at kind size next b e =
    let d = bounded s at kind size next e in
    eight_fits (widths kind) (fields_at (widths kind) s (at + 3)) (omega (arith, length_fields (widths kind) s (at + 3)))
    ∙ fields_fit (widths kind) s (at + 3) b (omega (arith, d.fields, d.inside))

-- and so what was read of it
pub read_fits : (s : List ℕ) (at kind size next : ℕ) → Bytes s → (read_at s at).extent ≡ End.Ends kind size next → fits (widths kind) (read_at s at).fields ≡ true
unfolding read_at
read_fits s at kind size next b e =
    let x = sym (read_extent s at) ∙ e in
    ap (λ (z : Extent). fits (widths kind) (reading s at z).fields) x ∙ fields_fit_there s at kind size next b x
