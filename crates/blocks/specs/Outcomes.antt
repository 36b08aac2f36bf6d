-- What comes of a block: where it ends, or what reading it gives; or a refusal by its number.
use Rattle.std.specs.Prelude.{List, ℕ, Result, Ok, Err}
use Rattle.refusals.specs.Numbers.{number}
use Rattle.blocks.specs.declared.Part.{Part}
use Rattle.blocks.specs.declared.End.{End}
use Rattle.blocks.specs.declared.RefusedAt.{RefusedAt}

-- where a block ends: its type, its size field as it stands and the place after it; or a refusal's number, at the block's type byte
pub data Extent : Type 0 where
  Ends : ℕ → ℕ → ℕ → Extent
  Refused : ℕ → ℕ → Extent

-- what reading a block gives: where it ends, or its refusal; its fields in 01's order, 0 where a type has fewer than eight; the bytes after them
pub record Read : Type 0 where
  pub extent : Extent
  pub fields : List ℕ
  pub bytes : Part

-- what the code answers of a block's end
abbrev pub extent_as : Result End RefusedAt → Extent
extent_as (Ok e) = Ends e.kind e.size e.next
extent_as (Err r) = Refused (number r.refusal) r.place
