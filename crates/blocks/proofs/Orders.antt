-- Which refusal of reading is given where two hold. Assumes nothing.
use Rattle.std.specs.Prelude.{Err}
use mathlib.Core.Path.{◌≡◌}
use mathlib.Core.Bool.{false}
use mathlib.Core.List.{List}
use Prim.Native.Nat.{ℕ, ◌-◌, ◌<◌, ◌≤◌}
use lib.ListN.{length, get_or}
use borrow.Author.Tests.{lt-ltb, le-ltb}
use Rattle.blocks.specs.Extent.{is_i2np_type, i2np, first_fragment}

-- an I2NP size below 9 is 9, however few bytes are left
pub size_first : (s : List ℕ) (body size : ℕ) → size < 9 → i2np s body size ≡ Err 9
unfolding i2np
size_first s body size h = rw (lt-ltb size 9 h)

-- fields that are not there are 1, whatever stands for the message's type
pub fields_second : (s : List ℕ) (body size : ℕ) → 9 ≤ size → length s - body < 9 → i2np s body size ≡ Err 1
unfolding i2np
fields_second s body size h k = rw (le-ltb size 9 h, lt-ltb (length s - body) 9 k)

-- a message's type that is not listed is 3, whether or not its bytes are there
pub type_third : (s : List ℕ) (body size : ℕ) → 9 ≤ size → 9 ≤ length s - body → is_i2np_type (get_or s body 0) ≡ false → i2np s body size ≡ Err 3
unfolding i2np
type_third s body size h k e = rw (le-ltb size 9 h, le-ltb (length s - body) 9 k, e)

-- a first fragment's type that is not listed is 3, whatever its size and whether or not its bytes are there
pub type_first : (s : List ℕ) (body size : ℕ) → 9 ≤ length s - body → is_i2np_type (get_or s body 0) ≡ false → first_fragment s body size ≡ Err 3
unfolding first_fragment
type_first s body size k e = rw (le-ltb (length s - body) 9 k, e)
