-- What a refusal leaves of a header by numbers. Assumes nothing.
use mathlib.Core.Path.{◌≡◌, refl}
use mathlib.Core.List.{List}
use Prim.Native.Nat.{ℕ}
use Rattle.std.specs.Prelude.{Result, Ok, Err}
use Rattle.header.specs.declared.HeaderKind.{HeaderKind}
use Rattle.numbers.specs.Headers.{answer_number, answer_numbers}

pub header_stays : (a : Result HeaderKind ℕ) (out : List ℕ) → (answer_number a ≡ 0 → ⊥) → answer_numbers a out ≡ out
header_stays (Ok k) out h = absurd (h refl)
header_stays (Err n) out h = refl
