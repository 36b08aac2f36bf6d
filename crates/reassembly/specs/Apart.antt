-- The ids of a store that calls made: none is open twice, or open and remembered, or remembered twice.
use Rattle.std.specs.Prelude.{◌≡◌, false, [], ◌∷◌, ℕ, ◌≤◌, length, get_or}
use Rattle.std.proofs.Math.Option.{none, some}
use Rattle.reassembly.specs.Memory.{Memory, remembers}
use Rattle.reassembly.specs.Store.{Message, Store}

-- no id is remembered twice
abbrev pub Distinct : Memory → Type 0
Distinct [] = Unit {0}
Distinct (f ∷ fs) = (remembers fs f.id ≡ false) × Distinct fs

-- The ids of a store are apart: no two slots hold one id, no open id is remembered, none is remembered twice; and no more are remembered than may be.
pub record Apart (keep : ℕ) (s : Store) : Type 0 where
  pub open_once : (k l : ℕ) (m n : Message) → get_or s.slots k none ≡ some m → get_or s.slots l none ≡ some n → m.id ≡ n.id → k ≡ l
  pub open_alone : (k : ℕ) (m : Message) → get_or s.slots k none ≡ some m → remembers s.remembered m.id ≡ false
  pub distinct : Distinct s.remembered
  pub at_most : length s.remembered ≤ keep
