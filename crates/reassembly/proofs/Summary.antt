-- The summary in a share: what is read there after it was put, and what leaves it as it was. Assumes nothing.
use mathlib.Core.Path.{◌≡◌, sym, ap, ◌∙◌}
use mathlib.Core.List.{List, [], ◌∷◌}
use Prim.Native.Nat.{ℕ, ◌≤◌}
use native.Mathlib.Omega.{arith}
use lib.ListN.{length, get_or, set, drop}
use lib.Seq.{drop-drop, get_or-drop, get_or-set_same}
use Rattle.wire.proofs.Parts.{drop_after, stores_splice}
use Rattle.reassembly.specs.Sizes.{open_at, ids_at, share_size}
use Rattle.reassembly.specs.Remembered.{memory_of}
use Rattle.reassembly.specs.Summary.{open_count, with_open}
use Rattle.reassembly.proofs.Fronts.{Behind, behind_splice, front_byte}
use Rattle.reassembly.proofs.Remembered.{memory_behind}

-- a number put there is read there, and nothing else changes
module _ (rec : List ℕ) (n : ℕ) (long : share_size ≤ length rec) where
  pub open_put : with_open rec n ≡ set rec open_at n
  unfolding with_open
  open_put = sym (stores_splice rec open_at n [] (omega arith))

  pub open_same : open_count (with_open rec n) ≡ n
  unfolding open_count
  open_same = ap (λ (z : List ℕ). get_or z open_at 0) open_put ∙ get_or-set_same rec open_at n 0 (omega arith)

  pub open_behind : Behind open_at rec (with_open rec n)
  unfolding with_open
  open_behind = behind_splice open_at rec open_at (n ∷ []) (omega arith) (omega arith)

  pub open_drop : drop ids_at (with_open rec n) ≡ drop ids_at rec
  unfolding with_open
  open_drop = drop_after rec open_at (n ∷ []) (omega arith) ids_at (omega arith)

  pub open_memory : memory_of (with_open rec n) ≡ memory_of rec
  open_memory = memory_behind rec (with_open rec n) open_drop

-- what is written before it leaves it, and the memory behind it
module _ (rec rec' : List ℕ) (same : drop open_at rec' ≡ drop open_at rec) where
  pub before_open : open_count rec' ≡ open_count rec
  unfolding open_count
  before_open = sym (get_or-drop open_at rec' 0 0) ∙ ap (λ (z : List ℕ). get_or z 0 0) same ∙ get_or-drop open_at rec 0 0

  pub before_memory : drop ids_at rec' ≡ drop ids_at rec
  before_memory = sym (drop-drop 1 open_at rec') ∙ ap (drop 1) same ∙ drop-drop 1 open_at rec

-- what is written to the memory leaves it
pub after_open : (rec rec' : List ℕ) → Behind ids_at rec rec' → open_count rec' ≡ open_count rec
unfolding open_count
after_open rec rec' b = front_byte ids_at rec rec' b open_at (omega arith)
