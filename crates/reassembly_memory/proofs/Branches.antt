-- Each branch and each loop's turn and end, from what the calls and tests on the way say. Assumes nothing.
use mathlib.Core.Path.{◌≡◌, sym, ap, ◌∙◌}
use mathlib.Core.Bool.{Bool, ◌||◌}
use mathlib.Core.List.{List}
use Prim.Native.Nat.{ℕ, ◌+◌, ◌*◌, ◌≤◌}
use native.Mathlib.Omega.{arith}
use lib.Dec.{eqb}
use lib.ListN.{length}
use Rattle.wire.specs.Parts.{part, splice}
use Rattle.wire.proofs.Parts.{length_part, part_after}
use Rattle.reassembly.specs.Sizes.{most_remembered, ids_at, id_size, seconds_at, second_size, share_size}
use Rattle.wire.specs.Series.{series}
use Rattle.reassembly.specs.Memory.{remembers}
use Rattle.reassembly.specs.Remembered.{finished_at, moved_to}
use Rattle.wire.proofs.Series.{series_more}
use Rattle.reassembly.proofs.Memories.{remembers_more}

module _ (rec : List ℕ) where
  -- the ids' move leaves the seconds as they were
  pub moved : (ids both : List ℕ) (j k n : ℕ) → share_size ≤ length rec → j ≤ k → k + n ≤ most_remembered
      → ids ≡ splice rec (ids_at + j * id_size) (part rec (ids_at + k * id_size) (n * id_size))
      → both ≡ splice ids (seconds_at + j * second_size) (part ids (seconds_at + k * second_size) (n * second_size))
      → both ≡ moved_to rec j k n
  unfolding moved_to
  moved ids both j k n long down few e f =
      let v : List ℕ = part rec (ids_at + k * id_size) (n * id_size) in
      let lv : length (part rec (ids_at + k * id_size) (n * id_size)) ≡ n * id_size = length_part rec (ids_at + k * id_size) (n * id_size) (omega arith) in
      let s : part ids (seconds_at + k * second_size) (n * second_size) ≡ part rec (seconds_at + k * second_size) (n * second_size) =
      ap (λ (z : List ℕ). part z (seconds_at + k * second_size) (n * second_size)) e
      ∙ part_after rec (ids_at + j * id_size) v (omega arith) (seconds_at + k * second_size) (n * second_size) (omega arith)
      in
      f ∙ ap (splice ids (seconds_at + j * second_size)) s ∙ ap (λ (z : List ℕ). splice z (seconds_at + j * second_size) (part rec (seconds_at + k * second_size) (n * second_size))) e

  -- one id more is looked at, and all are
  pub found_turn : (id k x : ℕ) (found : Bool) → found ≡ remembers (series (finished_at rec) 0 k) id → x ≡ (finished_at rec k).id → (found || eqb x id) ≡ remembers (series (finished_at rec) 0 (k + 1)) id
  found_turn id k x found e f =
      rw (e, f) (sym (ap (λ (z : List _). remembers z id) (series_more (finished_at rec) k) ∙ remembers_more (series (finished_at rec) 0 k) (finished_at rec k) id))
