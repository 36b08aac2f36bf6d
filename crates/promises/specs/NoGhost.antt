-- No ghost opens (request P5): while an id is remembered no piece of it changes the store, nor anything that a call was lent. And the ids of a store that calls reach are apart.
use Rattle.std.specs.Prelude.{◌≡◌, true, cond, List, [], ℕ, ◌≤◌, ◌<◌, length, replicate}
use Rattle.std.proofs.Math.Option.{none}
use Rattle.reassembly.specs.declared.Label.{Label}
use Rattle.reassembly.specs.Memory.{remembers}
use Rattle.reassembly.specs.Store.{Piece, id_of, Store, bad_length, bad_number, refused, step}
use Rattle.reassembly.specs.Apart.{Apart}
use Rattle.reassembly.specs.Runs.{Call, reached}
use Rattle.reassembly.specs.Remembered.{memory_of}
use Rattle.reassembly.specs.Calls.{Lent, refuses, bad_size, off_number}
use Rattle.reassembly.specs.Shares.{share_of, first_call, follow_on_call}
use Rattle.promises.specs.StoreTurns.{OwnMade}

-- A piece of a remembered id is refused, by 57 where it is not 50 or 51, and the store stays as it was.
abbrev pub NoGhost : Type 0
NoGhost =
    (keep cap : ℕ) (s : Store) (p : Piece) (second : ℕ) → remembers s.remembered (id_of p) ≡ true
    → step keep cap s p second ≡ refused (cond (bad_length p) 50 (cond (bad_number p) 51 57)) s

-- What any calls reach from a new store, with any number of slots, has its ids apart: so no id is both open and remembered.
abbrev pub AlwaysApart : Type 0
AlwaysApart = (slots keep : ℕ) → 1 ≤ keep → (cs : List Call) → Apart keep (reached keep (record { slots = replicate slots none; remembered = [] }) cs)

-- The same of the calls, on every record and room of which neighbour n's share is one that calls made: a first piece, and a follow-on piece, of an id that this share remembers.
pub record NoGhostCalls : Type 0 where
  pub first_piece_lem :
      (n : ℕ) → n < 4 → (x : Lent) → OwnMade n x.rec x.room → (l : Label) (second : ℕ) (v : List ℕ) → remembers (memory_of (share_of x.rec n)) l.id ≡ true
      → first_call x n l second v ≡ refuses (cond (bad_size (length v)) 50 57) x
  pub follow_on_piece :
      (n : ℕ) → n < 4 → (x : Lent) → OwnMade n x.rec x.room → (l : Label) (second : ℕ) (v : List ℕ) → remembers (memory_of (share_of x.rec n)) l.id ≡ true
      → follow_on_call x n l second v ≡ refuses (cond (bad_size (length v)) 50 (cond (off_number l.number) 51 57)) x
