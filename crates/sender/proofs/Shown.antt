-- What is read out of a record: how many packets are outstanding, and one of them. Assumes nothing.
use mathlib.Core.Path.{◌≡◌, refl}
use mathlib.Core.List.{List, [], ◌∷◌}
use Prim.Native.Nat.{ℕ, ◌≤◌, ◌<◌}
use lib.ListN.{length}
use borrow.Author.Tests.{lt-ltb, le-ltb}
use Rattle.sender.specs.Sizes.{sender_size}
use Rattle.sender.specs.Sender.{Packet}
use Rattle.sender.specs.Recorded.{outstanding_count, packet_at, lent_answer, outstanding_there, packet_row, packet_numbers}
use Rattle.sender.specs.Outcomes.{Told}
use Rattle.sender.proofs.Lent.{is_short_lem, is_long, lent_59, lent_0}

module _ (r : List ℕ) where
  pub none_there : length r < sender_size → outstanding_there r ≡ 0
  unfolding outstanding_there
  none_there h = rw (is_short_lem r h) refl

  pub so_many : (count : ℕ) → count ≡ outstanding_count r → sender_size ≤ length r → count ≡ outstanding_there r
  unfolding outstanding_there
  so_many count e long = rw (is_long r long) e

  pub none_told : length r < sender_size → ◌≡◌ {A = Told} (record { answer = 59; value = 0 }) (record { answer = lent_answer r; value = outstanding_there r })
  none_told h = rw (lent_59 r h, none_there h) refl

  pub so_many_told : (count : ℕ) → count ≡ outstanding_count r → sender_size ≤ length r → ◌≡◌ {A = Told} (record { answer = 0; value = count }) (record { answer = lent_answer r; value = outstanding_there r })
  so_many_told count e long = rw (lent_0 r long, ← so_many count e long) refl

  module _ (k : ℕ) (out : List ℕ) where
    pub shown : (p : Packet) → k < outstanding_there r → p ≡ packet_at r k → p.number ∷ (p.second ∷ (p.resends ∷ [])) ≡ packet_numbers r k out
    unfolding packet_numbers packet_row
    shown p h e = rw (lt-ltb k (outstanding_there r) h, ← e) refl

    pub not_shown : outstanding_there r ≤ k → out ≡ packet_numbers r k out
    unfolding packet_numbers
    not_shown h = rw (le-ltb k (outstanding_there r) h) refl
