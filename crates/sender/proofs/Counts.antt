-- How many packets are outstanding, as a record's bytes say it; and those that are read. Assumes nothing.
use mathlib.Core.Path.{◌≡◌, refl}
use mathlib.Core.Bool.{Bool, true, false, cond}
use mathlib.Core.List.{List}
use Prim.Native.Nat.{ℕ, ◌≤◌, ◌<◌, min}
use native.Mathlib.Omega.{arith}
use lib.Dec.{ltb}
use lib.ListN.{length}
use borrow.Author.Tests.{ltb-true, ltb-false}
use Rattle.wire.specs.Numbers.{little_at}
use Rattle.wire.proofs.Series.{length_series}
use Rattle.sender.specs.Sizes.{most_outstanding, outstanding_at}
use Rattle.sender.specs.Recorded.{outstanding_count, packet_at, sender_at}

module _ (r : List ℕ) where
  -- it is the smaller of what stands there and 256
  pub count_min : (n : ℕ) → n ≡ little_at 4 r outstanding_at → min n most_outstanding ≡ outstanding_count r
  unfolding outstanding_count
  count_min n e = rw e (go (ltb (little_at 4 r outstanding_at) most_outstanding) refl)
    where
      go : (b : Bool) → ltb (little_at 4 r outstanding_at) most_outstanding ≡ b
          → min (little_at 4 r outstanding_at) most_outstanding ≡ cond (ltb (little_at 4 r outstanding_at) most_outstanding) (little_at 4 r outstanding_at) most_outstanding
      go true q = rw q (let l : little_at 4 r outstanding_at < most_outstanding = ltb-true (little_at 4 r outstanding_at) most_outstanding q in omega arith)
      go false q = rw q (let l : most_outstanding ≤ little_at 4 r outstanding_at = ltb-false (little_at 4 r outstanding_at) most_outstanding q in omega arith)

  pub count_most : outstanding_count r ≤ most_outstanding
  unfolding outstanding_count
  count_most = go (ltb (little_at 4 r outstanding_at) most_outstanding) refl
    where
      go : (b : Bool) → ltb (little_at 4 r outstanding_at) most_outstanding ≡ b → cond (ltb (little_at 4 r outstanding_at) most_outstanding) (little_at 4 r outstanding_at) most_outstanding ≤ most_outstanding
      go true q = rw q (let l : little_at 4 r outstanding_at < most_outstanding = ltb-true (little_at 4 r outstanding_at) most_outstanding q in omega arith)
      go false q = rw q (omega arith)

  -- so many stand in the list that is read
  pub length_outstanding : length (sender_at r).packets ≡ outstanding_count r
  unfolding sender_at
  length_outstanding = length_series (packet_at r) 0 (outstanding_count r)

  -- a count of at most 256 is what stands there
  pub count_is : (n : ℕ) → little_at 4 r outstanding_at ≡ n → n ≤ most_outstanding → outstanding_count r ≡ n
  unfolding outstanding_count
  count_is n e h = rw e (go (ltb n most_outstanding) refl)
    where
      go : (b : Bool) → ltb n most_outstanding ≡ b → cond b n most_outstanding ≡ n
      go true q = refl
      go false q = let z = ltb-false n most_outstanding q in omega arith
