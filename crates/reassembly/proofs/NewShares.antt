-- A record of zeros is the new store of four neighbours. Assumes nothing.
use mathlib.Core.Path.{◌≡◌, refl, sym, ap, ◌∙◌, subst}
use mathlib.Core.List.{List}
use Prim.Native.Nat.{ℕ, ◌+◌, ◌*◌, ◌≤◌, ◌<◌}
use native.Mathlib.Omega.{arith}
use lib.ListN.{length, replicate, length-replicate}
use borrow.Author.Tests.{le-ltb}
use Rattle.wire.specs.Parts.{part, splice}
use Rattle.wire.proofs.Parts.{part_within, length_splice, splice_all}
use Rattle.wire.proofs.Slices.{part_alike}
use Rattle.wire.proofs.Series.{series_same}
use Rattle.reassembly.specs.Sizes.{room_size, share_size, record_size}
use Rattle.reassembly.specs.Store.{new_store}
use Rattle.reassembly.specs.Neighbours.{new_neighbours}
use Rattle.reassembly.specs.Summary.{open_count}
use Rattle.reassembly.specs.Shares.{share_of, share_of_room, renewed}
use Rattle.reassembly.specs.Stands.{stands, Made}
use Rattle.reassembly.specs.Standing.{store_at, summary_at, neighbours_of, AllMade, NewAgrees}
use Rattle.reassembly.proofs.Shares.{room_length}
use Rattle.reassembly.proofs.Swept.{zeros_stand, zeros_count, zeros_made}

-- so many zeros
abbrev zeros : ℕ → List ℕ
zeros m = replicate m 0

zeros_length : (m : ℕ) → length (zeros m) ≡ m
zeros_length m = length-replicate {A = ℕ} m 0

module _ (rec : List ℕ) (m : ℕ) (lr : m ≤ length rec) (enough : record_size ≤ m) where
  -- each share of a record that begins with m zeros
  pub blank_share : (n : ℕ) → n < 4 → share_of (splice rec 0 (zeros m)) n ≡ zeros share_size
  unfolding share_of
  blank_share n h =
      let lz : length (zeros m) ≡ m = zeros_length m in
      let at : n * share_size ≡ 0 + n * share_size = omega arith in
      ap (λ (z : ℕ). part (splice rec 0 (zeros m)) z share_size) at
      ∙ part_within rec 0 (zeros m) (omega arith) (n * share_size) share_size (omega arith)
      ∙ part_alike 0 m (n * share_size) share_size (omega arith)

module _ (rec room : List ℕ) (m : ℕ) (lr : m ≤ length rec) (enough : record_size ≤ m) where
  abbrev blank : List ℕ
  blank = splice rec 0 (zeros m)

  pub blank_stands : neighbours_of blank room ≡ new_neighbours
  unfolding neighbours_of
  blank_stands =
      λ i. record {
        stores = series_same (store_at blank room) (λ n. new_store) 4 new_store store i;
        summary = series_same (summary_at blank) (λ n. 0) 4 0 count i;
      }
    where
      store : (n : ℕ) → n < 4 → store_at blank room n ≡ new_store
      store n h = unfold store_at in (ap (λ (z : List ℕ). stands z (share_of_room room n)) (blank_share rec m lr enough n h) ∙ zeros_stand share_size (share_of_room room n) (omega arith))

      count : (n : ℕ) → n < 4 → summary_at blank n ≡ 0
      count n h = unfold summary_at in (ap open_count (blank_share rec m lr enough n h) ∙ zeros_count share_size (share_of_room room n) (omega arith))

  pub blank_made : room_size ≤ length room → AllMade blank room
  blank_made lm =
      record {
        record_long = let e : length blank ≡ length rec = length_splice rec 0 (zeros m) (omega (arith, zeros_length m)) in omega arith;
        room_long = lm;
        shares = λ n h. subst (λ (z : List ℕ). Made z (share_of_room room n)) (sym (blank_share rec m lr enough n h))
            (zeros_made share_size (share_of_room room n) (omega arith) (omega (arith, room_length room n lm h)));
      }

-- a record made new
pub new_stands : (rec room : List ℕ) → record_size ≤ length rec → neighbours_of (renewed rec) room ≡ new_neighbours
unfolding renewed
new_stands rec room lr = rw (le-ltb (length rec) record_size lr) (blank_stands rec room record_size lr (omega arith))

pub new_made : (rec room : List ℕ) → record_size ≤ length rec → room_size ≤ length room → AllMade (renewed rec) room
unfolding renewed
new_made rec room lr lm = rw (le-ltb (length rec) record_size lr) (blank_made rec room record_size lr (omega arith) lm)

-- the promise of making it new, from the equation that it states
pub new_promise : (rec rec' : List ℕ) → rec' ≡ renewed rec → NewAgrees rec rec'
new_promise rec rec' e =
    record {
      store = λ room lr. ap (λ (z : List ℕ). neighbours_of z room) e ∙ new_stands rec room lr;
      made = λ room lr lm. subst (λ (z : List ℕ). AllMade z room) (sym e) (new_made rec room lr lm);
    }

-- a record of zeros
zeros_blank : (m : ℕ) → splice (zeros m) 0 (zeros m) ≡ zeros m
zeros_blank m = splice_all (zeros m) (zeros m) refl

pub all_zeros_stand : (m : ℕ) (room : List ℕ) → record_size ≤ m → neighbours_of (replicate m 0) room ≡ new_neighbours
all_zeros_stand m room h = ap (λ (z : List ℕ). neighbours_of z room) (sym (zeros_blank m)) ∙ blank_stands (zeros m) room m (omega (arith, zeros_length m)) h

pub all_zeros_made : (m : ℕ) (room : List ℕ) → record_size ≤ m → room_size ≤ length room → AllMade (replicate m 0) room
all_zeros_made m room h lm = subst (λ (z : List ℕ). AllMade z room) (zeros_blank m) (blank_made (zeros m) room m (omega (arith, zeros_length m)) h lm)
