-- A sweep, of all shares, is the sweep of each; so it is the sweep of the store of four neighbours. Assumes nothing.
use mathlib.Core.Path.{◌≡◌, refl, sym, ap, ◌∙◌, subst}
use mathlib.Core.List.{List, [], map}
use Prim.Native.Nat.{ℕ, zero, suc, ◌+◌, ◌-◌, ◌≤◌, ◌<◌}
use native.Mathlib.Nat.{not-suc-le-zero}
use native.Mathlib.Omega.{arith}
use native.Mathlib.Numerals.{add-one}
use native.Mathlib.Decide.{ℕ_discrete}
use lib.ListN.{length}
use borrow.Author.Tests.{lt-ltb, le-ltb}
use Rattle.wire.specs.Series.{series}
use Rattle.wire.proofs.Series.{series_same}
use Rattle.reassembly.specs.Sizes.{share_size, record_size}
use Rattle.reassembly.specs.Store.{new_store, sweep}
use Rattle.reassembly.specs.Neighbours.{store_of, summary_of, dropped_of, sweep_all}
use Rattle.reassembly.specs.Calls.{share_swept}
use Rattle.reassembly.specs.Shares.{share_of, with_share, share_of_room, shares_swept, swept}
use Rattle.reassembly.specs.Standing.{store_at, summary_at, neighbours_of, AllMade, SweepAgrees}
use Rattle.reassembly.proofs.Shares.{share_length, share_put_length, share_same, share_other}
use Rattle.reassembly.proofs.Lifted.{store_of_lem, summary_of_lem}
use Rattle.reassembly.proofs.Swept as Share

-- the sweep of one share keeps its length
keeps : (second : ℕ) (s : List ℕ) → share_size ≡ length s → length (share_swept second s) ≡ length s
keeps second s e = Share.swept_length second s [] (omega arith)

-- the first n shares are swept, the others are as they were
record Walked (second : ℕ) (rec : List ℕ) (n : ℕ) : Type 0 where
  as_long : length (shares_swept second rec n) ≡ length rec
  done : (m : ℕ) → m < n → share_of (shares_swept second rec n) m ≡ share_swept second (share_of rec m)
  left : (m : ℕ) → n ≤ m → share_of (shares_swept second rec n) m ≡ share_of rec m

module _ (second : ℕ) (rec : List ℕ) (long : record_size ≤ length rec) where
  walk : (n : ℕ) → n ≤ 4 → Walked second rec n
  walk zero h = record { as_long = refl; done = λ m hm. absurd (not-suc-le-zero hm); left = λ m hm. refl }
  walk (suc n) h = next (walk n (omega arith))
    where
      next : Walked second rec n → Walked second rec (suc n)
      next w =
          record {
            as_long = share_put_length before n long' one new new_long ∙ w.as_long;
            done = λ m hm. go m hm (ℕ_discrete m n);
            left = λ m hm. share_other before n long' one new new_long m (λ q. omega arith) ∙ w.left m (omega arith);
          }
        where
          one : n < 4
          one = omega arith

          before : List ℕ
          before = shares_swept second rec n

          long' : record_size ≤ length before
          long' = rw w.as_long long

          new : List ℕ
          new = share_swept second (share_of before n)

          new_long : length new ≡ share_size
          new_long = keeps second (share_of before n) (sym (share_length before n long' one)) ∙ share_length before n long' one

          go : (m : ℕ) → m < suc n → Dec (m ≡ n) → share_of (with_share before n new) m ≡ share_swept second (share_of rec m)
          go m hm (yes q) = rw q (share_same before n long' one new new_long ∙ ap (share_swept second) (w.left n (omega arith)))
          go m hm (no q) = share_other before n long' one new new_long m q ∙ w.done m (omega arith)

  swept_is : swept second rec ≡ shares_swept second rec 4
  unfolding swept
  swept_is = rw (le-ltb (length rec) record_size long) refl

  pub swept_length : length (swept second rec) ≡ length rec
  swept_length = ap length swept_is ∙ (walk 4 (omega arith)).as_long

  -- every neighbour's share is swept
  pub swept_share : (n : ℕ) → n < 4 → share_of (swept second rec) n ≡ share_swept second (share_of rec n)
  swept_share n h = ap (λ (z : List ℕ). share_of z n) swept_is ∙ (walk 4 (omega arith)).done n h

-- ---- what the code of a sweep learns

pub swept_short : (second : ℕ) (rec : List ℕ) → length rec < record_size → rec ≡ swept second rec
unfolding swept
swept_short second rec h = rw (lt-ltb (length rec) record_size h) refl

pub swept_long : (second : ℕ) (rec rec' : List ℕ) → record_size ≤ length rec → rec' ≡ shares_swept second rec 4 → rec' ≡ swept second rec
unfolding swept
swept_long second rec rec' h e = rw (le-ltb (length rec) record_size h) e

-- one share more is swept
pub shares_more : (second : ℕ) (rec₀ rec rec' : List ℕ) (n : ℕ) → rec ≡ shares_swept second rec₀ n → rec' ≡ with_share rec n (share_swept second (share_of rec n)) → rec' ≡ shares_swept second rec₀ (n + 1)
shares_more second rec₀ rec rec' n e f = rw (add-one n) (f ∙ ap (λ (z : List ℕ). with_share z n (share_swept second (share_of z n))) e)

-- ---- what the swept record stands for

module _ (second : ℕ) (rec room : List ℕ) (long : record_size ≤ length rec) where
  as_long : (n : ℕ) → n < 4 → share_size ≤ length (share_of rec n)
  as_long n h = omega (arith, share_length rec n long h)

  store_swept : (n : ℕ) → n < 4 → store_at (swept second rec) room n ≡ sweep second (store_at rec room n)
  unfolding store_at
  store_swept n h = rw (swept_share second rec long n h) (Share.swept_stands second (share_of rec n) (share_of_room room n) (as_long n h))

  summary_swept : (n : ℕ) → n < 4 → summary_at (swept second rec) n ≡ summary_at rec n - dropped_of second (store_at rec room n).slots
  unfolding summary_at store_at
  summary_swept n h = rw (swept_share second rec long n h) (Share.swept_less second (share_of rec n) (share_of_room room n) (as_long n h))

  pub swept_stands : neighbours_of (swept second rec) room ≡ sweep_all second (neighbours_of rec room)
  unfolding sweep_all
  swept_stands = λ i. record { stores = stores_are i; summary = summary_is i }
    where
      stores_are : (neighbours_of (swept second rec) room).stores ≡ map (sweep second) (neighbours_of rec room).stores
      stores_are =
          unfold neighbours_of in
          (series_same (store_at (swept second rec) room) (λ n. sweep second (store_at rec room n)) 4 new_store store_swept)

      summary_is : (neighbours_of (swept second rec) room).summary
          ≡ series (λ n. summary_of (neighbours_of rec room) n - dropped_of second (store_of (neighbours_of rec room) n).slots) 0 4
      summary_is =
          unfold neighbours_of in
          (series_same (summary_at (swept second rec)) (λ n. summary_of (neighbours_of rec room) n - dropped_of second (store_of (neighbours_of rec room) n).slots) 4 0
          (λ n h. summary_swept n h ∙ sym (rw (store_of_lem rec room n h, summary_of_lem rec room n h) refl)))

-- it is again one that calls made
pub swept_made : (second : ℕ) (rec room : List ℕ) → AllMade rec room → AllMade (swept second rec) room
swept_made second rec room made =
    record {
      record_long = rw (swept_length second rec made.record_long) made.record_long;
      room_long = made.room_long;
      shares = λ n h. rw (swept_share second rec made.record_long n h) (Share.share_swept_made second (share_of rec n) (share_of_room room n) (made.shares n h));
    }

-- The promise of a sweep, from the equation that it states.
pub sweep_promise : (second : ℕ) (rec rec' : List ℕ) → rec' ≡ swept second rec → SweepAgrees second rec rec'
sweep_promise second rec rec' e =
    record {
      store = λ room long. ap (λ (z : List ℕ). neighbours_of z room) e ∙ swept_stands second rec room long;
      made = λ room m. subst (λ (z : List ℕ). AllMade z room) (sym e) (swept_made second rec room m);
    }
