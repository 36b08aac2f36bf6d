-- Each branch of a call from a neighbour, from the test that leads there; and its share given back. Assumes nothing.
use mathlib.Core.Path.{◌≡◌, refl, sym, ap, ◌∙◌}
use mathlib.Core.Bool.{true, false}
use mathlib.Core.List.{List}
use Prim.Native.Nat.{ℕ, ◌+◌, ◌*◌, ◌-◌, ◌≤◌, ◌<◌}
use native.Mathlib.Omega.{arith}
use lib.Dec.{ltb}
use lib.ListN.{length, take, drop}
use borrow.Author.Tests.{lt-ltb, le-ltb, ltb-false}
use borrow.Rule.Slice.PartMut.{put_mid}
use Rattle.wire.proofs.Tests.{or_neither}
use Rattle.reassembly.specs.Sizes.{share_room, room_size, share_size, record_size}
use Rattle.reassembly.specs.declared.Fragment.{Fragment}
use Rattle.reassembly.specs.declared.Fragment.TheVariants as F
use Rattle.reassembly.specs.declared.Label.{Label}
use Rattle.reassembly.specs.declared.Reply.{Reply}
use Rattle.reassembly.specs.Calls.{Lent, lent, After, after, bare, refuses, first_taken, follow_on_taken}
use Rattle.reassembly.specs.Shares.{lent_to, given_back, lent_short, from_neighbour, first_call, follow_on_call}
use Rattle.reassembly.specs.Fragments.{fragment_taken, fragment_call}
use Rattle.reassembly.proofs.Shares.{share_lent, share_back, share_again, room_lent, room_back, room_again}

-- what the test that was passed says of the lengths, and what lengths say of it
pub long_lent : (rec room : List ℕ) → lent_short rec room ≡ false → (record_size ≤ length rec) × (room_size ≤ length room)
unfolding lent_short
long_lent rec room e =
    let p = or_neither (ltb (length rec) record_size) (ltb (length room) room_size) e in
    (ltb-false (length rec) record_size p.0, ltb-false (length room) room_size p.1)

pub not_short : (rec room : List ℕ) → record_size ≤ length rec → room_size ≤ length room → lent_short rec room ≡ false
unfolding lent_short
not_short rec room r m = rw (le-ltb (length rec) record_size r, le-ltb (length room) room_size m) refl

-- ---- the branches

module _ (x : Lent) (n : ℕ) (y : After) where
  pub from_59 : lent_short x.rec x.room ≡ true → from_neighbour x n y ≡ refuses 59 x
  unfolding from_neighbour
  from_59 e = rw e refl

  module _ (long : lent_short x.rec x.room ≡ false) where
    pub from_58 : 3 < n → from_neighbour x n y ≡ refuses 58 x
    unfolding from_neighbour
    from_58 h = rw (long, lt-ltb 3 n h) refl

    pub from_taken : n ≤ 3 → from_neighbour x n y ≡ after y.reply (given_back x n y.left)
    unfolding from_neighbour
    from_taken h = rw (long, le-ltb 3 n h) refl

    -- a share that was left as it was: so is all
    pub from_same : n ≤ 3 → (r : Reply) → y ≡ after r (lent_to x n) → from_neighbour x n y ≡ after r x
    from_same h r e = from_taken h ∙ ap (λ (z : After). after z.reply (given_back x n z.left)) e ∙ same
      where
        same : after r (given_back x n (lent_to x n)) ≡ after r x
        same =
            rw (
              share_again x.rec n (long_lent x.rec x.room long).0 (omega arith),
              room_again x.room n (long_lent x.rec x.room long).1 (omega arith),
            )
            refl

-- a fragment's call is what becomes of its neighbour's share
fragment_is : (x : Lent) (n : ℕ) (p : Fragment) (second : ℕ) (v : List ℕ) → fragment_call x n p second v ≡ from_neighbour x n (fragment_taken (lent_to x n) p second v)
unfolding first_call follow_on_call
fragment_is x n (F.First id kind expires) second v = refl
fragment_is x n (F.FollowOn id number last) second v = refl

-- ---- what the code of a call learns: it lends `&mut rec[a..e]` and `&mut room[b..f]` and gives back what became of them

module _ (rec room out : List ℕ) (n a e b f : ℕ) (long : lent_short rec room ≡ false) (one : n ≤ 3)
    (at : a ≡ n * share_size) (to : e ≡ a + share_size) (at' : b ≡ n * share_room) (to' : f ≡ b + share_room)
    (r : Reply) (ys zs out' : List ℕ) (ly : length ys ≡ share_size) (lz : length zs ≡ share_room) where
  pub from_back : (g : Lent → After) → after r (lent ys zs out') ≡ g (lent (take (e - a) (drop a rec)) (take (f - b) (drop b room)) out)
      → after r (lent (put_mid a (e - a) rec ys) (put_mid b (f - b) room zs) out') ≡ from_neighbour (lent rec room out) n (g (lent_to (lent rec room out) n))
  from_back g q =
      let q' : after r (lent ys zs out') ≡ g (lent_to (lent rec room out) n) = rw (sym (share_lent rec n a e at to), sym (room_lent room n b f at' to')) q in
      rw (share_back rec n a e at to ys ly, room_back room n b f at' to' zs lz)
      (sym (from_taken (lent rec room out) n (g (lent_to (lent rec room out) n)) long one
      ∙ ap (λ (z : After). after z.reply (given_back (lent rec room out) n z.left)) (sym q')))

  pub fragment_back : (p : Fragment) (second : ℕ) (v : List ℕ)
      → after r (lent ys zs out') ≡ fragment_taken (lent (take (e - a) (drop a rec)) (take (f - b) (drop b room)) out) p second v
      → after r (lent (put_mid a (e - a) rec ys) (put_mid b (f - b) room zs) out') ≡ fragment_call (lent rec room out) n p second v
  fragment_back p second v q =
      from_back (λ (x : Lent). fragment_taken x p second v) q ∙ sym (fragment_is (lent rec room out) n p second v)

-- its refusals
module _ (rec room out : List ℕ) (n : ℕ) (p : Fragment) (second : ℕ) (v : List ℕ) where
  pub fragment_59 : lent_short rec room ≡ true → after (bare 59) (lent rec room out) ≡ fragment_call (lent rec room out) n p second v
  fragment_59 t =
      sym (fragment_is (lent rec room out) n p second v ∙ from_59 (lent rec room out) n (fragment_taken (lent_to (lent rec room out) n) p second v) t)

  pub fragment_58 : lent_short rec room ≡ false → 3 < n → after (bare 58) (lent rec room out) ≡ fragment_call (lent rec room out) n p second v
  fragment_58 t h =
      sym (fragment_is (lent rec room out) n p second v ∙ from_58 (lent rec room out) n (fragment_taken (lent_to (lent rec room out) n) p second v) t h)

-- the refusals of each call, for every label
module _ (rec room out : List ℕ) (n : ℕ) (l : Label) (second : ℕ) (v : List ℕ) (r : Reply) where
  pub first_short : lent_short rec room ≡ true → r ≡ bare 59 → after r (lent rec room out) ≡ first_call (lent rec room out) n l second v
  unfolding first_call
  first_short t q = rw q (sym (from_59 (lent rec room out) n (first_taken (lent_to (lent rec room out) n) l second v) t))

  pub first_58 : lent_short rec room ≡ false → 3 < n → r ≡ bare 58 → after r (lent rec room out) ≡ first_call (lent rec room out) n l second v
  unfolding first_call
  first_58 t h q = rw q (sym (from_58 (lent rec room out) n (first_taken (lent_to (lent rec room out) n) l second v) t h))

  pub follow_short : lent_short rec room ≡ true → r ≡ bare 59 → after r (lent rec room out) ≡ follow_on_call (lent rec room out) n l second v
  unfolding follow_on_call
  follow_short t q = rw q (sym (from_59 (lent rec room out) n (follow_on_taken (lent_to (lent rec room out) n) l second v) t))

  pub follow_58 : lent_short rec room ≡ false → 3 < n → r ≡ bare 58 → after r (lent rec room out) ≡ follow_on_call (lent rec room out) n l second v
  unfolding follow_on_call
  follow_58 t h q = rw q (sym (from_58 (lent rec room out) n (follow_on_taken (lent_to (lent rec room out) n) l second v) t h))
