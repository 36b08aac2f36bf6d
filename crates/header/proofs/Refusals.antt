-- Which refusal is given where two hold, and what follows where a header is not refused. Assumes nothing.
use mathlib.Core.Path.{◌≡◌, refl}
use mathlib.Core.Logic.{◌⊎◌, inl, inr}
use mathlib.Core.Bool.{Bool, true, false, cond, ◌&&◌, ◌||◌, not}
use mathlib.Core.List.{List}
use Prim.Native.Nat.{ℕ, ◌+◌, ◌≤◌}
use native.Mathlib.Omega.{arith}
use lib.Dec.{eqb, ltb}
use lib.ListN.{get_or}
use borrow.Author.Tests.{ltb-false, not-false, le-ltb}
use Rattle.wire.specs.Parts.{part}
use Rattle.wire.specs.Numbers.{big_at}
use Rattle.wire.proofs.Parts.{get_d_part}
use Rattle.wire.proofs.Numbers.{big_at_part}
use Rattle.header.specs.declared.Fields.{Fields}
use Rattle.header.specs.Kinds.{is_keyed, is_short, is_listed, is_version, masked_length, need_of}
use Rattle.header.specs.Unmasking.{packet_kind}
use Rattle.header.specs.Reading.{front_refusal}
use Rattle.header.specs.Writing.{write_number}

-- a type that is not listed is 21, whatever stands for its version
pub type_first : (q : List ℕ) (n : ℕ) → is_listed (packet_kind q) ≡ false → front_refusal q n ≡ 21
unfolding front_refusal
type_first q n e = rw e

pub type_first_written : (f : Fields) (n : ℕ) → is_listed f.kind ≡ false → write_number f n ≡ 21
unfolding write_number
type_first_written f n e = rw e

-- a nibble above 15 is 25, however short the packet
pub nibbles_first : (f : Fields) (n : ℕ) → f.kind ≡ 2 → f.number ≡ 0 → (ltb 15 f.fragment || ltb 15 f.count) ≡ true → write_number f n ≡ 25
unfolding write_number is_listed
nibbles_first f n t z e = rw (t, z, e)

-- the first 16 bytes are enough to judge by
pub refusal_front : (q : List ℕ) (n : ℕ) → front_refusal (part q 0 16) n ≡ front_refusal q n
unfolding front_refusal
refusal_front q n =
    rw (get_d_part q 0 16 12 0 (omega arith), get_d_part q 0 16 13 0 (omega arith), big_at_part 4 q 0 16 8 (omega arith))

-- what each test of reading gave, where there is no refusal
pub record Taken (q : List ℕ) (n : ℕ) : Type 0 where
  pub listed : is_listed (packet_kind q) ≡ true
  pub versed : (not (is_short (packet_kind q)) && not (is_version (get_or q 13 0))) ≡ false
  pub keyed : (is_keyed (packet_kind q) && ltb n 64) ≡ false
  pub numbered : (eqb (packet_kind q) 2 && not (eqb (big_at 4 q 8) 0)) ≡ false

pub read_taken : (q : List ℕ) (n : ℕ) → front_refusal q n ≡ 0 → Taken q n
unfolding front_refusal
read_taken q n e =
    go (not (is_listed (packet_kind q))) (not (is_short (packet_kind q)) && not (is_version (get_or q 13 0))) (is_keyed (packet_kind q) && ltb n 64)
    (eqb (packet_kind q) 2 && not (eqb (big_at 4 q 8) 0)) refl refl refl refl e
  where
    go : (a b d g : Bool) → not (is_listed (packet_kind q)) ≡ a → (not (is_short (packet_kind q)) && not (is_version (get_or q 13 0))) ≡ b → (is_keyed (packet_kind q) && ltb n 64) ≡ d
        → (eqb (packet_kind q) 2 && not (eqb (big_at 4 q 8) 0)) ≡ g → ◌≡◌ {A = ℕ} (cond a 21 (cond b 22 (cond d 23 (cond g 24 0)))) 0 → Taken q n
    go true b d g ea eb ed eg z = absurd (omega arith)
    go false true d g ea eb ed eg z = absurd (omega arith)
    go false false true g ea eb ed eg z = absurd (omega arith)
    go false false false true ea eb ed eg z = absurd (omega arith)
    go false false false false ea eb ed eg z = record { listed = not-false (is_listed (packet_kind q)) ea; versed = eb; keyed = ed; numbered = eg }

-- not refused, a packet has room for what is to be unmasked
pub read_room : (q : List ℕ) (n : ℕ) → 40 ≤ n → front_refusal q n ≡ 0 → 16 + masked_length (packet_kind q) ≤ n
unfolding masked_length
read_room q n h e = by (is_keyed (packet_kind q)) (is_short (packet_kind q)) (read_taken q n e).keyed
  where
    by : (k s : Bool) → (k && ltb n 64) ≡ false → 16 + cond k 48 (cond s 0 16) ≤ n
    by true s f = omega (arith, ltb-false n 64 f)
    by false true f = omega arith
    by false false f = omega arith

-- what each test of writing gave, where there is no refusal
pub record Given (f : Fields) (n : ℕ) : Type 0 where
  pub listed : is_listed f.kind ≡ true
  pub versed : (not (is_short f.kind) && not (is_version f.version)) ≡ false
  pub numbered : (eqb f.kind 2 && not (eqb f.number 0)) ≡ false
  pub nibbles : (eqb f.kind 2 && (ltb 15 f.fragment || ltb 15 f.count)) ≡ false
  pub room : need_of f.kind ≤ n

pub write_given : (f : Fields) (n : ℕ) → write_number f n ≡ 0 → Given f n
unfolding write_number
write_given f n e =
    go (not (is_listed f.kind)) (not (is_short f.kind) && not (is_version f.version)) (eqb f.kind 2 && not (eqb f.number 0))
    (eqb f.kind 2 && (ltb 15 f.fragment || ltb 15 f.count)) (ltb n (need_of f.kind)) refl refl refl refl refl e
  where
    go : (a b d g x : Bool) → not (is_listed f.kind) ≡ a → (not (is_short f.kind) && not (is_version f.version)) ≡ b → (eqb f.kind 2 && not (eqb f.number 0)) ≡ d
        → (eqb f.kind 2 && (ltb 15 f.fragment || ltb 15 f.count)) ≡ g → ltb n (need_of f.kind) ≡ x
        → ◌≡◌ {A = ℕ} (cond a 21 (cond b 22 (cond d 24 (cond g 25 (cond x 20 0))))) 0 → Given f n
    go true b d g x ea eb ed eg ex z = absurd (omega arith)
    go false true d g x ea eb ed eg ex z = absurd (omega arith)
    go false false true g x ea eb ed eg ex z = absurd (omega arith)
    go false false false true x ea eb ed eg ex z = absurd (omega arith)
    go false false false false true ea eb ed eg ex z = absurd (omega arith)
    go false false false false false ea eb ed eg ex z =
        record { listed = not-false (is_listed f.kind) ea; versed = eb; numbered = ed; nibbles = eg; room = ltb-false n (need_of f.kind) ex }

pub write_room : (f : Fields) (n : ℕ) → write_number f n ≡ 0 → need_of f.kind ≤ n
write_room f n e = (write_given f n e).room

-- what writing needs is enough for what is masked and for both nonces
pub need_enough : (t : ℕ) → (40 ≤ need_of t) × (16 + masked_length t + 24 ≤ need_of t)
unfolding need_of masked_length
need_enough t = by (is_keyed t) (is_short t)
  where
    by : (k s : Bool) → (40 ≤ cond k 88 (cond s 40 56)) × (16 + cond k 48 (cond s 0 16) + 24 ≤ cond k 88 (cond s 40 56))
    by true s = (omega arith, omega arith)
    by false true = (omega arith, omega arith)
    by false false = (omega arith, omega arith)

-- no more than 48 bytes are masked from 16 on
pub long_le : (t : ℕ) → masked_length t ≤ 48
unfolding masked_length
long_le t = by (is_keyed t) (is_short t)
  where
    by : (k s : Bool) → cond k 48 (cond s 0 16) ≤ 48
    by true s = omega arith
    by false true = omega arith
    by false false = omega arith

pub need_keyed : (t : ℕ) → is_keyed t ≡ true → need_of t ≡ 88
unfolding need_of
need_keyed t e = rw e

-- a test of two, where one of them is known not to hold
pub long_enough : {a : Bool} {n m : ℕ} → ((a ≡ true) × (m ≤ n)) ⊎ (a ≡ false) → (a && ltb n m) ≡ false
long_enough {n = n} {m = m} (inl (e, h)) = rw e (le-ltb n m h)
long_enough (inr e) = rw e

pub number_0 : {a : Bool} {x : ℕ} → ((a ≡ true) × (x ≡ 0)) ⊎ (a ≡ false) → (a && not (eqb x 0)) ≡ false
number_0 (inl (e, z)) = rw (e, z)
number_0 (inr e) = rw e

pub in_nibbles : {a b : Bool} → ((a ≡ true) × (b ≡ true)) ⊎ (a ≡ false) → (a && not b) ≡ false
in_nibbles (inl (e, z)) = rw (e, z)
in_nibbles (inr e) = rw e

-- what is left to test of a packet of a listed type t, and of fields
pub read_judged :
    (q : List ℕ) (n : ℕ) {t : ℕ} (v : Bool) → (t ≡ packet_kind q) × (is_listed (packet_kind q) ≡ true) → not v ≡ (not (is_short t) && not (is_version (get_or q 13 0)))
    → front_refusal q n ≡ cond (not v) 22 (cond (is_keyed t && ltb n 64) 23 (cond (eqb t 2 && not (eqb (big_at 4 q 8) 0)) 24 0))
unfolding front_refusal
read_judged q n {t} v k e = rw (e, k.0, k.1)

pub write_judged :
    (f : Fields) (n : ℕ) {t : ℕ} (v g : Bool) → (t ≡ f.kind) × (is_listed f.kind ≡ true) → not v ≡ (not (is_short t) && not (is_version f.version)) → not g ≡ (ltb 15 f.fragment || ltb 15 f.count)
    → write_number f n ≡ cond (not v) 22 (cond (eqb t 2 && not (eqb f.number 0)) 24 (cond (eqb t 2 && not g) 25 (cond (ltb n (need_of t)) 20 0)))
unfolding write_number
write_judged f n {t} v g k e w = rw (e, w, k.0, k.1)
