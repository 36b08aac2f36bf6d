-- A loop over the bytes of a number, for every width: a turn of it, and its end. Assumes nothing.
use mathlib.Core.Path.{◌≡◌, sym, ap, ◌∙◌, subst}
use mathlib.Core.List.{List, [], ◌∷◌, ◌++◌, reverse, reverse-reverse}
use Prim.Native.Nat.{ℕ, ◌+◌, ◌-◌, ◌*◌, ◌/◌, ◌%◌, ◌^◌, ◌≤◌, ◌<◌}
use native.Mathlib.Nat.{pow-suc, div-div-eq-div-mul, pow-le-pow_right}
use native.Mathlib.Numerals.{add-one}
use native.Mathlib.Omega.{arith}
use lib.ListN.{length, get_or, take, drop, set, length-reverse}
use lib.Seq.{take-suc, take_all, length-take-le}
use borrow.Rule.Slice.PartMut.{put_mid}
use Rattle.std.proofs.lemmas.Grind.{get_or_default_zero}
use Rattle.wire.specs.Parts.{part, splice}
use Rattle.wire.specs.Numbers.{Bytes, little, big, little_bytes, big_bytes, little_at, big_at}
use Rattle.wire.proofs.Parts.{length_part, part_same, splice_all, splice_over}
use Rattle.wire.proofs.Slices.{slice_is, splice_more}
use Rattle.wire.proofs.Lent.{lent_part}
use Rattle.wire.proofs.Numbers.{bytes_part, bytes_take, bytes_reverse, big_append, big_lt, length_little, little_add}

-- the slice that a loop goes over is the part of the number's bytes
pub bytes_of : (b : List ℕ) (at n w : ℕ) → n ≡ w → take (at + n - at) (drop at b) ≡ part b at w
bytes_of b at n w e = slice_is b at n ∙ ap (part b at) e

big_of_one : (y : ℕ) → big (y ∷ []) ≡ y
unfolding big little
big_of_one y = omega arith

big_more : (a : List ℕ) (y : ℕ) → big (a ++ (y ∷ [])) ≡ big a * 256 + y
big_more a y = big_append a (y ∷ []) ∙ ap (λ (z : ℕ). big a * 256 + z) (big_of_one y)

little_more : (k x : ℕ) → little_bytes (k + 1) x ≡ little_bytes k x ++ (x / 256 ^ k % 256 ∷ [])
unfolding little_bytes
little_more k x = little_add k 1 x

-- one byte more, below the others
pub pushed : (l : List ℕ) (k w x y : ℕ) → Bytes l → length l ≡ w → k < length l → x ≡ big (take k l) → y ≡ get_or l k 0 → (x * 256 + y ≡ big (take (k + 1) l)) × (x * 256 + y < 256 ^ w)
pushed l k w x y bytes e h p q = (sum, small)
  where
    more : take (k + 1) l ≡ take k l ++ (get_or l k 0 ∷ [])
    more = ap (λ (i : ℕ). take i l) (add-one k) ∙ take-suc l k 0 h

    sum : x * 256 + y ≡ big (take (k + 1) l)
    sum = rw (p, q) (sym (ap big more ∙ big_more (take k l) (get_or l k 0)))

    len : length (take (k + 1) l) ≡ k + 1
    len = length-take-le (k + 1) l (omega arith)

    small : x * 256 + y < 256 ^ w
    small =
        let lt : x * 256 + y < 256 ^ (k + 1) = rw sum (subst (λ (i : ℕ). big (take (k + 1) l) < 256 ^ i) len (big_lt (take (k + 1) l) (bytes_take (k + 1) l bytes))) in
        let up : 256 ^ (k + 1) ≤ 256 ^ w = pow-le-pow_right {n = 256} (omega arith) (omega arith) in
        omega (arith, lt, up)

-- the same in a loop over the slice
pub read_more : (b : List ℕ) (at n w k x : ℕ) → Bytes b → n ≡ w → at + w ≤ length b → k < length (take (at + n - at) (drop at b)) → x ≡ big (take k (part b at w)) → (x * 256 + get_or (take (at + n - at) (drop at b)) k 0 ≡ big (take (k + 1) (part b at w))) × (x * 256 + get_or (take (at + n - at) (drop at b)) k 0 < 256 ^ w)
read_more b at n w k x bytes e fits h p =
    pushed (part b at w) k w x (get_or (take (at + n - at) (drop at b)) k 0) (bytes_part b at w bytes) (length_part b at w fits) (omega (arith, ap length (bytes_of b at n w e))) p
    (ap (λ (l : List ℕ). get_or l k 0) (bytes_of b at n w e))

-- all bytes are read
pub read_all : (b : List ℕ) (at n w k x : ℕ) → n ≡ w → k ≡ length (take (at + n - at) (drop at b)) → x ≡ big (take k (part b at w)) → x ≡ big_at w b at
unfolding big_at
read_all b at n w k x e h p =
    p ∙ ap big (take_all k (part b at w) (omega (arith, h, ap length (bytes_of b at n w e))))

-- the same from the last byte on: a turn, and the end
pub read_below : (b : List ℕ) (at w k x y : ℕ) → Bytes b → at + w ≤ length b → (k < length (reverse (part b at w))) × (y ≡ get_or (reverse (part b at w)) k y) → x ≡ big (take k (reverse (part b at w))) → (x * 256 + y ≡ big (take (k + 1) (reverse (part b at w)))) × (x * 256 + y < 256 ^ w)
read_below b at w k x y bytes fits t p =
    pushed (reverse (part b at w)) k w x y (bytes_reverse (part b at w) (bytes_part b at w bytes)) (length-reverse (part b at w) ∙ length_part b at w fits) t.0 p
    (t.1 ∙ get_or_default_zero (reverse (part b at w)) k y t.0)

pub read_back : (b : List ℕ) (at w k x : ℕ) → k ≡ length (reverse (part b at w)) → x ≡ big (take k (reverse (part b at w))) → x ≡ little_at w b at
unfolding little_at big
read_back b at w k x h p =
    p ∙ ap (λ (l : List ℕ). little (reverse l)) (take_all k (reverse (part b at w)) (omega (arith, h))) ∙ ap little (reverse-reverse (part b at w))

-- one byte more of x, above the others, which are put at the start of l
pub put_more : (l : List ℕ) (k x y : ℕ) → k < length l → y ≡ x / 256 ^ k % 256 → set (splice l 0 (little_bytes k x)) k y ≡ splice l 0 (little_bytes (k + 1) x)
put_more l k x y h e =
    let n : 0 + length (little_bytes k x) ≡ k = omega (arith, length_little k x) in
    ap (λ (i : ℕ). set (splice l 0 (little_bytes k x)) i y) (sym n)
    ∙ splice_more l 0 (little_bytes k x) y (omega (arith, n))
    ∙ ap (splice l 0) (ap (λ (z : ℕ). little_bytes k x ++ (z ∷ [])) e ∙ sym (little_more k x))

-- what is left of x above k + 1 bytes
pub above_more : (k x r : ℕ) → r ≡ x / 256 ^ k → r / 256 ≡ x / 256 ^ (k + 1)
above_more k x r e =
    let p : 256 ^ (k + 1) ≡ 256 ^ k * 256 = ap (λ (i : ℕ). 256 ^ i) (add-one k) ∙ pow-suc 256 k in
    ap (λ (z : ℕ). z / 256) e ∙ div-div-eq-div-mul x (256 ^ k) 256 ∙ ap (λ (z : ℕ). x / z) (sym p)

-- all bytes of x are put
pub put_all : (b ys : List ℕ) (at n w k x : ℕ) → n ≡ w → at + w ≤ length b → ys ≡ splice (take (at + n - at) (drop at b)) 0 (little_bytes k x) → k ≡ length (take (at + n - at) (drop at b)) → put_mid at (at + n - at) b ys ≡ splice b at (little_bytes w x)
put_all b ys at n w k x e h p q =
    let lp : length (take (at + n - at) (drop at b)) ≡ w = ap length (bytes_of b at n w e) ∙ length_part b at w h in
    let kw : k ≡ w = q ∙ lp in
    let all : ys ≡ little_bytes w x =
    p
    ∙ ap (λ (i : ℕ). splice (take (at + n - at) (drop at b)) 0 (little_bytes i x)) kw
    ∙ splice_all (take (at + n - at) (drop at b)) (little_bytes w x) (length_little w x ∙ sym lp)
    in
    lent_part b at (at + n) ys (omega arith) (omega (arith, ap length all, length_little w x)) ∙ ap (splice b at) all

-- bytes that are put the other way round
pub turned : (b m : List ℕ) (at n w x : ℕ) → n ≡ w → at + w ≤ length b → m ≡ splice b at (little_bytes w x) → put_mid at (at + n - at) m (reverse (take (at + n - at) (drop at m))) ≡ splice b at (big_bytes w x)
unfolding big_bytes
turned b m at n w x e h p =
    let small : List ℕ = little_bytes w x in
    let ll : length (little_bytes w x) ≡ w = length_little w x in
    let back : length (reverse (little_bytes w x)) ≡ length (little_bytes w x) = length-reverse (little_bytes w x) in
    let was : take (at + n - at) (drop at m) ≡ little_bytes w x =
    bytes_of m at n w e
    ∙ ap (λ (z : List ℕ). part z at w) p
    ∙ ap (part (splice b at small) at) (sym ll)
    ∙ part_same b at small (omega (arith, ll))
    in
    ap (λ (z : List ℕ). put_mid at (at + n - at) m (reverse z)) was
    ∙ lent_part m at (at + n) (reverse small) (omega arith) (omega (arith, back, ll))
    ∙ ap (λ (z : List ℕ). splice z at (reverse small)) p
    ∙ splice_over b at small (reverse small) (omega (arith, ll)) back
