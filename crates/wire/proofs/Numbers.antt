-- Laws of numbers in bytes, each once over the width. Assumes nothing.
use mathlib.Core.Path.{◌≡◌, refl, sym, ap, ◌∙◌, subst}
use mathlib.Core.List.{List, [], ◌∷◌, ◌++◌, reverse, reverse-append, reverse-reverse, reverse-cons}
use Prim.Native.Nat.{ℕ, zero, suc, ◌+◌, ◌*◌, ◌/◌, ◌%◌, ◌^◌, ◌≤◌, ◌<◌}
use native.Mathlib.Nat.{pow-suc, add-mul, mul_assoc, mul-one, div-lt_iff_lt-mul, zero-add, suc-add, add_comm, one-le-pow, div-one, div-div-eq-div-mul, pow-succ'}
use native.Mathlib.Omega.{arith}
use lib.Arith.{mod-mul, digits_lt}
use lib.ListN.{length, get_or, take, drop, length-reverse}
use lib.Seq.{get_or-drop}
use Rattle.wire.specs.Parts.{part}
use Rattle.wire.specs.Numbers.{Bytes, little, big, little_bytes, big_bytes, little_at, big_at}
use Rattle.wire.proofs.Parts.{reads, part_add, part_part, part_reads, length_part}

-- ---- lists of bytes

pub bytes_append : (a b : List ℕ) → Bytes a → Bytes b → Bytes (a ++ b)
bytes_append [] b ha hb i = hb i
bytes_append (x ∷ a) b ha hb zero = ha zero
bytes_append (x ∷ a) b ha hb (suc i) = bytes_append a b (λ j. ha (suc j)) hb i

pub bytes_take : (n : ℕ) (l : List ℕ) → Bytes l → Bytes (take n l)
bytes_take zero l h i = omega arith
bytes_take (suc n) [] h i = omega arith
bytes_take (suc n) (x ∷ l) h zero = h zero
bytes_take (suc n) (x ∷ l) h (suc i) = bytes_take n l (λ j. h (suc j)) i

pub bytes_drop : (o : ℕ) (l : List ℕ) → Bytes l → Bytes (drop o l)
bytes_drop o l h i = rw get_or-drop (h (o + i))

pub bytes_part : (l : List ℕ) (o n : ℕ) → Bytes l → Bytes (part l o n)
unfolding part
bytes_part l o n h = bytes_take n (drop o l) (bytes_drop o l h)

bytes_one : {x : ℕ} → x < 256 → Bytes (x ∷ [])
bytes_one h zero = h
bytes_one h (suc i) = omega arith

pub bytes_reverse : (l : List ℕ) → Bytes l → Bytes (reverse l)
bytes_reverse [] h = h
bytes_reverse (x ∷ l) h =
    rw (reverse-cons x l) (bytes_append (reverse l) (x ∷ []) (bytes_reverse l (λ i. h (suc i))) (bytes_one (h zero)))

pub bytes_little : (n x : ℕ) → Bytes (little_bytes n x)
unfolding little_bytes
bytes_little zero x i = omega arith
bytes_little (suc n) x zero = omega arith
bytes_little (suc n) x (suc i) = bytes_little n (x / 256) i

-- ---- lengths and bounds

pub length_little : (n x : ℕ) → length (little_bytes n x) ≡ n
unfolding little_bytes
length_little zero x = refl
length_little (suc n) x = ap suc (length_little n (x / 256))

pub length_big : (n x : ℕ) → length (big_bytes n x) ≡ n
unfolding big_bytes
length_big n x = length-reverse (little_bytes n x) ∙ length_little n x

-- n bytes are a number below 256 ^ n
pub little_lt : (l : List ℕ) → Bytes l → little l < 256 ^ length l
unfolding little
little_lt [] h = omega arith
little_lt (b ∷ l) h =
    rw (pow-suc 256 (length l), add_comm b (little l * 256)) (digits_lt (little_lt l (λ i. h (suc i))) (h zero))

pub big_lt : (l : List ℕ) → Bytes l → big l < 256 ^ length l
unfolding big
big_lt l h = subst (λ (n : ℕ). little (reverse l) < 256 ^ n) (length-reverse l) (little_lt (reverse l) (bytes_reverse l h))

pub little_at_lt : (n : ℕ) (l : List ℕ) (o : ℕ) → o + n ≤ length l → Bytes l → little_at n l o < 256 ^ n
unfolding little_at
little_at_lt n l o h b =
    subst (λ (k : ℕ). little (part l o n) < 256 ^ k) (length_part l o n h) (little_lt (part l o n) (bytes_part l o n b))

pub big_at_lt : (n : ℕ) (l : List ℕ) (o : ℕ) → o + n ≤ length l → Bytes l → big_at n l o < 256 ^ n
unfolding big_at
big_at_lt n l o h b =
    subst (λ (k : ℕ). big (part l o n) < 256 ^ k) (length_part l o n h) (big_lt (part l o n) (bytes_part l o n b))

-- ---- put and read, read and put

-- a number that n bytes hold, put in n bytes and read
pub little_back : (n x : ℕ) → x < 256 ^ n → little (little_bytes n x) ≡ x
unfolding little little_bytes
little_back zero x h = omega arith
little_back (suc n) x h =
    let g : x < 256 ^ n * 256 = rw (pow-suc 256 n) at h in
    rw (little_back n (x / 256) ((div-lt_iff_lt-mul (omega arith)).1 g)) (omega arith)

pub big_back : (n x : ℕ) → x < 256 ^ n → big (big_bytes n x) ≡ x
unfolding big big_bytes
big_back n x h = ap little (reverse-reverse (little_bytes n x)) ∙ little_back n x h

-- a number whose bytes stand at a place, read there
pub little_at_back : (n x : ℕ) (l : List ℕ) (o : ℕ) → x < 256 ^ n → part l o n ≡ little_bytes n x → little_at n l o ≡ x
unfolding little_at
little_at_back n x l o h e = ap little e ∙ little_back n x h

pub big_at_back : (n x : ℕ) (l : List ℕ) (o : ℕ) → x < 256 ^ n → part l o n ≡ big_bytes n x → big_at n l o ≡ x
unfolding big_at
big_at_back n x l o h e = ap big e ∙ big_back n x h

-- bytes, read and put in as many
pub little_again : (l : List ℕ) → Bytes l → little_bytes (length l) (little l) ≡ l
unfolding little little_bytes
little_again [] h = refl
little_again (b ∷ l) h =
    let hb : b < 256 = h zero in
    let lo : (b + little l * 256) % 256 ≡ b = omega arith in
    let hi : (b + little l * 256) / 256 ≡ little l = omega arith in
    rw (lo, hi, little_again l (λ i. h (suc i)))

pub big_again : (l : List ℕ) → Bytes l → big_bytes (length l) (big l) ≡ l
unfolding big big_bytes
big_again l h =
    ap (λ (n : ℕ). reverse (little_bytes n (little (reverse l)))) (sym (length-reverse l))
    ∙ ap reverse (little_again (reverse l) (bytes_reverse l h))
    ∙ reverse-reverse l

-- ---- two numbers side by side

pub little_append : (a b : List ℕ) → little (a ++ b) ≡ little a + little b * 256 ^ length a
unfolding little
little_append [] b = rw (mul-one (little b)) (sym (zero-add (little b)))
little_append (x ∷ a) b =
    let e : little b * 256 ^ suc (length a) ≡ little b * 256 ^ length a * 256 = ap (λ (z : ℕ). little b * z) (pow-suc 256 (length a)) ∙ sym (mul_assoc (little b) (256 ^ length a) 256) in
    rw (little_append a b, e, add-mul (little a) (little b * 256 ^ length a) 256) (omega arith)

pub big_append : (a b : List ℕ) → big (a ++ b) ≡ big a * 256 ^ length b + big b
unfolding big
big_append a b =
    ap little (reverse-append a b)
    ∙ little_append (reverse b) (reverse a)
    ∙ ap (λ (n : ℕ). little (reverse b) + little (reverse a) * 256 ^ n) (length-reverse b)
    ∙ add_comm (little (reverse b)) (little (reverse a) * 256 ^ length b)

-- a number of m + n bytes, read in two
pub little_at_add : (m n : ℕ) (l : List ℕ) (o : ℕ) → o + m ≤ length l → little_at (m + n) l o ≡ little_at m l o + little_at n l (o + m) * 256 ^ m
unfolding little_at
little_at_add m n l o h =
    ap little (part_add l o m n)
    ∙ little_append (part l o m) (part l (o + m) n)
    ∙ ap (λ (k : ℕ). little (part l o m) + little (part l (o + m) n) * 256 ^ k) (length_part l o m h)

pub big_at_add : (m n : ℕ) (l : List ℕ) (o : ℕ) → o + m + n ≤ length l → big_at (m + n) l o ≡ big_at m l o * 256 ^ n + big_at n l (o + m)
unfolding big_at
big_at_add m n l o h =
    ap big (part_add l o m n)
    ∙ big_append (part l o m) (part l (o + m) n)
    ∙ ap (λ (k : ℕ). big (part l o m) * 256 ^ k + big (part l (o + m) n)) (length_part l (o + m) n h)

-- a number in a part
pub big_at_part : (m : ℕ) (l : List ℕ) (o n p : ℕ) → p + m ≤ n → big_at m (part l o n) p ≡ big_at m l (o + p)
unfolding big_at
big_at_part m l o n p h = ap big (part_part l o n p m h)

pub little_at_part : (m : ℕ) (l : List ℕ) (o n p : ℕ) → p + m ≤ n → little_at m (part l o n) p ≡ little_at m l (o + p)
unfolding little_at
little_at_part m l o n p h = ap little (part_part l o n p m h)

-- the high bytes of a number do not reach its low ones
pub little_mod : (n x : ℕ) → little_bytes n (x % 256 ^ n) ≡ little_bytes n x
unfolding little_bytes
little_mod zero x = refl
little_mod (suc n) x =
    let p : 0 < 256 ^ n = one-le-pow n 256 (omega arith) in
    let e : x % 256 ^ suc n ≡ (x / 256 % 256 ^ n) * 256 + x % 256 = ap (λ (z : ℕ). x % z) (pow-suc 256 n) ∙ mod-mul x p (omega arith) in
    let lo : (x / 256 % 256 ^ n * 256 + x % 256) % 256 ≡ x % 256 = omega arith in
    let hi : (x / 256 % 256 ^ n * 256 + x % 256) / 256 ≡ x / 256 % 256 ^ n = omega arith in
    rw (e, lo, hi, little_mod n (x / 256))

-- a number of m + n bytes, put in two
pub little_add : (m n x : ℕ) → little_bytes (m + n) x ≡ little_bytes m x ++ little_bytes n (x / 256 ^ m)
unfolding little_bytes
little_add zero n x = rw (zero-add, div-one)
little_add (suc m) n x =
    let e : x / 256 / 256 ^ m ≡ x / 256 ^ suc m = div-div-eq-div-mul x 256 (256 ^ m) ∙ ap (λ (z : ℕ). x / z) (sym (pow-succ' 256 m)) in
    rw (suc-add, little_add m n (x / 256), e)

pub big_add : (m n x : ℕ) → big_bytes (m + n) x ≡ big_bytes n (x / 256 ^ m) ++ big_bytes m x
unfolding big_bytes
big_add m n x = ap reverse (little_add m n x) ∙ reverse-append (little_bytes m x) (little_bytes n (x / 256 ^ m))

pub big_mod : (n x : ℕ) → big_bytes n (x % 256 ^ n) ≡ big_bytes n x
unfolding big_bytes
big_mod n x = ap reverse (little_mod n x)

-- ---- a number at a place, its bytes written out: `reads` computes where n is a numeral

pub little_at_reads : (n : ℕ) (l : List ℕ) (o : ℕ) → o + suc n ≤ length l → little_at (suc n) l o ≡ little (get_or l o 0 ∷ reads l o 1 0 n)
unfolding little_at
little_at_reads n l o h = ap little (part_reads l o n 0 h)

pub big_at_reads : (n : ℕ) (l : List ℕ) (o : ℕ) → o + suc n ≤ length l → big_at (suc n) l o ≡ big (get_or l o 0 ∷ reads l o 1 0 n)
unfolding big_at
big_at_reads n l o h = ap big (part_reads l o n 0 h)

-- ---- the byte of a number that is put in one, and the bytes of one that two and four hold, by division

pub big_one : (x : ℕ) → big_bytes 1 x ≡ x % 256 ∷ []
unfolding big_bytes little_bytes
big_one x = refl

pub little_two : (x : ℕ) → x < 256 ^ 2 → little_bytes 2 x ≡ x % 256 ∷ x / 256 ∷ []
unfolding little_bytes
little_two x h =
    let e : x / 256 % 256 ≡ x / 256 = omega arith in
    rw e

pub little_four : (x : ℕ) → x < 256 ^ 4 → little_bytes 4 x ≡ x % 256 ∷ x / 256 % 256 ∷ x / 65536 % 256 ∷ x / 16777216 ∷ []
unfolding little_bytes
little_four x h =
    let e : x / 256 / 256 / 256 % 256 ≡ x / 16777216 = omega arith in
    let f : x / 256 / 256 % 256 ≡ x / 65536 % 256 = omega arith in
    rw (e, f)

-- a number of eight bytes, by its halves
pub little_eight : (x : ℕ) → little_bytes 4 (x % 4294967296) ++ little_bytes 4 (x / 4294967296) ≡ little_bytes 8 x
little_eight x = sym (little_add 4 4 x ∙ ap (λ (l : List ℕ). l ++ little_bytes 4 (x / 4294967296)) (sym (little_mod 4 x)))

pub big_eight : (x : ℕ) → big_bytes 4 (x / 4294967296) ++ big_bytes 4 (x % 4294967296) ≡ big_bytes 8 x
big_eight x = sym (big_add 4 4 x ∙ ap (λ (l : List ℕ). big_bytes 4 (x / 4294967296) ++ l) (sym (big_mod 4 x)))

-- ---- a number read at a place, put in as many bytes: what stood there

pub little_at_again : (n : ℕ) (l : List ℕ) (o : ℕ) → o + n ≤ length l → Bytes l → little_bytes n (little_at n l o) ≡ part l o n
unfolding little_at
little_at_again n l o h b =
    ap (λ (k : ℕ). little_bytes k (little (part l o n))) (sym (length_part l o n h)) ∙ little_again (part l o n) (bytes_part l o n b)

pub big_at_again : (n : ℕ) (l : List ℕ) (o : ℕ) → o + n ≤ length l → Bytes l → big_bytes n (big_at n l o) ≡ part l o n
unfolding big_at
big_at_again n l o h b =
    ap (λ (k : ℕ). big_bytes k (big (part l o n))) (sym (length_part l o n h)) ∙ big_again (part l o n) (bytes_part l o n b)
