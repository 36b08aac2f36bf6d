-- A buffer filled from its start by reads: a turn of the loop. Assumes nothing.
use Rattle.std.proofs.Common.{◌≡◌, ℕ, ◌+◌, ◌-◌, ◌≤◌, List, ◌++◌, length, take, sym, ap, ◌∙◌, length-take-le, drop, arith}
use lib.Seq.{drop_at}
use Rattle.std.proofs.lemmas.List.{take-append-le}
use Rattle.std.proofs.Math.Seq.{take-append-add}
use borrow.Rule.Slice.PartMut.{put_mid, post_of}

-- n more bytes stand after the first i
pub take_more : (i n : ℕ) (l ys : List ℕ) → i ≤ length l → n ≤ length ys → take i l ++ take n ys ≡ take (i + n) (put_mid i (length l - i) l ys)
take_more i n l ys h q =
    let after : List ℕ = post_of i (length l - i) l in
    ap (λ (z : List ℕ). take i l ++ z) (sym (take-append-le n ys after q))
    ∙ sym (take-append-add (take i l) (ys ++ after) n)
    ∙ ap (λ (k : ℕ). take (k + n) (take i l ++ (ys ++ after))) (length-take-le i l h)

-- n bytes that were read after the first i stand there
pub read_after : (l ys : List ℕ) (i j n k : ℕ) → j ≡ i → i ≤ length l → n ≤ length ys → take n ys ≡ take (i + n - j) (drop j (put_mid i k l ys))
read_after l ys i j n k e h q =
    let a : i + n - j ≡ n = omega arith in
    let z : length (take i l) ≡ j = length-take-le i l h ∙ sym e in
    let r = post_of i k l in
    sym (ap (take (i + n - j)) (drop_at (take i l) (ys ++ r) j z) ∙ ap (λ (m : ℕ). take m (ys ++ r)) a ∙ take-append-le n ys r q)
