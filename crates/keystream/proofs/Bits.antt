-- Laws of words as bits: a rotation by shifts, and XOR twice. Assumes nothing.
use Rattle.std.proofs.Common.{◌≡◌, ℕ, zero, suc, ◌+◌, ◌-◌, ◌*◌, ◌/◌, ◌%◌, ◌^◌, ◌<◌, refl, ◌∙◌, ap₂, add-zero, div-add-mod', arith, shr_lt}
use native.Mathlib.Nat.{mul-mod_left}
use lib.Arith.{bin_ind}
use lib.Bits.{bit_or, bit_xor, differ, or_shifted, xor_step, xor_self, xor_shr, xor_mod}
use Rattle.std.specs.Int.{rotate_left, w32}
use Rattle.keystream.specs.Chacha.{rotl}
use lib.Pow.{mod-pow-add, shl-shr}

-- a word of j + k bits, shifted up by k within its width, and its k high bits, shifted down, have no bit in common
pub rotated : (j k x : ℕ) → x < 2 ^ (k + j) → bit_or ((x * 2 ^ k) % 2 ^ (j + k)) (x / 2 ^ j) ≡ (x * 2 ^ k) % 2 ^ (j + k) + x / 2 ^ j
rotated j k x h = rw up (or_shifted (x % 2 ^ j) k (x / 2 ^ j) (shr_lt k j h))
  where
    up : (x * 2 ^ k) % 2 ^ (j + k) ≡ (x % 2 ^ j) * 2 ^ k
    up = mod-pow-add (x * 2 ^ k) j k ∙ ap₂ (λ (a b : ℕ). (a % 2 ^ j) * 2 ^ k + b) (shl-shr x k) (mul-mod_left x (2 ^ k)) ∙ add-zero ((x % 2 ^ j) * 2 ^ k)

-- the library's rotation of a word
pub rotated_word : (n x : ℕ) → (0 < n) × (n < 32) → x < 2 ^ 32 → rotate_left w32 x n ≡ rotl x n
unfolding rotl
rotated_word n x h f =
    let k : n % 32 ≡ n = omega arith in
    let j : (32 - n) % 32 ≡ 32 - n = omega arith in
    let e : (32 - n) + n ≡ 32 = omega arith in
    let g : n + (32 - n) ≡ 32 = omega arith in
    rw (k, j) (rw e at (rotated (32 - n) n x (rw g f)))

differ_twice : (x y : ℕ) → x < 2 → y < 2 → differ (bit_xor x y) y ≡ x
differ_twice zero zero h g = refl
differ_twice zero (suc zero) h g = refl
differ_twice zero (suc (suc y)) h g = absurd (omega arith)
differ_twice (suc zero) zero h g = refl
differ_twice (suc zero) (suc zero) h g = refl
differ_twice (suc zero) (suc (suc y)) h g = absurd (omega arith)
differ_twice (suc (suc x)) y h g = absurd (omega arith)

-- XOR twice with one number is nothing at all
pub bit_xor_twice : (a b : ℕ) → bit_xor (bit_xor a b) b ≡ a
bit_xor_twice =
    bin_ind (λ (n : ℕ). (b : ℕ) → bit_xor (bit_xor n b) b ≡ n) (λ b. xor_self b)
    (λ n ih b. xor_step (bit_xor n b) b
    ∙ ap₂ (λ (x y : ℕ). bit_xor x (b / 2) * 2 + differ y (b % 2)) (xor_shr n b 1) (xor_mod n b 1)
    ∙ ap₂ (λ (x y : ℕ). x * 2 + y) (ih (b / 2)) (differ_twice (n % 2) (b % 2) (omega arith) (omega arith))
    ∙ div-add-mod' n 2)
