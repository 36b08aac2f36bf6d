-- The bytes of a head and of an entry, written out. Assumes nothing.
use mathlib.Core.Path.{◌≡◌, refl}
use mathlib.Core.List.{List, [], ◌∷◌, ◌++◌}
use Prim.Native.Nat.{ℕ, ◌+◌, ◌/◌, ◌%◌, ◌≤◌, ◌<◌}
use native.Mathlib.Omega.{arith}
use lib.ListN.{length}
use Rattle.wire.specs.Parts.{splice}
use Rattle.wire.specs.Numbers.{little_bytes}
use Rattle.wire.proofs.Parts.{puts}
use Rattle.wire.proofs.Numbers.{length_little, little_two, little_four, little_eight}
use Rattle.reassembly.specs.Sizes.{head_size}
use Rattle.reassembly.specs.declared.Head.{Head}
use Rattle.reassembly.specs.declared.Entry.{Entry}
use Rattle.reassembly.specs.Record.{head_bytes, entry_bytes}

-- what the fields of a head hold
pub record HeadFits (h : Head) : Type 0 where
  pub id : h.id < 4294967296
  pub opened : h.opened < 18446744073709551616
  pub expires : h.expires < 4294967296
  pub total : h.total < 65536

-- the bytes one by one: of a number in four, of a head, of an entry
abbrev pub four : ℕ → List ℕ
four x = x % 256 ∷ x / 256 % 256 ∷ x / 65536 % 256 ∷ x / 16777216 ∷ []

abbrev pub head_row : Head → List ℕ
head_row h =
    four h.id ++ (four (h.opened % 4294967296) ++ four (h.opened / 4294967296)) ++ four h.expires ++ (h.total % 256 ∷ h.total / 256 ∷ [])
    ++ (h.count ∷ h.last ∷ h.top ∷ h.kind ∷ 0 ∷ 0 ∷ [])

abbrev pub entry_row : Entry → List ℕ
entry_row e = e.place % 256 ∷ e.place / 256 ∷ e.len % 256 ∷ e.len / 256 ∷ []

pub head_written : (h : Head) → HeadFits h → head_bytes h ≡ head_row h
unfolding head_bytes
head_written h f =
    rw (
      little_four h.id f.id,
      ← little_eight h.opened,
      little_four (h.opened % 4294967296) (omega arith),
      little_four (h.opened / 4294967296) (omega (arith, f.opened)),
      little_four h.expires f.expires,
      little_two h.total f.total,
    ) refl

pub entry_written : (e : Entry) → e.place < 65536 → e.len < 65536 → entry_bytes e ≡ entry_row e
unfolding entry_bytes
entry_written e p l = rw (little_two e.place p, little_two e.len l) refl

-- an entry and a head, put field by field
pub entry_put : (rec : List ℕ) (o : ℕ) (e : Entry) {m n : List ℕ} → o + 4 ≤ length rec → m ≡ splice rec o (little_bytes 2 e.place) → n ≡ splice m (o + 2) (little_bytes 2 e.len) → n ≡ splice rec o (entry_bytes e)
unfolding entry_bytes
entry_put rec o e h p q =
    (puts rec o 2 2 (o + 2) (little_bytes 2 e.place) (little_bytes 2 e.len) (length_little 2 e.place) (length_little 2 e.len) refl (omega arith) p q).0

pub head_put : (rec : List ℕ) (o : ℕ) (h : Head) {a b c d n : List ℕ} → o + head_size ≤ length rec
    → a ≡ splice rec o (little_bytes 4 h.id) → b ≡ splice a (o + 4) (little_bytes 8 h.opened) → c ≡ splice b (o + 12) (little_bytes 4 h.expires)
    → d ≡ splice c (o + 16) (little_bytes 2 h.total) → n ≡ splice d (o + 18) (h.count ∷ h.last ∷ h.top ∷ h.kind ∷ 0 ∷ 0 ∷ [])
    → n ≡ splice rec o (head_bytes h)
unfolding head_bytes
head_put rec o h {a} {b} {c} {d} {n} long ea eb ec ed en =
    let i : List ℕ = little_bytes 4 h.id in
    let s : List ℕ = little_bytes 8 h.opened in
    let x : List ℕ = little_bytes 4 h.expires in
    let t : List ℕ = little_bytes 2 h.total in
    let p₁ = puts rec o 4 8 (o + 4) i s (length_little 4 h.id) (length_little 8 h.opened) refl (omega arith) ea eb in
    let p₂ = puts rec o 12 4 (o + 12) (i ++ s) x p₁.1 (length_little 4 h.expires) refl (omega arith) p₁.0 ec in
    let p₃ = puts rec o 16 2 (o + 16) (i ++ s ++ x) t p₂.1 (length_little 2 h.total) refl (omega arith) p₂.0 ed in
    (puts rec o 18 6 (o + 18) (i ++ s ++ x ++ t) (h.count ∷ h.last ∷ h.top ∷ h.kind ∷ 0 ∷ 0 ∷ []) p₃.1 refl refl (omega arith) p₃.0 en).0
