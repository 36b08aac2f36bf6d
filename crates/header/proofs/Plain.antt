-- Laws of the plain header: how it is put, piece after piece. Assumes nothing.
use mathlib.Core.Path.{◌≡◌, refl, ap₂, ◌∙◌}
use mathlib.Core.Bool.{true, false}
use mathlib.Core.List.{List, [], ◌∷◌, ◌++◌}
use Prim.Native.Nat.{ℕ, ◌≤◌}
use native.Mathlib.Omega.{arith}
use lib.ListN.{length, length-append}
use Rattle.wire.specs.Parts.{splice}
use Rattle.wire.specs.Numbers.{little_bytes, big_bytes}
use Rattle.wire.proofs.Parts.{puts}
use Rattle.wire.proofs.Numbers.{length_little, length_big}
use Rattle.header.specs.declared.Fields.{Fields}
use Rattle.header.specs.Kinds.{is_short}
use Rattle.header.specs.Writing.{byte13, byte14, front_bytes, id_bytes, header_bytes, plain}

pub length_front_bytes : (f : Fields) → length (front_bytes f) ≡ 16
unfolding front_bytes
length_front_bytes f = simp (length-append, length_little, length_big)

pub length_id_bytes : (f : Fields) → length (id_bytes f) ≡ 16
unfolding id_bytes
length_id_bytes f = simp (length-append, length_little)

-- the first 16 bytes, from what each put left
pub front_put : (f : Fields) (p : List ℕ) {m1 m2 m3 : List ℕ} {b13 b14 : ℕ} → 16 ≤ length p
    → m1 ≡ splice p 0 (little_bytes 8 f.destination) → m2 ≡ splice m1 8 (big_bytes 4 f.number) → b13 ≡ byte13 f → b14 ≡ byte14 f
    → m3 ≡ splice m2 12 (f.kind ∷ b13 ∷ b14 ∷ 0 ∷ []) → m3 ≡ splice p 0 (front_bytes f)
unfolding front_bytes
front_put f p {m1} {m2} {m3} h e1 e2 e13 e14 e3 =
    let d = little_bytes 8 f.destination in
    let n = big_bytes 4 f.number in
    let both = puts p 0 8 4 8 d n (length_little 8 f.destination) (length_big 4 f.number) refl (omega arith) e1 e2 in
    (puts p 0 12 4 12 (d ++ n) (f.kind ∷ byte13 f ∷ byte14 f ∷ 0 ∷ []) both.1 refl refl (omega arith) both.0
    (e3 ∙ ap₂ (λ (x y : ℕ). splice m2 12 (f.kind ∷ x ∷ y ∷ 0 ∷ [])) e13 e14)).0

-- the next 16
pub ids_put : (f : Fields) (p : List ℕ) {m1 m2 : List ℕ} → 32 ≤ length p
    → m1 ≡ splice p 16 (little_bytes 8 f.source) → m2 ≡ splice m1 24 (little_bytes 8 f.token) → m2 ≡ splice p 16 (id_bytes f)
unfolding id_bytes
ids_put f p h e1 e2 =
    (puts p 16 8 8 24 (little_bytes 8 f.source) (little_bytes 8 f.token) (length_little 8 f.source) (length_little 8 f.token) refl (omega arith) e1 e2).0

pub plain_short : (f : Fields) (p : List ℕ) {m : List ℕ} → is_short f.kind ≡ true → m ≡ splice p 0 (front_bytes f) → m ≡ plain f p
unfolding plain header_bytes
plain_short f p e em = rw e em

pub plain_long : (f : Fields) (p : List ℕ) {m1 m2 : List ℕ} → is_short f.kind ≡ false → 32 ≤ length p
    → m1 ≡ splice p 0 (front_bytes f) → m2 ≡ splice m1 16 (id_bytes f) → m2 ≡ plain f p
unfolding plain header_bytes
plain_long f p e h e1 e2 =
    rw e (puts p 0 16 16 16 (front_bytes f) (id_bytes f) (length_front_bytes f) (length_id_bytes f) refl (omega arith) e1 e2).0
