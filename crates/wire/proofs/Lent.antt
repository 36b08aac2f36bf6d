-- What a function that lends `&mut l[a..e]` to a callee learns of the whole, said by `splice`. Assumes nothing.
use mathlib.Core.Path.{◌≡◌, sym, ap, ◌∙◌}
use mathlib.Core.List.{List, ◌++◌, append_assoc}
use Prim.Native.Nat.{ℕ, ◌+◌, ◌-◌, ◌≤◌}
use native.Mathlib.Omega.{arith}
use lib.ListN.{length, take, drop}
use borrow.Rule.Slice.PartMut.{put_mid, Post-is}
use Rattle.wire.specs.Parts.{splice}

-- the part came back as ys
pub lent_part : (l : List ℕ) (a e : ℕ) (ys : List ℕ) → a ≤ e → length ys ≡ e - a → put_mid a (e - a) l ys ≡ splice l a ys
unfolding splice
lent_part l a e ys h le =
    let s : e ≡ a + length ys = omega arith in
    ap (λ (z : List ℕ). take a l ++ (ys ++ z)) (Post-is a e l h ∙ ap (λ (k : ℕ). drop k l) s)
    ∙ sym (append_assoc (take a l) ys (drop (a + length ys) l))
