use mathlib.Core.Path.{◌≡◌, sym, ap, ◌∙◌}
use lib.ListN.{length, drop, get_or}
use mathlib.Core.List.{List, ◌++◌}
use Prim.Native.Nat.{ℕ}
use Rattle.wire.proofs.Parts.{splice_pieces}
use Rattle.header.specs.Unmasking.{rest}
use borrow.Author.Rules.{rules}
use Rattle.header_masks.proofs.unmask.Goals as goal

pub returns : goal.returns
returns c =
    let a = c.args in
    let long : length a.head.now ≡ 16 = search rules in
    c.mask_rest.ensures
    ∙ ap (λ (z : List ℕ). rest a.k2.now (get_or a.head.now 12 0) (z ++ drop 16 a.pkt.now)) c.copy_from_slice.ensures.after
    ∙ ap (rest a.k2.now (get_or a.head.now 12 0)) (sym (splice_pieces a.pkt.now 0 16 a.head.now long))
