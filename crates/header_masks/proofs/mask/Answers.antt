use mathlib.Core.Path.{◌≡◌, sym, ap, ◌∙◌}
use lib.ListN.{length, drop}
use mathlib.Core.List.{List, ◌++◌}
use Prim.Native.Nat.{ℕ}
use Rattle.wire.proofs.Parts.{splice_pieces}
use Rattle.header.specs.Unmasking.{front}
use Rattle.header.proofs.Fronts.{front_kept}
use borrow.Author.Rules.{rules}
use Rattle.header_masks.proofs.mask.Goals as goal

pub returns : goal.returns
returns c =
    let a = c.args in
    let m = c.mask_rest.new.pkt in
    let long : length c.front_of-head.result ≡ 16 = search rules in
    ap (λ (z : List ℕ). z ++ drop 16 m) c.copy_from_slice.ensures.after
    ∙ sym (splice_pieces m 0 16 c.front_of-head.result long)
    ∙ front_kept a.k1.now a.k2.now m (search rules) _ c.front_of-head.ensures
    ∙ ap (front a.k1.now a.k2.now) c.mask_rest.ensures
