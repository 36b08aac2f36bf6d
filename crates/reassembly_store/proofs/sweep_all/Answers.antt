use mathlib.Core.Path.{◌≡◌, refl, ap, ◌∙◌}
use Prim.Native.Nat.{◌+◌, ◌*◌}
use native.Mathlib.Omega.{arith}
use Rattle.reassembly.specs.Sizes.{share_size}
use Rattle.reassembly.specs.Calls.{share_swept}
use Rattle.reassembly.specs.Shares.{with_share, shares_swept}
use Rattle.reassembly.proofs.Shares.{share_lent, share_back}
use Rattle.reassembly.proofs.SharesSwept.{shares_more}
use borrow.Author.Rules.{rules}
use Rattle.reassembly_store.proofs.sweep_all.Goals as goal

pub loop-n-preserved : goal.loop-n-preserved
loop-n-preserved c =
    let a = c.args in
    let l = c.loop-n in
    let s = c.sweep_share in
    shares_more a.second a.rec.now l.rec _ l.n l.invariant
    (share_back l.rec l.n (l.n * share_size) (l.n * share_size + share_size) refl refl s.new.rec (search rules)
    ∙ ap (with_share l.rec l.n) (s.ensures ∙ ap (share_swept a.second) (share_lent l.rec l.n (l.n * share_size) (l.n * share_size + share_size) refl refl)))

pub returns : goal.returns
returns c =
    let e : c.loop-n.n ≡ 4 = omega arith in
    c.loop-n.invariant ∙ ap (shares_swept c.args.second c.args.rec.now) e
