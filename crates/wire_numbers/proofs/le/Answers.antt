use Rattle.std.proofs.Common.{◌∙◌, ◌≡◌, ◌+◌, ◌-◌, sym, ap, length, take, drop, reverse}
use Rattle.std.proofs.lemmas.Iterator.Adapters.{YieldsList-from_rev_slice}
use Rattle.std.proofs.lemmas.Iterator.Consumers.{YieldsList-turn, YieldsList-end}
use Rattle.std.proofs.lemmas.List.{length_push}
use Rattle.wire.specs.Parts.{part}
use Rattle.wire.specs.Numbers.{big, little}
use Rattle.wire_numbers.proofs.Words.{bytes_of, read_below, read_back}
use Rattle.wire_numbers.proofs.le.Goals as goal

pub loop-byte-init : goal.loop-byte-init
unfolding big little
loop-byte-init g c = c.zero-x.ensures

pub push-x-requires : goal.push-x-requires
push-x-requires g c =
    let a = c.args in
    let w = g.W.Word.WIDTH in
    let l = c.loop-byte in
    let rest : _ ≡ take (a.at + c.WIDTH.result - a.at) (drop a.at a.b.now) = cc in
    let t = YieldsList-turn (YieldsList-from_rev_slice (part a.b.now a.at w) (rest ∙ bytes_of a.b.now a.at c.WIDTH.result w c.WIDTH.ensures)) l.yielded _ l.yielded_by _ _ c.in-Some.byte c.in-Some.is c.next.ensures.steps in
    (read_below a.b.now a.at w (length l.yielded) _ c.in-Some.byte.now (λ i. (c.type_inv.b i).fits) c.requires t l.invariant).1

pub loop-byte-preserved : goal.loop-byte-preserved
loop-byte-preserved g c =
    let a = c.args in
    let w = g.W.Word.WIDTH in
    let l = c.loop-byte in
    let rest : _ ≡ take (a.at + c.WIDTH.result - a.at) (drop a.at a.b.now) = cc in
    let t = YieldsList-turn (YieldsList-from_rev_slice (part a.b.now a.at w) (rest ∙ bytes_of a.b.now a.at c.WIDTH.result w c.WIDTH.ensures)) l.yielded _ l.yielded_by _ _ c.in-Some.byte c.in-Some.is c.next.ensures.steps in
    c.push-x.ensures
    ∙ (read_below a.b.now a.at w (length l.yielded) _ c.in-Some.byte.now (λ i. (c.type_inv.b i).fits) c.requires t l.invariant).0
    ∙ ap (λ k. big (take k (reverse (part a.b.now a.at w)))) (sym (length_push l.yielded c.in-Some.byte))

pub returns : goal.returns
returns g c =
    let a = c.args in
    let w = g.W.Word.WIDTH in
    let l = c.loop-byte in
    let rest : _ ≡ take (a.at + c.WIDTH.result - a.at) (drop a.at a.b.now) = cc in
    let t = YieldsList-end (YieldsList-from_rev_slice (part a.b.now a.at w) (rest ∙ bytes_of a.b.now a.at c.WIDTH.result w c.WIDTH.ensures)) l.yielded _ l.yielded_by _ _ c.in-None.is c.next.ensures.steps in
    read_back a.b.now a.at w (length l.yielded) _ t.1 l.invariant
