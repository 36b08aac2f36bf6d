use Rattle.std.proofs.Common.{◌≡◌, rules, ◌∙◌, refl, sym, length, arith}
use Rattle.std.proofs.lemmas.List.{length_push}
use Rattle.std.proofs.lemmas.Slice.Zip.{zip_turn, zip_end}
use Rattle.wire.specs.Parts.{same}
use Rattle.wire.proofs.Same.{same_next, same_taken, same_apart}
use Rattle.wire.proofs.same_bytes.Goals as goal

pub returns-then-a-b : goal.returns-then-a-b
returns-then-a-b c = sym (same_apart c.args.a.now c.args.b.now c.if-a-b.true)

pub loop-x-init : goal.loop-x-init
unfolding same
loop-x-init c = (search rules, refl)

pub loop-x-preserved : goal.loop-x-preserved
loop-x-preserved c =
    let l = c.loop-x in
    let s = c.into_iter-x-iterator.result in
    let first : s.a.rest.now ≡ c.args.a.now = cc in
    let second : s.b.rest.now ≡ c.args.b.now = cc in
    let t = zip_turn c.args.a.now c.args.b.now l.yielded s l.x-iterator c.next.new.self _ first second l.yielded_by _ c.in-Some.is c.next.ensures.steps in
    (l.invariant.0, same_next c.args.a.now c.args.b.now (length l.yielded) _ _ _ _ l.invariant.1 t (length_push l.yielded _))

pub returns : goal.returns
returns c =
    let l = c.loop-x in
    let s = c.into_iter-x-iterator.result in
    let first : s.a.rest.now ≡ c.args.a.now = cc in
    let second : s.b.rest.now ≡ c.args.b.now = cc in
    let n = zip_end c.args.a.now c.args.b.now l.yielded s l.x-iterator c.next.new.self _ first second l.yielded_by c.in-None.is c.next.ensures.steps in
    l.invariant.1 ∙ same_taken c.args.a.now c.args.b.now (length l.yielded) (omega (arith, n, l.invariant.0)) (omega (arith, n, l.invariant.0))
