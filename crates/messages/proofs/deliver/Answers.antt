use mathlib.Core.Path.{refl}
use borrow.Author.Tests.{ne_eqb}
use Rattle.messages.specs.Delivery.{delivered_by}
use Rattle.messages.proofs.deliver.Goals as goal

pub whole-requires : goal.whole-requires
whole-requires c = rw c.if-kind-eq-I2NP.true at c.requires

pub returns-then-kind-eq-I2NP : goal.returns-then-kind-eq-I2NP
unfolding delivered_by
returns-then-kind-eq-I2NP c = rw (c.if-kind-eq-I2NP.true, c.whole.ensures) refl

pub first-requires : goal.first-requires
first-requires c = rw c.if-kind-eq-FIRST_FRAGMENT.true at c.requires

pub returns-then-kind-eq-FIRST_FRAGMENT : goal.returns-then-kind-eq-FIRST_FRAGMENT
unfolding delivered_by
returns-then-kind-eq-FIRST_FRAGMENT c =
    let e = rw c.first.ensures at c.deliver_fragment.ensures in
    rw c.if-kind-eq-FIRST_FRAGMENT.true e

pub follow_on-requires : goal.follow_on-requires
follow_on-requires c = rw c.if-kind-eq-FOLLOW_ON_FRAGMENT.true at c.requires

pub returns-then-kind-eq-FOLLOW_ON_FRAGMENT : goal.returns-then-kind-eq-FOLLOW_ON_FRAGMENT
unfolding delivered_by
returns-then-kind-eq-FOLLOW_ON_FRAGMENT c =
    let e = rw c.follow_on.ensures at c.deliver_fragment-then-kind-eq-FOLLOW_ON_FRAGMENT.ensures in
    rw c.if-kind-eq-FOLLOW_ON_FRAGMENT.true e

pub returns : goal.returns
unfolding delivered_by
returns c = rw (ne_eqb _ _ c.if-kind-eq-I2NP.false, ne_eqb _ _ c.if-kind-eq-FIRST_FRAGMENT.false, ne_eqb _ _ c.if-kind-eq-FOLLOW_ON_FRAGMENT.false) refl
