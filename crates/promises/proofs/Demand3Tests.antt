-- Tests that compute, and what they show: that cut messages are within 01's limits, and that a schedule keeps the rules of demand 3. Assumes nothing.
use mathlib.Core.Path.{◌≡◌, refl, sym, ap, ◌∙◌}
use mathlib.Core.Bool.{Bool, true, false, not, ◌&&◌, false≢true}
use mathlib.Core.List.{List, [], ◌∷◌}
use Prim.Native.Nat.{ℕ, zero, suc, ◌+◌, ◌<◌}
use native.Mathlib.Nat.{not-suc-le-zero}
use native.Mathlib.Omega.{arith}
use native.Mathlib.Decide.{ℕ_discrete}
use lib.ListN.{length, get_or, get_or-eq_default}
use lib.Dec.{eqb, ltb, leb}
use borrow.Author.Tests.{ltb-true, ltb-false, leb-true, eqb-true, eq-eqb, not-true}
use Rattle.wire.proofs.Tests.{and_both}
use Rattle.reassembly.specs.Sizes.{message_size}
use Rattle.reassembly.specs.Memory.{remembers}
use Rattle.reassembly.specs.Store.{total}
use Rattle.promises.specs.Demand3.{Cut, Within, no_cut, Event, deliver, sweep_at, Tally, no_tally, begun, done, is_open, Past, note, count, Allowed, Orderly, Schedule}

-- a test of all numbers below n
abbrev pub all_below : ℕ → (ℕ → Bool) → Bool
all_below zero f = true
all_below (suc n) f = f n && all_below n f

pub all_below_lem : (n : ℕ) (f : ℕ → Bool) → all_below n f ≡ true → (i : ℕ) → i < n → f i ≡ true
all_below_lem zero f e i h = absurd (not-suc-le-zero h)
all_below_lem (suc n) f e i h = go (ℕ_discrete i n) (and_both (f n) (all_below n f) e) (λ d. all_below_lem n f d i)
  where
    go : Dec (i ≡ n) → (f n ≡ true) × (all_below n f ≡ true) → (all_below n f ≡ true → i < n → f i ≡ true) → f i ≡ true
    go (yes q) d ih = ap f q ∙ d.0
    go (no q) d ih = ih d.1 (omega arith)

-- p → q, as a test
abbrev pub implies : Bool → Bool → Bool
implies true q = q
implies false q = true

pub implied : (p q : Bool) → implies p q ≡ true → p ≡ true → q ≡ true
implied true q e h = e
implied false q e h = absurd (false≢true h)

-- a cut message is within the limits
unfoldable pub within_test : Cut → Bool
within_test c =
    leb 2 (length c.pieces) && leb (length c.pieces) 128
    && all_below (length c.pieces) (λ i. leb 1 (length (get_or c.pieces i [])))
    && all_below (length c.pieces) (λ i. leb (length (get_or c.pieces i [])) 1500)
    && leb (total c.pieces) message_size

pub within_of : (c : Cut) → within_test c ≡ true → Within c
unfolding within_test
within_of c e =
    let a = and_both _ _ e in
    let b = and_both _ _ a.0 in
    let d = and_both _ _ b.0 in
    let f = and_both _ _ d.0 in
    record {
      two = leb-true 2 (length c.pieces) f.0;
      most = leb-true (length c.pieces) 128 f.1;
      some_bytes = λ i h. leb-true 1 (length (get_or c.pieces i [])) (all_below_lem (length c.pieces) (λ i. leb 1 (length (get_or c.pieces i []))) d.1 i h);
      few_bytes = λ i h. leb-true (length (get_or c.pieces i [])) 1500 (all_below_lem (length c.pieces) (λ i. leb (length (get_or c.pieces i [])) 1500) b.1 i h);
      in_all = leb-true (total c.pieces) message_size a.1;
    }

pub open_inside : (ts : List Tally) (c : ℕ) → is_open (get_or ts c no_tally) ≡ true → c < length ts
unfolding is_open begun
open_inside ts c o = go (ltb c (length ts)) refl
  where
    go : (b : Bool) → ltb c (length ts) ≡ b → c < length ts
    go true e = ltb-true c (length ts) e
    go false e =
        let d : get_or ts c no_tally ≡ no_tally = get_or-eq_default ts no_tally {n = c} (ltb-false c (length ts) e) in
        absurd (false≢true (sym (ap is_open d) ∙ o))

-- an event is allowed
unfoldable pub allowed_test : List Cut → Past → Event → Bool
allowed_test cs h (deliver c i second) =
    ltb c (length cs) && ltb i (length (get_or cs c no_cut).pieces)
    && implies (done (get_or h.tallies c no_tally)) (remembers h.remembered (get_or cs c no_cut).id)
    && implies (not (begun (get_or h.tallies c no_tally))) (not (remembers h.remembered (get_or cs c no_cut).id))
allowed_test cs h (sweep_at second) = all_below (length h.tallies) (λ c. implies (is_open (get_or h.tallies c no_tally)) (ltb second ((get_or h.tallies c no_tally).opened + 30)))

allowed_of : (cs : List Cut) (h : Past) (e : Event) → allowed_test cs h e ≡ true → Allowed cs h e
unfolding allowed_test
allowed_of cs h (deliver c i second) t =
    let a = and_both _ _ t in
    let b = and_both _ _ a.0 in
    let d = and_both _ _ b.0 in (
      ltb-true c (length cs) d.0,
      ltb-true i (length (get_or cs c no_cut).pieces) d.1,
      implied (done (get_or h.tallies c no_tally)) (remembers h.remembered (get_or cs c no_cut).id) b.1,
      λ e. not-true (remembers h.remembered (get_or cs c no_cut).id)
          (implied (not (begun (get_or h.tallies c no_tally))) (not (remembers h.remembered (get_or cs c no_cut).id)) a.1 (rw e refl)),
    )
allowed_of cs h (sweep_at second) t =
    λ c o. ltb-true second ((get_or h.tallies c no_tally).opened + 30)
    (implied (is_open (get_or h.tallies c no_tally)) (ltb second ((get_or h.tallies c no_tally).opened + 30))
    (all_below_lem (length h.tallies) (λ c. implies (is_open (get_or h.tallies c no_tally)) (ltb second ((get_or h.tallies c no_tally).opened + 30))) t c (open_inside h.tallies c o)) o)

-- where a is open, any open b with its id is a
unfoldable pub own_test : List Cut → List Tally → ℕ → Bool
own_test cs ts a =
    implies (is_open (get_or ts a no_tally))
    (all_below (length ts) (λ b. implies (is_open (get_or ts b no_tally)) (implies (eqb (get_or cs a no_cut).id (get_or cs b no_cut).id) (eqb a b))))

-- not more are open than there are slots, and no two open ones have one id
unfoldable pub orderly_test : ℕ → List Cut → List Tally → Bool
orderly_test slots cs ts = leb (count is_open ts) slots && all_below (length ts) (λ a. own_test cs ts a)

orderly_of : (slots : ℕ) (cs : List Cut) (ts : List Tally) → orderly_test slots cs ts ≡ true → Orderly slots cs ts
unfolding orderly_test own_test
orderly_of slots cs ts h =
    let d = and_both _ _ h in
    record { at_most = leb-true (count is_open ts) slots d.0; own_id = λ a b oa ob q. own a b oa ob q d.1 }
  where
    own : (a b : ℕ) → is_open (get_or ts a no_tally) ≡ true → is_open (get_or ts b no_tally) ≡ true → (get_or cs a no_cut).id ≡ (get_or cs b no_cut).id
        → all_below (length ts) (λ a. own_test cs ts a) ≡ true → a ≡ b
    own a b oa ob q e =
        let r = implied _ _ (all_below_lem (length ts) (λ a. own_test cs ts a) e a (open_inside ts a oa)) oa in
        let t = implied _ _ (all_below_lem (length ts) (λ b. implies (is_open (get_or ts b no_tally)) (implies (eqb (get_or cs a no_cut).id (get_or cs b no_cut).id) (eqb a b))) r b (open_inside ts b ob)) ob in
        eqb-true a b (implied _ _ t (eq-eqb (get_or cs a no_cut).id (get_or cs b no_cut).id q))

-- a schedule keeps the rules
unfoldable pub schedule_test : ℕ → ℕ → List Cut → Past → List Event → Bool
schedule_test slots keep cs h [] = all_below (length cs) (λ c. done (get_or h.tallies c no_tally))
schedule_test slots keep cs h (e ∷ es) = allowed_test cs h e && orderly_test slots cs (note keep cs h e).tallies && schedule_test slots keep cs (note keep cs h e) es

pub schedule_of : (slots keep : ℕ) (cs : List Cut) (es : List Event) (h : Past) → schedule_test slots keep cs h es ≡ true → Schedule slots keep cs h es
unfolding schedule_test
schedule_of slots keep cs [] h t = λ c k. all_below_lem (length cs) (λ c. done (get_or h.tallies c no_tally)) t c k
schedule_of slots keep cs (e ∷ es) h t =
    let a : ((allowed_test cs h e && orderly_test slots cs (note keep cs h e).tallies) ≡ true) × (schedule_test slots keep cs (note keep cs h e) es ≡ true) = and_both _ _ t in
    let b : (allowed_test cs h e ≡ true) × (orderly_test slots cs (note keep cs h e).tallies ≡ true) = and_both _ _ a.0 in
    (allowed_of cs h e b.0, orderly_of slots cs (note keep cs h e).tallies b.1, schedule_of slots keep cs es (note keep cs h e) a.1)
