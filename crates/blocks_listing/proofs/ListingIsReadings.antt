-- The listing is the readings one after the other, and ends at the payload's end. Assumes nothing.
use mathlib.Core.Path.{◌≡◌, refl, sym, ap, ◌∙◌, subst}
use mathlib.Core.Bool.{Bool, true, false, cond}
use mathlib.Core.List.{List, [], ◌∷◌}
use Prim.Native.Nat.{ℕ, zero, suc, ◌-◌, ◌<◌, ◌≤◌}
use native.Mathlib.Omega.{arith}
use lib.Dec.{ltb}
use lib.ListN.{length}
use borrow.Author.Tests.{ltb-true, ltb-false, lt-ltb}
use Rattle.blocks.specs.Outcomes.{Extent}
use Rattle.blocks.specs.Outcomes as End
use Rattle.blocks_listing.specs.declared.Entry.{Entry}
use Rattle.blocks.specs.Extent.{extent_at}
use Rattle.blocks.specs.Reading.{read_at}
use Rattle.blocks_listing.specs.Listing.{Listing, ok, no, entry, cons, onward, blocks_from, blocks_of}
use Rattle.blocks_listing.specs.Claims.{Readings, Stops, ListingIsReadings, StepsAreTheListing}
use Rattle.blocks_listing.specs.Claims as Claims
use Rattle.blocks.proofs.Ends.{cut, refused_at}
use Rattle.blocks_listing.proofs.Walk.{goes_on, listed}
use Rattle.blocks.proofs.ReadExtents.{read_extent}

-- ---- a listing is readings

sound : (f : ℕ) (s : List ℕ) (at : ℕ) (es : List Entry) → blocks_from f s at ≡ ok es → Readings s at es × (0 < length es)
unfolding blocks_from
sound zero s at es e = let z : ◌≡◌ {A = ℕ} 0 1 = cc in absurd (omega arith)
sound (suc f) s at es e = go (λ next fs g. (sound f s next fs g).0) (extent_at s at) refl e
  where
    Rest : Type 0
    Rest = (next : ℕ) (fs : List Entry) → blocks_from f s next ≡ ok fs → Readings s next fs

    tail : Rest → (b : Bool) (next : ℕ) → ltb next (length s) ≡ b → next ≤ length s → (fs : List Entry) → cond b (blocks_from f s next) (ok []) ≡ ok fs → Readings s next fs
    tail ih true next h i fs g = ih next fs g
    tail ih false next h i fs g =
        let n : length s ≡ next = omega (arith, ltb-false next (length s) h) in
        let q : [] ≡ fs = cc in
        subst (λ (l : List Entry). Readings s next l) q (subst (λ (x : ℕ). Readings s x []) n Claims.done)

    more : (k z next : ℕ) → extent_at s at ≡ End.Ends k z next → (l : Listing) → ((fs : List Entry) → l ≡ ok fs → Readings s next fs) → cons (entry at k z) l ≡ ok es → Readings s at es × (0 < length es)
    more k z next q (ok fs) ih g =
        let h : entry at k z ∷ fs ≡ es = cc in
        subst (λ (l : List Entry). Readings s at l × (0 < length l)) h (Claims.Readings.read (read_extent s at ∙ q) (ih fs refl), omega arith)
    more k z next q (no m p) ih g = let o : ◌≡◌ {A = ℕ} 0 1 = cc in absurd (omega arith)

    go : Rest → (x : Extent) → extent_at s at ≡ x → onward s at (blocks_from f s) x ≡ ok es → Readings s at es × (0 < length es)
    go ih (End.Ends k z next) q g = more k z next q (cond (ltb next (length s)) (blocks_from f s next) (ok [])) (tail ih (ltb next (length s)) next refl (goes_on s at k z next q).1) g
    go ih (End.Refused m p) q g = let o : ◌≡◌ {A = ℕ} 0 1 = cc in absurd (omega arith)

stops : (f : ℕ) (s : List ℕ) (at m p : ℕ) → length s - at ≤ f → blocks_from f s at ≡ no m p → Stops s m p at
unfolding blocks_from
stops zero s at m p h e =
    let i : 1 ≡ m = cc in
    let j : at ≡ p = cc in
    subst (Stops s m p) (sym j) (Claims.refused (read_extent s p ∙ sym (cut s p (omega arith)) ∙ ap (λ (n : ℕ). End.Refused n p) i))
stops (suc f) s at m p h e = go (λ next i g. stops f s next m p i g) (extent_at s at) refl e
  where
    Rest : Type 0
    Rest = (next : ℕ) → length s - next ≤ f → blocks_from f s next ≡ no m p → Stops s m p next

    more : (k z next : ℕ) → extent_at s at ≡ End.Ends k z next → (l : Listing) → (l ≡ no m p → (next < length s) × Stops s m p next) → cons (entry at k z) l ≡ no m p → Stops s m p at
    more k z next q (ok fs) ih g = let o : ◌≡◌ {A = ℕ} 0 1 = cc in absurd (omega arith)
    more k z next q (no i j) ih g =
        let r = ih g in
        Claims.Stops.read (read_extent s at ∙ q) r.0 r.1

    tail : Rest → (b : Bool) (next : ℕ) → ltb next (length s) ≡ b → length s - next ≤ f → cond b (blocks_from f s next) (ok []) ≡ no m p → (next < length s) × Stops s m p next
    tail ih true next i j g = (ltb-true next (length s) i, ih next j g)
    tail ih false next i j g = let o : ◌≡◌ {A = ℕ} 0 1 = cc in absurd (omega arith)

    go : Rest → (x : Extent) → extent_at s at ≡ x → onward s at (blocks_from f s) x ≡ no m p → Stops s m p at
    go ih (End.Ends k z next) q g =
        let n = goes_on s at k z next q in
        more k z next q (cond (ltb next (length s)) (blocks_from f s next) (ok [])) (tail ih (ltb next (length s)) next refl (omega (arith, n.0, n.1))) g
    go ih (End.Refused i j) q g =
        let x : i ≡ m = cc in
        let y : j ≡ p = cc in
        let w : p ≡ at = sym y ∙ (refused_at s at i j q).0 in
        subst (Stops s m p) w (Claims.refused (ap (λ (a : ℕ). (read_at s a).extent) w ∙ read_extent s at ∙ q ∙ ap (λ (n : ℕ). End.Refused n j) x ∙ ap (End.Refused m) y))

-- ---- readings are a listing

none_past : {s : List ℕ} {at : ℕ} {es : List Entry} → Readings s at es → length s ≤ at → es ≡ []
none_past Claims.Readings.done h = refl
none_past {s} (Claims.Readings.read {at} {kind} {size} {next} e r) h = let n = goes_on s at kind size next (sym (read_extent s at) ∙ e) in absurd (omega (arith, n.0, n.1))

-- one step of the listing
step : (f : ℕ) (s : List ℕ) (at k z next : ℕ) → extent_at s at ≡ End.Ends k z next → blocks_from (suc f) s at ≡ cons (entry at k z) (cond (ltb next (length s)) (blocks_from f s next) (ok []))
unfolding blocks_from
step f s at k z next e = ap (onward s at (blocks_from f s)) e

complete : {s : List ℕ} {at : ℕ} {es : List Entry} → Readings s at es → at < length s → (f : ℕ) → length s - at ≤ f → blocks_from f s at ≡ ok es
complete Claims.Readings.done h f g = absurd (omega arith)
complete (Claims.Readings.read {at} e r) h zero g = absurd (omega arith)
complete {s} (Claims.Readings.read {at} {kind} {size} {next} {es} e r) h (suc f) g =
    let q = sym (read_extent s at) ∙ e in
    let n = goes_on s at kind size next q in
    step f s at kind size next q ∙ ap (cons (entry at kind size)) (tail (λ i. complete r i f (omega (arith, n.0))) (ltb next (length s)) refl)
  where
    tail : (next < length s → blocks_from f s next ≡ ok es) → (c : Bool) → ltb next (length s) ≡ c → cond c (blocks_from f s next) (ok []) ≡ ok es
    tail ih true i = ih (ltb-true next (length s) i)
    tail ih false i = ap ok (sym (none_past r (ltb-false next (length s) i)))

refuses : {s : List ℕ} {m p at : ℕ} → Stops s m p at → (f : ℕ) → length s - at ≤ f → 0 < f → blocks_from f s at ≡ no m p
unfolding blocks_from
refuses st zero g h = absurd (omega arith)
refuses {s} {m} {p} (Claims.Stops.refused e) (suc f) g h = ap (onward s p (blocks_from f s)) (sym (read_extent s p) ∙ e)
refuses {s} {m} {p} (Claims.Stops.read {at} {kind} {size} {next} e i r) (suc f) g h =
    let q = sym (read_extent s at) ∙ e in
    let n = goes_on s at kind size next q in
    step f s at kind size next q ∙ rw (lt-ltb next (length s) i, refuses r f (omega (arith, n.0)) (omega (arith, n.0)))

pub listing_is_readings : ListingIsReadings
unfolding blocks_of blocks_from
listing_is_readings s = (
  (λ es e. sound (length s) s 0 es e),
  (λ es r h. complete r (some r h) (length s) (omega arith)),
  (λ m p e. stops (length s) s 0 m p (omega arith) e),
  (λ m p t. whole m p (length s) refl t),
)
  where
    some : {es : List Entry} → Readings s 0 es → 0 < length es → 0 < length s
    some {es} r h = go (length s) refl
      where
        go : (n : ℕ) → length s ≡ n → 0 < length s
        go zero q = let x : length es ≡ 0 = ap length (none_past r (omega arith)) in absurd (omega arith)
        go (suc n) q = omega arith

    whole : (m p n : ℕ) → length s ≡ n → Stops s m p 0 → blocks_from (length s) s 0 ≡ no m p
    whole m p zero q (Claims.Stops.refused e) =
        let x : End.Refused 1 p ≡ End.Refused m p = cut s p (omega arith) ∙ sym (read_extent s p) ∙ e in
        let i : 1 ≡ m = cc in
        ap (λ (f : ℕ). blocks_from f s p) q ∙ ap (λ (j : ℕ). no j p) i
    whole m p zero q (Claims.Stops.read e i r) = absurd (omega arith)
    whole m p (suc n) q t = refuses t (length s) (omega arith) (omega arith)

pub steps_are_the_listing : StepsAreTheListing
unfolding blocks_of
steps_are_the_listing s es e = listed (length s) s 0 es e
