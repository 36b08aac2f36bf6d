-- A refusal leaves the list that was lent as it was, and its number is one of 01's. Assumes nothing.
use mathlib.Core.Path.{◌≡◌, refl, ap}
use mathlib.Core.Logic.{inl, inr}
use mathlib.Core.Bool.{Bool, true, false, cond}
use mathlib.Core.List.{List, [], ◌∷◌}
use Prim.Native.Nat.{ℕ}
use native.Mathlib.Omega.{arith}
use lib.Dec.{leb}
use lib.ListN.{length, get_or}
use types.Run.{OneOf}
use Rattle.blocks.proofs.Refused.{unread, read_numbers_lem}
use Rattle.blocks_listing.specs.declared.Entry.{Entry}
use Rattle.blocks_listing.specs.Listing.{Listing, ok, no, entry, blocks_of, limited, listing, entries_after}
use Rattle.blocks_listing.specs.Claims.{Stops, refused, read}
use Rattle.blocks_listing.proofs.ListingIsReadings.{listing_is_readings}

-- the list of records
pub list_leaves : (s : List ℕ) (l : List Entry) (m p : ℕ) → listing (length l) s ≡ no m p → entries_after (listing (length l) s) l ≡ l
list_leaves s l m p e = ap (λ (z : Listing). entries_after z l) e

stop_numbers : (s : List ℕ) (m p : ℕ) {at : ℕ} → Stops s m p at → OneOf unread m
stop_numbers s m p (refused e) = (read_numbers_lem s p m p e).1
stop_numbers s m p (read e h k) = stop_numbers s m p k

-- 1 to 10 where a payload is not listed
abbrev pub unlisted : List ℕ
unlisted = 1 ∷ 2 ∷ 3 ∷ 4 ∷ 5 ∷ 6 ∷ 7 ∷ 8 ∷ 9 ∷ 10 ∷ []

more : (m : ℕ) → OneOf unread m → OneOf unlisted m
more m (inl e) = inl e
more m (inr (inl e)) = inr (inl e)
more m (inr (inr (inl e))) = inr (inr (inl e))
more m (inr (inr (inr (inl e)))) = inr (inr (inr (inl e)))
more m (inr (inr (inr (inr (inl e))))) = inr (inr (inr (inr (inl e))))
more m (inr (inr (inr (inr (inr (inl e)))))) = inr (inr (inr (inr (inr (inl e)))))
more m (inr (inr (inr (inr (inr (inr (inl e))))))) = inr (inr (inr (inr (inr (inr (inl e))))))
more m (inr (inr (inr (inr (inr (inr (inr (inl e)))))))) = inr (inr (inr (inr (inr (inr (inr (inl e)))))))
more m (inr (inr (inr (inr (inr (inr (inr (inr e)))))))) = inr (inr (inr (inr (inr (inr (inr (inr (inl e))))))))

pub list_numbers : (c : ℕ) (s : List ℕ) (m p : ℕ) → listing c s ≡ no m p → OneOf unlisted m
unfolding listing
list_numbers c s m p e = go (blocks_of s) refl e
  where
    full : (b : Bool) (es : List Entry) → cond b (ok es) (no 10 (get_or es c (entry 0 0 0)).place) ≡ no m p → OneOf unlisted m
    full true es q = let w : ◌≡◌ {A = ℕ} 0 1 = cc in absurd (omega arith)
    full false es q = inr (inr (inr (inr (inr (inr (inr (inr (inr cc))))))))

    go : (x : Listing) → blocks_of s ≡ x → limited c x ≡ no m p → OneOf unlisted m
    go (ok es) q w = full (leb (length es) c) es w
    go (no k o) q w = let r : blocks_of s ≡ no m p = cc in more m (stop_numbers s m p ((listing_is_readings s).2 m p r))
