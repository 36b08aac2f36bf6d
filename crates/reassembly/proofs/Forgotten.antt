-- Those that are due are forgotten, in the record as in the memory that it holds. Assumes nothing.
use mathlib.Core.Path.{◌≡◌, refl, sym, ap, ◌∙◌}
use mathlib.Core.Bool.{Bool, true, false, cond}
use mathlib.Core.List.{List, [], ◌∷◌, ◌++◌, append-nil}
use mathlib.Core.Logic.{inl, inr}
use Prim.Native.Nat.{ℕ, zero, suc, ◌+◌, ◌≤◌, ◌<◌}
use native.Mathlib.Omega.{arith}
use lib.ListN.{length}
use Rattle.reassembly.specs.Sizes.{most_remembered, ids_at, share_size}
use Rattle.wire.specs.Series.{series}
use Rattle.reassembly.specs.Memory.{Finished, Memory, is_due, forget}
use Rattle.reassembly.specs.Remembered.{remembered_count, finished_at, memory_of, with_count, moved_to, Sifted, sifted, sifted_one, sifted_to, forgotten_in}
use Rattle.wire.proofs.Series.{series_same, series_more}
use Rattle.reassembly.proofs.Memories.{forget_more}
use Rattle.reassembly.proofs.Fronts.{Behind, behind_none, behind_then}
use Rattle.reassembly.proofs.Remembered.{count_most, blank, memory_is, saved_count, saved_same, saved_behind, moved_behind, moved_same, moved_other}

-- what holds once the first n are sifted: those that are kept stand first, and those that are not yet sifted are as they were
record Sifting (second : ℕ) (rec : List ℕ) (n : ℕ) (x : Sifted) : Type 0 where
  few : x.count ≤ n
  behind : Behind ids_at rec x.rec
  ahead : (i : ℕ) → n ≤ i → i < most_remembered → finished_at x.rec i ≡ finished_at rec i
  kept : series (finished_at x.rec) 0 x.count ≡ forget second (series (finished_at rec) 0 n)

module _ (second : ℕ) (rec : List ℕ) (long : share_size ≤ length rec) where
  forget_turn : (n : ℕ) (b : Bool) → is_due second (finished_at rec n) ≡ b → forget second (series (finished_at rec) 0 (n + 1)) ≡ forget second (series (finished_at rec) 0 n) ++ cond b [] (finished_at rec n ∷ [])
  forget_turn n b e =
      ap (forget second) (series_more (finished_at rec) n)
      ∙ forget_more second (series (finished_at rec) 0 n) (finished_at rec n)
      ∙ ap (λ (c : Bool). forget second (series (finished_at rec) 0 n) ++ cond c [] (finished_at rec n ∷ [])) e

  sifting_turn : (n : ℕ) (x : Sifted) → n < most_remembered → Sifting second rec n x → Sifting second rec (n + 1) (sifted_one second n x)
  unfolding sifted_one
  sifting_turn n x h s = rw (s.ahead n (omega arith) h) (go (is_due second (finished_at rec n)) refl)
    where
      go : (b : Bool) → is_due second (finished_at rec n) ≡ b → Sifting second rec (n + 1) (cond b x (sifted (moved_to x.rec x.count n 1) (x.count + 1)))
      go true e =
          record {
            few = omega (arith, s.few);
            behind = s.behind;
            ahead = λ i g k. s.ahead i (omega arith) k;
            kept = s.kept ∙ sym (forget_turn n true e ∙ append-nil (forget second (series (finished_at rec) 0 n)));
          }
      go false e =
          let c : ℕ = x.count in
          let y : List ℕ = moved_to x.rec x.count n 1 in
          let lx : share_size ≤ length x.rec = omega (arith, s.behind.long) in
          let m : Behind ids_at x.rec (moved_to x.rec x.count n 1) = moved_behind x.rec x.count n 1 lx s.few (omega arith) in
          let a : x.count + 0 ≡ x.count = omega arith in
          let b : n + 0 ≡ n = omega arith in
          let same : finished_at y c ≡ finished_at rec n =
          ap (finished_at y) (sym a) ∙ moved_same x.rec c n 1 lx s.few (omega arith) 0 (omega arith) ∙ ap (finished_at x.rec) b ∙ s.ahead n (omega arith) h
          in
          record {
            few = omega (arith, s.few);
            behind = behind_then s.behind m;
            ahead = λ i g k. moved_other x.rec c n 1 lx s.few (omega arith) i k (inr (omega (arith, s.few))) ∙ s.ahead i (omega arith) k;
            kept =
                series_more (finished_at y) c
                ∙ ap (λ (z : Memory). z ++ (finished_at y c ∷ [])) (series_same (finished_at y) (finished_at x.rec) c blank (λ k g. moved_other x.rec c n 1 lx s.few (omega arith) k (omega (arith, s.few)) (inl g)) ∙ s.kept)
                ∙ ap (λ (z : Finished). forget second (series (finished_at rec) 0 n) ++ (z ∷ [])) same
                ∙ sym (forget_turn n false e);
          }

  sifting : (n : ℕ) → n ≤ most_remembered → Sifting second rec n (sifted_to second rec n)
  unfolding forget
  sifting zero h = record { few = omega arith; behind = behind_none ids_at rec; ahead = λ i g k. refl; kept = refl }
  sifting (suc n) h =
      let e : n + 1 ≡ suc n = omega arith in
      rw e at (sifting_turn n (sifted_to second rec n) (omega arith) (sifting n (omega arith)))

  all_sifted : Sifting second rec (remembered_count rec) (sifted_to second rec (remembered_count rec))
  all_sifted = sifting (remembered_count rec) (count_most rec)

  pub forgotten_behind : Behind ids_at rec (forgotten_in second rec)
  unfolding forgotten_in
  forgotten_behind =
      let x : Sifted = sifted_to second rec (remembered_count rec) in
      behind_then all_sifted.behind (saved_behind x.rec x.count (omega (arith, all_sifted.behind.long)))

  pub forgotten_memory : memory_of (forgotten_in second rec) ≡ forget second (memory_of rec)
  unfolding forgotten_in memory_of
  forgotten_memory =
      let x : Sifted = sifted_to second rec (remembered_count rec) in
      let lx : share_size ≤ length x.rec = omega (arith, all_sifted.behind.long) in
      memory_is (with_count x.rec x.count) x.count (finished_at x.rec)
      (saved_count x.rec x.count lx (omega (arith, all_sifted.few, count_most rec)))
      (λ k h. saved_same x.rec x.count lx k (omega (arith, all_sifted.few, count_most rec)))
      ∙ all_sifted.kept
