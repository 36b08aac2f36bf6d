-- A block that has an end holds its fields and ends within the payload; a refusal is at the block's place, with one of 01's numbers. Assumes nothing.
use Rattle.std.specs.Prelude.{Result, Ok, Err, Option, Some, None}
use mathlib.Core.Path.{◌≡◌, refl, sym, ap, ◌∙◌, subst}
use mathlib.Core.Bool.{Bool, true, false, cond}
use mathlib.Core.List.{List}
use mathlib.Core.Logic.{inl}
use Prim.Native.Nat.{ℕ, ◌+◌, ◌-◌, ◌≤◌, ◌<◌}
use native.Mathlib.Omega.{arith}
use lib.Dec.{leb}
use lib.ListN.{length}
use borrow.Author.Tests.{leb-true, leb-false, le-leb, lt-leb}
use types.Run.{OneOf}
use Rattle.blocks.specs.declared.Head.{Head}
use Rattle.blocks.specs.Outcomes as End
use Rattle.blocks.specs.Table.{field_length}
use Rattle.blocks.specs.Extent.{taken_at, kind_at, size_at, head_at, ends, extent_at}
use Rattle.blocks.specs.Sound.{body_length}
use Rattle.blocks.proofs.Soundness.{unread, taken_holds, refused_holds}

-- a block whose end is known: its head and its body's fields are there, and it ends within the payload
pub record Bounded (s : List ℕ) (at kind size next : ℕ) : Type 0 where
  pub is_kind : kind_at s at ≡ kind
  pub is_size : size_at s at ≡ size
  pub took : taken_at s (at + 3) kind size ≡ Ok (next - (at + 3))
  pub fields : at + 3 + field_length kind ≤ next
  pub inside : next ≤ length s
  pub length_is : next ≡ at + 3 + body_length kind size

pub bounded : (s : List ℕ) (at kind size next : ℕ) → extent_at s at ≡ End.Ends kind size next → Bounded s at kind size next
unfolding extent_at
bounded s at kind size next e = whole (leb (at + 3) (length s)) refl e
  where
    body : at + 3 ≤ length s → (t : Result ℕ ℕ) → taken_at s (at + 3) (kind_at s at) (size_at s at) ≡ t → ends at (kind_at s at) (size_at s at) t ≡ End.Ends kind size next → Bounded s at kind size next
    body h (Ok n) q f =
        let k : kind_at s at ≡ kind = cc in
        let z : size_at s at ≡ size = cc in
        let x : at + 3 + n ≡ next = cc in
        let m : n ≡ next - (at + 3) = omega arith in
        let w : taken_at s (at + 3) kind size ≡ Ok n = sym (ap (λ (j : ℕ). taken_at s (at + 3) j (size_at s at)) k ∙ ap (taken_at s (at + 3) kind) z) ∙ q in
        let t = taken_holds s (at + 3) size kind n w in
        record { is_kind = k; is_size = z; took = w ∙ ap Ok m; fields = omega (arith, t.1); inside = omega (arith, t.2); length_is = sym x ∙ ap (λ (j : ℕ). at + 3 + j) t.0 }
    body h (Err m) q f = let z : ◌≡◌ {A = ℕ} 0 1 = cc in absurd (omega arith)

    whole : (b : Bool) → leb (at + 3) (length s) ≡ b → cond b (ends at (kind_at s at) (size_at s at) (taken_at s (at + 3) (kind_at s at) (size_at s at))) (End.Refused 1 at) ≡ End.Ends kind size next → Bounded s at kind size next
    whole true h f = body (leb-true (at + 3) (length s) h) (taken_at s (at + 3) (kind_at s at) (size_at s at)) refl f
    whole false h f = let z : ◌≡◌ {A = ℕ} 0 1 = cc in absurd (omega arith)

-- a head that is there, or not
pub headed : (s : List ℕ) (at z : ℕ) → at + 3 ≤ length s → z ≡ size_at s at → Some (record { kind = kind_at s at; size = z }) ≡ head_at s at
unfolding head_at
headed s at z h e = sym (rw (le-leb (at + 3) (length s) h) (ap (λ (w : ℕ). Some (record { kind = kind_at s at; size = w })) (sym e)))

pub headless : (s : List ℕ) (at : ℕ) → length s < at + 3 → None ≡ head_at s at
unfolding head_at
headless s at h = sym (rw (lt-leb (at + 3) (length s) h) refl)

-- what a head says
pub record Headed (s : List ℕ) (at : ℕ) (h : Head) : Type 0 where
  pub there : at + 3 ≤ length s
  pub is_kind : h.kind ≡ kind_at s at
  pub is_size : h.size ≡ size_at s at

pub head_says : (s : List ℕ) (at : ℕ) (h : Head) → Some h ≡ head_at s at → Headed s at h
unfolding head_at
head_says s at h e = go (leb (at + 3) (length s)) refl e
  where
    go : (b : Bool) → leb (at + 3) (length s) ≡ b → Some h ≡ cond {A = Option Head} b (Some (record { kind = kind_at s at; size = size_at s at })) None → Headed s at h
    go true t f = let g : h ≡ record { kind = kind_at s at; size = size_at s at } = cc in record { there = leb-true (at + 3) (length s) t; is_kind = ap (λ (x : Head). x.kind) g; is_size = ap (λ (x : Head). x.size) g }
    go false t f = let z : ◌≡◌ {A = ℕ} 0 1 = cc in absurd (omega arith)

pub no_head : (s : List ℕ) (at : ℕ) → None ≡ head_at s at → length s < at + 3
unfolding head_at
no_head s at e = go (leb (at + 3) (length s)) refl e
  where
    go : (b : Bool) → leb (at + 3) (length s) ≡ b → ◌≡◌ {A = Option Head} None (cond b (Some (record { kind = kind_at s at; size = size_at s at })) None) → length s < at + 3
    go true t f = let z : ◌≡◌ {A = ℕ} 0 1 = cc in absurd (omega arith)
    go false t f = leb-false (at + 3) (length s) t

-- the extent, from its head and what its body takes
pub ended : (s : List ℕ) (at : ℕ) (g : Head) (t : Result ℕ ℕ) → Headed s at g → taken_at s (at + 3) g.kind g.size ≡ t → ends at g.kind g.size t ≡ extent_at s at
unfolding extent_at
ended s at g t h f =
    sym (ap (ends at g.kind g.size) f)
    ∙ ap (λ (j : ℕ). ends at j g.size (taken_at s (at + 3) j g.size)) h.is_kind
    ∙ ap (λ (w : ℕ). ends at (kind_at s at) w (taken_at s (at + 3) (kind_at s at) w)) h.is_size
    ∙ sym (ap (λ (b : Bool). cond b (ends at (kind_at s at) (size_at s at) (taken_at s (at + 3) (kind_at s at) (size_at s at))) (End.Refused 1 at)) (le-leb (at + 3) (length s) h.there))

pub cut : (s : List ℕ) (at : ℕ) → length s < at + 3 → End.Refused 1 at ≡ extent_at s at
unfolding extent_at
cut s at h = sym (ap (λ (b : Bool). cond b (ends at (kind_at s at) (size_at s at) (taken_at s (at + 3) (kind_at s at) (size_at s at))) (End.Refused 1 at)) (lt-leb (at + 3) (length s) h))

-- a refusal's place is the block's type byte, and its number is 1 to 9
pub refused_at : (s : List ℕ) (at m p : ℕ) → extent_at s at ≡ End.Refused m p → (p ≡ at) × OneOf unread m
unfolding extent_at
refused_at s at m p e = whole (leb (at + 3) (length s)) e
  where
    body : (t : Result ℕ ℕ) → taken_at s (at + 3) (kind_at s at) (size_at s at) ≡ t → ends at (kind_at s at) (size_at s at) t ≡ End.Refused m p → (p ≡ at) × OneOf unread m
    body (Ok n) q f = let z : ◌≡◌ {A = ℕ} 0 1 = cc in absurd (omega arith)
    body (Err i) q f = let w : i ≡ m = cc in (cc, subst (OneOf unread) w (refused_holds s (at + 3) (size_at s at) (kind_at s at) i q))

    whole : (b : Bool) → cond b (ends at (kind_at s at) (size_at s at) (taken_at s (at + 3) (kind_at s at) (size_at s at))) (End.Refused 1 at) ≡ End.Refused m p → (p ≡ at) × OneOf unread m
    whole true f = body (taken_at s (at + 3) (kind_at s at) (size_at s at)) refl f
    whole false f = (cc, inl cc)
