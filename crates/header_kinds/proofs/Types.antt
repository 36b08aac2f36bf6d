-- A type or a refusal, from what a function gave by numbers. Assumes nothing.
use mathlib.Core.Path.{◌≡◌, refl, ap}
use mathlib.Core.Bool.{Bool, true, false, cond}
use Prim.Native.Nat.{ℕ}
use lib.Dec.{eqb}
use borrow.Author.Tests.{eqb-true, eqb-false}
use Rattle.std.specs.Prelude.{Result, Ok, Err, IsErrAnd}
use Rattle.header.specs.Kinds.{is_listed}
use Rattle.refusals.specs.declared.Refusal.{Refusal}
use Rattle.refusals.specs.Numbers as Refusals
use Rattle.header_kinds.specs.declared.MessageType.{MessageType}
use Rattle.header_kinds.specs.Types.{number, typed, type_of, judged}

pub type_known : (t : ℕ) (k : MessageType) → typed (Ok k) ≡ type_of t → (number k ≡ t) × (is_listed t ≡ true)
type_known t k e = go (is_listed t) refl e
  where
    go : (b : Bool) → is_listed t ≡ b → ◌≡◌ {A = Result ℕ ℕ} (Ok (number k)) (cond b (Ok t) (Err 21)) → (number k ≡ t) × (is_listed t ≡ true)
    go true l z = (cc, l)
    go false l z = absurd (cc)

pub type_unknown : (t : ℕ) (r : Refusal) → typed (Err r) ≡ type_of t → (Refusals.number r ≡ 21) × (is_listed t ≡ false)
type_unknown t r e = go (is_listed t) refl e
  where
    go : (b : Bool) → is_listed t ≡ b → ◌≡◌ {A = Result ℕ ℕ} (Err (Refusals.number r)) (cond b (Ok t) (Err 21)) → (Refusals.number r ≡ 21) × (is_listed t ≡ false)
    go true l z = absurd (cc)
    go false l z = (cc, l)

-- not refused, and refused
pub judged_taken : (t n : ℕ) (k : MessageType) → typed (Ok k) ≡ judged t n → (number k ≡ t) × (n ≡ 0)
judged_taken t n k e = go (eqb n 0) refl e
  where
    go : (b : Bool) → eqb n 0 ≡ b → ◌≡◌ {A = Result ℕ ℕ} (Ok (number k)) (cond b (Ok t) (Err n)) → (number k ≡ t) × (n ≡ 0)
    go true l z = (cc, eqb-true n 0 l)
    go false l z = absurd (cc)

pub judged_refused : (t n : ℕ) (r : Refusal) → typed (Err r) ≡ judged t n → (Refusals.number r ≡ n) × (n ≡ 0 → ⊥)
judged_refused t n r e = go (eqb n 0) refl e
  where
    go : (b : Bool) → eqb n 0 ≡ b → ◌≡◌ {A = Result ℕ ℕ} (Err (Refusals.number r)) (cond b (Ok t) (Err n)) → (Refusals.number r ≡ n) × (n ≡ 0 → ⊥)
    go true l z = absurd (cc)
    go false l z = (cc, eqb-false n 0 l)

-- what a `?` hands on is the error that it got
pub handed_on : {T E : Type 0} (r : Result T E) (x : E) → IsErrAnd r (λ y. y ≡ x) → r ≡ Err x
handed_on (Ok k) x h = absurd h
handed_on (Err y) x h = ap Err h
