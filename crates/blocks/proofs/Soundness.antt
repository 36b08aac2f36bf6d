-- What `taken_at` says, by one walk over its cases: the bytes that a body takes are as many as a sound one's, hold its type's fields and are there, and it is sound; a refusal has one of 01's numbers, and a sound body whose bytes are there has none. Assumes nothing.
use Rattle.std.specs.Prelude.{Result, Ok, Err}
use mathlib.Core.Path.{◌≡◌, refl, sym, ◌∙◌, subst}
use mathlib.Core.Bool.{Bool, true, false, cond, ◌&&◌, ◌||◌, false≢true}
use mathlib.Core.List.{List, [], ◌∷◌}
use mathlib.Core.Logic.{⊎_elim}
use Prim.Native.Nat.{ℕ, ◌-◌, ◌≤◌}
use native.Mathlib.Omega.{arith}
use lib.Dec.{T, ltb, leb, eqb}
use lib.ListN.{length, get_or}
use borrow.Author.Tests.{ltb-true, ltb-false, leb-true, leb-false, eqb-true, lt-ltb, le-leb}
use mir.Val.{has_key}
use types.Run.{OneOf, hit}
use Rattle.wire.proofs.Tests.{and_both, or_either}
use Rattle.blocks.specs.Layout.{sum}
use Rattle.blocks.specs.Table.{look, widths, after_fields, field_length}
use Rattle.blocks.specs.Extent.{is_i2np_type, takes_bytes, router_info, i2np, first_fragment, follow_on, address, ignores_size, plain_length, taken_at}
use Rattle.blocks.specs.Sound.{is_sized, floor_of, counted, body_length, tested, sound}
use Rattle.blocks.proofs.Types.{is_tested, apart, by_test, plain_taken}
use Rattle.blocks.proofs.Lengths.{from_none, ack_length, plain_length_lem, plain_fields}

-- 1 to 9 where a block is not read
abbrev pub unread : List ℕ
unread = 1 ∷ 2 ∷ 3 ∷ 4 ∷ 5 ∷ 6 ∷ 7 ∷ 8 ∷ 9 ∷ []

-- what is known of an answer, where so many bytes are there: it takes what a sound body needs, fields and all, of a sound one; or it refuses with one of 01's numbers what is not sound or not there
data Says (left fields need : ℕ) (good : Bool) : Result ℕ ℕ → Type 0 where
  takes : fields ≤ need → need ≤ left → good ≡ true → Says left fields need good (Ok need)
  refuses : {m : ℕ} → T (has_key unread m) → (need ≤ left → good ≡ true → ⊥) → Says left fields need good (Err m)

if : {left fields need : ℕ} {good : Bool} (b : Bool) {x y : Result ℕ ℕ} → (b ≡ true → Says left fields need good x) → (b ≡ false → Says left fields need good y) → Says left fields need good (cond b x y)
if true p q = p refl
if false p q = q refl

fits : {left fields need : ℕ} {good : Bool} → fields ≤ need → good ≡ true → Says left fields need good (takes_bytes need left)
fits {left} {fields} {need} h t = if (leb need left) (λ e. takes h (leb-true need left e) t) (λ e. refuses tt (λ g _. omega (arith, leb-false need left e)))

-- a type that has no test of its own passes
pub plain_sound : (s : List ℕ) (body k z : ℕ) → is_tested k ≡ false → sound s body k z ≡ true
unfolding sound tested
plain_sound s body k z p = rw (apart k 2 p refl, apart k 3 p refl, apart k 4 p refl, apart k 5 p refl, apart k 13 p refl)

-- by the length that a type's body has
long : {left fields m n : ℕ} {good : Bool} {t : Result ℕ ℕ} → m ≡ n → Says left fields n good t → Says left fields m good t
long {left} {fields} {m} {n} {good} {t} e p = subst (λ (i : ℕ). Says left fields i good t) (sym e) p

module _ (s : List ℕ) (body z : ℕ) where
  abbrev left : ℕ
  left = length s - body

  abbrev listed : Bool
  listed = is_i2np_type (get_or s body 0)

  of_router_info : Says left 2 z (ltb 2 z) (router_info z left)
  unfolding router_info
  of_router_info = if (leb z 2) (λ e. refuses tt (λ _ t. omega (arith, leb-true z 2 e, ltb-true 2 z t))) (λ e. let h = leb-false z 2 e in fits (omega (arith, h)) (lt-ltb 2 z h))

  of_i2np : Says left 9 z (leb 9 z && listed) (i2np s body z)
  unfolding i2np
  of_i2np =
      if (ltb z 9) (λ e. refuses tt (λ _ t. omega (arith, ltb-true z 9 e, leb-true 9 z (and_both (leb 9 z) listed t).0)))
      (λ e. if (ltb left 9) (λ g. refuses tt (λ h _. omega (arith, ltb-true left 9 g, ltb-false z 9 e)))
      (λ _. if listed (λ l. fits (ltb-false z 9 e) (rw (le-leb 9 z (ltb-false z 9 e)) l)) (λ g. refuses tt (λ _ t. false≢true (sym g ∙ (and_both (leb 9 z) listed t).1)))))

  of_first_fragment : Says left 9 z (leb 10 z && listed) (first_fragment s body z)
  unfolding first_fragment
  of_first_fragment =
      if (ltb left 9) (λ e. refuses tt (λ h t. omega (arith, ltb-true left 9 e, leb-true 10 z (and_both (leb 10 z) listed t).0)))
      (λ _. if listed
      (λ l. if (leb z 9) (λ e. refuses tt (λ _ t. omega (arith, leb-true z 9 e, leb-true 10 z (and_both (leb 10 z) listed t).0)))
      (λ e. if (ltb left z) (λ g. refuses tt (λ h _. omega (arith, ltb-true left z g)))
      (λ g. takes (omega (arith, leb-false z 9 e)) (ltb-false left z g) (rw (le-leb 10 z (leb-false z 9 e)) l))))
      (λ g. refuses tt (λ _ t. false≢true (sym g ∙ (and_both (leb 10 z) listed t).1))))

  of_follow_on : Says left 5 z (ltb 5 z) (follow_on z left)
  unfolding follow_on
  of_follow_on =
      if (ltb left 5) (λ e. refuses tt (λ h t. omega (arith, ltb-true left 5 e, ltb-true 5 z t)))
      (λ _. if (leb z 5) (λ e. refuses tt (λ _ t. omega (arith, leb-true z 5 e, ltb-true 5 z t)))
      (λ e. if (ltb left z) (λ g. refuses tt (λ h _. omega (arith, ltb-true left z g)))
      (λ g. takes (omega (arith, leb-false z 5 e)) (ltb-false left z g) (lt-ltb 5 z (leb-false z 5 e)))))

  of_address : Says left 2 z (eqb z 6 || eqb z 18) (address z left)
  unfolding address
  of_address =
      if (ltb left 2) (λ e. refuses tt (λ h t. ⊎_elim (λ q. omega (arith, ltb-true left 2 e, eqb-true z 6 q)) (λ q. omega (arith, ltb-true left 2 e, eqb-true z 18 q)) (or_either (eqb z 6) (eqb z 18) t)))
      (λ _. if (eqb z 6) (λ e. long (eqb-true z 6 e) (fits (omega arith) (rw e)))
      (λ e. if (eqb z 18) (λ g. long (eqb-true z 18 g) (fits (omega arith) (rw (e, g))))
      (λ g. refuses tt (λ _ t. ⊎_elim (λ q. false≢true (sym e ∙ q)) (λ q. false≢true (sym g ∙ q)) (or_either (eqb z 6) (eqb z 18) t)))))

  abbrev Known : ℕ → Type 0
  Known k = Says left (field_length k) (body_length k z) (sound s body k z) (taken_at s body k z)

  of_plain : (k : ℕ) → is_tested k ≡ false → Known k
  of_plain k p = long (plain_length_lem k z p) (subst (Says left (field_length k) (plain_length k z) (sound s body k z)) (sym (plain_taken s body k z p)) (fits (plain_fields k z) (plain_sound s body k z p)))

  known : (k : ℕ) → Known k
  unfolding taken_at sound tested body_length floor_of is_sized field_length widths look sum counted ignores_size after_fields
  known =
      by_test Known (long (from_none z) of_router_info) (long (from_none z) of_i2np) (long (from_none z) of_first_fragment) (long (from_none z) of_follow_on) (long (ack_length z) (fits (omega arith) refl)) (long (from_none z) of_address)
      of_plain

  -- the bytes that a body takes, and its tests
  pub taken_holds : (k n : ℕ) → taken_at s body k z ≡ Ok n → (n ≡ body_length k z) × (field_length k ≤ n) × (n ≤ length s - body) × (sound s body k z ≡ true)
  taken_holds k n e = go (subst (Says left (field_length k) (body_length k z) (sound s body k z)) e (known k))
    where
      go : {f m : ℕ} {g : Bool} → Says left f m g (Ok n) → (n ≡ m) × (f ≤ n) × (n ≤ left) × (g ≡ true)
      go (takes h l t) = (refl, h, l, t)

  -- the number of a refusal
  pub refused_holds : (k m : ℕ) → taken_at s body k z ≡ Err m → OneOf unread m
  refused_holds k m e = go (subst (Says left (field_length k) (body_length k z) (sound s body k z)) e (known k))
    where
      go : {f n : ℕ} {g : Bool} → Says left f n g (Err m) → OneOf unread m
      go (refuses h _) = hit unread m h

  -- a body whose bytes are there and that passes its tests is taken
  pub sound_taken : (k : ℕ) → body_length k z ≤ length s - body → sound s body k z ≡ true → taken_at s body k z ≡ Ok (body_length k z)
  sound_taken k h e = go (known k)
    where
      go : {f : ℕ} {t : Result ℕ ℕ} → Says left f (body_length k z) (sound s body k z) t → t ≡ Ok (body_length k z)
      go (takes _ _ _) = refl
      go (refuses _ not) = absurd (not h e)
