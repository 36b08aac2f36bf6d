-- Laws of a header by numbers: the table for reading and the one for writing are inverse. Assumes nothing.
use mathlib.Core.Path.{◌≡◌, refl, sym, ap, ◌∙◌}
use mathlib.Core.Bool.{Bool, true, false, cond, not}
use mathlib.Core.List.{List}
use Prim.Native.Nat.{ℕ, ◌<◌, ◌^◌}
use native.Mathlib.Omega.{arith}
use lib.Dec.{eqb}
use borrow.Author.Tests.{eqb-true}
use Rattle.header.specs.declared.Fields.{Fields}
use Rattle.header.specs.declared.HeaderKind.{HeaderKind}
use Rattle.header.specs.declared.HeaderKind.TheVariants.{SessionRequest, SessionCreated, SessionConfirmed, Data, PeerTest, Retry, TokenRequest, HolePunch}
use Rattle.std.specs.Prelude.{Result}
use Rattle.header.specs.Kinds.{is_listed}
use Rattle.header.specs.Unmasking.{unmasked}
use Rattle.header.specs.Reading.{read_number, header_at, header_answer}
use Rattle.header.specs.RoundTrip.{WordsInWidth, BytesInWidth, own, header_of, header_fields}
use Rattle.header.proofs.RoundTrip.{fields_shown}
use Rattle.header.proofs.Widths.{read_answer_lem, read_refusal}
use Rattle.numbers.specs.Headers.{kind_numbers, answer_number, answer_numbers, fields_from, numbers_of, NumbersInWidth}

-- a flag's number, tested again, is the flag
flag_again : (a : Bool) → not (eqb (cond a 1 0) 0) ≡ a
flag_again true = refl
flag_again false = refl

-- the fields that a header's numbers are
pub fields_from_lem : (k : HeaderKind) → fields_from (kind_numbers k) ≡ header_fields k
fields_from_lem (SessionRequest l) = refl
fields_from_lem (SessionCreated l) = refl
fields_from_lem (SessionConfirmed d n f k) = refl
fields_from_lem (Data d n a) = rw (flag_again a)
fields_from_lem (PeerTest l) = refl
fields_from_lem (Retry l) = refl
fields_from_lem (TokenRequest l) = refl
fields_from_lem (HolePunch l) = refl

-- a header's numbers are those of its fields
pub numbers_of_lem : (k : HeaderKind) → kind_numbers k ≡ numbers_of (header_fields k)
numbers_of_lem (SessionRequest l) = refl
numbers_of_lem (SessionCreated l) = refl
numbers_of_lem (SessionConfirmed d n f k) = refl
numbers_of_lem (Data d n a) = refl
numbers_of_lem (PeerTest l) = refl
numbers_of_lem (Retry l) = refl
numbers_of_lem (TokenRequest l) = refl
numbers_of_lem (HolePunch l) = refl

-- the numbers of a header that fields stand for: those that its type has
pub numbers_shown : (f : Fields) → is_listed f.kind ≡ true → kind_numbers (header_of f) ≡ numbers_of (own f)
numbers_shown f e = numbers_of_lem (header_of f) ∙ ap numbers_of (fields_shown f e)

-- numbers that can be passed are fields within their widths
pub in_width_long : (n : List ℕ) → NumbersInWidth n → WordsInWidth (fields_from n)
in_width_long n p = record { destination = p.destination; number = p.number; source = p.source; token = p.token }

flag_in_width : (f : Fields) → cond f.immediate 1 0 < 2 ^ 8
flag_in_width f = go f.immediate
  where
    go : (a : Bool) → cond a 1 0 < 2 ^ 8
    go true = omega arith
    go false = omega arith

-- and the numbers of a header whose fields are within theirs can be passed
pub kind_in_width : (k : HeaderKind) → WordsInWidth (header_fields k) → BytesInWidth (header_fields k) → NumbersInWidth (kind_numbers k)
kind_in_width k w b =
    rw (numbers_of_lem k)
    (record {
      kind = b.kind;
      version = b.version;
      network = b.network;
      fragment = b.fragment;
      count = b.count;
      immediate = flag_in_width (header_fields k);
      number = w.number;
      destination = w.destination;
      source = w.source;
      token = w.token;
    })

module _ (k1 k2 p : List ℕ) where
  -- the number that comes back is reading's
  pub answer_number_lem : answer_number (header_answer k1 k2 p) ≡ read_number k1 k2 p
  answer_number_lem = go (eqb (read_number k1 k2 p) 0) refl
    where
      go : (b : Bool) → eqb (read_number k1 k2 p) 0 ≡ b → answer_number (header_answer k1 k2 p) ≡ read_number k1 k2 p
      go true e = let z = eqb-true (read_number k1 k2 p) 0 e in ap answer_number (read_answer_lem k1 k2 p z) ∙ sym z
      go false e = ap answer_number (read_refusal k1 k2 p e)

  -- taken, the lent numbers are the header's
  pub answer_numbers_lem : (out : List ℕ) → read_number k1 k2 p ≡ 0 → answer_numbers (header_answer k1 k2 p) out ≡ kind_numbers (header_at (unmasked k1 k2 p))
  answer_numbers_lem out e = ap (λ (a : Result HeaderKind ℕ). answer_numbers a out) (read_answer_lem k1 k2 p e)
