-- A header by numbers, as the C calls pass it: type, version, network id, fragment, count, flag, packet number, destination id, source id, token, place of the key. What a type does not have is 0.
use Rattle.std.specs.Prelude.{Result, Ok, Err, cond, not, List, [], ◌∷◌, ℕ, ◌<◌, ◌^◌, eqb, get_or}
use Rattle.header.specs.declared.Long.{Long}
use Rattle.header.specs.declared.Fields.{Fields}
use Rattle.header.specs.declared.HeaderKind.{HeaderKind}
use Rattle.header.specs.declared.HeaderKind.TheVariants.{SessionRequest, SessionCreated, SessionConfirmed, Data, PeerTest, Retry, TokenRequest, HolePunch}
use Rattle.header.specs.Kinds.{is_keyed}

-- a header of 32 or 64 bytes, with the place of its key
abbrev pub long_numbers : ℕ → ℕ → Long → List ℕ
long_numbers t key l = t ∷ l.version ∷ l.network ∷ 0 ∷ 0 ∷ 0 ∷ l.number ∷ l.destination ∷ l.source ∷ l.token ∷ key ∷ []

-- each type's; SessionRequest and SessionCreated have a key at 32
abbrev pub kind_numbers : HeaderKind → List ℕ
kind_numbers (SessionRequest l) = long_numbers 0 32 l
kind_numbers (SessionCreated l) = long_numbers 1 32 l
kind_numbers (SessionConfirmed d n f k) = 2 ∷ 0 ∷ 0 ∷ f ∷ k ∷ 0 ∷ n ∷ d ∷ 0 ∷ 0 ∷ 0 ∷ []
kind_numbers (Data d n a) = 6 ∷ 0 ∷ 0 ∷ 0 ∷ 0 ∷ cond a 1 0 ∷ n ∷ d ∷ 0 ∷ 0 ∷ 0 ∷ []
kind_numbers (PeerTest l) = long_numbers 7 0 l
kind_numbers (Retry l) = long_numbers 9 0 l
kind_numbers (TokenRequest l) = long_numbers 10 0 l
kind_numbers (HolePunch l) = long_numbers 11 0 l

-- the number that comes back: 0, or the refusal
abbrev pub answer_number : Result HeaderKind ℕ → ℕ
answer_number (Ok k) = 0
answer_number (Err r) = r

-- the lent numbers afterwards: the header's, or as they were
abbrev pub answer_numbers : Result HeaderKind ℕ → List ℕ → List ℕ
answer_numbers (Ok k) out = kind_numbers k
answer_numbers (Err r) out = out

-- the fields by numbers; any flag but 0 is set
abbrev pub fields_by : ℕ → ℕ → ℕ → ℕ → ℕ → ℕ → ℕ → ℕ → ℕ → ℕ → Fields
fields_by t d n v w s k f c a =
    record { kind = t; destination = d; number = n; version = v; network = w; source = s; token = k; fragment = f; count = c; immediate = not (eqb a 0) }

-- the fields that eleven lent numbers are, by their places; the place of the key is no field
abbrev pub fields_from : List ℕ → Fields
fields_from n =
    fields_by (get_or n 0 0) (get_or n 7 0) (get_or n 6 0) (get_or n 1 0) (get_or n 2 0) (get_or n 8 0) (get_or n 9 0) (get_or n 3 0) (get_or n 4 0) (get_or n 5 0)

-- the eleven numbers of fields; types 0 and 1 have a key at 32
abbrev pub numbers_of : Fields → List ℕ
numbers_of f =
    f.kind ∷ f.version ∷ f.network ∷ f.fragment ∷ f.count ∷ cond f.immediate 1 0 ∷ f.number ∷ f.destination ∷ f.source ∷ f.token
    ∷ cond (is_keyed f.kind) 32 0 ∷ []

-- lent numbers that fit the parameters of strawhub_header_write: u8, u32 and u64
pub record NumbersInWidth (n : List ℕ) : Type 0 where
  pub kind : get_or n 0 0 < 2 ^ 8
  pub version : get_or n 1 0 < 2 ^ 8
  pub network : get_or n 2 0 < 2 ^ 8
  pub fragment : get_or n 3 0 < 2 ^ 8
  pub count : get_or n 4 0 < 2 ^ 8
  pub immediate : get_or n 5 0 < 2 ^ 8
  pub number : get_or n 6 0 < 2 ^ 32
  pub destination : get_or n 7 0 < 2 ^ 64
  pub source : get_or n 8 0 < 2 ^ 64
  pub token : get_or n 9 0 < 2 ^ 64
