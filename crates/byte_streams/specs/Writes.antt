-- Writing all of a piece, by as many calls as its writer wants.
use Rattle.std.specs.Prelude.{◌≡◌, ◌↔◌, ℕ, suc, Bool, true, false, List, [], ◌∷◌, ◌++◌, drop, Option, Result}
use Rattle.std.specs.Prelude.{Ok, Err, IsOk, IsErr, OnOk}
use Rattle.std.specs.Io.KnownBytes.{Appends}
use Rattle.byte_streams.specs.Counts.{CountedView, is_lost}

-- known bytes grow by a front part of `bytes`, `sent`: by none, some or all of them; `rest` is what did not go out
pub record AppendsFront (old new : Option (List ℕ)) (bytes : List ℕ) : Type 0 where
  pub sent : List ℕ
  pub rest : List ℕ
  pub split : bytes ≡ sent ++ rest
  pub appends : Appends old new sent

-- A call that writes `bytes` to a counted writer: it answers Ok exactly where no call of the writer was lost, and Err
-- exactly where one was. On Ok all of the bytes went out; in any case a front part of them did, and nothing else.
pub record WritesAll {W A E : Type 0} (contents : W → Option (List ℕ)) (old new : CountedView W) (bytes : List ℕ)
    (result : Result A E) : Type 0 where
  pub ok : IsOk result ↔ (new.failures ≡ 0)
  pub broken : IsErr result ↔ (new.failures ≡ 1)
  pub whole : OnOk result (Appends (contents old.inner) (contents new.inner) bytes)
  pub front : AppendsFront (contents old.inner) (contents new.inner) bytes

-- a flag that tells whether all was written, as an answer
abbrev pub flagged : Bool → Result (Unit {0}) (Unit {0})
flagged true = Ok tt
flagged false = Err tt

-- The calls that write a piece from one state of a writer to another, where `puts` says what one call may do. Each
-- call is handed all that the calls before it left. The flag is true where nothing is left, and false where the last
-- call was lost; no call follows a lost one.
pub data PutsAll {S E : Type 0} (puts : S → List ℕ → Result ℕ E → S → Type 0) : S → List ℕ → Bool → S → Type 0 where
  none_left : (s : S) → PutsAll puts s [] true s
  call_lost : (s : S) (piece : List ℕ) (r : Result ℕ E) (t : S) → puts s piece r t → is_lost r piece ≡ true
      → PutsAll puts s piece false t
  some_put : (s : S) (piece : List ℕ) (n : ℕ) (t : S) (whole : Bool) (u : S) → puts s piece (Ok (suc n)) t
      → PutsAll puts t (drop (suc n) piece) whole u → PutsAll puts s piece whole u

-- Pieces that are written one after another, each by its own calls, from one state of a writer to another. The flag is
-- true where all of them were, and false where one was lost; none follows a lost one.
pub data PutsEach {S E : Type 0} (puts : S → List ℕ → Result ℕ E → S → Type 0) : S → List (List ℕ) → Bool → S
    → Type 0 where
  no_piece : (s : S) → PutsEach puts s [] true s
  piece_lost : (s : S) (piece : List ℕ) (pieces : List (List ℕ)) (t : S) → PutsAll puts s piece false t
      → PutsEach puts s (piece ∷ pieces) false t
  piece_put : (s : S) (piece : List ℕ) (pieces : List (List ℕ)) (t : S) (whole : Bool) (u : S)
      → PutsAll puts s piece true t → PutsEach puts t pieces whole u → PutsEach puts s (piece ∷ pieces) whole u
