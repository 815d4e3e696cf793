-- Strings with other numbers for their nets, so that there are no more numbers than nets that a string names.
use Rattle.std.specs.Prelude.{◌≡◌, ◌≢◌, ◌<◌, ◌++◌, ℕ, List, All, length, map, slice_index_or}
use Rattle.std.specs.List.{AllPairs}
use Rattle.board_loops.specs.Loops.{IsWithin}
use Rattle.board_loops.specs.declared.net_loops.Dependency.{Dependency}

-- no number stands twice
abbrev pub AreApart : List ℕ → Type 0
AreApart nets = AllPairs (λ (a b : ℕ). a ≢ b) nets

-- a string whose numbers are places in a list of nets
abbrev pub named_by : List ℕ → Dependency → Dependency
named_by nets d = record { target = slice_index_or nets d.target 0; source = slice_index_or nets d.source 0 }

-- the new strings are the old ones, each net by its place in a list in which none stands twice
pub record AreRenumbered (old : List Dependency) (nets : List ℕ) (new : List Dependency) : Type 0 where
  pub apart : AreApart nets
  pub within : All (IsWithin (length nets)) new
  pub same : map (named_by nets) new ≡ old

-- a net stands at a place among the nets, which are those before it and perhaps it
pub record HasPlace (old new : List ℕ) (net place : ℕ) : Type 0 where
  pub more : List ℕ
  pub grown : new ≡ old ++ more
  pub inside : place < length new
  pub there : slice_index_or new place 0 ≡ net
  pub apart : AreApart old → AreApart new
