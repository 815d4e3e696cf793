-- What is left out means BYPASS.
use Rattle.std.proofs.Common.{◌≡◌, ◌++◌, Bool, true, false, map, refl, sym, subst}
use Rattle.std.specs.Prelude.{Some, bytes_eq, codes}
use Rattle.std.specs.List.{list_any}
use Rattle.std.proofs.lemmas.Slice.Eq.{bytes_eq-Decides}
use Rattle.chip_instructions.specs.Device.{Device, Name}
use Rattle.chip_instructions.specs.Instruction.{access_meaning, as_bypass, look_up, meaning_of, standard}
use Rattle.board_plan.specs.LeftOut.{LeftOutMeansBypass}

-- unless it is private, the first row of its name counts
standing : (d : Device) (name : Name) → look_up name (standard d ++ map (access_meaning d) d.accesses) ≡ as_bypass → meaning_of d (Some name) ≡ as_bypass
standing d name row = by_test (list_any (bytes_eq name) d.private_names) refl
  where
    by_test : (b : Bool) → list_any (bytes_eq name) d.private_names ≡ b → meaning_of d (Some name) ≡ as_bypass
    by_test true is = rw is refl
    by_test false is = rw is row

named : (d : Device) (name text : Name) → bytes_eq name text ≡ true → meaning_of d (Some text) ≡ as_bypass → meaning_of d (Some name) ≡ as_bypass
named d name text same means = subst (λ (n : Name). meaning_of d (Some n) ≡ as_bypass) (sym ((bytes_eq-Decides name text).0 same)) means

pub left_out_means_bypass : LeftOutMeansBypass
left_out_means_bypass d name out = by_names (bytes_eq name (codes "INTEST")) refl (bytes_eq name (codes "RUNBIST")) refl
  where
    by_names : (b : Bool) → bytes_eq name (codes "INTEST") ≡ b → (c : Bool) → bytes_eq name (codes "RUNBIST") ≡ c → meaning_of d (Some name) ≡ as_bypass
    by_names true is c also = named d name (codes "INTEST") is (standing d (codes "INTEST") refl)
    by_names false is true also = named d name (codes "RUNBIST") also (standing d (codes "RUNBIST") refl)
    by_names false is false also =
        let private : list_any (bytes_eq name) d.private_names ≡ true = rw (is, also) at out in
        rw private refl
