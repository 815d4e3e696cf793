-- A refusal of one step is the first of all.
use Rattle.std.proofs.Common.{◌≡◌, refl, ap, ◌∙◌}
use Rattle.std.specs.Prelude.{⊤, Option, Some, None, MatchOption, Result, Ok, Err}
use Rattle.bsdl_device.specs.Device.{Device}
use Rattle.bsdl_description.specs.Describing.{Refusal, Description, ◌>>?◌}
use Rattle.bsdl.specs.Judging.{fault, device_or_refusal}
use Rattle.bsdl.specs.View.{Tells, refusal}
use Rattle.bsdl.specs.declared.fault.BsdlFault.{BsdlFault}

-- steps one after the other
pub in_steps : {A B C : Type 0} (x : Result A Refusal) (f : A → Result B Refusal) (g : B → Result C Refusal) → ((x >>? f) >>? g) ≡ (x >>? λ a. f a >>? g)
in_steps (Ok a) f g = refl
in_steps (Err r) f g = refl

-- the first step refuses
pub refused_first : {A B : Type 0} (o : Option Refusal) (x : Result A Refusal) (f : A → Result B Refusal) → MatchOption o ⊤ (λ r. x ≡ Err r) → MatchOption o ⊤ (λ r. (x >>? f) ≡ Err r)
refused_first None x f h = h
refused_first (Some r) x f h = ap (λ y. y >>? f) h

-- a later step refuses
pub refused_then : {A B : Type 0} (o : Option Refusal) (x : Result A Refusal) (a : A) (f : A → Result B Refusal) → x ≡ Ok a → MatchOption o ⊤ (λ r. f a ≡ Err r)
    → MatchOption o ⊤ (λ r. (x >>? f) ≡ Err r)
refused_then None x a f is h = h
refused_then (Some r) x a f is h = ap (λ y. y >>? f) is ∙ h

pub refused_last : (o : Option Refusal) (d : Description) → MatchOption o ⊤ (λ r. fault d ≡ Some r) → MatchOption o ⊤ (λ r. device_or_refusal (fault d) d ≡ Err r)
refused_last None d h = h
refused_last (Some r) d h = ap (λ f. device_or_refusal f d) h

-- the device, or the refusal of a later step
pub told_then : {B : Type 0} (r : Result Device BsdlFault) (x : Result B Refusal) (b : B) (f : B → Result Device Refusal) → x ≡ Ok b → Tells r (f b) → Tells r (x >>? f)
told_then (Ok v) x b f is h = ap (λ y. y >>? f) is ∙ h
told_then (Err e) x b f is h = refused_then (refusal e) x b f is h
