-- Each message is spelt by its byte.
use Rattle.std.proofs.Common.{◌≡◌, true, false, refl}
use Rattle.std.specs.Prelude.{Some}
use Rattle.bitbang_protocol.specs.declared.Message.{Message}
use Rattle.bitbang_protocol.specs.declared.Message.TheVariants.{Write, Ask, Quit, Light, Lines}
use Rattle.bitbang_protocol.specs.Protocol.{encode, decode}

pub decode-encode : (m : Message) → decode (encode m) ≡ Some m
decode-encode (Write true true true) = refl
decode-encode (Write true true false) = refl
decode-encode (Write true false true) = refl
decode-encode (Write true false false) = refl
decode-encode (Write false true true) = refl
decode-encode (Write false true false) = refl
decode-encode (Write false false true) = refl
decode-encode (Write false false false) = refl
decode-encode Ask = refl
decode-encode Quit = refl
decode-encode (Light true) = refl
decode-encode (Light false) = refl
decode-encode (Lines true true) = refl
decode-encode (Lines true false) = refl
decode-encode (Lines false true) = refl
decode-encode (Lines false false) = refl
