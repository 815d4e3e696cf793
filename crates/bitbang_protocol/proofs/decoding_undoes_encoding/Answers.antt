use Rattle.bitbang_protocol.proofs.Bytes.{decode-encode}
use Rattle.bitbang_protocol.proofs.decoding_undoes_encoding.Goals as goal

pub returns : goal.returns
returns c = decode-encode
