-- Bits that are handed over in a word: the lowest n bits of it, the lowest first.
unfoldable pub use Rattle.jt_bits.specs.Words.{word_bits}
