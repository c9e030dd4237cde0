-- Bytes that were put one after the other, and their lengths.
use Rattle.byte_codec.proofs.WriteLemmas.{fields_written}
use Rattle.map_image.proofs.Lengths.{lengths}

pub ruleset written = (fields_written, lengths)
