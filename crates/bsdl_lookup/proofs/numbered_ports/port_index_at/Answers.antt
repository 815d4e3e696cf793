use Rattle.bsdl_text.proofs.SpellingLaws.{significant_again}
use Rattle.bsdl_lookup.proofs.numbered_ports.port_index_at.Goals as goal

pub port_index_within-requires : goal.port_index_within-requires
port_index_within-requires c = rw c.significant.ensures.digits (significant_again c.in-Some-Some.index.digits.now)
