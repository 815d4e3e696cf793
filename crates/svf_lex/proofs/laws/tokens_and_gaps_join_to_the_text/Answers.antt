use Rattle.svf_lex.proofs.Rows.{parts_join, runs_stand_apart}
use Rattle.svf_lex.proofs.laws.tokens_and_gaps_join_to_the_text.Goals as goal

pub returns : goal.returns
returns c = record { joined = parts_join; runs_apart = runs_stand_apart }
