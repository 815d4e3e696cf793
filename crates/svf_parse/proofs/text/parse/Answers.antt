use Rattle.svf_parse.proofs.TextLaws.{text_again}
use Rattle.svf_parse.proofs.RefusalLaws.{text_refused_again, parse_found, parse_refused}
use Rattle.svf_parse.proofs.SizeLaws.{small_answer}
use Rattle.svf_parse.proofs.text.parse.Goals as goal

pub returns-clause-found : goal.returns-clause-found
returns-clause-found c = parse_found c.read.result c.args.text.now c.read.ensures

pub returns-clause-small : goal.returns-clause-small
returns-clause-small c = small_answer c.read.result c.args.text.now (parse_found c.read.result c.args.text.now c.read.ensures)

pub returns-clause-only : goal.returns-clause-only
returns-clause-only c = λ ss h. rw (text_again c.args.text.now ss h) at c.read.ensures

pub returns-clause-refused : goal.returns-clause-refused
returns-clause-refused c = parse_refused c.read.result c.args.text.now c.read.ensures

pub returns-clause-first : goal.returns-clause-first
returns-clause-first c = λ fault h. rw (text_refused_again c.args.text.now fault h) at c.read.ensures
