use Rattle.rds_script.proofs.Answering.{found, known, only, refused, refuses}
use Rattle.rds_script.proofs.reading.read.Goals as goal

pub returns-clause-found : goal.returns-clause-found
returns-clause-found c = found c.args.text.now c.read_text.result c.read_text.ensures

pub returns-clause-only : goal.returns-clause-only
returns-clause-only c = only c.args.text.now c.read_text.result c.read_text.ensures

pub returns-clause-refused : goal.returns-clause-refused
returns-clause-refused c = refused c.args.text.now c.read_text.result c.read_text.ensures

pub returns-clause-refuses : goal.returns-clause-refuses
returns-clause-refuses c = refuses c.args.text.now c.read_text.result c.read_text.ensures

pub returns-clause-known : goal.returns-clause-known
returns-clause-known c = known c.args.text.now c.read_text.result c.read_text.ensures
