use Rattle.rds_model.specs.StreamLaws.{none_written, none_read, written_was_opened, read_was_opened, written_pull, written_pull_other, read_read, read_read_other, read_bad, read_bad_other, newest_is_last}
use Rattle.rds_model.proofs.laws.streams.Goals as goal

pub returns-clause-unwritten : goal.returns-clause-unwritten
returns-clause-unwritten c s past legal newer = none_written s past legal newer

pub returns-clause-unread : goal.returns-clause-unread
returns-clause-unread c s past legal newer = none_read s past legal newer

pub returns-clause-writer : goal.returns-clause-writer
returns-clause-writer c s past legal some = written_was_opened s past legal some

pub returns-clause-reader : goal.returns-clause-reader
returns-clause-reader c s past legal some = read_was_opened s past legal some

pub returns-clause-pulled : goal.returns-clause-pulled
returns-clause-pulled c s f past = written_pull s f past

pub returns-clause-pulled_other : goal.returns-clause-pulled_other
returns-clause-pulled_other c s other f past apart = written_pull_other s other f past apart

pub returns-clause-read : goal.returns-clause-read
returns-clause-read c s f o past legal on = read_read s f o past legal on

pub returns-clause-read_other : goal.returns-clause-read_other
returns-clause-read_other c s other f o past apart = read_read_other s other f o past apart

pub returns-clause-bad : goal.returns-clause-bad
returns-clause-bad c s h found past legal on = read_bad s h found past legal on

pub returns-clause-bad_other : goal.returns-clause-bad_other
returns-clause-bad_other c s other h found past apart = read_bad_other s other h found past apart

pub returns-clause-newest : goal.returns-clause-newest
returns-clause-newest c s f past is = newest_is_last s f past is
