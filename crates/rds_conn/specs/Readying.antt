-- Why a connection can't be made ready.
use Rattle.rds_model.specs.declared.journal.JournalError.{JournalError}
use Rattle.rds_model.specs.declared.journal.JournalError.TheVariants as journal
use Rattle.rds_conn.specs.declared.conn.ConnError.{ConnError}
use Rattle.rds_conn.specs.declared.conn.ConnError.TheVariants as conn

-- what a connection answers where its journal can't have more entries
abbrev pub unready_as : JournalError → ConnError
unready_as journal.Memory = conn.Memory
unready_as (journal.Spent entries) = conn.Spent entries
