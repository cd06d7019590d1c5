-- How many bytes a read or a write moved. This project's own.
use Rattle.std.specs.Prelude.{ℕ}
use Rattle.rds_link.specs.declared.end.Got.{Got}
use Rattle.rds_link.specs.declared.end.Got.TheVariants as got
use Rattle.rds_link.specs.declared.end.Put.{Put}
use Rattle.rds_link.specs.declared.end.Put.TheVariants as put

abbrev pub bytes_got : Got → ℕ
bytes_got (got.Bytes n) = n
bytes_got got.Nothing = 0
bytes_got got.Over = 0

abbrev pub bytes_put : Put → ℕ
bytes_put (put.Took n) = n
bytes_put put.Full = 0
bytes_put put.Over = 0
