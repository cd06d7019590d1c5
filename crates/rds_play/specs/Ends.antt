-- How a playing ends, by its course. Source: this project's own.
use Rattle.std.specs.Prelude.{Ok, Err}
use Rattle.rds_history.specs.Courses.{Course}
use Rattle.rds_play.specs.declared.playing.PlayEnd.{PlayEnd}
use Rattle.rds_play.specs.declared.playing.PlayEnd.TheVariants as ended

abbrev pub play_end : Course → PlayEnd
play_end (Ok past) = ended.Ok
play_end (Err full) = ended.Spent full.host full.peer full.entries
