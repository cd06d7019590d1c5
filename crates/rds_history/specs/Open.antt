-- The commands `open` and `cut`. Source: this project's own.
use Rattle.std.specs.Prelude.{ℕ, suc, Ok, List, length, codes}
use Rattle.rds_model.specs.declared.entry.Entry.TheVariants.{Open, Shut}
use Rattle.rds_model.specs.Past.{newest_stream}
use Rattle.rds_text.specs.Lines.{cut_line}
use Rattle.rds_text.specs.Refusals.{is_open, is_down, pair_refused_line}
use Rattle.rds_history.specs.Events.{Event}
use Rattle.rds_history.specs.Journals.{journal, in_flight}
use Rattle.rds_history.specs.Courses.{Course, and_then, appends, prints, on_stream}

-- host h opens its next stream to k
abbrev pub open_one : (limit h k : ℕ) → List Event → Course
open_one limit h k past = appends limit h k (Open (suc (newest_stream (journal h k past)))) past

-- both hosts open a stream, first h and then k
abbrev pub open_both : (limit h k : ℕ) → List Event → Course
open_both limit h k past = and_then (open_one limit h k past) (open_one limit k h)

-- `open`: a stream is opened between hosts h and k, which have none
abbrev pub open_pair : (limit h k : ℕ) → List Event → Course
open_pair limit h k past =
    on_stream h k (open_both limit h k) (λ stream. prints (pair_refused_line (codes "open") h k is_open)) past

-- host h shuts its stream to k, if one is open
abbrev pub shut_if_open : (limit h k : ℕ) → List Event → Course
shut_if_open limit h k past = on_stream h k (λ before. Ok before) (λ stream. appends limit h k (Shut stream)) past

-- a line says how many bytes are in flight each way, and both ends are shut
abbrev pub cut_both : (limit h k : ℕ) → List Event → Course
cut_both limit h k past =
    and_then (prints (cut_line h k (length (in_flight h k past)) (length (in_flight k h past))) past)
    (λ printed. and_then (shut_if_open limit h k printed) (shut_if_open limit k h))

-- `cut`: the stream between hosts h and k is shut at both ends, and what is in flight is lost
abbrev pub cut : (limit h k : ℕ) → List Event → Course
cut limit h k past =
    on_stream h k (prints (pair_refused_line (codes "cut") h k is_down)) (λ stream. cut_both limit h k) past
