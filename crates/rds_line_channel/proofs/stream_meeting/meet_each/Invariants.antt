use Rattle.rds_line_channel.proofs.Partly.{Partly}
use Rattle.rds_line_channel.proofs.stream_meeting.meet_each.Given as goal

abbrev pub invariant-loop-place : goal.invariant-loop-place
invariant-loop-place g l = Partly g.W.End.End.means l.place l.initial.a l.a l.initial.b l.b
