-- Private: it serves the contracts of the private steps of a turn, and their proofs. What the steps did together, and what the
-- turn answers for it. Source: this project's own.
use Rattle.std.specs.Prelude.{◌≡◌, ◌⊎◌, ◌<◌, ◌||◌, ◌&&◌, not, if◌then◌else◌, Bool, true, false, length}
use Rattle.rds_link.specs.Ends.{Means}
use Rattle.rds_line_channel.specs.Channel.{with_conn}
use Rattle.rds_line.specs.Line.{LineView, line_past}
use Rattle.rds_line.specs.Turns.{BytesCame, BytesWent, FindsNoOrder, IsIdleTurn, TakesOrder, is_bytes_heard, is_bytes_sent}
use Rattle.rds_line.specs.declared.outcome.Done.{Done}
use Rattle.rds_line.specs.declared.outcome.Heard.TheVariants as heard
use Rattle.rds_line.specs.declared.outcome.Sent.TheVariants as sent
use Rattle.rds_line.specs.declared.outcome.Turn.{Turn}
use Rattle.rds_line.specs.declared.outcome.Turn.TheVariants as turn

-- what a turn answers for what it did, where a stream is open or not, one is left or not, and entries were appended or not
abbrev pub answer_of : Done → (is_open has_next appended : Bool) → Turn
answer_of done is_open has_next appended =
    if not done.took && (not is_open && not has_next) then turn.Over
    else if (done.took || (is_bytes_heard done.heard || is_bytes_sent done.sent)) || appended then turn.Moved
    else turn.Idle

module _ {E M : Type 0} where
  -- all freed bytes were handed out and counted, and nothing else changed
  pub record IsRelieved (old new : LineView E M) : Type 0 where
    pub conn : new.channel.conn ≡ record old.channel.conn { freed = new.channel.conn.freed }
    pub channel : new.channel ≡ with_conn old.channel new.channel.conn
    pub rest : new ≡ record old { channel = new.channel; words = new.words }

  -- what the steps of a turn did that came to its end
  pub record Did (m : Means E) (old new : LineView E M) (done : Done) : Type 0 where
    pub took : done.took ≡ true → TakesOrder old.orders new.orders
    pub none : done.took ≡ false → FindsNoOrder old.orders new.orders
    pub got : done.heard ≡ heard.Bytes → BytesCame m old.channel new.channel
    pub sent : done.sent ≡ sent.Bytes → BytesWent m old.channel new.channel
    -- where nothing was taken, came or went, no entry was appended, and a stream is open or left, there was nothing to do
    pub idle : done.took ≡ false → is_bytes_heard done.heard ≡ false → is_bytes_sent done.sent ≡ false → line_past new ≡ line_past old →
        (new.channel.streams.is_open ≡ true) ⊎ (new.channel.streams.opened < length new.channel.streams.list) → IsIdleTurn m old new
