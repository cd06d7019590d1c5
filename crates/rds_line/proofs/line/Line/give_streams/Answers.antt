use Rattle.std.proofs.Common.{◌≡◌, ℕ, List, Bool, subst, sym, ap, ◌∙◌, false}
use Rattle.rds_line_channel.specs.Channel.{ChannelView, IsNewChannel}
use Rattle.rds_line_channel.specs.Streams.{StreamsView}
use Rattle.rds_line.specs.Keeps.{KeepsLine, IsPulled}
use Rattle.rds_line.specs.Line.{LineView}
use Rattle.rds_line.proofs.Fields.{view_in}
use Rattle.rds_line.proofs.Keeping.{keeps_still}
use Rattle.rds_line.proofs.line.Line.give_streams.Goals as goal

pub give_streams-requires-clause-new : goal.give_streams-requires-clause-new
give_streams-requires-clause-new g c =
    subst (λ (v : LineView g.row.E.Denot g.row.M.Denot). IsNewChannel v.channel) (sym c.self.view_is) c.requires.new

-- a line whose channel got other streams keeps what it kept
module _ {E M : Type 0} (v : LineView E M) (channel : ChannelView E) (streams : StreamsView E) (given : channel ≡ record v.channel { streams = streams }) where
  keeps_given : (published : M → List (List ℕ)) → KeepsLine published v → KeepsLine published (record v { channel = channel })
  keeps_given published =
      keeps_still published v channel (ap (λ (c : ChannelView E). c.conn.log.past) given) (ap (λ (c : ChannelView E). c.conn.peer) given)
      (ap (λ (c : ChannelView E). c.conn.slots) given) (ap (λ (c : ChannelView E). c.conn.freed) given) (ap (λ (c : ChannelView E). c.cuts.numbers) given)

  pulled_given : (pulled : Bool) → IsPulled pulled v → IsPulled pulled (record v { channel = channel })
  pulled_given pulled was = subst (λ (c : ChannelView E). IsPulled pulled (record v { channel = c })) (sym given) was

  same_given : (line : LineView E M) → v ≡ line → record v { channel = channel } ≡ record line { channel = record line.channel { streams = streams } }
  same_given line is =
      ap (λ (c : ChannelView E). record v { channel = c }) given
      ∙ ap (λ (l : LineView E M). record l { channel = record l.channel { streams = streams } }) is

pub invariant_of-self : goal.invariant_of-self
invariant_of-self g c =
    let v = view_in c.self.inside in
    let streams : StreamsView g.row.E.Denot = record { list = c.args.streams.items; opened = 0; is_open = false } in (
      keeps_given v c.give_streams.new.self streams c.give_streams.ensures g.M.MapWriter.published c.self.invariant.0,
      pulled_given v c.give_streams.new.self streams c.give_streams.ensures c.self.inside.own_pulled c.self.invariant.1,
    )

pub returns : goal.returns
returns g c =
    same_given (view_in c.self.inside) c.give_streams.new.self (record { list = c.args.streams.items; opened = 0; is_open = false }) c.give_streams.ensures
    c.args.self.now c.self.view_is
