use Rattle.std.proofs.Common.{◌≡◌, ◌+◌, ◌≤◌, None, IfSome, length, subst}
use Rattle.rds_wire.specs.declared.frame.Frame.{Frame}
use Rattle.rds_wire.specs.declared.kind.TheConstants.{MAP_LENGTH, MAX_LENGTH}
use Rattle.rds_model.specs.declared.entry.TheConstants.{MAX_SLOTS}
use Rattle.rds_model.specs.declared.entry.Verdict.TheVariants as verdict
use Rattle.rds_model.specs.declared.journal.TheConstants.{MAX_ENTRIES}
use Rattle.rds_model.specs.Legal.{IsWhole}
use Rattle.rds_model.specs.Reading.{verdict_of}
use Rattle.rds_frame.specs.Splitting.{IsPartial}
use Rattle.rds_line_channel.specs.Streams.{AreKept}
use Rattle.rds_line_channel.specs.Carried.{IsCarriedBy}
use Rattle.rds_line_channel.specs.Channel.{ChannelView, arrived_bytes}
use Rattle.rds_line_channel.proofs.channel.Channel.known.Goals as goal

pub returns-clause-carried : goal.returns-clause-carried
returns-clause-carried g c =
    subst (λ (v : ChannelView g.row.E.Denot). IsCarriedBy g.E.End.means v.conn.log.past (arrived_bytes v) v.out v.streams v.cuts.numbers)
    c.self.view_is c.self.invariant

pub returns-clause-streams : goal.returns-clause-streams
returns-clause-streams g c =
    subst (λ (v : ChannelView g.row.E.Denot). AreKept g.E.End.means v.streams) c.self.view_is c.known-2.ensures

pub returns-clause-whole : goal.returns-clause-whole
returns-clause-whole g c =
    subst (λ (v : ChannelView g.row.E.Denot). IsWhole v.conn.log.past) c.self.view_is c.known.ensures.whole

pub returns-clause-room : goal.returns-clause-room
returns-clause-room g c =
    subst (λ (v : ChannelView g.row.E.Denot). length v.conn.log.past + v.conn.log.spare ≤ v.conn.log.limit) c.self.view_is
    c.known.ensures.room

pub returns-clause-limit : goal.returns-clause-limit
returns-clause-limit g c =
    subst (λ (v : ChannelView g.row.E.Denot). v.conn.log.limit ≤ MAX_ENTRIES) c.self.view_is c.known.ensures.limit

pub returns-clause-slots : goal.returns-clause-slots
returns-clause-slots g c =
    subst (λ (v : ChannelView g.row.E.Denot). v.conn.slots ≤ MAX_SLOTS) c.self.view_is c.known.ensures.slots

pub returns-clause-freed : goal.returns-clause-freed
returns-clause-freed g c =
    subst (λ (v : ChannelView g.row.E.Denot). length v.conn.freed ≡ v.conn.slots) c.self.view_is c.known.ensures.freed

pub returns-clause-partial : goal.returns-clause-partial
returns-clause-partial g c =
    subst (λ (v : ChannelView g.row.E.Denot). v.conn.waiting ≡ None → IsPartial v.conn.rest) c.self.view_is
    c.known.ensures.partial

pub returns-clause-size : goal.returns-clause-size
returns-clause-size g c =
    subst (λ (v : ChannelView g.row.E.Denot). IfSome v.conn.waiting (λ (f : Frame). length f.payload ≤ MAX_LENGTH)) c.self.view_is
    c.known.ensures.size

pub returns-clause-map : goal.returns-clause-map
returns-clause-map g c =
    subst (λ (v : ChannelView g.row.E.Denot). IfSome v.conn.waiting (λ (f : Frame).
    verdict_of v.conn.log.past f.header ≡ verdict.Map → length f.payload ≡ MAP_LENGTH)) c.self.view_is c.known.ensures.map
