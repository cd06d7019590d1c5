use Rattle.std.proofs.Common.{◌≡◌, Bool, true, false, [], IsSome, sym, ap, subst, ◌∙◌, refl}
use Rattle.std.proofs.lemmas.Result.{IfErr-at_err}
use Rattle.rds_wire.specs.declared.memory.Memory.{Memory}
use denote.Enum.Bare.{differs_true, differs_false}
use Rattle.rds_conn.specs.contracts.conn.Pulled.{the_type}
use Rattle.rds_conn.specs.declared.conn.Pulled.TheVariants as pulled
use Rattle.rds_conn.specs.Connection.{stream_of}
use Rattle.rds_line_channel.specs.Channel.{ChannelView}
use Rattle.rds_line.specs.Keeps.{IsPulled, KeepsLine}
use Rattle.rds_line.specs.Line.{LineView}
use Rattle.rds_line.specs.declared.line.Line.TheInside.{Inside}
use Rattle.rds_line.proofs.Fields.{view_in}
use Rattle.rds_line.proofs.Pulled.{ReadsOwn, reads_of}
use Rattle.rds_line.proofs.PulledFrames.{PullsOwed, owed_of_map, owed_of_last, same_channel, keeps_failed, failed_stays, keeps_pulled, pulled_stays, pulled_arrived, pulled_leaves, pulled_longer, pulled_some, pulled_nothing, failed_arrived, failed_looked, failed_pulls, pulled_looked, pulled_owed}
use Rattle.rds_line.proofs.line.Line.pull.Given as given
use Rattle.rds_line.proofs.line.Line.pull.Goals as goal
use Rattle.rds_line.proofs.line.Line.pull.Goals.{then-self, else-self}

module _ (g : given.Over) (c : goal.After-ne g) where
  abbrev start : LineView g.row.E.Denot g.row.M.Denot
  start = c.args.self.now

  abbrev middle : LineView g.row.E.Denot g.row.M.Denot
  middle = view_in c.self.inside

  abbrev end : LineView g.row.E.Denot g.row.M.Denot
  end = view_in c.if-self.self-inside

  reads : ReadsOwn c.self.inside.own_pulled start middle
  reads =
      reads_of c.self.inside.own_pulled start c.look.new.self middle c.self.view_is c.look.ensures.alone c.look.ensures.refresh c.look.ensures.bits
      c.self.invariant.1

  has : IsSome (stream_of middle.channel.conn)
  has =
      let same = same_channel c.self.inside.own_pulled start middle reads in
      c.known.ensures.open.0 (ap (λ (v : ChannelView g.row.E.Denot). v.streams.is_open) same ∙ c.requires.open)

  owed : PullsOwed middle.own.map c.in-Ok.pulled middle.channel end.channel
  owed = elim c.if-self.branch [
    | then-self w ↦
        let did = w.pull_behind-pulled in
        subst (λ (i : Inside g.row.E.Denot g.row.M.Denot). PullsOwed middle.own.map c.in-Ok.pulled middle.channel i.channel)
        (sym w.self-inside-is)
        (owed_of_last middle.channel did.new.self middle.own.map did.result c.in-Ok.pulled (sym w.pulled-is ∙ c.in-Ok.is) has
        (λ s on. reads.behind w.if-self.true s on) did.ensures.owed did.ensures.some did.ensures.map did.ensures.rest)
    | else-self w ↦
        let did = w.pull-pulled in
        let map = w.map.ensures in
        subst (λ (i : Inside g.row.E.Denot g.row.M.Denot). PullsOwed middle.own.map c.in-Ok.pulled middle.channel i.channel)
        (sym w.self-inside-is)
        (subst (λ m. PullsOwed m c.in-Ok.pulled middle.channel did.new.self) map
        (owed_of_map middle.channel did.new.self w.map.result.now did.result c.in-Ok.pulled (sym w.pulled-is ∙ c.in-Ok.is) has
        did.ensures.owed did.ensures.some did.ensures.behind did.ensures.rest))
  ]

  is : end ≡ record middle { channel = end.channel }
  is = elim c.if-self.branch [
    | then-self w ↦
        subst (λ (i : Inside g.row.E.Denot g.row.M.Denot). view_in i ≡ record middle { channel = i.channel })
        (sym w.self-inside-is) refl
    | else-self w ↦
        subst (λ (i : Inside g.row.E.Denot g.row.M.Denot). view_in i ≡ record middle { channel = i.channel })
        (sym w.self-inside-is) refl
  ]

pub invariant_of-self : goal.invariant_of-self
invariant_of-self g c =
    keeps_pulled c.self.inside.own_pulled (start g c) (middle g c) (reads g c) (end g c) c.in-Ok.pulled (is g c)
    (owed g c)
    g.M.MapWriter.published c.self.invariant.0

pub returns-in-Ok-clause-stays : goal.returns-in-Ok-clause-stays
returns-in-Ok-clause-stays g c =
    pulled_stays c.self.inside.own_pulled (start g c) (middle g c) (reads g c) (end g c) c.in-Ok.pulled (is g c)
    (owed g c)
    g.E.End.means g.M.MapWriter.pair

pub returns-in-Ok-clause-came : goal.returns-in-Ok-clause-came
returns-in-Ok-clause-came g c =
    pulled_leaves c.self.inside.own_pulled (start g c) (middle g c) (reads g c) (end g c) c.in-Ok.pulled (is g c)
    (owed g c)

pub returns-in-Ok-clause-some : goal.returns-in-Ok-clause-some
returns-in-Ok-clause-some g c same =
    let frame : c.ne.result ≡ true = cc in
    pulled_some c.self.inside.own_pulled (start g c) (middle g c) (reads g c) (end g c) c.in-Ok.pulled (is g c)
    (owed g c)
    (differs_true the_type c.in-Ok.pulled pulled.Nothing (sym c.ne.ensures ∙ frame))

pub returns-in-Ok-clause-nothing : goal.returns-in-Ok-clause-nothing
returns-in-Ok-clause-nothing g c same =
    let frame : c.ne.result ≡ false = cc in
    let out : (start g c).channel.out ≡ [] =
    c.requires.none in
    let is_nothing = differs_false the_type tt c.in-Ok.pulled pulled.Nothing (sym c.ne.ensures ∙ frame) in
    pulled_nothing c.self.inside.own_pulled (start g c) (middle g c) (reads g c) (end g c) c.in-Ok.pulled (is g c)
    (owed g c)
    is_nothing out

pub returns-in-Ok-clause-looked : goal.returns-in-Ok-clause-looked
returns-in-Ok-clause-looked g c =
    pulled_looked c.self.inside.own_pulled (start g c) (middle g c) (reads g c) (end g c) c.in-Ok.pulled (is g c)
    (owed g c)

pub returns-in-Ok-clause-pulls : goal.returns-in-Ok-clause-pulls
returns-in-Ok-clause-pulls g c =
    pulled_owed c.self.inside.own_pulled (start g c) (middle g c) (reads g c) (end g c) c.in-Ok.pulled (is g c)
    (owed g c) c.requires.none

module _ (g : given.Over) (c : goal.In-Err g) where
  abbrev first : LineView g.row.E.Denot g.row.M.Denot
  first = c.args.self.now

  abbrev second : LineView g.row.E.Denot g.row.M.Denot
  second = view_in c.self.inside

  reads_too : ReadsOwn c.self.inside.own_pulled first second
  reads_too =
      reads_of c.self.inside.own_pulled first c.look.new.self second c.self.view_is c.look.ensures.alone c.look.ensures.refresh c.look.ensures.bits
      c.self.invariant.1

  failed : (view_in c.if-self.self-inside ≡ second) × (c.if-self.self-inside.own_pulled ≡ c.self.inside.own_pulled)
  failed = elim c.if-self.branch [
    | then-self w ↦
        let err = sym w.pulled-is ∙ c.in-Err.is in
        let still = IfErr-at_err (λ (e : Memory). w.pull_behind-pulled.new.self ≡ second.channel) err
        w.pull_behind-pulled.ensures.err in
        subst (λ (i : Inside g.row.E.Denot g.row.M.Denot).
        (view_in i ≡ second) × (i.own_pulled ≡ c.self.inside.own_pulled))
        (sym w.self-inside-is) (ap (λ (v : ChannelView g.row.E.Denot). record second { channel = v }) still, refl)
    | else-self w ↦
        let err = sym w.pulled-is ∙ c.in-Err.is in
        let still = IfErr-at_err (λ (e : Memory). w.pull-pulled.new.self ≡ second.channel) err w.pull-pulled.ensures.err in
        subst (λ (i : Inside g.row.E.Denot g.row.M.Denot).
        (view_in i ≡ second) × (i.own_pulled ≡ c.self.inside.own_pulled))
        (sym w.self-inside-is) (ap (λ (v : ChannelView g.row.E.Denot). record second { channel = v }) still, refl)
  ]

pub invariant_of-self-in-Err : goal.invariant_of-self-in-Err
invariant_of-self-in-Err g c =
    let noted = c.self.inside.own_pulled in
    let v = view_in c.if-self.self-inside in
    subst (λ (b : Bool). KeepsLine g.M.MapWriter.published v × IsPulled b v) (sym (failed g c).1)
    (keeps_failed noted (first g c) (second g c) (reads_too g c) v (failed g c).0 g.M.MapWriter.published c.self.invariant.0)

pub returns-in-Err-clause-stays : goal.returns-in-Err-clause-stays
returns-in-Err-clause-stays g c =
    let noted = c.self.inside.own_pulled in
    let m = g.E.End.means in
    let pair = g.M.MapWriter.pair in
    let new = view_in c.if-self.self-inside in
    failed_stays noted (first g c) (second g c) (reads_too g c) new (failed g c).0 m pair

pub returns-in-Err-clause-looked : goal.returns-in-Err-clause-looked
returns-in-Err-clause-looked g c =
    let new = view_in c.if-self.self-inside in
    failed_looked c.self.inside.own_pulled (first g c) (second g c) (reads_too g c) new (failed g c).0

pub returns-in-Err-clause-pulls : goal.returns-in-Err-clause-pulls
returns-in-Err-clause-pulls g c =
    let new = view_in c.if-self.self-inside in
    failed_pulls c.self.inside.own_pulled (first g c) (second g c) (reads_too g c) new (failed g c).0

pub returns-in-Ok-clause-arrived : goal.returns-in-Ok-clause-arrived
returns-in-Ok-clause-arrived g c =
    pulled_arrived c.self.inside.own_pulled (start g c) (middle g c) (reads g c) (end g c) c.in-Ok.pulled (is g c)
    (owed g c)

pub returns-in-Ok-clause-appends : goal.returns-in-Ok-clause-appends
returns-in-Ok-clause-appends g c same =
    let frame : c.ne.result ≡ true = cc in
    pulled_longer c.self.inside.own_pulled (start g c) (middle g c) (reads g c) (end g c) c.in-Ok.pulled (is g c)
    (owed g c)
    (differs_true the_type c.in-Ok.pulled pulled.Nothing (sym c.ne.ensures ∙ frame))

pub returns-in-Err-clause-arrived : goal.returns-in-Err-clause-arrived
returns-in-Err-clause-arrived g c =
    let new = view_in c.if-self.self-inside in
    failed_arrived c.self.inside.own_pulled (first g c) (second g c) (reads_too g c) new (failed g c).0
