-- Where the host's own map was looked at stays so over the other steps of a turn.
use Rattle.std.proofs.Common.{◌≡◌, ◌⊎◌, inl, inr, suc, Bool, true, false, List, [], ◌∷◌, ◌++◌, append_assoc, refl, sym, ap, subst, ◌∙◌, arith}
use Rattle.rds_model.specs.declared.entry.Entry.{Entry}
use Rattle.rds_model.specs.declared.entry.Entry.TheVariants.{Pull}
use Rattle.rds_model.specs.Honest.{Begins}
use Rattle.rds_model.specs.Owed.{owed_frame}
use Rattle.rds_model.specs.Past.{Moment, now, before}
use Rattle.rds_model.specs.SumLaws.{same_list}
use Rattle.rds_conn.specs.Connection.{with_room}
use Rattle.rds_link.specs.Ends.{Means}
use Rattle.rds_line_parts.specs.Own.{Own, IsRefresh}
use Rattle.rds_line_channel.specs.Channel.{ChannelView, with_conn}
use Rattle.rds_line.specs.Line.{LineView, line_past, pulls_in}
use Rattle.rds_line.specs.Stays.{LineStays}
use Rattle.rds_line.specs.Steps.{KeepsOut}
use Rattle.rds_line.specs.Turns.{LoadsOwn, PullsOwn}
use Rattle.rds_line.proofs.Same.{begins_through, moment_of, moment_through}

-- what a journal got since
newer_part : {p q : List Entry} → Moment p q → (more : List Entry) × (q ≡ more ++ p)
newer_part now = ([], refl)
newer_part (before {e} {j} m) = let more = newer_part m in (e ∷ more.0, ap (λ (l : List Entry). e ∷ l) more.1)

module _ {E M : Type 0} where
  -- no frame was pulled, the own map is as it was, and the journal and the steps at the meter only grew
  pub record LeavesOwn (old new : LineView E M) : Type 0 where
    pub own : new.own ≡ old.own
    pub pulls : pulls_in (line_past new) ≡ pulls_in (line_past old)
    pub past : Moment (line_past old) (line_past new)
    pub steps : Begins old.words.view.steps new.words.view.steps

  pub leaves_same : (v : LineView E M) → LeavesOwn v v
  leaves_same v = record { own = refl; pulls = refl; past = now; steps = same_list v.words.view.steps }

  pub leaves_through : (a b c : LineView E M) → LeavesOwn a b → LeavesOwn b c → LeavesOwn a c
  leaves_through a b c first second = record {
    own = second.own ∙ first.own;
    pulls = second.pulls ∙ first.pulls;
    past = moment_through first.past second.past;
    steps = begins_through a.words.view.steps b.words.view.steps c.words.view.steps first.steps second.steps;
  }

  pub leaves_of : {Name : Type 0} (m : Means E) (pair : M → Name) (old new : LineView E M) → LineStays m pair old new →
      new.own ≡ old.own → pulls_in (line_past new) ≡ pulls_in (line_past old) → LeavesOwn old new
  leaves_of m pair old new stays own pulls = record { own = own; pulls = pulls; past = stays.channel.past; steps = stays.steps }

  -- room was made for entries
  pub roomy_leaves : (inside shown : LineView E M) (channel : ChannelView E) → inside ≡ shown →
      channel ≡ with_conn inside.channel (with_room inside.channel.conn) → LeavesOwn shown (record inside { channel = channel })
  roomy_leaves inside shown channel is room =
      let past = ap (λ (c : ChannelView E). c.conn.log.past) room in
      subst (λ (v : LineView E M). LeavesOwn v (record inside { channel = channel })) is (record {
        own = refl;
        pulls = ap pulls_in past;
        past = moment_of (line_past inside) channel.conn.log.past past;
        steps = same_list inside.words.view.steps;
      })

  -- and nothing waited to be written then, where nothing waits now
  pub ready_none : {inside shown : LineView E M} → inside ≡ shown → (channel : ChannelView E) →
      channel ≡ with_conn inside.channel (with_room inside.channel.conn) → channel.out ≡ [] → shown.channel.out ≡ []
  ready_none {inside} {shown} is channel room none =
      sym (ap (λ (v : LineView E M). v.channel.out) is) ∙ (sym (ap (λ (c : ChannelView E). c.out) room) ∙ none)

  -- a frame was pulled as it has to be, or none was
  abbrev pub PullsOrNone : LineView E M → LineView E M → Type 0
  PullsOrNone old new = (pulls_in (line_past new) ≡ pulls_in (line_past old)) ⊎ PullsOwn old new

  module _ (a b c d : LineView E M) (first : LeavesOwn a b) (last : LeavesOwn c d) where
    pub loads_wider : LoadsOwn b c → LoadsOwn a d
    loads_wider loads = record {
      seat_before = loads.seat_before;
      seat_after = loads.seat_after;
      read = loads.read;
      refresh =
          subst (λ (o : Own). IsRefresh o d.own loads.seat_before loads.seat_after loads.read) first.own
          (subst (λ (o : Own). IsRefresh b.own o loads.seat_before loads.seat_after loads.read) (sym last.own) loads.refresh);
      grown =
          begins_through a.words.view.steps b.words.view.steps loads.seat_before.view.steps first.steps loads.grown;
      goes_on =
          begins_through loads.seat_after.view.steps c.words.view.steps d.words.view.steps loads.goes_on last.steps;
    }

    pulls_own_wider : a.channel.out ≡ [] → PullsOwn b c → PullsOwn a d
    pulls_own_wider none pulls =
        let more = newer_part last.past in
        record {
          loads = loads_wider pulls.loads;
          none_waited = none;
          one = last.pulls ∙ pulls.one ∙ ap suc first.pulls;
          stream = pulls.stream;
          frame = pulls.frame;
          past = pulls.past;
          newer = more.0 ++ pulls.newer;
          is =
              more.1 ∙ ap (λ (l : List Entry). more.0 ++ l) pulls.is
              ∙ sym (append_assoc more.0 pulls.newer (Pull pulls.stream pulls.frame ∷ pulls.past));
          later = moment_through first.past pulls.later;
          owed = ap (λ (o : Own). owed_frame pulls.stream pulls.past o.map) last.own ∙ pulls.owed;
        }

    -- nothing waited to be written before the first step, either
    pub pulls_wider : (PullsOwn b c → a.channel.out ≡ []) → PullsOrNone b c → PullsOrNone a d
    pulls_wider empty (inl none) = inl (last.pulls ∙ none ∙ first.pulls)
    pulls_wider empty (inr pulls) = inr (pulls_own_wider (empty pulls) pulls)

  -- a frame is pulled only where a stream is open
  pub pulls_open : (old new : LineView E M) → (old.channel.streams.is_open ≡ false → new ≡ old) → PullsOwn old new → old.channel.streams.is_open ≡ true
  pulls_open old new closed pulls = go old.channel.streams.is_open refl
    where
      go : (b : Bool) → old.channel.streams.is_open ≡ b → old.channel.streams.is_open ≡ true
      go true on = on
      go false off =
          let same : pulls_in (line_past new) ≡ pulls_in (line_past old) = ap (λ (v : LineView E M). pulls_in (line_past v)) (closed off) in
          let one = pulls.one in
          absurd (omega (arith, same, one))

  -- and nothing waited to be written before the steps that came first
  pub none_first : (first opened taken came went : LineView E M) → opened.channel.out ≡ first.channel.out → KeepsOut opened.channel taken.channel →
      KeepsOut taken.channel came.channel → (came.channel.streams.is_open ≡ false → went ≡ came) → PullsOwn came went → first.channel.out ≡ []
  none_first first opened taken came went opening taking hearing closed pulls =
      let later = hearing (pulls_open came went closed pulls) in
      let sooner = taking later.0 in
      sym opening ∙ (sym sooner.1 ∙ (sym later.1 ∙ pulls.none_waited))

  pub leaves_none : (old new : LineView E M) → LeavesOwn old new → PullsOrNone old new
  leaves_none old new leaves = inl leaves.pulls
