use Rattle.std.proofs.Common.{ℕ, zero, suc, All, List, [], ◌∷◌, sym, ap, subst, ◌∙◌, arith}
use Rattle.rds_line_channel.specs.Streams.{AreNumbered, IsUnused}
use Rattle.rds_line_channel.specs.Channel.{ChannelView}
use Rattle.rds_test_hosts.proofs.channels.channel.Goals as goal

-- the number of one stream is above 0
one_number : {E : Type 0} (end : E) → AreNumbered ((1, end) ∷ [])
one_number end zero small = omega arith
one_number end (suc k) small = absurd (omega arith)

-- what holds of the one element of a list holds of all
one_holds : {X : Type 0} (Holds : X → Type 0) (x : X) → Holds x → All Holds (x ∷ [])
one_holds Holds x holds zero d small = holds
one_holds Holds x holds (suc k) d small = absurd (omega arith)

pub new-requires-clause-numbered : goal.new-requires-clause-numbered
new-requires-clause-numbered g c =
    subst (λ (l : List (ℕ × g.row.E.Denot)). AreNumbered l) (sym (c.in_ok-streams.ensures {u = tt})) (one_number c.args.end)

pub new-requires-clause-unused : goal.new-requires-clause-unused
new-requires-clause-unused g c =
    let IsNew = λ (stream : ℕ × g.row.E.Denot). IsUnused g.E.End.means stream.1 in
    subst (λ (l : List (ℕ × g.row.E.Denot)). All IsNew l) (sym (c.in_ok-streams.ensures {u = tt}))
    (one_holds IsNew (1, c.args.end) c.requires)

pub returns-in-Ok-clause-list : goal.returns-in-Ok-clause-list
returns-in-Ok-clause-list g c =
    ap (λ (v : ChannelView g.row.E.Denot). v.streams.list) (c.in-Ok.ensures {u = tt}) ∙ c.in_ok-streams.ensures {u = tt}

pub returns-in-Ok-clause-closed : goal.returns-in-Ok-clause-closed
returns-in-Ok-clause-closed g c = ap (λ (v : ChannelView g.row.E.Denot). v.streams.is_open) (c.in-Ok.ensures {u = tt})

pub returns-in-Ok-clause-slots : goal.returns-in-Ok-clause-slots
returns-in-Ok-clause-slots g c = ap (λ (v : ChannelView g.row.E.Denot). v.conn.slots) (c.in-Ok.ensures {u = tt})
