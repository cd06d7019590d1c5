use Rattle.std.proofs.Common.{List, Vec, ap, subst, sym, ◌∙◌}
use Rattle.std.specs.Global.{Global}
use Rattle.rds_fmap.specs.Readers.{WriterView}
use Rattle.rds_line.specs.Line.{LineView}
use Rattle.rds_script.specs.declared.script.Placed.{Placed}
use Rattle.rds_host.specs.Held.{ends_of_all}
use Rattle.rds_host.specs.Lines.{AreTurned, pair_of}
use Rattle.rds_run_rounds.specs.Grid.{rows_of}
use Rattle.rds_run_hosts.specs.HeldLaws.{all_as_many, kept_as_many}
use Rattle.rds_run_hosts.specs.Leading.{CallersKeep}
use Rattle.rds_run_hosts.specs.Parties.{AreParties, HaveLed, HaveObeyed}
use Rattle.rds_run_hosts.specs.Preparing.{HaveCounted, HaveStreamsOf}
use Rattle.rds_run_hosts.proofs.Counted.{counted_keep, counted_same, numbered_keep, numbered_same, rows_were}
use Rattle.rds_run_hosts.proofs.Jobs.{parties_called, parties_turned}
use Rattle.rds_run_hosts.proofs.Keeping.{on_ok}
use Rattle.rds_run_hosts.proofs.Led.{led_of}
use Rattle.rds_run_hosts.proofs.Obeying.{all_obeyed_of}
use Rattle.rds_run_hosts.proofs.Telling.{learned_same}
use Rattle.rds_run_hosts.proofs.playing.play.Goals as goal

pub returns-clause-obeyed : goal.returns-clause-obeyed
returns-clause-obeyed g c =
    on_ok (λ after. HaveObeyed c.commands_from.result.now c.lead.new.callers.items after.items)
    (λ after. HaveObeyed c.args.script.now.commands.items c.args.callers.items after.items) c.play_beside.result.0
    (λ after did.
    subst (λ (l : List Placed). HaveObeyed l c.args.callers.items after.items) c.as_slice-commands.ensures.value
    (all_obeyed_of c.as_slice-commands.result.now c.in-Ok.leading c.args.callers.items c.lead.new.callers.items after.items c.in-Ok.ensures.obeyed
    (subst (λ (l : List Placed). HaveObeyed l c.lead.new.callers.items after.items) c.commands_from.ensures.rest did)))
    c.play_beside.ensures.obeyed

pub returns-clause-led : goal.returns-clause-led
returns-clause-led g c =
    let old = c.args.callers.items in
    let bound = c.lead.new.callers.items in
    let turned = rows_of c.play_beside.result.1.items in
    on_ok (λ after. HaveObeyed c.commands_from.result.now bound after.items) (λ after. HaveLed c.args.script.now.commands.items old after.items turned)
    c.play_beside.result.0
    (λ after did.
    subst (λ (l : List Placed). HaveLed l old after.items turned) c.as_slice-commands.ensures.value
    (led_of g.E.End.means c.as_slice-commands.result.now c.in-Ok.leading old bound after.items (rows_of c.args.lines.items) (rows_of c.lead.new.lines.items) turned
    c.in-Ok.ensures.leading c.in-Ok.ensures.obeyed
    (subst (λ (l : List Placed). HaveObeyed l bound after.items) c.commands_from.ensures.rest did) c.requires.looks c.in-Ok.ensures.told c.in-Ok.ensures.lines
    c.play_beside.ensures.turned)) c.play_beside.ensures.obeyed

pub returns-clause-parties : goal.returns-clause-parties
returns-clause-parties g c =
    let hosts = c.args.script.now.hosts in
    on_ok (λ after. CallersKeep c.lead.new.callers.items after.items) (λ after. AreParties hosts after.items (rows_of c.play_beside.result.1.items)) c.play_beside.result.0
    (λ after kept.
    parties_turned (AreTurned g.E.End.means pair_of)
    (λ places lines new tied turned. c.tied_keeps.ensures.lines places lines new tied (c.turned_keeps.ensures lines new turned))
    hosts after.items (rows_of c.lead.new.lines.items) (rows_of c.play_beside.result.1.items)
    (parties_called c.tied_keeps.ensures.places hosts c.lead.new.callers.items after.items (rows_of c.lead.new.lines.items)
    (c.in-Ok.ensures.parties hosts c.requires.parties) kept)
    c.play_beside.ensures.turned)
    c.play_beside.ensures.keeps

pub returns-clause-hosts : goal.returns-clause-hosts
returns-clause-hosts g c = λ limit hosts are.
    c.connected_keeps.ensures.hosts limit hosts (rows_of c.lead.new.lines.items) (rows_of c.play_beside.result.1.items)
    (c.connected_keeps.ensures.same limit hosts (rows_of c.args.lines.items) (rows_of c.lead.new.lines.items) are
    (learned_same (rows_of c.args.lines.items) (rows_of c.lead.new.lines.items) c.in-Ok.ensures.lines))
    c.play_beside.ensures.turned

pub returns-clause-counted : goal.returns-clause-counted
returns-clause-counted g c = λ commands before after counted.
    let first = rows_of c.args.lines.items in
    let led = rows_of c.lead.new.lines.items in
    let last = rows_of c.play_beside.result.1.items in
    counted_same commands before after led last
    (rows_were (AreTurned g.E.End.means pair_of) led last c.play_beside.ensures.turned
    (λ old new turned. (turned.count, λ place line later at is. (turned.each place line later at is).channel.streams.numbers)))
    (counted_keep commands before after first led (learned_same first led c.in-Ok.ensures.lines) counted)

pub returns-in_default-clause-counted : goal.returns-in_default-clause-counted
returns-in_default-clause-counted g c = λ commands before after counted.
    subst (λ (l : Vec (Vec (LineView g.row.E.Denot WriterView) Global) Global). HaveCounted commands before after (rows_of l.items))
    (sym c.in_default.ensures.memory) counted

pub returns-clause-numbered : goal.returns-clause-numbered
returns-clause-numbered g c = λ streams given.
    let first = rows_of c.args.lines.items in
    let led = rows_of c.lead.new.lines.items in
    let last = rows_of c.play_beside.result.1.items in
    numbered_same streams led last
    (rows_were (AreTurned g.E.End.means pair_of) led last c.play_beside.ensures.turned
    (λ old new turned. (turned.count, λ place line later at is. (turned.each place line later at is).channel.streams.numbers)))
    (numbered_keep streams first led (learned_same first led c.in-Ok.ensures.lines) given)

pub returns-in_default-clause-numbered : goal.returns-in_default-clause-numbered
returns-in_default-clause-numbered g c = λ streams given.
    subst (λ (l : Vec (Vec (LineView g.row.E.Denot WriterView) Global) Global). HaveStreamsOf streams (rows_of l.items))
    (sym c.in_default.ensures.memory) given

pub returns-clause-ends : goal.returns-clause-ends
returns-clause-ends g c =
    let first = rows_of c.args.lines.items in
    let led = rows_of c.lead.new.lines.items in
    let last = rows_of c.play_beside.result.1.items in
    all_as_many (AreTurned g.E.End.means pair_of) led last c.play_beside.ensures.turned
    (λ old new turned. (turned.count, λ place line later at is. (turned.each place line later at is).channel.streams.numbers))
    ∙ kept_as_many first led (learned_same first led c.in-Ok.ensures.lines)

pub returns-in_default-clause-ends : goal.returns-in_default-clause-ends
returns-in_default-clause-ends g c =
    ap (λ (l : Vec (Vec (LineView g.row.E.Denot WriterView) Global) Global). ends_of_all (rows_of l.items)) c.in_default.ensures.memory
