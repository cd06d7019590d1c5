use Rattle.std.proofs.Common.{ap, ◌∙◌}
use Rattle.rds_mail.specs.Numbers.{bare_items}
use Rattle.rds_run_callers.proofs.Keeping.{taken_more, taken_end, ends_then}
use Rattle.rds_run_callers.proofs.former.take_unread.Goals as goal

pub loop-preserved : goal.loop-preserved
loop-preserved g c =
    let inv = c.loop.invariant in
    let got = c.in-Some-unread.ensures.got in
    let now = c.unread.new.self in (
      ends_then c.args.closed.now c.loop.closed now inv.0 (taken_end c.loop.closed now got.0 c.in-Some-unread.datagram c.unread.ensures.stays got.1),
      taken_more (bare_items c.args.closed.now.inbox.get.got) c.loop.unread.items c.push.new.self.items c.loop.closed.inbox.get now.inbox.get got.0 c.in-Some-unread.datagram inv.1
          c.in_ok-push.ensures.items (ap (λ h. h.inbox.get) got.1),
      ap (λ h. h.ports) got.1 ∙ inv.2,
    )
