use Rattle.std.proofs.Common.{refl}
use Rattle.rds_play_hosts.proofs.TakingIn.{taken}
use Rattle.rds_play_hosts.proofs.host.ScriptHost.take_in.Goals as goal

pub returns : goal.returns
returns c = λ h stream past told in_range.
    let at = c.in-Some.ensures {u = tt} in
    taken h c.args.from stream c.args.slot c.from.result c.args.frame.now past c.args.self.now _ c.in-Some.socket.now c.take_in.new.socket
    c.take_in.result told in_range c.from.ensures at.value refl refl refl c.take_in.ensures
