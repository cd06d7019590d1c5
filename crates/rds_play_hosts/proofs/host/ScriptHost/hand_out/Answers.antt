use Rattle.std.proofs.Common.{refl}
use Rattle.std.specs.Prelude.{string_bytes}
use Rattle.rds_play_hosts.proofs.Receiving.{looked, handed, handed_text}
use Rattle.rds_play_hosts.proofs.host.ScriptHost.hand_out.Goals as goal

pub returns-clause-none : goal.returns-clause-none
returns-clause-none c = λ past in_range told empty.
    let at = c.in-Some.ensures {u = tt} in
    looked c.args.host c.args.slot c.from.result past c.args.self.now _ c.in-Some.socket.now c.hand_out.new.socket (string_bytes c.args.text.now) (string_bytes c.hand_out.new.text)
    c.hand_out.result told in_range c.from.ensures at.value empty refl refl refl c.hand_out.ensures.none

pub returns-clause-some : goal.returns-clause-some
returns-clause-some c = λ past d waiting in_range told is.
    let at = c.in-Some.ensures {u = tt} in
    handed c.args.host c.args.port c.args.slot c.from.result past d waiting c.args.self.now _ c.in-Some.socket.now c.hand_out.new.socket
    (string_bytes c.args.text.now) (string_bytes c.hand_out.new.text) c.hand_out.result told in_range c.from.ensures at.value is refl refl refl c.hand_out.ensures.some

pub returns-clause-some_text : goal.returns-clause-some_text
returns-clause-some_text c = λ past d waiting in_range told is text_is.
    let at = c.in-Some.ensures {u = tt} in
    handed_text c.args.host c.args.port c.args.slot c.from.result past d waiting c.args.self.now c.in-Some.socket.now c.hand_out.new.socket
    (string_bytes c.args.text.now) (string_bytes c.hand_out.new.text) c.hand_out.result told in_range c.from.ensures at.value is text_is c.hand_out.ensures.some
