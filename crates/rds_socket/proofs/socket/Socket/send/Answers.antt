use Rattle.rds_socket.proofs.Sends.{send_answer}
use Rattle.rds_socket.proofs.Staying.{stays_then}
use Rattle.rds_socket.proofs.socket.Socket.send.Goals as goal

pub returns-clause-answer : goal.returns-clause-answer
returns-clause-answer g c =
    let fits = c.in-Ok.ensures.fits in
    send_answer g.R.MapReader.is_look c.args.peer c.args.dport c.in-Ok.place fits.0 c.args.payload _ c.check.new.self c.in-Ok.ensures.clear c.in-Ok.ensures.place fits.1 fits.3 c.put.result c.put.new.self
    c.put.ensures.put c.put.ensures.counted c.put.ensures.back c.put.ensures.same

pub returns-clause-stays : goal.returns-clause-stays
returns-clause-stays g c = stays_then g.R.MapReader.pair g.R.MapReader.has_seen _ _ _ c.in-Ok.ensures.stays c.put.ensures.stays
