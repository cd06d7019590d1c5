use Rattle.rds_msgs_lists.specs.declared.node.Side.TheVariants.{Connection}
use Rattle.rds_msgs_lists.specs.Nodes.{ring_of}
use Rattle.rds_msgs_lists.proofs.Rings.{unlinked_is, owned_then, next_then, previous_then}
use Rattle.rds_msgs_lists.proofs.placing.take_off.Goals as goal

pub take_off_socket-requires-clause-owned : goal.take_off_socket-requires-clause-owned
take_off_socket-requires-clause-owned c =
    owned_then Connection _ _ (unlinked_is Connection c.args.at (ring_of c.args.nodes.now c.args.ends.now) (ring_of c.unlink.new.nodes c.unlink.new.ends) c.unlink.ensures.ring) c.args.at _ c.requires.can.owned

pub take_off_socket-requires-clause-next : goal.take_off_socket-requires-clause-next
take_off_socket-requires-clause-next c =
    next_then _ _ (unlinked_is Connection c.args.at (ring_of c.args.nodes.now c.args.ends.now) (ring_of c.unlink.new.nodes c.unlink.new.ends) c.unlink.ensures.ring) c.args.at c.requires.can.next_of

pub take_off_socket-requires-clause-previous : goal.take_off_socket-requires-clause-previous
take_off_socket-requires-clause-previous c =
    previous_then _ _ (unlinked_is Connection c.args.at (ring_of c.args.nodes.now c.args.ends.now) (ring_of c.unlink.new.nodes c.unlink.new.ends) c.unlink.ensures.ring) c.args.at c.requires.can.previous_of
