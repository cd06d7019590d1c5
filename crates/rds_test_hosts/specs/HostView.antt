-- What contracts see of a host of one slot with a line to one peer. Source: this project's own.
use Rattle.rds_model.specs.declared.order.Datagram.{Datagram}
use Rattle.rds_model.specs.declared.order.Order.{Order}
use Rattle.rds_fmap.specs.Readers.{WriterView}
use Rattle.rds_mail.specs.Passes.{Getter, Putter}
use Rattle.rds_line.specs.Line.{LineView}

-- its line, the putter of the line's orders, and the getter of its slot's mailbox
pub record HostView (E : Type 0) : Type 0 where
  pub line : LineView E WriterView
  pub asks : Putter Order
  pub gets : Getter Datagram
