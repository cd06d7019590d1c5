-- What contracts see of a line of these fields.
use Rattle.rds_line.specs.Line.{LineView}
use Rattle.rds_line.specs.declared.line.Line.TheInside.{Inside}

abbrev pub view_in : {E M : Type 0} → Inside E M → LineView E M
view_in i = record {
  channel = i.channel;
  orders = i.orders;
  boxes = i.boxes;
  ports = i.ports;
  words = i.words;
  own = i.own;
  map = i.map;
}
