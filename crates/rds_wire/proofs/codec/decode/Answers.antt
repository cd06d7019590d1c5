use Rattle.std.proofs.Common.{get_or, refl, arith}
use Rattle.rds_wire.specs.declared.header.Header.{Header}
use Rattle.rds_wire.specs.DecodingLaws.{header_bytes-shown}
use Rattle.rds_wire.proofs.codec.decode.Goals as goal

pub returns : goal.returns
returns c =
    let b = c.args.b.now in
    let h : Header = record {
      sequence = c.read_u64.result;
      ack = c.read_u64-2.result;
      len = c.read_u32.result;
      sport = c.read_u16.result;
      dport = c.read_u16-2.result;
      flags = get_or b 24 0;
      credit = get_or b 25 0;
      padding = c.copy_from_slice.new.self;
      csum = c.read_u16-3.result;
      ext = c.copy_from_slice-2.new.self;
    } in
    let both = header_bytes-shown b h (omega arith) c.fits-b (record {
      sequence = c.read_u64.ensures;
      ack = c.read_u64-2.ensures;
      len = c.read_u32.ensures;
      sport = c.read_u16.ensures;
      dport = c.read_u16-2.ensures;
      flags = refl;
      credit = refl;
      padding = c.copy_from_slice.ensures.after;
      csum = c.read_u16-3.ensures;
      ext = c.copy_from_slice-2.ensures.after;
    }) in
    record { bytes = both.0; header = both.1 }
