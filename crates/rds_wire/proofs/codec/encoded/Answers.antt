use Rattle.std.proofs.Common.{◌≡◌, ◌%◌, ◌++◌, ◌∷◌, [], arith, append_assoc}
use Rattle.std.proofs.lemmas.List.{append-nil}
use Rattle.byteorder.specs.Endian.{big_bytes}
use Rattle.rds_wire.specs.Bytes.{header_bytes}
use Rattle.rds_wire.proofs.codec.encoded.Goals as goal

-- each write in turn, the last one first; what is left differs in how it is grouped
pub returns : goal.returns
unfolding header_bytes
returns c =
    let h = c.args.h in
    let flags : h.flags ≡ h.flags % 256 = omega arith in
    let credit : h.credit ≡ h.credit % 256 = omega arith in
    let tail : h.padding ++ (big_bytes 2 h.csum ++ (h.ext ++ [])) ≡ h.padding ++ big_bytes 2 h.csum ++ h.ext =
    simp (append_assoc, append-nil) in
    rw (
      c.copy_from_slice-2.ensures.after,
      c.copy_from_slice.ensures.after,
      c.write_u16-3.ensures,
      c.write_u16-2.ensures,
      c.write_u16.ensures,
      c.write_u32.ensures,
      c.write_u64-2.ensures,
      c.write_u64.ensures,
    ) (λ i.
    big_bytes 8 h.sequence ++ big_bytes 8 h.ack ++ big_bytes 4 h.len ++ big_bytes 2 h.sport ++ big_bytes 2 h.dport
    ++ (flags i ∷ credit i ∷ tail i))
