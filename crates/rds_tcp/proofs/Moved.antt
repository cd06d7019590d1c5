-- What a thread moved before and in its last piece.
use Rattle.std.proofs.Common.{◌≡◌, ℕ, List, ◌++◌, Option, sym, ap, ◌∙◌, append_assoc}
use Rattle.std.specs.Io.KnownBytes.{Consumes}
use Rattle.std.proofs.KnownBytes.{Appends-trans, Consumes-trans}
use Rattle.rds_tcp.specs.Pumps.{GrowsByFront, AppendsFront, PutsAll, PutsFront, WritesAll, WritesFront}

pub front_put : (had then has : Option (List ℕ)) (before between after piece : List ℕ)
    → PutsAll had then before between → Consumes then has piece → GrowsByFront between after piece → PutsFront had has before after
front_put had then has before between after piece (handed, consumed, grown) came (front, rest, split, more) = (
  handed ++ piece,
  Consumes-trans had then has handed piece consumed came,
  (
    handed ++ front,
    rest,
    ap (λ l. handed ++ l) split ∙ sym (append_assoc handed front rest),
    more ∙ ap (λ l. l ++ front) grown ∙ append_assoc before handed front,
  ),
)

pub front_written : (held then holds : Option (List ℕ)) (before between after piece : List ℕ)
    → WritesAll held then before between → after ≡ between ++ piece → AppendsFront then holds piece → WritesFront held holds before after
front_written held then holds before between after piece (taken, grown, appended) more (front, rest, split, written) = (
  taken ++ piece,
  more ∙ ap (λ l. l ++ piece) grown ∙ append_assoc before taken piece,
  (
    taken ++ front,
    rest,
    ap (λ l. taken ++ l) split ∙ sym (append_assoc taken front rest),
    Appends-trans held then holds taken front appended written,
  ),
)
