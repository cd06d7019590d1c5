-- Laws, each proved: proofs in other crates use them. Nothing here has to be believed.
-- The acts of a line, one after the other.
use Rattle.rds_line.specs.Acts.{Acted, Acts, HasOnlyActed, nothing, enters, hears, reads, frees, looks, misses, delivers}

-- acts that follow others
pub acts_through : {a b c : Acted} → Acts a b → Acts b c → Acts a c
acts_through first nothing = first
acts_through first (enters e asks more) = enters e asks (acts_through first more)
acts_through first (hears note none more) = hears note none (acts_through first more)
acts_through first (reads refresh more) = reads refresh (acts_through first more)
acts_through first (frees relief more) = frees relief (acts_through first more)
acts_through first (looks port found more) = looks port found (acts_through first more)
acts_through first (misses stream frame more) = misses stream frame (acts_through first more)
acts_through first (delivers stream slot frame counted more) = delivers stream slot frame counted (acts_through first more)

-- a line that has only acted, and acts on
pub acted_on : {a b : Acted} → HasOnlyActed a → Acts a b → HasOnlyActed b
acted_on {a} {b} was more = (was.0, was.1, acts_through was.2 more)
