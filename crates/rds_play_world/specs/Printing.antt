-- Which entries are printed by themselves. Source: this project's own.
use Rattle.std.specs.Prelude.{◌≡◌, ℕ, List, ◌∷◌}
use Rattle.rds_model.specs.declared.entry.Entry.{Entry}
use Rattle.rds_model.specs.declared.entry.Entry.TheVariants.{Accept, Cancel, Open, Pull, Read, Shut, Bad}
use Rattle.rds_model.specs.Past.{accepted}

-- an entry behind this past is printed by itself: n is the number of its datagram, where one is accepted; cancellations
-- need more to be printed
abbrev pub PrintsAlone : ℕ → List Entry → Entry → Type 0
PrintsAlone n before (Accept slot sport dport payload) = n ≡ accepted (Accept slot sport dport payload ∷ before)
PrintsAlone n before (Cancel slot target) = ⊥
PrintsAlone n before (Open stream) = Unit {0}
PrintsAlone n before (Pull stream frame) = Unit {0}
PrintsAlone n before (Read stream frame outcome) = Unit {0}
PrintsAlone n before (Shut stream) = Unit {0}
PrintsAlone n before (Bad stream header cause) = Unit {0}
